-- That the course of a run of which a cache keeps what each step has left is a run, and which translations it keeps.
use Rattle.std.specs.Prelude.{◌≡◌, ℕ, ◌-◌, ◌≤◌, Bool, List}
use Rattle.board.specs.Scripts.{Events}
use Rattle.image_check.specs.Image.{Image}
use Rattle.image_load.specs.Boot.{need}
use Rattle.machine_model.specs.State.{Setting, State}
use Rattle.machine_model.specs.Run.{Set, Run}
use Rattle.bare_mem.specs.Keeping.{Keeps, kept_after}
use Rattle.bare_machine.specs.Runs.{HasRun}
use Rattle.bare_machine.specs.FreshRuns.{Course, course_text}
use Rattle.bare_machine.specs.Buffered.{cut_to, kept_course, buffered_run}
use Rattle.bare_machine.specs.Once.{WentOnce}
use Rattle.bare_machine.specs.declared.once.Stepped.{Stepped}

-- some sets and some last state make it a run
pub record IsKeptRun (s : Setting) (n : ℕ) (old : State) (c : Course) : Type 0 where
  pub sets : List Set
  pub last : State
  pub run : Run s n old sets c.reports last c.end
  pub count_is : c.count ≡ last.step

-- whatever the cache keeps
abbrev pub EachKeptCourseIsARun : Type 0
EachKeptCourseIsARun =
    (keeping : Keeps) (s : Setting) (n : ℕ) (old : State) → old.step ≤ n → IsKeptRun s n old (kept_course keeping s (n - old.step) old)

-- so the run with a TLB is one of the image
abbrev pub EachBufferedRunIsARun : Type 0
EachBufferedRunIsARun =
    (image : Image) (script : Events) (frames n : ℕ) → need image ≤ frames
    → (let c : Course = buffered_run image script frames n in HasRun image script frames n (course_text c) c.count c.end)

-- after one step by itself that went the cache holds exactly what it keeps of what the step left
abbrev pub KeptSets : Type 0
KeptSets =
    (keeping : Keeps) (s : Setting) (exact : Bool) (old new : State) (done : Stepped) → (w : WentOnce keeping s exact old new done)
    → new.set ≡ cut_to w.whole (kept_after keeping old.set w.report.pages w.whole)
