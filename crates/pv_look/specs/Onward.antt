-- A run that is looked at before some of its steps.
use Rattle.std.specs.Prelude.{◌≡◌, ℕ, ◌+◌, ◌-◌, ◌≤◌, ◌<◌, List, [], ◌∷◌, ◌++◌, Any, nat_lt, if◌then◌else◌, Result, Ok, Err}
use Rattle.board.specs.Scripts.{Events}
use Rattle.image_check.specs.Image.{Image}
use Rattle.ia32_types.specs.declared.stop.Stop.{Stop}
use Rattle.run_trace.specs.declared.pause.Pause.{Pause}
use Rattle.run_trace.specs.declared.pause.Pause.TheVariants as pause
use Rattle.run_trace.specs.declared.items.End.TheVariants.{Stopped}
use Rattle.machine_model.specs.State.{Setting, State, boot}
use Rattle.machine_model.specs.Step.{Report, Halts, step_of}
use Rattle.bare_mem.specs.Keeping.{Keeps}
use Rattle.bare_machine.specs.Settings.{bare}
use Rattle.bare_machine.specs.Buffered.{KeptSteps, in_buffer, buffered_run}
use Rattle.look_words.specs.Words.{Aspect}
use Rattle.pv_look.specs.Moments.{moment_text}

-- how a run is looked at: how its cache keeps entries, what the machine runs with, and what is asked of its states
pub record Watch : Type 0 where
  pub keeping : Keeps
  pub setting : Setting
  pub of : Aspect

abbrev pub watch_of : Keeps → Setting → Aspect → Watch
watch_of keeping s of = record { keeping = keeping; setting = s; of = of }

-- the run that `run --bare` makes of an image
abbrev pub watch_bare : Image → Events → (frames : ℕ) → Aspect → Watch
watch_bare image script frames of = watch_of in_buffer (bare image script frames) of

-- From a state the run, of which the cache keeps what each step has left, goes on to each of these counts of steps in turn, and to
-- the last state. It takes no step where a count is passed already. These are its reports, and this is the text of the states
-- that it has come to.
pub data Shows (w : Watch) : State → List ℕ → List Report → List ℕ → State → Type 0 where
  Ends : (b : State) → Shows w b [] [] [] b
  Goes : (b mid last : State) (n : ℕ) (ns : List ℕ) (reports later : List Report) (text : List ℕ)
      → KeptSteps w.keeping w.setting b reports mid → mid.step ≡ b.step + (n - b.step) → Shows w mid ns later text last
      → Shows w b (n ∷ ns) (reports ++ later) (moment_text w.of w.setting.frames mid ++ text) last

-- those of the counts that are below a bound, up to the first that isn't, in whose place the bound stands
abbrev pub up_to : ℕ → List ℕ → List ℕ
up_to bound [] = []
up_to bound (n ∷ ns) = if nat_lt n bound then n ∷ up_to bound ns else bound ∷ []

-- such steps lead from a state to one before a step that stops, by the translations that are cached then
pub record StopsAt (w : Watch) (old : State) (count : ℕ) (stop : Stop) : Type 0 where
  pub reports : List Report
  pub last : State
  pub leads : KeptSteps w.keeping w.setting old reports last
  pub count_is : last.step ≡ count
  pub halts : step_of w.setting last last.set ≡ Halts stop

-- the next state was reached and its text was added; or a step stops before
abbrev pub MomentAs : {E : Type 0} → Watch → ℕ → (old new : State) → List ℕ → List ℕ → Result Pause E → Type 0
MomentAs w n old new told tells (Ok pause.Reached) =
    (reports : List Report) × KeptSteps w.keeping w.setting old reports new × (new.step ≡ old.step + (n - old.step))
    × (tells ≡ told ++ moment_text w.of w.setting.frames new)
MomentAs w n old new told tells (Ok (pause.Stopped stop)) =
    (reports : List Report) × (last : State) × KeptSteps w.keeping w.setting old reports last × (last.step ≡ new.step) × (last.step < n)
    × (step_of w.setting last last.set ≡ Halts stop)
MomentAs w n old new told tells (Err failed) = Unit {0}

-- what holds where the run can go on
abbrev pub IfGoesOn : {E : Type 0} → Result Pause E → Type 0 → Type 0
IfGoesOn (Ok pause.Reached) fact = fact
IfGoesOn (Ok (pause.Stopped stop)) fact = Unit {0}
IfGoesOn (Err failed) fact = Unit {0}

-- the texts of all were added; or a step stops below the bound and before one of the counts
abbrev pub MomentsAs : {E : Type 0} → Watch → ℕ → List ℕ → (old new : State) → List ℕ → List ℕ → Result Pause E → Type 0
MomentsAs w bound counts old new told tells (Ok pause.Reached) =
    (reports : List Report) × (more : List ℕ) × Shows w old (up_to bound counts) reports more new × (tells ≡ told ++ more)
MomentsAs w bound counts old new told tells (Ok (pause.Stopped stop)) =
    (new.step < bound) × Any (λ n. new.step < n) counts × StopsAt w old new.step stop
MomentsAs w bound counts old new told tells (Err failed) = Unit {0}

-- the steps to all of them are those of one run, whose cache keeps what each step has left
abbrev pub ShownIsARun : Type 0
ShownIsARun =
    (w : Watch) (old new : State) (ns : List ℕ) (reports : List Report) (text : List ℕ) → Shows w old ns reports text new
    → KeptSteps w.keeping w.setting old reports new

-- of an image they are the first steps of the run that `run --bare` makes of it
abbrev pub ShownIsTheBareRun : Type 0
ShownIsTheBareRun =
    (image : Image) (script : Events) (frames n : ℕ) (of : Aspect) (new : State) (ns : List ℕ) (reports : List Report) (text : List ℕ)
    → Shows (watch_bare image script frames of) (boot (bare image script frames)) ns reports text new → new.step ≤ n
    → (later : List Report) × ((buffered_run image script frames n).reports ≡ reports ++ later)

-- and a stop that is met is the one at which that run ends
abbrev pub StopIsOfTheBareRun : Type 0
StopIsOfTheBareRun =
    (image : Image) (script : Events) (frames n : ℕ) (of : Aspect) (count : ℕ) (stop : Stop)
    → (h : StopsAt (watch_bare image script frames of) (boot (bare image script frames)) count stop) → count < n
    → buffered_run image script frames n ≡ record { reports = h.reports; count = count; end = Stopped stop }
