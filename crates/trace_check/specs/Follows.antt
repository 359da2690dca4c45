-- What is known of a machine that goes the course of choices.
use Rattle.std.specs.Prelude.{◌≡◌, ℕ, ◌≤◌, ◌<◌, ◌==◌, if◌then◌else◌, List, [], ◌∷◌, length, take, drop, min, slice_get, Bool, true, false, Option, Some, None, Result, Ok, Err}
use Rattle.pv_io.specs.declared.answer.Failed.{Failed}
use Rattle.pv_io.specs.Sink.{Appends, AppendsFront}
use Rattle.run_trace.specs.Text.{lines_of}
use Rattle.machine_model.specs.State.{Setting, State}
use Rattle.machine_model.specs.Run.{Set, trace_of}
use Rattle.trace_check.specs.declared.list.Choice.{Choice}
use Rattle.trace_check.specs.declared.answer.CourseEnd.{CourseEnd}
use Rattle.trace_check.specs.Form.{AreFrom}
use Rattle.trace_check.specs.Courses.{Course, chosen}

-- a choice was made and leads to this set, or it can't be made
abbrev pub IsMade : Option Set → Set → Bool → Type 0
IsMade made new true = made ≡ Some new
IsMade made new false = made ≡ None

-- the step of the choice at this place, or the bound where it comes first
abbrev pub next_of : Option Choice → ℕ → ℕ
next_of None bound = bound
next_of (Some c) bound = min c.step bound

abbrev pub next_step : List Choice → ℕ → ℕ → ℕ
next_step list at bound = next_of (slice_get list at) bound

-- the choice, where it is of this step
abbrev pub due : ℕ → Option Choice → Option Choice
due step None = None
due step (Some c) = if c.step == step then Some c else None

-- all are of steps before this one
abbrev pub AreBelow : ℕ → List Choice → Type 0
AreBelow step [] = Unit {0}
AreBelow step (c ∷ rest) = (c.step < step) × AreBelow step rest

-- the choices before this place are of steps before this one, and the others of no step before it
pub record Splits (list : List Choice) (at step : ℕ) : Type 0 where
  pub within : at ≤ length list
  pub before : AreBelow step (take at list)
  pub from : AreFrom step (drop at list)

-- the choices of a step were made and lead to this set, or one of them can't be made
abbrev pub MadeAs : Setting → List Choice → State → State → Result ℕ ℕ → Type 0
MadeAs s list old new (Ok next) = (chosen s old 0 list old.set ≡ Ok new.set) × (new ≡ record old { set = new.set })
MadeAs s list old new (Err at) = chosen s old 0 list old.set ≡ Err at

-- the course has come to its end, and the lines of its steps were put; or the sink failed and has taken a front of them
abbrev pub FollowsAs : Course → ℕ → Option (List ℕ) → Option (List ℕ) → Result CourseEnd Failed → Type 0
FollowsAs c count old new (Ok end) = (c.end ≡ end) × (c.count ≡ count) × Appends old new (lines_of (trace_of c.reports))
FollowsAs c count old new (Err failed) = AppendsFront old new (lines_of (trace_of c.reports))
