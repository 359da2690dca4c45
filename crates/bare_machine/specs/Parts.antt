-- Parts of a run, between which a cache may be changed.
use Rattle.std.specs.Prelude.{ℕ, Bool, List, [], ◌++◌, Ok}
use Rattle.run_trace.specs.declared.pause.Pause.{Pause}
use Rattle.machine_model.specs.State.{Setting, State, Loosened}
use Rattle.machine_model.specs.Step.{Report}
use Rattle.machine_model.specs.Run.{Set, Steps, Run, with_set}
use Rattle.bare_machine.specs.Machine.{Passes}
use Rattle.bare_machine.specs.Slices.{PausesAs}
use Rattle.run_trace.specs.Pauses.{end_of}

-- Steps with these reports lead from one state to another. Its translations are loosened from those that the last step left.
pub record Leads (s : Setting) (old : State) (reports : List Report) (now : State) : Type 0 where
  pub sets : List Set
  pub whole : Set
  pub steps : Steps s old sets reports (with_set now whole)
  pub loosened : Loosened s (with_set now whole) now.set

abbrev pub BeginsHere : Type 0
BeginsHere = (s : Setting) (b : State) → Leads s b [] b

-- a slice goes on
abbrev pub SliceGoesOn : Type 0
SliceGoesOn =
    (s : Setting) (exact : Bool) (old now new : State) (reports later : List Report)
    → Leads s old reports now → Passes s exact now later new → Leads s old (reports ++ later) new

-- a cache was changed to one that is loosened from what the last step left
abbrev pub ChangeGoesOn : Type 0
ChangeGoesOn =
    (s : Setting) (old now : State) (reports : List Report) (set : Set)
    → (l : Leads s old reports now) → Loosened s (with_set now l.whole) set → Leads s old reports (with_set now set)

-- a cache was changed to one that is loosened from what it held
abbrev pub LossGoesOn : Type 0
LossGoesOn =
    (s : Setting) (old now : State) (reports : List Report) (set : Set)
    → Leads s old reports now → Loosened s now set → Leads s old reports (with_set now set)

-- where the last slice pauses all parts are one run
abbrev pub PartsAreARun : Type 0
PartsAreARun =
    (s : Setting) (n : ℕ) (old last new : State) (reports : List Report) (pause : Pause)
    → (l : Leads s old reports last) → PausesAs s n last new (Ok pause) → Run s n old l.sets reports (with_set last l.whole) (end_of pause)
