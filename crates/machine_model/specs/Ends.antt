-- Each step counts, so from every state a run can go on to its end.
use Rattle.std.specs.Prelude.{◌≡◌, ℕ, ◌+◌, ◌≤◌, List}
use Rattle.std.specs.FinMap.{FinMap}
use Rattle.std.specs.Ordering.{nat_cmp}
use Rattle.paging.specs.declared.entry.Entry.{Entry}
use Rattle.run_trace.specs.declared.items.End.{End}
use Rattle.machine_model.specs.State.{Setting, State, boot}
use Rattle.machine_model.specs.Step.{Report, Result, Went, Halts, step_of}
use Rattle.machine_model.specs.Run.{Set, Run}
use Rattle.machine_model.specs.Fit.{Fit}

-- where a step goes, so many steps were done then
abbrev pub StepsTo : ℕ → Result → Type 0
StepsTo n (Went report new) = new.step ≡ n
StepsTo n (Halts stop) = Unit {0}

abbrev pub EachStepCounts : Type 0
EachStepCounts = (s : Setting) (b : State) (set : FinMap nat_cmp Entry) → StepsTo (b.step + 1) (step_of s b set)

-- some run of at most n steps in all begins here
pub record HasEnd (s : Setting) (n : ℕ) (b : State) : Type 0 where
  pub sets : List Set
  pub reports : List Report
  pub last : State
  pub end : End
  pub run : Run s n b sets reports last end

abbrev pub EachRunHasAnEnd : Type 0
EachRunHasAnEnd = (s : Setting) (n : ℕ) (b : State) → b.step ≤ n → HasEnd s n b

abbrev pub EachRunBeginsFit : Type 0
EachRunBeginsFit = (s : Setting) → Fit (boot s).cpu
