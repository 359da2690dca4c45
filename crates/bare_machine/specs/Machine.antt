-- The bare machine's values as states, and what steps of it say.
use Rattle.std.specs.Prelude.{◌≡◌, ℕ, ◌*◌, ◌≤◌, Bool, true, List, length, [], ◌∷◌, ◌++◌, Result, Ok, Err}
use Rattle.ia32_types.specs.declared.stop.Stop.{Stop}
use Rattle.run_trace.specs.declared.items.What.{What}
use Rattle.step_mem.specs.Changes.{AreWithin}
use Rattle.paging.specs.Part.{IsPartOf}
use Rattle.machine_model.specs.State.{Setting, State}
use Rattle.machine_model.specs.Step as steps
use Rattle.machine_model.specs.Run.{Set, Steps, trace_of, with_set}
use Rattle.machine_model.specs.Step.{Report, Went, Halts, step_of, items_at}
use Rattle.bare_machine.specs.declared.machine.BareMachine as machines
use Rattle.machine_step.specs.declared.worked.Seen.{Seen}
use Rattle.machine_step.specs.Worked.{whats}

-- the machine's state, whose set is what the cache holds
abbrev pub state_of : {C : Type 0} → (C → Set) → machines.BareMachine C → State
state_of entries m = record { cpu = m.cpu; ram = m.ram; set = entries m.kept.cache; board = m.board; step = m.step }

-- The step went, let these things be seen, and led to this state, of whose translations some may have been dropped,
-- but none by an exact cache.
pub record Goes (result : steps.Result) (step : ℕ) (whats : List What) (exact : Bool) (new : State) : Type 0 where
  pub report : Report
  pub whole : Set
  pub went : result ≡ Went report (with_set new whole)
  pub part : IsPartOf new.set whole
  pub all : exact ≡ true → new.set ≡ whole
  pub items : report.items ≡ items_at step whats

-- the outcome of a step, from the count of steps before it and the state after it
abbrev pub StepAs : steps.Result → Result Seen Stop → ℕ → Bool → State → Type 0
StepAs result (Ok seen) step exact new = Goes result step (whats seen) exact new
StepAs result (Err stop) step exact new = result ≡ Halts stop

-- what holds of a machine between two steps
pub record IsKept (frames : ℕ) (b : State) : Type 0 where
  pub ram : 4096 * frames ≤ length b.ram
  pub within : AreWithin frames b.set

-- It can go on: it is kept well, its memory is as large as it was, and its cache loses entries or none as before.
pub record GoesOn {C : Type 0} (entries : C → Set) (is_exact : C → Bool) (old new : machines.BareMachine C) : Type 0 where
  pub kept : IsKept new.frames (state_of entries new)
  pub frames : new.frames ≡ old.frames
  pub size : length new.ram ≡ length old.ram
  pub exact : is_exact new.kept.cache ≡ is_exact old.kept.cache

-- the step by the translations that it holds
abbrev pub own_step : Setting → State → steps.Result
own_step s b = step_of s b b.set

-- one step for each report, each with the translations that are chosen by the state before it
unfoldable pub StepsBy : Setting → (State → Set) → State → List Report → State → Type 0
StepsBy s choose old [] new = new ≡ old
StepsBy s choose old (now ∷ later) new = (mid : State) × (step_of s old (choose old) ≡ Went now mid) × StepsBy s choose mid later new

-- the translations that the step before has left
abbrev pub translations_of : State → Set
translations_of b = b.set

-- the first step uses this set
abbrev pub FirstIs : Set → List Set → Type 0
FirstIs set [] = Unit {0}
FirstIs set (first ∷ sets) = first ≡ set

-- Some steps with these reports lead from one state to another. The first, which is the next one where there was none,
-- uses what is cached. Between two steps, and after the last, cached translations may be lost, but not from an exact
-- cache: then each step uses what is left.
pub record Passes (s : Setting) (exact : Bool) (old : State) (reports : List Report) (new : State) : Type 0 where
  pub sets : List Set
  pub whole : Set
  pub steps : Steps s old sets reports (with_set new whole)
  pub part : IsPartOf new.set whole
  pub first : FirstIs old.set (sets ++ new.set ∷ [])
  pub exactly : exact ≡ true → StepsBy s translations_of old reports new

-- Some steps in which nothing is seen and no translation changes lead from one state to another. Before the first some
-- translations may have been lost.
pub record Rests (s : Setting) (old : State) (whole : Set) (new : State) : Type 0 where
  pub sets : List Set
  pub reports : List Report
  pub left_then : Set
  pub steps : Steps s (with_set old whole) sets reports (with_set new left_then)
  pub part : IsPartOf new.set left_then
  pub exactly : StepsBy s translations_of old reports new
  pub silent : trace_of reports ≡ []
