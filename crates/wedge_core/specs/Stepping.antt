-- The outcome of one step of a patched run, and some of them.
use Rattle.std.specs.Prelude.{◌≡◌, ℕ, List, [], ◌∷◌, replicate, Result, Ok, Err}
use Rattle.std.specs.List.{All}
use Rattle.ia32_types.specs.declared.stop.Stop.{Stop}
use Rattle.machine_step.specs.declared.worked.Seen.{Seen}
use Rattle.machine_step.specs.Worked.{whats}
use Rattle.machine_model.specs.State.{Setting, State}
use Rattle.machine_model.specs.Step.{Report, Went, Halts, stepped, items_at}
use Rattle.machine_model.specs.Run.{Set, Steps, trace_of, with_set}
use Rattle.machine_model.specs.Taken.{steps_by}
use Rattle.machine_model.specs.Untold.{AreLeft}
use Rattle.native_steps.specs.Stretch.{IsQuiet}
use Rattle.wedge_step.specs.Parts.{left_of, IsLeft}
use Rattle.wedge_core.specs.Counts.{Counts, CountsOn}
use Rattle.wedge_step.specs.declared.running.Lost.{Lost}

-- A step whose events were given went, by the translations that were kept, or by none where all were dropped before it,
-- and let these things be seen. What it left of them is kept, or nothing where all were dropped after it, or what came
-- back. The host's counts follow.
pub record Goes (m : Setting) (b : State) (lost : Lost) (seen : Seen) (new : State) (before after : Counts) : Type 0 where
  pub report : Report
  pub whole : Set
  pub went : stepped m (with_set b (left_of lost.before b.set)) ≡ Went report (with_set new whole)
  pub kept : IsLeft m new whole lost
  pub items : report.items ≡ items_at b.step (whats seen)
  pub counts : CountsOn m (report ∷ []) before after

-- or it stops
pub record StepHalts (m : Setting) (b : State) (lost : Lost) (stop : Stop) : Type 0 where
  pub halts : stepped m (with_set b (left_of lost.before b.set)) ≡ Halts stop

abbrev pub StepAs : Setting → State → Lost → Result Seen Stop → State → Counts → Counts → Type 0
StepAs m b lost (Ok seen) new before after = Goes m b lost seen new before after
StepAs m b lost (Err stop) new before after = StepHalts m b lost stop

-- Some steps in which nothing is seen lead from one state to another. Each uses the same translations, which the one
-- before left. None loads CR3, or changes another control register.
pub record Passes (m : Setting) (b new : State) (before after : Counts) : Type 0 where
  pub n : ℕ
  pub reports : List Report
  pub steps : Steps m b (replicate n b.set) reports new
  pub sets : AreLeft m b (replicate n b.set)
  pub quiet : All IsQuiet (steps_by m b (replicate n b.set))
  pub silent : trace_of reports ≡ []
  pub counts : CountsOn m reports before after

-- One instruction that the host did, as a step of the guest in which nothing is seen.
pub record Once (m : Setting) (b new : State) (before after : Counts) : Type 0 where
  pub report : Report
  pub went : stepped m b ≡ Went report new
  pub silent : report.items ≡ []
  pub counts : CountsOn m (report ∷ []) before after
