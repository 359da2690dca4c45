-- The outcome of a step of which the host did nothing.
use Rattle.std.specs.Prelude.{◌≡◌, Result, Ok, Err}
use Rattle.ia32_types.specs.declared.stop.Stop.{Stop}
use Rattle.machine_step.specs.declared.worked.Seen.{Seen}
use Rattle.machine_step.specs.Worked.{whats}
use Rattle.machine_model.specs.State.{Setting, State}
use Rattle.machine_model.specs.Step.{Report, Went, Halts, stepped, items_at}
use Rattle.machine_model.specs.Run.{Set, with_set}
use Rattle.wedge_step.specs.Parts.{IsLeft}
use Rattle.wedge_step.specs.declared.running.Lost.{Lost}

-- A step of which the host did nothing went, by all that was kept. What it left is kept, or nothing where all was dropped
-- after it, or what came back.
pub record Alone (m : Setting) (b : State) (lost : Lost) (seen : Seen) (new : State) : Type 0 where
  pub report : Report
  pub whole : Set
  pub went : stepped m b ≡ Went report (with_set new whole)
  pub kept : IsLeft m new whole lost
  pub items : report.items ≡ items_at b.step (whats seen)

-- or it stops
abbrev pub AloneAs : Setting → State → Lost → Result Seen Stop → State → Type 0
AloneAs m b lost (Ok seen) new = Alone m b lost seen new
AloneAs m b lost (Err stop) new = stepped m b ≡ Halts stop
