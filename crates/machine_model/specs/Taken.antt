-- The steps that a run has taken, one record each.
use Rattle.std.specs.Prelude.{Bool, true, false, ◌==◌, ◌&&◌, not, List, [], ◌∷◌, Option, Some, None, if◌then◌else◌}
use Rattle.descriptors.specs.Controls.{wp_of}
use Rattle.ia32_types.specs.declared.insn.Op.{Op}
use Rattle.ia32_types.specs.declared.insn.Op.TheVariants as op
use Rattle.ia32_types.specs.declared.insn.Operand.{Operand}
use Rattle.ia32_types.specs.declared.insn.Operand.TheVariants as operand
use Rattle.machine_model.specs.State.{Setting, State}
use Rattle.machine_model.specs.Step.{Completed, Report, Result, Went, Halts, step_of}
use Rattle.machine_model.specs.Run.{Set}

-- a step: the state before it, the translations that it used, its report, and the state after it
pub record Taken : Type 0 where
  pub before : State
  pub set : Set
  pub report : Report
  pub after : State

-- the rest of a run after a step that went
abbrev pub behind : State → Set → Result → (State → List Taken) → List Taken
behind b set (Went report after) rest = record { before = b; set = set; report = report; after = after } ∷ rest after
behind b set (Halts stop) rest = []

-- the steps that these sets give, up to one that stops
abbrev pub steps_by : Setting → State → List Set → List Taken
steps_by m b [] = []
steps_by m b (set ∷ sets) = behind b set (step_of m b set) (λ after. steps_by m after sets)

abbrev pub is_control_3 : Operand → Bool
is_control_3 (operand.Control number) = number == 3
is_control_3 _ = false

abbrev pub is_write : Op → Bool
is_write op.WriteControl = true
is_write _ = false

abbrev pub is_load : Option Completed → Bool
is_load None = false
is_load (Some c) = is_write c.insn.op && is_control_3 c.insn.a

-- a MOV to CR3, which loads the value that CR3 has afterwards
abbrev pub loads_root : Taken → Bool
loads_root t = is_load t.report.completed

-- the step changed CR0.WP
abbrev pub changes_protection : Taken → Bool
changes_protection t = if wp_of t.before.cpu then not (wp_of t.after.cpu) else wp_of t.after.cpu
