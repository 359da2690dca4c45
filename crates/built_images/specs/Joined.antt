-- Sweeps of texts that are joined.
use Rattle.std.specs.Prelude.{ℕ, zero, suc, ◌+◌, false, List, [], ◌∷◌}
use Rattle.ia32_types.specs.declared.insn.Insn.{Insn}
use Rattle.ia32_types.specs.declared.insn.Op.TheVariants as op
use Rattle.ia32_types.specs.declared.insn.Operand.TheVariants as operand
use Rattle.ia32_types.specs.declared.size.Size.TheVariants as size
use Rattle.image_check.specs.Sweep.{Swept}

-- an instruction so many bytes further on
abbrev pub swept_later : ℕ → Swept → Swept
swept_later n s = record s { at = n + s.at }

-- NOP, STI, HLT, and the jump to itself
abbrev pub nop : Insn
nop = record { op = op.Nop; size = size.Long; a = operand.Absent; b = operand.Absent; imm = 0; sel = 0; rep = false }

abbrev pub sti : Insn
sti = record { op = op.Sti; size = size.Long; a = operand.Absent; b = operand.Absent; imm = 0; sel = 0; rep = false }

abbrev pub hlt : Insn
hlt = record { op = op.Hlt; size = size.Long; a = operand.Absent; b = operand.Absent; imm = 0; sel = 0; rep = false }

abbrev pub jump_to_itself : Insn
jump_to_itself = record { op = op.Jmp; size = size.Long; a = operand.Absent; b = operand.Absent; imm = 0xFFFFFFFE; sel = 0; rep = false }

-- so many NOPs from an offset on
unfoldable pub nops_at : ℕ → ℕ → List Swept
nops_at at zero = []
nops_at at (suc n) = record { at = at; len = 1; insn = nop } ∷ nops_at (at + 1) n
