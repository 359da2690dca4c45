-- What the operands of some rows are.
use Rattle.std.specs.Prelude.{◌≡◌, Bool, true, false}
use Rattle.ia32_types.specs.declared.insn.Operand.{Operand}
use Rattle.ia32_types.specs.declared.insn.Operand.TheVariants.{Register, Memory, Segment}
use Rattle.ia32_types.specs.declared.insn.Op.{Op}
use Rattle.ia32_types.specs.declared.insn.Op.TheVariants.{ReadSeg, PushSeg, JumpTo, CallTo}

-- a register or memory
abbrev pub is_place : Operand → Bool
is_place (Register n) = true
is_place (Memory a) = true
is_place _ = false

abbrev pub IsPlace : Operand → Type 0
IsPlace a = is_place a ≡ true

abbrev pub IsSegment : Operand → Type 0
IsSegment (Segment seg) = Unit {0}
IsSegment _ = ⊥

-- a jump or call through an operand has a place, and a segment register is read into one
abbrev pub OperandsFit : Op → (a b : Operand) → Type 0
OperandsFit ReadSeg a b = IsPlace a × IsSegment b
OperandsFit PushSeg a b = IsSegment a
OperandsFit JumpTo a b = IsPlace a
OperandsFit CallTo a b = IsPlace a
OperandsFit _ a b = Unit {0}
