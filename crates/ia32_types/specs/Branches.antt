-- Branches whose operand is the distance to their target.
use Rattle.std.specs.Prelude.{Bool, true, false}
use Rattle.ia32_types.specs.declared.insn.Op.{Op}
use Rattle.ia32_types.specs.declared.insn.Op.TheVariants as op

-- a branch whose operand is the distance to its target
abbrev pub is_direct_branch : Op → Bool
is_direct_branch op.Jmp = true
is_direct_branch op.Call = true
is_direct_branch op.Jcc = true
is_direct_branch _ = false
