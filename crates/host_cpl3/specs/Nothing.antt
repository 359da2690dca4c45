-- Instructions that are known to access no memory.
use Rattle.std.specs.Prelude.{◌≡◌, Bool, true, false, None}
use Rattle.ia32_types.specs.declared.flags.Regs.{Regs}
use Rattle.ia32_types.specs.declared.insn.Insn.{Insn}
use Rattle.ia32_types.specs.declared.insn.Op.{Op}
use Rattle.ia32_types.specs.declared.insn.Op.TheVariants.{Add, Or, Adc, Sbb, And, Sub, Xor, Not, Neg, Inc, Dec, Mov, Xchg, Cmp, Test, Imul, Rol, Ror, Shl, Shr, Sar, Mul, Div, Idiv, ImulBy, Movzx, Movsx, Setcc, Jcc, Jmp}
use Rattle.ia32_types.specs.declared.insn.Operand.{Operand}
use Rattle.ia32_types.specs.declared.insn.Operand.TheVariants.{Memory}
use Rattle.ia32_exec.specs.Effect.{ranges_of}

-- It has no range, whatever the registers are.
abbrev pub AccessesNothing : Insn → Type 0
AccessesNothing i = (r : Regs) → ranges_of i r ≡ record { read = None; write = None }

abbrev pub is_memory : Operand → Bool
is_memory (Memory _) = true
is_memory _ = false

-- an instruction of this name accesses no memory but its operands
abbrev pub is_by_operands : Op → Bool
is_by_operands Add = true
is_by_operands Or = true
is_by_operands Adc = true
is_by_operands Sbb = true
is_by_operands And = true
is_by_operands Sub = true
is_by_operands Xor = true
is_by_operands Not = true
is_by_operands Neg = true
is_by_operands Inc = true
is_by_operands Dec = true
is_by_operands Mov = true
is_by_operands Xchg = true
is_by_operands Cmp = true
is_by_operands Test = true
is_by_operands Imul = true
is_by_operands Rol = true
is_by_operands Ror = true
is_by_operands Shl = true
is_by_operands Shr = true
is_by_operands Sar = true
is_by_operands Mul = true
is_by_operands Div = true
is_by_operands Idiv = true
is_by_operands ImulBy = true
is_by_operands Movzx = true
is_by_operands Movsx = true
is_by_operands Setcc = true
is_by_operands Jcc = true
is_by_operands Jmp = true
is_by_operands _ = false
