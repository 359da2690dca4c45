-- Which instructions the functions of this crate do.
use Rattle.ia32_types.specs.declared.insn.Op.{Op}
use Rattle.ia32_types.specs.declared.insn.Op.TheVariants.{Add, Or, Adc, Sbb, And, Sub, Xor, Cmp, Test, Not, Neg, Inc, Dec, Rol, Ror, Shl, Shr, Sar}

-- the instructions that `alu` does
abbrev pub IsArithmetic : Op → Type 0
IsArithmetic Add = Unit {0}
IsArithmetic Or = Unit {0}
IsArithmetic Adc = Unit {0}
IsArithmetic Sbb = Unit {0}
IsArithmetic And = Unit {0}
IsArithmetic Sub = Unit {0}
IsArithmetic Xor = Unit {0}
IsArithmetic Cmp = Unit {0}
IsArithmetic Test = Unit {0}
IsArithmetic Not = Unit {0}
IsArithmetic Neg = Unit {0}
IsArithmetic Inc = Unit {0}
IsArithmetic Dec = Unit {0}
IsArithmetic _ = ⊥

-- the instructions that `shift` does
abbrev pub IsShift : Op → Type 0
IsShift Rol = Unit {0}
IsShift Ror = Unit {0}
IsShift Shl = Unit {0}
IsShift Shr = Unit {0}
IsShift Sar = Unit {0}
IsShift _ = ⊥
