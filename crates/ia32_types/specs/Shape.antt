-- What every spelled instruction has, and which of them need the processor's registers and memory alone.
use Rattle.std.specs.Prelude.{◌≡◌, ◌≢◌, ◌⊎◌, ◌<◌, None}
use Rattle.ia32_types.specs.declared.insn.Insn.{Insn}
use Rattle.ia32_types.specs.declared.insn.Operand.{Operand}
use Rattle.ia32_types.specs.declared.insn.Operand.TheVariants.{Register, Memory}
use Rattle.ia32_types.specs.declared.insn.Op.{Op}
use Rattle.ia32_types.specs.declared.insn.Op.TheVariants as op
use Rattle.ia32_types.specs.Site.{kind_of}

-- a register operand names one of the eight
abbrev pub IsNamed : Operand → Type 0
IsNamed (Register n) = n < 8
IsNamed _ = Unit {0}

-- at most one operand is in memory
abbrev pub IsAlone : Operand → Operand → Type 0
IsAlone (Memory x) (Memory y) = ⊥
IsAlone _ _ = Unit {0}

-- what every spelled instruction has
pub record IsShaped (i : Insn) : Type 0 where
  pub named_a : IsNamed i.a
  pub named_b : IsNamed i.b
  pub alone : IsAlone i.a i.b

-- not sensitive, and neither INT nor INT3, which the machines deliver themselves
pub record IsPlain (o : Op) : Type 0 where
  pub insensitive : kind_of o ≡ None
  pub not_int : o ≢ op.Int
  pub not_int3 : o ≢ op.Int3

-- PUSHF or POPF, as users execute them
abbrev pub IsFlagImage : Op → Type 0
IsFlagImage o = (o ≡ op.PushFlags) ⊎ (o ≡ op.PopFlags)

-- the instructions that `exec` does
abbrev pub IsDone : Op → Type 0
IsDone op.Add = Unit {0}
IsDone op.Or = Unit {0}
IsDone op.Adc = Unit {0}
IsDone op.Sbb = Unit {0}
IsDone op.And = Unit {0}
IsDone op.Sub = Unit {0}
IsDone op.Xor = Unit {0}
IsDone op.Not = Unit {0}
IsDone op.Neg = Unit {0}
IsDone op.Inc = Unit {0}
IsDone op.Dec = Unit {0}
IsDone op.Cmp = Unit {0}
IsDone op.Test = Unit {0}
IsDone op.Rol = Unit {0}
IsDone op.Ror = Unit {0}
IsDone op.Shl = Unit {0}
IsDone op.Shr = Unit {0}
IsDone op.Sar = Unit {0}
IsDone op.Mul = Unit {0}
IsDone op.Imul = Unit {0}
IsDone op.ImulBy = Unit {0}
IsDone op.Div = Unit {0}
IsDone op.Idiv = Unit {0}
IsDone op.Mov = Unit {0}
IsDone op.Movzx = Unit {0}
IsDone op.Movsx = Unit {0}
IsDone op.Lea = Unit {0}
IsDone op.Xchg = Unit {0}
IsDone op.Push = Unit {0}
IsDone op.Pop = Unit {0}
IsDone op.Pusha = Unit {0}
IsDone op.Popa = Unit {0}
IsDone op.Cwde = Unit {0}
IsDone op.Cdq = Unit {0}
IsDone op.Leave = Unit {0}
IsDone op.Nop = Unit {0}
IsDone op.Jcc = Unit {0}
IsDone op.Setcc = Unit {0}
IsDone op.Jmp = Unit {0}
IsDone op.Call = Unit {0}
IsDone op.Ud2 = Unit {0}
IsDone op.Movs = Unit {0}
IsDone op.Stos = Unit {0}
IsDone op.Lods = Unit {0}
IsDone op.Clc = Unit {0}
IsDone op.Stc = Unit {0}
IsDone op.Cld = Unit {0}
IsDone op.Std = Unit {0}
IsDone op.PushFlags = Unit {0}
IsDone op.PopFlags = Unit {0}
IsDone _ = ⊥
