-- Which bytes an instruction may read.
use Rattle.std.specs.Prelude.{ℕ, ◌+◌, ◌/◌, ◌<◌, Option, Some, None}
use Rattle.ia32_types.specs.declared.size.Size.{Size}
use Rattle.ia32_types.specs.declared.flags.Regs.{Regs}
use Rattle.ia32_types.specs.declared.insn.Operand.{Operand}
use Rattle.ia32_types.specs.declared.insn.Operand.TheVariants.{Register, Memory}
use Rattle.ia32_types.specs.declared.insn.Op.{Op}
use Rattle.ia32_types.specs.declared.insn.Op.TheVariants.{Movs, Stos, Lods}
use Rattle.ia32_types.specs.Size.{width}
use Rattle.ia32_exec.specs.declared.access.Range.{Range}
use Rattle.ia32_exec.specs.declared.access.Ranges.{Ranges}
use Rattle.ia32_exec.specs.Ranges.{operand_range}

-- P holds at each of n addresses
abbrev pub AreAll : (ℕ → Type 0) → ℕ → ℕ → Type 0
AreAll P at n = (k : ℕ) → k < n → P (at + k)

-- P holds at each byte of the range, if there is one
abbrev pub Covers : (ℕ → Type 0) → Option Range → Type 0
Covers P None = Unit {0}
Covers P (Some x) = AreAll P x.at x.len

-- P holds at each byte of a number
abbrev pub IsAllAt : (ℕ → Type 0) → ℕ → Size → Type 0
IsAllAt P at s = (k : ℕ) → k < width s / 8 → P (at + k)

-- the operand can be read: its register exists, or each of its bytes may be read
abbrev pub IsReadable : (ℕ → Type 0) → Operand → Size → Regs → Type 0
IsReadable P (Register n) s r = n < 8
IsReadable P (Memory a) s r = Covers P (operand_range (Memory a) s r)
IsReadable P _ s r = Unit {0}

-- the string instructions
abbrev pub IsString : Op → Type 0
IsString Movs = Unit {0}
IsString Stos = Unit {0}
IsString Lods = Unit {0}
IsString _ = ⊥

-- MOVS and LODS read at ESI
abbrev pub Reads : Op → (ℕ → Type 0) → ℕ → Size → Type 0
Reads Stos P at s = Unit {0}
Reads _ P at s = IsAllAt P at s

-- every byte that is read may be read
pub record IsReadReady (P : ℕ → Type 0) (x : Ranges) : Type 0 where
  pub read : Covers P x.read
  pub modified : Covers P x.write
