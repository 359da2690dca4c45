-- Instructions done one after another, over a memory that is a number for each address.
use Rattle.std.specs.Prelude.{◌≡◌, ℕ, zero, suc, ◌+◌, ◌-◌, ◌*◌, ◌/◌, ◌%◌, ◌^◌, ◌<◌, nat_le, nat_lt, ◌&&◌, if◌then◌else◌, List, [], ◌∷◌, length, slice_index, slice_set}
use Rattle.ia32_types.specs.declared.flags.Regs.{Regs}
use Rattle.ia32_types.specs.declared.insn.Insn.{Insn}
use Rattle.ia32_types.specs.Size.{width}
use Rattle.ia32_exec.specs.declared.outcome.Store.{Store}
use Rattle.ia32_exec.specs.declared.outcome.Outcome.{Outcome}
use Rattle.ia32_exec.specs.declared.outcome.Outcome.TheVariants.{Done}
use Rattle.ia32_exec.specs.Commit.{list_of}
use Rattle.ia32_exec.specs.Effect.{effect}

-- the memory after a number was written, its lowest byte first
abbrev pub written : Store → (ℕ → ℕ) → ℕ → ℕ
written w b k = if nat_le w.at k && nat_lt k (w.at + width w.size / 8) then w.value / 2 ^ (8 * (k - w.at)) % 2 ^ 8 else b k

abbrev pub all_written : List Store → (ℕ → ℕ) → ℕ → ℕ
all_written [] b = b
all_written (w ∷ ws) b = all_written ws (written w b)

pub record RegsAndBytes : Type 0 where
  pub regs : Regs
  pub bytes : ℕ → ℕ

-- an instruction that raises or stops changes nothing
abbrev pub committed : Outcome → RegsAndBytes → RegsAndBytes
committed (Done r ws) m = record { regs = r; bytes = all_written (list_of ws) m.bytes }
committed _ m = m

-- one instruction of a length
unfoldable pub after : Insn → ℕ → RegsAndBytes → RegsAndBytes
after i len m = committed (effect i len m.regs m.bytes) m

-- the same instruction n times
abbrev pub turns : ℕ → Insn → ℕ → RegsAndBytes → RegsAndBytes
turns zero i len m = m
turns (suc n) i len m = turns n i len (after i len m)

-- eight registers of 32 bits
pub record IsWhole (r : Regs) : Type 0 where
  pub eight : length r.r ≡ 8
  pub small : (k : ℕ) → slice_index r.r k < 2 ^ 32

-- the memory and the flags are the same, and the registers but ECX, which is 0
pub record IsCountedOut (single repeated : RegsAndBytes) : Type 0 where
  pub bytes : repeated.bytes ≡ single.bytes
  pub flags : repeated.regs.flags ≡ single.regs.flags
  pub registers : repeated.regs.r ≡ slice_set single.regs.r 1 0
