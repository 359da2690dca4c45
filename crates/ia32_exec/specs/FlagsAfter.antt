-- Flags that are the system's own, after an instruction.
use Rattle.std.specs.Prelude.{◌≡◌, ℕ, ◌/◌, ◌%◌, bit_and}
use Rattle.ia32_types.specs.declared.flags.Flags.{Flags}
use Rattle.ia32_types.specs.declared.flags.Regs.{Regs}
use Rattle.ia32_types.specs.declared.insn.Insn.{Insn}
use Rattle.ia32_exec.specs.declared.outcome.Outcome.{Outcome}
use Rattle.ia32_exec.specs.declared.outcome.Outcome.TheVariants.{Done, Raise, Stop}
use Rattle.ia32_exec.specs.declared.selectors.Selectors.{Selectors}
use Rattle.ia32_exec.specs.Effect.{effect}
use Rattle.ia32_exec.specs.Stack.{taken}
use Rattle.ia32_exec.specs.UserEffect.{user_effect}

-- both have the same bit 1, and the same of the bits that the profile never sets: 3, 5, 8, and 14 and up
pub record AreSet (f g : Flags) : Type 0 where
  pub fixed : bit_and g.bits 2 ≡ bit_and f.bits 2
  pub others : bit_and g.bits 0xFFFF_C128 ≡ bit_and f.bits 0xFFFF_C128

-- both have the same IF, the same bits from IOPL on, and the same of those
pub record AreKept (f g : Flags) : Type 0 where
  pub interrupt : g.bits / 0x200 % 2 ≡ f.bits / 0x200 % 2
  pub level : g.bits / 0x1000 ≡ f.bits / 0x1000
  pub set : AreSet f g

abbrev pub Leaves : Regs → Outcome → Type 0
Leaves r (Done n stores) = AreKept r.flags n.flags
Leaves r (Raise vector code) = Unit {0}
Leaves r (Stop stop) = Unit {0}

abbrev pub SystemFlagsStay : Type 0
SystemFlagsStay = (i : Insn) (len : ℕ) (r : Regs) (g : Selectors) (b : ℕ → ℕ) → Leaves r (user_effect g i len r b)

-- and so does an insensitive instruction, and an image of the flags that POPF takes from the stack
pub record InsensitiveStay : Type 0 where
  pub effects : (i : Insn) (len : ℕ) (r : Regs) (b : ℕ → ℕ) → Leaves r (effect i len r b)
  pub images : (f : Flags) (image : ℕ) → AreKept f (taken f image)
