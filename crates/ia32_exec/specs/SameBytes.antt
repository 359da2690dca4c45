-- The outcome of an instruction over bytes that are the same in its ranges.
use Rattle.std.specs.Prelude.{◌≡◌, ℕ}
use Rattle.ia32_types.specs.declared.flags.Regs.{Regs}
use Rattle.ia32_types.specs.declared.insn.Insn.{Insn}
use Rattle.ia32_types.specs.Shape.{IsShaped}
use Rattle.ia32_exec.specs.declared.selectors.Selectors.{Selectors}
use Rattle.ia32_exec.specs.Readable.{Covers}
use Rattle.ia32_exec.specs.Effect.{ranges_of}
use Rattle.ia32_exec.specs.UserEffect.{user_effect}

abbrev pub SameOverRanges : Type 0
SameOverRanges =
    (b c : ℕ → ℕ) (g : Selectors) (i : Insn) (len : ℕ) (r : Regs)
    → IsShaped i → Covers (λ at. b at ≡ c at) (ranges_of i r).read → Covers (λ at. b at ≡ c at) (ranges_of i r).write
    → user_effect g i len r b ≡ user_effect g i len r c
