-- An insensitive instruction's effect at level 3 is its effect.
use Rattle.std.proofs.Common.{◌≡◌, ℕ, true, refl}
use Rattle.ia32_types.specs.declared.flags.Regs.{Regs}
use Rattle.ia32_types.specs.declared.insn.Insn.{Insn}
use Rattle.ia32_types.specs.declared.insn.Op.{Op}
use Rattle.ia32_types.specs.declared.insn.Op.TheVariants.{ReadSeg, PushSeg, Return, JumpTo, CallTo}
use Rattle.ia32_types.specs.Shape.{IsDone}
use Rattle.ia32_exec.specs.declared.selectors.Selectors.{Selectors}
use Rattle.ia32_exec.specs.Effect.{effect}
use Rattle.ia32_exec.specs.UserEffect.{IsUserDone, user_effect, user_row}
use Rattle.host_cpl3.specs.Insensitive.{is_insensitive}

by_row : (o : Op) (g : Selectors) (i : Insn) (len : ℕ) (r : Regs) (b : ℕ → ℕ) → is_insensitive o ≡ true
    → user_row o g i len r b ≡ effect i len r b
by_row Return g i len r b h = absurd cc
by_row JumpTo g i len r b h = absurd cc
by_row CallTo g i len r b h = absurd cc
by_row ReadSeg g i len r b h = absurd cc
by_row PushSeg g i len r b h = absurd cc
by_row _ g i len r b h = refl

pub same_effect : (g : Selectors) (i : Insn) (len : ℕ) (r : Regs) (b : ℕ → ℕ) → is_insensitive i.op ≡ true
    → user_effect g i len r b ≡ effect i len r b
unfolding user_effect
same_effect g i len r b h = by_row i.op g i len r b h

pub is_done : (o : Op) → is_insensitive o ≡ true → IsUserDone o → IsDone o
is_done Return h d = absurd cc
is_done JumpTo h d = absurd cc
is_done CallTo h d = absurd cc
is_done ReadSeg h d = absurd cc
is_done PushSeg h d = absurd cc
is_done _ h d = d
