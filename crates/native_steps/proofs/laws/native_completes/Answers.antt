use Rattle.native_steps.proofs.Deriving.{full_from_guest, full_completes}
use Rattle.native_steps.proofs.laws.native_completes.Goals as goal

pub returns : goal.returns
returns c = λ m memory v b w stands lends next insn len fetch read write translated pages regs stores done.
    full_completes m w memory v b stands lends c.effects.ensures (c.texts.ensures m.image w.accepted) next insn len
    (full_from_guest m w memory v b stands lends c.effects.ensures (c.texts.ensures m.image w.accepted) next insn len fetch read write
    translated pages) regs stores done
