use Rattle.native_steps.proofs.Deriving.{forward_law}
use Rattle.native_steps.proofs.laws.forward.Goals as goal

pub returns : goal.returns
returns c =
    λ m memory v b w stands lends next. forward_law m w memory v b stands lends c.effects.ensures (c.texts.ensures m.image w.accepted) next
