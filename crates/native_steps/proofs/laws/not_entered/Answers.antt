use Rattle.native_steps.proofs.Deriving.{not_entered_law}
use Rattle.native_steps.proofs.laws.not_entered.Goals as goal

pub returns : goal.returns
returns c = λ m memory v b w stands lends next. not_entered_law m w memory v b stands lends c.effects.ensures
    (c.texts.ensures m.image w.accepted) next
