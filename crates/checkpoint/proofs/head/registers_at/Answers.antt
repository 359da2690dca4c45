use Rattle.std.proofs.Common.{[], ◌∷◌}
use Rattle.checkpoint.proofs.head.registers_at.Goals as goal

pub returns : goal.returns
returns c = λ i.
    c.word.ensures i ∷ c.word-2.ensures i ∷ c.word-3.ensures i ∷ c.word-4.ensures i
    ∷ c.word-5.ensures i ∷ c.word-6.ensures i ∷ c.word-7.ensures i ∷ c.word-8.ensures i ∷ []
