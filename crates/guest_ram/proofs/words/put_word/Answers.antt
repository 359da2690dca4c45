use Rattle.std.proofs.Common.{arith}
use Rattle.std.proofs.lemmas.List.{places, same_lists}
use Rattle.guest_ram.specs.Bytes.{with_part, with_word32}
use Rattle.guest_ram.proofs.words.put_word.Goals as goal

pub returns : goal.returns
unfolding with_part with_word32
returns c = same_lists _ _ (grind (arith, places)) (λ k d h. grind (arith, places))
