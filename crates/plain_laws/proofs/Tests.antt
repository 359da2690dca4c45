-- Tests by their parts.
use Rattle.std.proofs.Common.{◌≡◌, Bool, true, false, ◌&&◌, ◌||◌, refl}
use Rattle.std.proofs.lemmas.Bool.{both_ways, or_left, or_right}

-- where the first is met and both are not, the second is not
pub second_false : (a b : Bool) → a ≡ true → (a && b) ≡ false → b ≡ false
second_false true b e f = f
second_false false b e f = absurd (both_ways false refl e)

-- each of two tests is weakened
pub either_less : (a b c d : Bool) → (a ≡ true → c ≡ true) → (b ≡ true → d ≡ true) → (a || b) ≡ true → (c || d) ≡ true
either_less true b c d f g e = or_left c d (f refl)
either_less false b c d f g e = or_right c d (g e)
