-- What stands above a byte that is written.
use Rattle.std.proofs.Common.{◌≡◌, ℕ, ◌<◌, List, length, drop, arith}
use Rattle.std.proofs.lemmas.List.{places, same_lists}
use Rattle.guest_ram.specs.Bytes.{with_part, with_byte}

-- above the byte nothing changes
pub drop-with_byte : (limit : ℕ) (m : List ℕ) (at v : ℕ) → at < length m → at < limit → drop limit (with_byte m at v) ≡ drop limit m
unfolding with_byte with_part
drop-with_byte limit m at v h l = same_lists _ _ (grind (arith, places)) (λ k d i. grind (arith, places))
