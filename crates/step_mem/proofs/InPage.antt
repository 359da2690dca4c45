-- Places of addresses one after another in a page.
use Rattle.std.proofs.Common.{◌≡◌, ℕ, ◌+◌, ◌/◌, ◌%◌, ◌<◌, Option, Some, None, IsSome, arith}
use Rattle.std.specs.FinMap.{FinMap, get}
use Rattle.std.specs.Ordering.{nat_cmp}
use Rattle.paging.specs.declared.entry.Entry.{Entry}
use Rattle.paging.specs.Space.{place_by}

by_entry : (entry : Option Entry) (at k : ℕ) → IsSome entry → at % 4096 + k < 4096 → place_by entry (at + k) ≡ place_by entry at + k
by_entry None at k found one = absurd cc
by_entry (Some entry) at k found one = omega arith

-- the place of an address, by the one of another in its page
pub next_place : (set : FinMap nat_cmp Entry) (at k : ℕ) → IsSome (get set (at / 4096)) → at % 4096 + k < 4096
    → place_by (get set ((at + k) / 4096)) (at + k) ≡ place_by (get set (at / 4096)) at + k
next_place set at k found one =
    let page : (at + k) / 4096 ≡ at / 4096 = omega arith in
    rw page (by_entry (get set (at / 4096)) at k found one)
