-- A set of translations that has nothing but what another has.
use Rattle.std.specs.Prelude.{◌≡◌, ℕ, Some}
use Rattle.std.specs.FinMap.{FinMap, get}
use Rattle.std.specs.Ordering.{nat_cmp}
use Rattle.std.specs.Option.{ForSome}
use Rattle.paging.specs.declared.entry.Entry.{Entry}

pub record IsPartOf (part whole : FinMap nat_cmp Entry) : Type 0 where
  pub each : (page : ℕ) → ForSome (get part page) (λ entry. get whole page ≡ Some entry)
