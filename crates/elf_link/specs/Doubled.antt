-- Names that are defined twice.
use Rattle.std.specs.Prelude.{◌≡◌, ℕ, ◌<◌, true, false, List, ◌++◌, take, Some, slice_get}
use Rattle.elf_link.specs.Refusals.{holds}

-- The name at k is among others or stands before k, and no name before it is so.
pub record IsFirstDoubled (others names : List (List ℕ)) (name : List ℕ) : Type 0 where
  pub index : ℕ
  pub there : slice_get names index ≡ Some name
  pub doubled : holds (others ++ take index names) name ≡ true
  pub fresh : (m : ℕ) (n : List ℕ) → m < index → slice_get names m ≡ Some n → holds (others ++ take m names) n ≡ false
