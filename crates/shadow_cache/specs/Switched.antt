-- Where a load of CR3 leads.
use Rattle.std.specs.Prelude.{◌≡◌, ℕ, List, [], ◌∷◌, take, remove, slice_get, false, if◌then◌else◌, Some, MatchOption}
use Rattle.shadow_tables.specs.Slots.{IsEmpty}
use Rattle.shadow_cache.specs.Pairs.{no_frames}
use Rattle.shadow_cache.specs.Others.{AreKept, place_of}
use Rattle.shadow_cache.specs.declared.pair.Pair.{Pair}

-- a pair of this value that keeps nothing, of tables that weren't read yet
pub record IsFresh (p : Pair) (m : List ℕ) (cr3 : ℕ) : Type 0 where
  pub value : p.cr3 ≡ cr3
  pub empty : IsEmpty p.shadow m
  pub tables : p.tables ≡ no_frames
  pub unmarked : p.stale ≡ false

-- a marked present pair leaves
abbrev pub staying_pairs : List Pair → List Pair
staying_pairs [] = []
staying_pairs (p ∷ ps) = if p.stale then ps else p ∷ ps

-- the pair in this place comes to the front
pub record ComesBack (ps ps' : List Pair) (m m' : List ℕ) (i : ℕ) : Type 0 where
  pub pair : Pair
  pub here : slice_get ps i ≡ Some pair
  pub front : ps' ≡ pair ∷ remove ps i
  pub kept : AreKept ps' m m'

-- a new pair of this value comes to the front; a ninth leaves
pub record Opens (ps ps' : List Pair) (m m' : List ℕ) (cr3 : ℕ) : Type 0 where
  pub pair : Pair
  pub fresh : IsFresh pair m' cr3
  pub front : ps' ≡ pair ∷ take 7 ps
  pub kept : AreKept (take 7 ps) m m'

-- the pair that has this value, or a new one
abbrev pub Comes : List Pair → List Pair → (m m' : List ℕ) → ℕ → Type 0
Comes ps ps' m m' cr3 = MatchOption (place_of cr3 ps) (Opens ps ps' m m' cr3) (λ i. ComesBack ps ps' m m' i)

-- where a load of CR3 with this value leads
abbrev pub IsSwitched : List Pair → List Pair → (m m' : List ℕ) → ℕ → Type 0
IsSwitched ps ps' m m' cr3 = Comes (staying_pairs ps) ps' m m' cr3
