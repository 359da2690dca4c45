-- The laws of shadows by which what is carried stays over changes of memory elsewhere, and holds of more pages.
use Rattle.std.proofs.Common.{◌≡◌, ℕ, ◌+◌, ◌*◌, ◌<◌, ◌≤◌, Bool, true, eqb, List, length}
use Rattle.std.specs.Set.{is_member, distinct_count}
use Rattle.frame_pool.specs.Held.{SameIn}
use Rattle.shadow_tables.specs.OtherRoot.{AreSame}
use Rattle.shadow_tables.specs.declared.shadows.Shadows as shadows

module _ {S : Type 0} (shows : shadows.Ghosts S) where
  pub record Widens : Type 0 where
    pub same_other_roots : (s : S) (m m' : List ℕ) → ∥ shows.stands s m ∥₁ → SameIn (shows.frames s m) m m'
        → AreSame (shows.other_roots s m) (shows.other_roots s m')
    pub same_tables_under : (s : S) (m m' : List ℕ) (indices : ℕ → Bool) → ∥ shows.stands s m ∥₁ → SameIn (shows.frames s m) m m'
        → shows.has_tables_under s m indices → shows.has_tables_under s m' indices
    pub wider : (s : S) (m : List ℕ) (indices more : ℕ → Bool) → ((index : ℕ) → indices index ≡ true → more index ≡ true)
        → shows.has_tables_under s m indices → shows.has_tables_under s m more
    pub sized : (s : S) (m : List ℕ) (indices : ℕ → Bool) (among : List ℕ) → ∥ shows.stands s m ∥₁ → shows.has_tables_under s m indices
        → ((index : ℕ) → index < 1024 → indices index ≡ true → is_member eqb among index ≡ true)
        → length (shows.frames s m) ≤ 8 * (2 + 2 * distinct_count eqb among)
