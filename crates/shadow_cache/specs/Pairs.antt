-- Pairs of views, one for each value of CR3 that is kept, over a memory.
use Rattle.std.specs.Prelude.{◌≡◌, ℕ, suc, ◌^◌, ◌<◌, ◌≤◌, List, [], ◌∷◌, ◌++◌, length, slice_index_or, Bool, true, false, if◌then◌else◌, Option, Some}
use Rattle.std.specs.List.{list_any}
use Rattle.frame_pool.specs.Held.{Holds}
use Rattle.shadow_tables.specs.Slots.{Slot, held, slot_at, IsShadow}
unfoldable pub use Rattle.shadow_cache.specs.FrameSets.{no_frames}
use Rattle.shadow_cache.specs.declared.pair.Pair.{Pair}

-- the guest's tables of this pair were read from the frame
abbrev pub reads : Pair → ℕ → Bool
reads p frame = slice_index_or p.tables frame false

-- those of any pair
abbrev pub any_reads : List Pair → ℕ → Bool
any_reads ps frame = list_any (λ p. reads p frame) ps

-- the places, from n on, that are true
unfoldable pub places_from : ℕ → List Bool → List ℕ
places_from n [] = []
places_from n (b ∷ bs) = if b then n ∷ places_from (suc n) bs else places_from (suc n) bs

-- the frames from which the tables of any pair were read
abbrev pub tables_of : List Pair → List ℕ
tables_of [] = []
tables_of (p ∷ ps) = places_from 0 p.tables ++ tables_of ps

-- the frames of the pool that the pairs hold
unfoldable pub frames_of : List Pair → List ℕ → List ℕ
frames_of [] m = []
frames_of (p ∷ ps) m = held p.shadow m ++ frames_of ps m

-- the memory is as each pair left it
abbrev pub AreShadows : List Pair → List ℕ → Type 0
AreShadows [] m = Unit {0}
AreShadows (p ∷ ps) m = IsShadow p.shadow m × AreShadows ps m

abbrev pub AreSized : List Pair → Type 0
AreSized [] = Unit {0}
AreSized (p ∷ ps) = (length p.tables ≡ 16384) × AreSized ps

-- nothing that is kept gives a right to write to a frame of which the test is true
abbrev pub BarsWrites : (ℕ → Bool) → (ℕ → Option Slot) → Type 0
BarsWrites test slots =
    (page : ℕ) (slot : Slot) → page < 2 ^ 20 → slots page ≡ Some slot → test slot.entry.frame ≡ true → slot.writes ≡ false

abbrev pub AllBarWrites : (ℕ → Bool) → List Pair → List ℕ → Type 0
AllBarWrites test [] m = Unit {0}
AllBarWrites test (p ∷ ps) m = BarsWrites test (slot_at p.shadow m) × AllBarWrites test ps m

abbrev pub AreUnmarked : List Pair → Type 0
AreUnmarked [] = Unit {0}
AreUnmarked (p ∷ ps) = (p.stale ≡ false) × AreUnmarked ps

-- only the present pair may be marked
abbrev pub OthersUnmarked : List Pair → Type 0
OthersUnmarked [] = Unit {0}
OthersUnmarked (p ∷ ps) = AreUnmarked ps

-- At most 8 pairs, each with views of its own, none of which gives a right to write to a frame from which the tables
-- of any were read.
pub record IsRoots (ps : List Pair) (m : List ℕ) : Type 0 where
  pub few : length ps ≤ 8
  pub holds : Holds m (frames_of ps m)
  pub shadows : AreShadows ps m
  pub sized : AreSized ps
  pub barred : AllBarWrites (any_reads ps) ps m
  pub unmarked : OthersUnmarked ps
