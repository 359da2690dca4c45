-- What a call does to the pairs beside the present one.
use Rattle.std.specs.Prelude.{◌≡◌, ℕ, suc, ◌==◌, if◌then◌else◌, Option, Some, None, List, [], ◌∷◌}
use Rattle.shadow_tables.specs.Slots.{held, slot_at, SameSlots, LosesWrites, IsShadow}
use Rattle.shadow_tables.specs.Opened.{KeepsTables}
use Rattle.shadow_cache.specs.declared.pair.Pair.{Pair}

-- each keeps what it kept, and its tables
abbrev pub AreKept : List Pair → (m m' : List ℕ) → Type 0
AreKept [] m m' = Unit {0}
AreKept (p ∷ ps) m m' =
    IsShadow p.shadow m' × (held p.shadow m' ≡ held p.shadow m) × SameSlots (slot_at p.shadow m) (slot_at p.shadow m') × AreKept ps m m'
    × KeepsTables p.shadow m m'

-- each loses the right to write to the frame, and nothing else
abbrev pub AllLoseWrites : List Pair → (m m' : List ℕ) → ℕ → Type 0
AllLoseWrites [] m m' frame = Unit {0}
AllLoseWrites (p ∷ ps) m m' frame =
    LosesWrites (slot_at p.shadow m) (slot_at p.shadow m') (frame ∷ []) × AllLoseWrites ps m m' frame × (held p.shadow m' ≡ held p.shadow m)
    × KeepsTables p.shadow m m'

abbrev pub one_later : Option ℕ → Option ℕ
one_later None = None
one_later (Some i) = Some (suc i)

-- where the first pair of this value stands
abbrev pub place_of : ℕ → List Pair → Option ℕ
place_of cr3 [] = None
place_of cr3 (p ∷ ps) = if p.cr3 == cr3 then Some 0 else one_later (place_of cr3 ps)
