-- What a call leaves of pairs, over the memory before it and after it.
use Rattle.std.specs.Prelude.{◌≡◌, ℕ, List, [], ◌∷◌, ◌++◌, false, Some}
use Rattle.frame_pool.specs.declared.Pool.{Pool}
use Rattle.frame_pool.specs.Held.{Owns, Moves}
use Rattle.guest_ram.specs.Among.{is_among}
use Rattle.shadow_tables.specs.Entries.{entries_of}
use Rattle.shadow_tables.specs.Slots.{ArePart, LosesWrites, SameSlots}
use Rattle.shadow_cache.specs.After.{beside, mark_of, noted_of, slots_of, value_of}
use Rattle.shadow_cache.specs.Agreeing.{Agree}
use Rattle.shadow_cache.specs.Others.{AreKept}
use Rattle.shadow_cache.specs.Pairs.{frames_of, tables_of}
use Rattle.shadow_cache.specs.declared.pair.Pair.{Pair}
use Rattle.shadow_cache.specs.declared.call_lists.RootsCall.{RootsCall}

-- ---- the pairs, and the frames that they hold

-- they are the same, and each but the present one keeps what it kept
abbrev pub SamePairs : (ps ps' : List Pair) → (m m' : List ℕ) → Type 0
SamePairs ps ps' m m' = (ps' ≡ ps) × AreKept (beside ps) m m'

-- whatever pool has their frames out keeps as many free, and no other frame moved
abbrev pub KeepsPool : (ps ps' : List Pair) → (m m' : List ℕ) → Type 0
KeepsPool ps ps' m m' = (p : Pool) → Owns p m (frames_of ps m) → Moves p p m m' (frames_of ps m) (frames_of ps' m')

-- Pairs that were those of `new` with a value and some calls are now those of the same with this call after them.
abbrev pub GoesOn : RootsCall → (ps ps' : List Pair) → (m m' : List ℕ) → Type 0
GoesOn call ps ps' m m' =
    (value : ℕ) (calls : List RootsCall) → Agree value calls ps m → Agree value (calls ++ call ∷ []) ps' m'

-- it is known what its tables belong to, and none was read or written
abbrev pub BeginsUnder : ℕ → List Pair → Type 0
BeginsUnder cr3 ps = (value_of ps ≡ Some cr3) × (mark_of ps ≡ false) × ((f : ℕ) → noted_of ps f ≡ false)

-- ---- what the present pair keeps, page by page and as a map

-- all that it kept
abbrev pub KeepsSlots : (ps ps' : List Pair) → (m m' : List ℕ) → Type 0
KeepsSlots ps ps' m m' =
    SameSlots (slots_of ps m) (slots_of ps' m') × (entries_of (slots_of ps' m') ≡ entries_of (slots_of ps m))

-- the same, without a right to write to frames from which tables of any pair were read
abbrev pub BarsSlots : (ps ps' : List Pair) → (m m' : List ℕ) → Type 0
BarsSlots ps ps' m m' =
    LosesWrites (slots_of ps m) (slots_of ps' m') (tables_of ps') × (entries_of (slots_of ps' m') ≡ entries_of (slots_of ps m))

-- no more frames are barred from writes, and this one isn't
abbrev pub Frees : ℕ → (ps ps' : List Pair) → Type 0
Frees frame ps ps' = ArePart (tables_of ps') (tables_of ps) × (is_among frame (tables_of ps') ≡ false)
