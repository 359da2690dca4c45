-- What each call makes of the pairs, the present one first.
use Rattle.std.specs.Prelude.{◌≡◌, ℕ, List, [], ◌∷◌, Bool, Option, Some, None, filter, not, slice_set, true, false, if◌then◌else◌}
use Rattle.shadow_tables.specs.Slots.{Slot, held, slot_at, root_of}
use Rattle.shadow_tables.specs.Opened.{KeepsTables, HasOpened}
use Rattle.shadow_tables.specs.declared.words.Side.{Side}
use Rattle.shadow_cache.specs.Pairs.{no_frames, reads}
use Rattle.shadow_cache.specs.Switched.{IsFresh}
use Rattle.shadow_cache.specs.declared.pair.Pair.{Pair}

-- what the present pair keeps for a page
abbrev pub slots_of : List Pair → List ℕ → ℕ → Option Slot
slots_of [] m page = None
slots_of (p ∷ ps) m page = slot_at p.shadow m page

-- the present roots
abbrev pub directory_of : List Pair → Side → ℕ
directory_of [] side = 0
directory_of (p ∷ ps) side = root_of p.shadow side

-- its value, its mark, and from which frames its tables were read
abbrev pub value_of : List Pair → Option ℕ
value_of [] = None
value_of (p ∷ ps) = Some p.cr3

abbrev pub mark_of : List Pair → Bool
mark_of [] = false
mark_of (p ∷ ps) = p.stale

abbrev pub noted_of : List Pair → ℕ → Bool
noted_of [] frame = false
noted_of (p ∷ ps) frame = reads p frame

-- the tables of the present pair, after a fill under this directory index of the view
abbrev pub OpensIn : List Pair → (m m' : List ℕ) → Side → ℕ → Type 0
OpensIn [] m m' side index = Unit {0}
OpensIn (p ∷ ps) m m' side index = HasOpened p.shadow m m' side index

-- it holds the same frames, and no table of it went
abbrev pub KeepsIn : List Pair → (m m' : List ℕ) → Type 0
KeepsIn [] m m' = Unit {0}
KeepsIn (p ∷ ps) m m' = (held p.shadow m' ≡ held p.shadow m) × KeepsTables p.shadow m m'

-- the pairs beside the present one
abbrev pub beside : List Pair → List Pair
beside [] = []
beside (p ∷ ps) = ps

-- the tables of the present pair were read from the frame too
abbrev pub noted_in : List Pair → ℕ → List Pair
noted_in [] frame = []
noted_in (p ∷ ps) frame = record p { tables = slice_set p.tables frame true } ∷ ps

-- a pair whose tables were read from the frame is marked, and has it no longer among them
abbrev pub marked_by : Pair → ℕ → Pair
marked_by p frame = if reads p frame then record p { tables = slice_set p.tables frame false; stale = true } else p

-- a frame was written: so is the present pair, and each other whose tables were read from it leaves
abbrev pub written_in : List Pair → ℕ → List Pair
written_in [] frame = []
written_in (p ∷ ps) frame = marked_by p frame ∷ filter (λ q. not (reads q frame)) ps

-- one unmarked pair of the present value, whose tables weren't read yet
abbrev pub emptied : List Pair → List Pair
emptied [] = []
emptied (p ∷ ps) = record p { tables = no_frames; stale = false } ∷ []

-- the pairs of a new value
pub record IsStart (ps : List Pair) (m : List ℕ) (cr3 : ℕ) : Type 0 where
  pub pair : Pair
  pub alone : ps ≡ pair ∷ []
  pub fresh : IsFresh pair m cr3
