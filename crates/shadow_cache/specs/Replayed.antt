-- What pairs keep after `new` and a list of calls.
use Rattle.std.specs.Prelude.{◌≡◌, ℕ, ◌+◌, ◌/◌, ◌^◌, ◌<◌, ◌≤◌, ◌↔◌, List, [], ◌∷◌, ◌++◌, length, take, map, Bool, true, false, Option, Some}
use Rattle.paging.specs.declared.entry.Entry.{Entry}
use Rattle.guest_ram.specs.Among.{is_among}
use Rattle.shadow_tables.specs.Slots.{Slot, entry_in, is_adequate, permits, held, slot_at}
use Rattle.shadow_tables.specs.Calls.{IsFit, LeaveAlone, fill_count}
use Rattle.shadow_tables.specs.declared.words.Side.{Side}
use Rattle.shadow_tables.specs.declared.calls.Call.TheVariants.{Fill}
use Rattle.shadow_cache.specs.Pairs.{reads}
use Rattle.shadow_cache.specs.Past.{MadeCall, DirSlot, Past, is_place, is_table, pairs_after}
use Rattle.shadow_cache.specs.declared.pair.Pair.{Pair}
use Rattle.shadow_cache.specs.declared.call_lists.RootsCall.{RootsCall}
use Rattle.shadow_cache.specs.declared.call_lists.RootsCall.TheVariants.{Shared, Switch}

abbrev pub IsFitCall : RootsCall → Type 0
IsFitCall (Shared call) = IsFit call
IsFitCall (Switch value) = Unit {0}

-- the pages and frames are such as there are
abbrev pub AreFitCalls : List RootsCall → Type 0
AreFitCalls [] = Unit {0}
AreFitCalls (c ∷ cs) = IsFitCall c × AreFitCalls cs

-- how many frames have to be free for a call
abbrev pub need : RootsCall → ℕ
need (Shared call) = fill_count call
need (Switch value) = 2

-- the first of them needs more free frames than these
abbrev pub BeginsBeyond : ℕ → List RootsCall → Type 0
BeginsBeyond free [] = ⊥
BeginsBeyond free (c ∷ cs) = free < need c

-- the page's last fill in a pair, with no later drop of the page there
pub record LastFill (done : List MadeCall) (page : ℕ) (side : Side) (entry : Entry) (wp : Bool) (moment : ℕ) : Type 0 where
  pub before : List MadeCall
  pub later : List MadeCall
  pub place : done ≡ before ++ record { moment = moment; call = Fill side entry wp } ∷ later
  pub here : page ≡ entry.page
  pub alone : LeaveAlone page (map (λ d. d.call) later)

-- from this moment on no pair has had the frame among its tables
abbrev pub NoTableSince : ℕ → List RootsCall → ℕ → ℕ → Type 0
NoTableSince value calls moment frame =
    (n : ℕ) → moment ≤ n → n ≤ length calls → is_table (pairs_after value (take n calls)) frame ≡ false

-- the entry of the page's last fill in this pair, which no later drop took away
abbrev pub IsEntryOf : List MadeCall → ℕ → Entry → Type 0
IsEntryOf done page entry = (side : Side) × (wp : Bool) × (moment : ℕ) × LastFill done page side entry wp moment

-- this fill was on that side, and lets a read pass
abbrev pub MayRead : List MadeCall → ℕ → Side → Type 0
MayRead done page side =
    (entry : Entry) × (wp : Bool) × (moment : ℕ) × LastFill done page side entry wp moment × (permits side entry false wp ≡ true)

-- or a write, and from then on no pair has had its frame among its tables
abbrev pub MayWrite : ℕ → List RootsCall → List MadeCall → ℕ → Side → Type 0
MayWrite value calls done page side =
    (entry : Entry) × (wp : Bool) × (moment : ℕ) × LastFill done page side entry wp moment × (permits side entry true wp ≡ true)
    × NoTableSince value calls moment entry.frame

-- what is kept in a pair for a page after `new` with the value and then the calls
pub record IsKeptAs (value : ℕ) (calls : List RootsCall) (done : List MadeCall) (page : ℕ) (now : Option Slot) : Type 0 where
  pub kept : (entry : Entry) → (entry_in now ≡ Some entry) ↔ IsEntryOf done page entry
  pub reads : (side : Side) → (is_adequate now side false ≡ true) ↔ MayRead done page side
  pub writes : (side : Side) → (is_adequate now side true ≡ true) ↔ MayWrite value calls done page side

-- a pair as its past says
pub record IsPast (value : ℕ) (calls : List RootsCall) (past : Past) (p : Pair) (m : List ℕ) : Type 0 where
  pub value_of : p.cr3 ≡ past.value
  pub tables : (frame : ℕ) → reads p frame ≡ is_among frame past.tables
  pub mark : p.stale ≡ past.stale
  pub slots : (page : ℕ) → page < 2 ^ 20 → IsKeptAs value calls past.calls page (slot_at p.shadow m page)
  pub frames : length (held p.shadow m) ≤ 2 + length past.places

-- as many pairs as there are pasts, each as its own says
abbrev pub ArePasts : ℕ → List RootsCall → List Past → List Pair → List ℕ → Type 0
ArePasts value calls [] [] m = Unit {0}
ArePasts value calls [] (p ∷ ps) m = ⊥
ArePasts value calls (q ∷ qs) [] m = ⊥
ArePasts value calls (q ∷ qs) (p ∷ ps) m = IsPast value calls q p m × ArePasts value calls qs ps m

-- the most frames that such pairs hold: two each, and one for each directory index of a view under which pages were filled
abbrev pub most_frames : List Past → ℕ
most_frames [] = 0
most_frames (p ∷ ps) = 2 + length p.places + most_frames ps

-- a page was filled under this directory index of the view
pub record IsFilledUnder (done : List MadeCall) (place : DirSlot) : Type 0 where
  pub before : List MadeCall
  pub later : List MadeCall
  pub moment : ℕ
  pub entry : Entry
  pub wp : Bool
  pub fill : done ≡ before ++ record { moment = moment; call = Fill place.side entry wp } ∷ later
  pub under : entry.page / 1024 ≡ place.index

abbrev pub IsEachOnce : List DirSlot → Type 0
IsEachOnce [] = Unit {0}
IsEachOnce (p ∷ ps) = (is_place p ps ≡ false) × IsEachOnce ps

-- the places of a pair are each there once, and a page was filled under each
pub record IsPlaced (p : Past) : Type 0 where
  pub filled : (place : DirSlot) → is_place place p.places ≡ true → IsFilledUnder p.calls place
  pub once : IsEachOnce p.places

abbrev pub ArePlaced : List Past → Type 0
ArePlaced [] = Unit {0}
ArePlaced (p ∷ ps) = IsPlaced p × ArePlaced ps

-- what is done in the present pair
abbrev pub done_in : List Past → List MadeCall
done_in [] = []
done_in (p ∷ ps) = p.calls
