-- What the shadows keep once a step is done.
use Rattle.std.specs.Prelude.{◌≡◌, ℕ, ◌^◌, ◌<◌, ◌≤◌, List, [], ◌∷◌, ◌++◌, length, map, Bool, true, false, not, ◌&&◌, ◌||◌, ◌==◌, Option, Some, None, MatchOption, if◌then◌else◌}
use Rattle.std.specs.FinMap.{FinMap, empty, get}
use Rattle.std.specs.Ordering.{nat_cmp}
use Rattle.paging.specs.declared.entry.Entry.{Entry}
use Rattle.guest_ram.specs.Among.{is_among}
use Rattle.shadow_tables.specs.Slots.{Slot, ArePart, LosesWrites, barred, filled, is_adequate, permits}
use Rattle.shadow_tables.specs.Calls.{IsWithin}
use Rattle.shadow_tables.specs.declared.words.Side.{Side}
use Rattle.step_mem.specs.Changes.{page_of}
use Rattle.step_mem.specs.declared.changes.Change.{Change}
use Rattle.wedge_mem.specs.Told.{guest_frames}

-- the pages that a step went through, and then those whose entries it changed, of which each is one of the first
abbrev pub pages_of : List ℕ → List Change → List ℕ
pages_of visited changes = visited ++ map page_of changes

abbrev pub has_entry : Option Entry → Bool
has_entry None = false
has_entry (Some entry) = true

-- those of the pages that have an entry in the set, each once
abbrev pub used : FinMap nat_cmp Entry → List ℕ → List ℕ
used set [] = []
used set (page ∷ pages) = if has_entry (get set page) && not (is_among page pages) then page ∷ used set pages else used set pages

-- how many frames a fill of the page may take: one where it has an entry, and isn't filled later
abbrev pub fills_at : FinMap nat_cmp Entry → ℕ → List ℕ → ℕ
fills_at set page later = if has_entry (get set page) && not (is_among page later) then 1 else 0

-- the entries that the pages have are counted; there is no answer where fewer frames are free
abbrev pub IsCount : FinMap nat_cmp Entry → List ℕ → (free : ℕ) → Option ℕ → Type 0
IsCount set pages free result =
    let count = length (used set pages) in MatchOption result (free < count) (λ n. (n ≡ count) × (count ≤ free))

-- there is no answer just where fewer frames are free than that
abbrev pub HasRoom : FinMap nat_cmp Entry → List ℕ → (free : ℕ) → Option ℕ → Type 0
HasRoom set pages free result = MatchOption result (free < length (used set pages)) (λ n. length (used set pages) ≤ free)

-- with an answer that set is left, and else none
abbrev pub LeavesSet : Option ℕ → (left set : FinMap nat_cmp Entry) → Type 0
LeavesSet result left set = MatchOption result (left ≡ empty) (λ n. left ≡ set)

-- what a fill from an entry makes, where frames of `write_protected` are barred from writes
abbrev pub filled_by : Side → Bool → List ℕ → Option Entry → Option Slot
filled_by side wp write_protected None = None
filled_by side wp write_protected (Some entry) = Some (filled (is_among entry.frame write_protected) side entry wp)

-- the same of the set, where the page isn't filled later; of every other what is kept is what was
abbrev pub FillsLast : (old new : ℕ → Option Slot) → FinMap nat_cmp Entry → (page : ℕ) → (later : List ℕ) → Side → Bool → List ℕ → Type 0
FillsLast old new set page later side wp write_protected =
    (q : ℕ) → q < 2 ^ 20
    → new q ≡ (if (q == page) && not (is_among page later) then filled_by side wp write_protected (get set page) else old q)

-- Each of these pages is held on that side with its entry of the set, or not at all where it has none. Of the others the
-- same is kept, with no right that it hadn't.
pub record Settles (old new : ℕ → Option Slot) (set : FinMap nat_cmp Entry) (pages : List ℕ) (side : Side) (wp : Bool)
    (write_protected : List ℕ) : Type 0 where
  pub through : (page : ℕ) → page < 2 ^ 20 → is_among page pages ≡ true → new page ≡ filled_by side wp write_protected (get set page)
  pub others : (page : ℕ) → page < 2 ^ 20 → is_among page pages ≡ false → IsWithin (new page) (old page)

-- The same, where what is kept of the others is what was.
pub record Fills (old new : ℕ → Option Slot) (set : FinMap nat_cmp Entry) (pages : List ℕ) (side : Side) (wp : Bool)
    (write_protected : List ℕ) : Type 0 where
  pub through : (page : ℕ) → page < 2 ^ 20 → is_among page pages ≡ true → new page ≡ filled_by side wp write_protected (get set page)
  pub others : (page : ℕ) → page < 2 ^ 20 → is_among page pages ≡ false → new page ≡ old page

-- ---- which of the pages are filled

-- what is kept lets the host do on that side what its entry lets it do there, which is to read at least
abbrev pub serves : Side → Bool → Option Slot → Bool
serves side wp None = false
serves side wp (Some slot) =
    (permits side slot.entry false wp && is_adequate (Some slot) side false)
    && (if permits side slot.entry true wp then is_adequate (Some slot) side true else not (is_adequate (Some slot) side true))

-- the page is to be filled, if it has an entry: the step changed that, or what is kept doesn't serve
abbrev pub is_due : (ℕ → Option Slot) → List Change → Side → Bool → ℕ → Bool
is_due kept changes side wp page = is_among page (map page_of changes) || not (serves side wp (kept page))

-- those of the pages that are filled, each once
abbrev pub refilled : (ℕ → Option Slot) → FinMap nat_cmp Entry → List Change → Side → Bool → List ℕ → List ℕ
refilled kept set changes side wp [] = []
refilled kept set changes side wp (page ∷ pages) =
    if (has_entry (get set page) && not (is_among page pages)) && is_due kept changes side wp page
    then page ∷ refilled kept set changes side wp pages
    else refilled kept set changes side wp pages

-- what is kept lost the right to write to some of these frames, and nothing else changed
pub record LosesSome (frames : List ℕ) (old new : ℕ → Option Slot) : Type 0 where
  pub lost : List ℕ
  pub part : ArePart lost frames
  pub loses : LosesWrites old new lost

-- So many of the pages were filled, once what is kept had lost the right to write to some of the step's tables.
pub record IsFillCount (old : ℕ → Option Slot) (set : FinMap nat_cmp Entry) (changes : List Change) (tables pages : List ℕ) (side : Side)
    (wp : Bool) (n : ℕ) : Type 0 where
  pub lost : List ℕ
  pub part : ArePart lost (guest_frames tables)
  pub exact : n ≡ length (refilled (λ page. barred lost (old page)) set changes side wp pages)
