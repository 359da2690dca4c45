-- What is kept after a list of calls, the first first.
use Rattle.std.specs.Prelude.{◌≡◌, ℕ, ◌+◌, ◌/◌, ◌^◌, ◌<◌, ◌⊎◌, ◌↔◌, List, [], ◌∷◌, ◌++◌, Bool, true, false, Option, Some, None}
use Rattle.paging.specs.declared.entry.Entry.{Entry}
use Rattle.shadow_tables.specs.Slots.{Slot, entry_in, is_adequate, permits}
use Rattle.shadow_tables.specs.declared.words.Side.{Side}
use Rattle.shadow_tables.specs.declared.calls.Call.{Call}
use Rattle.shadow_tables.specs.declared.calls.Call.TheVariants.{Fill, DropPage, DropDir, DropAll, Note, Written}

-- the pages and the frame are such as there are
abbrev pub IsFit : Call → Type 0
IsFit (Fill side entry wp) = (entry.page < 2 ^ 20) × (entry.frame < 2 ^ 20)
IsFit (DropPage page) = page < 2 ^ 20
IsFit (DropDir index) = index < 1024
IsFit DropAll = Unit {0}
IsFit (Note frame) = frame < 16384
IsFit (Written frame) = Unit {0}

abbrev pub AreFit : List Call → Type 0
AreFit [] = Unit {0}
AreFit (c ∷ cs) = IsFit c × AreFit cs

-- how many of them are fills
abbrev pub fill_count : Call → ℕ
fill_count (Fill side entry wp) = 1
fill_count (DropPage page) = 0
fill_count (DropDir index) = 0
fill_count DropAll = 0
fill_count (Note frame) = 0
fill_count (Written frame) = 0

abbrev pub fills : List Call → ℕ
fills [] = 0
fills (c ∷ cs) = fill_count c + fills cs

-- the first of them is a fill
abbrev pub BeginsWithFill : List Call → Type 0
BeginsWithFill [] = ⊥
BeginsWithFill (c ∷ cs) = fill_count c ≡ 1

-- the call takes away what was kept for the page, or puts another entry in its place
abbrev pub Concerns : ℕ → Call → Type 0
Concerns page (Fill side entry wp) = page ≡ entry.page
Concerns page (DropPage dropped) = page ≡ dropped
Concerns page (DropDir index) = page / 1024 ≡ index
Concerns page DropAll = Unit {0}
Concerns page (Note frame) = ⊥
Concerns page (Written frame) = ⊥

-- no call concerns the page
abbrev pub LeaveAlone : ℕ → List Call → Type 0
LeaveAlone page [] = Unit {0}
LeaveAlone page (c ∷ cs) = (Concerns page c → ⊥) × LeaveAlone page cs

-- the page's last fill, with no later drop of the page
pub record LastFill (calls : List Call) (page : ℕ) (side : Side) (entry : Entry) (wp : Bool) : Type 0 where
  pub before : List Call
  pub later : List Call
  pub place : calls ≡ before ++ Fill side entry wp ∷ later
  pub here : page ≡ entry.page
  pub alone : LeaveAlone page later

-- The page's entry is that of its last fill, where no later drop took it away; or no call concerned the page, and it was
-- the page's entry before.
abbrev pub IsEntryAfter : List Call → ℕ → Option Slot → Entry → Type 0
IsEntryAfter calls page old entry =
    ((side : Side) × (wp : Bool) × LastFill calls page side entry wp) ⊎ (LeaveAlone page calls × (entry_in old ≡ Some entry))

-- The page's last fill, which no later drop took away, was on that side, and let the access pass under its `wp`; or no
-- call concerned the page, and the access was adequate before.
abbrev pub IsAdequateAfter : List Call → ℕ → Option Slot → Side → Bool → Type 0
IsAdequateAfter calls page old side write =
    ((entry : Entry) × (wp : Bool) × LastFill calls page side entry wp × (permits side entry write wp ≡ true))
    ⊎ (LeaveAlone page calls × (is_adequate old side write ≡ true))

-- both keep the same for a page, and the first gives the host no right that the second doesn't give, and no less than to read
abbrev pub IsWithin : Option Slot → Option Slot → Type 0
IsWithin None None = Unit {0}
IsWithin None (Some b) = ⊥
IsWithin (Some a) None = ⊥
IsWithin (Some a) (Some b) = (a.side ≡ b.side) × (a.entry ≡ b.entry) × (a.reads ≡ b.reads) × (a.writes ≡ true → b.writes ≡ true)

-- What is now kept for a page, where `old` was kept before the calls. A write may be barred for other causes.
pub record Follows (calls : List Call) (page : ℕ) (old now : Option Slot) : Type 0 where
  pub kept : (entry : Entry) → (entry_in now ≡ Some entry) ↔ IsEntryAfter calls page old entry
  pub reads : (side : Side) → (is_adequate now side false ≡ true) ↔ IsAdequateAfter calls page old side false
  pub writes : (side : Side) → is_adequate now side true ≡ true → IsAdequateAfter calls page old side true
