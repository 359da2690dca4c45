-- What accesses leave of the words that walks read, so that translations may be used again when the value of CR3 that they
-- were found by comes back. Intel SDM volume 3, accessed and dirty flags, and caching of translation information.
use Rattle.std.specs.Prelude.{◌≡◌, ◌⊎◌, ℕ, ◌+◌, ◌*◌, ◌/◌, ◌%◌, ◌^◌, ◌<◌, ◌≤◌, Bool, true, false, List, length, Some, Ok, Err}
use Rattle.std.specs.List.{Contains}
use Rattle.std.specs.Option.{ForSome}
use Rattle.std.specs.FinMap.{get}
use Rattle.guest_ram.specs.Bytes.{byte, word32}
use Rattle.paging.specs.declared.entry.Access.{Access}
use Rattle.paging.specs.declared.entry.Entry.{Entry}
use Rattle.paging.specs.declared.entry.Walk.TheVariants.{Found}
use Rattle.paging.specs.Fresh.{fresh, has}
use Rattle.paging.specs.Space.{Space}
use Rattle.paging.specs.Uses.{uses, fetches}
use Rattle.paging.specs.Work.{Outcome}

-- A word of memory in which at most flags came on: the accessed flag, bit 5, and the dirty flag, bit 6. The processor
-- sets them and never clears them.
pub record HasMoreFlags (old new : ℕ) : Type 0 where
  -- bits 0 to 4, and all from bit 7 on
  pub low : new % 0x20 ≡ old % 0x20
  pub high : new / 0x80 ≡ old / 0x80
  pub accessed : has old 0x20 ≡ true → has new 0x20 ≡ true
  pub dirty : has old 0x40 ≡ true → has new 0x40 ≡ true

-- Memory after accesses that wrote to these frames and, as walks do, set flags. Outside these frames each word has at
-- most flags more.
pub record MemoryFollows (wrote : List ℕ) (old new : List ℕ) : Type 0 where
  pub long : length old ≤ length new
  pub words : (at : ℕ) → at % 4 ≡ 0 → at + 4 ≤ length old → (Contains wrote (at / 4096) → ⊥) → HasMoreFlags (word32 old at) (word32 new at)

-- A fresh walk of a page, from the directory that this value of CR3 names, finds this entry, though its dirty flag may be
-- clear in the entry. The accessed flag is set in both words, which for a page of 4 MB are one word, and both lie in frames
-- of which the test holds.
pub record IsFoundBy (ram : List ℕ) (frames cr3 : ℕ) (pse : Bool) (tables : ℕ → Bool) (page : ℕ) (e : Entry) : Type 0 where
  pub dir_at : ℕ
  pub word_at : ℕ
  pub dirty : Bool
  pub found : fresh ram frames cr3 pse page ≡ Found (record e { dirty = dirty }) dir_at word_at
  pub accessed : (has (word32 ram dir_at) 0x20 ≡ true) × (has (word32 ram word_at) 0x20 ≡ true)
  pub is_dirty : e.dirty ≡ true → dirty ≡ true
  pub words : (tables (dir_at / 4096) ≡ true) × (tables (word_at / 4096) ≡ true)

-- What is found so stays found where, in the frames of which the test holds, words have at most flags more.
abbrev pub FoundStays : Type 0
FoundStays =
    (old new : List ℕ) (frames cr3 : ℕ) (pse : Bool) (tables : ℕ → Bool) (page : ℕ) (e : Entry) → 4096 * frames ≤ length old → page < 2 ^ 20
    → ((at : ℕ) → at % 4 ≡ 0 → at + 4 ≤ length old → tables (at / 4096) ≡ true → HasMoreFlags (word32 old at) (word32 new at))
    → IsFoundBy old frames cr3 pse tables page e → IsFoundBy new frames cr3 pse tables page e

-- the test holds of each of these frames
abbrev pub HoldsOf : (ℕ → Bool) → List ℕ → Type 0
HoldsOf tables frames = (frame : ℕ) → Contains frames frame → tables frame ≡ true

-- the test holds of none of them
abbrev pub AreNone : (ℕ → Bool) → List ℕ → Type 0
AreNone tables frames = (frame : ℕ) → Contains frames frame → tables frame ≡ false

-- no frame is among both
abbrev pub AreApart : List ℕ → List ℕ → Type 0
AreApart tables wrote = (frame : ℕ) → Contains tables frame → Contains wrote frame → ⊥

-- each is a page of the address space
abbrev pub ArePages : List ℕ → Type 0
ArePages pages = (page : ℕ) → Contains pages page → page < 2 ^ 20

-- Memory within a step, and the same after further accesses. Where a frame is noted neither as written nor as a table,
-- nothing changed in it. Where no frame that was read as a directory or table was written, each translation of the set was
-- in it before, or is what a fresh walk finds, by words in frames that the step notes as tables.
pub record Follows (s t : Space) : Type 0 where
  pub frames : t.frames ≡ s.frames
  pub cr3 : t.cr3 ≡ s.cr3
  pub pse : t.pse ≡ s.pse
  pub memory : MemoryFollows t.wrote s.ram t.ram
  pub wrote : (frame : ℕ) → Contains s.wrote frame → Contains t.wrote frame
  pub tables : (frame : ℕ) → Contains s.tables frame → Contains t.tables frame
  pub pages : (page : ℕ) → Contains s.visited page → Contains t.visited page
  pub others : ArePages t.visited → (at : ℕ) → at < length s.ram → (Contains t.wrote (at / 4096) → ⊥) → (Contains t.tables (at / 4096) → ⊥)
      → byte t.ram at ≡ byte s.ram at
  -- those that were read since are frames that there are
  pub low : (frame : ℕ) → Contains t.tables frame → Contains s.tables frame ⊎ (frame < s.frames)
  pub each : 4096 * s.frames ≤ length s.ram → AreApart t.tables t.wrote → (tables : ℕ → Bool) → HoldsOf tables t.tables
      → (page : ℕ) → page < 2 ^ 20
      → ForSome (get t.set page) (λ e. (get s.set page ≡ Some e) ⊎ IsFoundBy t.ram t.frames t.cr3 t.pse tables page e)

-- memory follows itself, and goes on following
abbrev pub FollowsItself : Type 0
FollowsItself = (s : Space) → Follows s s

abbrev pub FollowsOn : Type 0
FollowsOn = (s t u : Space) → Follows s t → Follows t u → Follows s u

-- Over memory that follows, where none of the frames of which the test holds was written: what a walk finds by words in
-- them is found still, whatever value of CR3 it begins from.
abbrev pub FoundOver : Type 0
FoundOver =
    (s t : Space) (cr3 : ℕ) (pse : Bool) (tables : ℕ → Bool) (page : ℕ) (e : Entry) → Follows s t → 4096 * s.frames ≤ length s.ram
    → AreNone tables t.wrote → page < 2 ^ 20
    → IsFoundBy s.ram s.frames cr3 pse tables page e → IsFoundBy t.ram s.frames cr3 pse tables page e

-- a walk finds each translation of the set by words in frames of which the test holds
abbrev pub AreFoundBy : Space → (ℕ → Bool) → Type 0
AreFoundBy s tables = (page : ℕ) → page < 2 ^ 20 → ForSome (get s.set page) (λ e. IsFoundBy s.ram s.frames s.cr3 s.pse tables page e)

-- And where the test holds of all frames that the step notes as tables, a walk finds each translation of the set, if it
-- found each before.
abbrev pub AllFoundOver : Type 0
AllFoundOver =
    (s t : Space) (tables : ℕ → Bool) → Follows s t → 4096 * s.frames ≤ length s.ram → AreNone tables t.wrote → HoldsOf tables t.tables
    → AreFoundBy s tables → AreFoundBy t tables

-- each translation of a range leaves memory that follows, ready or not, and each fetch
abbrev pub UsesFollow : Type 0
UsesFollow = (s : Space) (at len : ℕ) (access : Access) → Follows s (uses s at len access).1

abbrev pub FetchesFollow : Type 0
FetchesFollow = (s : Space) (at len : ℕ) (user : Bool) → Follows s (fetches s at len user).1

-- work on memory leaves memory that follows, done or refused
abbrev pub Leaves : {E A : Type 0} → Space → Outcome E A → Type 0
Leaves s (Ok x) = Follows s x.1
Leaves s (Err e) = Follows s e.1
