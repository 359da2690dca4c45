-- What is kept beside the present tables, for values of CR3 that may be loaded again.
use Rattle.std.specs.Prelude.{◌≡◌, ℕ, ◌^◌, ◌<◌, not, Bool, true, false, Option, Some, List, [], ◌∷◌, filter}
use Rattle.std.specs.List.{list_any}
use Rattle.shadow_tables.specs.Slots.{Slot, SameSlots, LosesWrites}

-- A value of CR3 that isn't the present one: the frames from which the guest's tables were read under it, and what is
-- kept for each page.
pub record OtherRoot : Type 0 where
  pub cr3 : ℕ
  pub tables : ℕ → Bool
  pub slots : ℕ → Option Slot

-- the same value and tables, and the same is kept for each page
pub record IsSame (old new : OtherRoot) : Type 0 where
  pub cr3 : new.cr3 ≡ old.cr3
  pub tables : (frame : ℕ) → new.tables frame ≡ old.tables frame
  pub slots : SameSlots old.slots new.slots

-- the same value and tables; what is kept lost the right to write to these frames, and nothing else
pub record LosesWritesTo (frames : List ℕ) (old new : OtherRoot) : Type 0 where
  pub cr3 : new.cr3 ≡ old.cr3
  pub tables : (frame : ℕ) → new.tables frame ≡ old.tables frame
  pub slots : LosesWrites old.slots new.slots frames

-- as many, and each in its place the same
abbrev pub AreSame : (olds news : List OtherRoot) → Type 0
AreSame [] [] = Unit {0}
AreSame [] (new ∷ news) = ⊥
AreSame (old ∷ olds) [] = ⊥
AreSame (old ∷ olds) (new ∷ news) = IsSame old new × AreSame olds news

-- as many, and each in its place lost the right to write to these frames
abbrev pub LoseWrites : List ℕ → (olds news : List OtherRoot) → Type 0
LoseWrites frames [] [] = Unit {0}
LoseWrites frames [] (new ∷ news) = ⊥
LoseWrites frames (old ∷ olds) [] = ⊥
LoseWrites frames (old ∷ olds) (new ∷ news) = LosesWritesTo frames old new × LoseWrites frames olds news

-- those whose tables weren't read from the frame: a write there leaves them
abbrev pub spared : ℕ → List OtherRoot → List OtherRoot
spared frame other_roots = filter (λ a. not (a.tables frame)) other_roots

-- those whose tables were read from none of these frames
abbrev pub all_spared : List ℕ → List OtherRoot → List OtherRoot
all_spared frames other_roots = filter (λ a. not (list_any a.tables frames)) other_roots

-- what is kept for a page is of that page, with a frame of memory
abbrev pub AllFit : List OtherRoot → Type 0
AllFit [] = Unit {0}
AllFit (a ∷ other_roots) =
    ((page : ℕ) (slot : Slot) → page < 2 ^ 20 → a.slots page ≡ Some slot → (slot.entry.page ≡ page) × (slot.entry.frame < 2 ^ 20))
    × AllFit other_roots

-- nothing that is kept gives a right to write to a frame of which the test is true
abbrev pub AllBarred : (ℕ → Bool) → List OtherRoot → Type 0
AllBarred test [] = Unit {0}
AllBarred test (a ∷ other_roots) =
    ((page : ℕ) (slot : Slot) → page < 2 ^ 20 → a.slots page ≡ Some slot → test slot.entry.frame ≡ true → slot.writes ≡ false)
    × AllBarred test other_roots

-- the test holds of every frame from which the tables of any of them were read
abbrev pub AllProtected : (ℕ → Bool) → List OtherRoot → Type 0
AllProtected test [] = Unit {0}
AllProtected test (a ∷ other_roots) = ((frame : ℕ) → a.tables frame ≡ true → test frame ≡ true) × AllProtected test other_roots
