-- A range, what the translation of a page of it depends on, and what that leaves.
use Rattle.std.specs.Prelude.{◌≡◌, ◌≢◌, ℕ, ◌+◌, ◌*◌, ◌≤◌, ◌<◌, ◌^◌, List, length, take}
use Rattle.std.specs.FinMap.{FinMap, get}
use Rattle.std.specs.Ordering.{nat_cmp}
use Rattle.guest_ram.specs.Bytes.{part}
use Rattle.paging.specs.declared.entry.Entry.{Entry}
use Rattle.paging.specs.Space.{Space, place}
use Rattle.step_mem.specs.declared.changes.Change.{Change}
use Rattle.step_mem.specs.declared.guard.Guard.{Guard}
use Rattle.step_mem.specs.declared.translations.Translations as translations
use Rattle.step_mem.specs.declared.state.StepState.{StepState}
use Rattle.step_mem.specs.declared.walking.Control.{Control}
use Rattle.step_mem.specs.Changes.{changed, AreWithin, MoreOf}
use Rattle.step_mem.specs.Guard.{IsLaid}
use Rattle.step_mem.specs.Shown.{hidden}

-- ---- a range

-- a range of an instruction, which lies in the address space
pub record IsShortRange (at len : ℕ) : Type 0 where
  pub some : 1 ≤ len
  pub short : len ≤ 32
  pub fits : at + len ≤ 2 ^ 32

-- bytes one after the other, from the place of an address on
abbrev pub bytes_from : Space → ℕ → ℕ → List ℕ
bytes_from s at len = part s.ram (place s at) len

-- ---- one page

-- One change more at most, which is of this page: the changes before it and the other pages' entries stay.
pub record ChangesOne (page : ℕ) (old new : List Change) (set set2 : FinMap nat_cmp Entry) : Type 0 where
  pub more : MoreOf page old new
  pub front : (count : ℕ) → count ≤ length old → take count new ≡ take count old
  pub others : (other : ℕ) → other ≢ page → get set2 other ≡ get set other

-- what is ready, what was ready before that, and what is to be written stay as they are
abbrev pub KeepsReady : StepState → StepState → Space → Space → Type 0
KeepsReady old new before after = (new.ready ≡ old.ready) × (new.wrote ≡ old.wrote) × (after.earlier ≡ before.earlier)

module _ {B : Type 0} (g : translations.Ghosts B) (base : B) (control : Control) (guard : Guard) where
  -- The guest's frames lie in memory and below the keeper's floor, and in these the text and what each entry leads to.
  -- Memory is as the keeper left it, and there is room for a change and for two tables.
  pub record BeginsPage (ram : List ℕ) (changes : List Change) (tables : List ℕ) : Type 0 where
    pub frames_in : 4096 * control.frames ≤ length ram
    pub below : 4096 * control.frames ≤ g.floor base
    pub laid_in : IsLaid guard.text.now control.frames
    pub within : AreWithin control.frames (changed (g.entries base ram) changes)
    pub stands : ∥ g.stands base ram ∥₁
    pub room : length changes < 64
    pub noting : length tables ≤ 126

  -- What was kept stays so, memory has its length, what a step doesn't reach is as it was, and each entry leads into the
  -- guest's frames.
  pub record LeavesPage (old new : List ℕ) (changes : List Change) : Type 0 where
    pub stands : ∥ g.stands base new ∥₁
    pub kept_stays : g.entries base new ≡ g.entries base old
    pub length_stays : length new ≡ length old
    pub hidden_stays : hidden guard control.frames new ≡ hidden guard control.frames old
    pub within : AreWithin control.frames (changed (g.entries base new) changes)
