-- What the page tables of a view lend of the translations that the guest keeps.
use Rattle.std.specs.Prelude.{◌≡◌, ◌⊎◌, ℕ, ◌/◌, ◌^◌, ◌<◌, ◌≤◌, List, length, Bool, true, false, not, Some}
use Rattle.std.specs.List.{Contains}
use Rattle.std.specs.Option.{ForSome}
use Rattle.std.specs.FinMap.{FinMap, get}
use Rattle.std.specs.Ordering.{nat_cmp}
use Rattle.ia32_types.specs.declared.addresses.TheConstants.{DATA_PAGE}
use Rattle.paging.specs.declared.entry.Entry.{Entry}
use Rattle.paging.specs.Fresh.{allows}
use Rattle.paging.specs.Reached.{reached}
use Rattle.paging.specs.Uses.{is_text, is_given}
use Rattle.image_check.specs.Image.{Image}
use Rattle.machine_model.specs.State.{Setting, wedge_mode}

-- Where a page may lead. On the user's side: to a frame that holds no text. On the kernel's side: a page of the text
-- window to the frame that the loader gave it, and a page from the first of the data on to a frame that holds no text.
abbrev pub IsOpen : Bool → Image → ℕ → ℕ → Type 0
IsOpen false image page frame = is_text (wedge_mode image) frame ≡ false
IsOpen true image page frame =
    (is_given (wedge_mode image) page frame ≡ true) ⊎ ((DATA_PAGE ≤ page) × (is_text (wedge_mode image) frame ≡ false))

-- the set has an entry of the page, with this frame, that lets the access of this side pass
pub record IsLent (m : Setting) (kernel wp : Bool) (set : FinMap nat_cmp Entry) (write : Bool) (page frame : ℕ) : Type 0 where
  pub entry : Entry
  pub kept : get set page ≡ Some entry
  pub frame_is : entry.frame ≡ frame
  pub allowed : allows entry (record { write = write; user = not kernel }) wp ≡ true
  pub within : frame < m.frames
  pub is_open : IsOpen kernel m.image page frame

-- The tables whose directory is in frame `root` of the host's memory let a user's access of a page pass only where the
-- set lets the guest's access pass, to the same frame.
pub record Lends (m : Setting) (memory : List ℕ) (root : ℕ) (kernel wp : Bool) (set : FinMap nat_cmp Entry) : Type 0 where
  pub each : (page : ℕ) → page < 2 ^ 20 → (write : Bool) → ForSome (reached memory (length memory / 4096) root page write)
      (IsLent m kernel wp set write page)

-- These tables let no user's write pass to the frame: each page is lent for reads alone, or to another frame, or not at all.
abbrev pub IsUnlent : List ℕ → ℕ → ℕ → Type 0
IsUnlent memory root at = (page : ℕ) → page < 2 ^ 20 → reached memory (length memory / 4096) root page true ≡ Some at → ⊥

-- these pages have entries
abbrev pub AreKept : FinMap nat_cmp Entry → List ℕ → Type 0
AreKept set pages = (page : ℕ) → Contains pages page → (entry : Entry) × (get set page ≡ Some entry)
