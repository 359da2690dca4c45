-- What is kept where all that a step left of its translations is kept.
use Rattle.std.specs.Prelude.{◌≡◌, ℕ, ◌≤◌, List, length, Bool, true, false, Option}
use Rattle.std.specs.FinMap.{get}
use Rattle.shadow_tables.specs.Entries.{entries_of}
use Rattle.guest_ram.specs.Among.{is_among}
use Rattle.shadow_tables.specs.Slots.{Slot}
use Rattle.shadow_tables.specs.declared.words.Side.{Side}
use Rattle.machine_model.specs.Run.{Set}
use Rattle.wedge_mem.specs.Settled.{Settles, used}
use Rattle.wedge_step.specs.Opened.{is_entry_open}

-- The view may show each of these pages, and frames suffice for them.
pub record MayClose (count : ℕ) (side : Side) (set : Set) (pages : List ℕ) (free : ℕ) : Type 0 where
  pub open_to : (page : ℕ) → is_among page pages ≡ true → is_entry_open count side (get set page) ≡ true
  pub room : length (used set pages) ≤ free

-- all of the set is kept: these pages on this side, and no frame that was written is barred from writes
pub record Closes (old new : ℕ → Option Slot) (set : Set) (pages : List ℕ) (side : Side) (wp : Bool)
    (write_protected wrote : List ℕ) : Type 0 where
  pub settles : Settles old new set pages side wp write_protected
  pub unprotected : (frame : ℕ) → is_among frame wrote ≡ true → is_among frame write_protected ≡ false
  pub entries : entries_of new ≡ set
