-- What is kept, as a finite map from pages to entries.
use Rattle.std.specs.Prelude.{◌≡◌, ℕ, zero, suc, Bool, List, Option, Some}
use Rattle.std.specs.FinMap.{FinMap, empty, insert}
use Rattle.std.specs.Ordering.{nat_cmp}
use Rattle.guest_ram.specs.Among.{is_among}
use Rattle.ia32_types.specs.declared.addresses.TheConstants.{PAGES}
use Rattle.paging.specs.declared.entry.Entry.{Entry}
use Rattle.paging.specs.Uses.{with_entry}
use Rattle.shadow_tables.specs.Slots.{Slot, Turns, entry_in, filled}
use Rattle.shadow_tables.specs.declared.words.Side.{Side}

-- the entries of the first n pages
unfoldable pub entries_below : ℕ → (ℕ → Option Slot) → FinMap nat_cmp Entry
entries_below zero f = empty
entries_below (suc n) f = with_entry (entries_below n f) n (entry_in (f n))

-- and of all pages
unfoldable pub entries_of : (ℕ → Option Slot) → FinMap nat_cmp Entry
entries_of f = entries_below PAGES f

-- Of what is kept only that of the entry's page changed, page by page and as a map. It is held on that side, barred from
-- writes where its frame is one of these.
pub record FillsSlot (write_protected : List ℕ) (side : Side) (entry : Entry) (wp : Bool) (f f' : ℕ → Option Slot) : Type 0 where
  pub turns : Turns f f' entry.page (Some (filled (is_among entry.frame write_protected) side entry wp))
  pub entries : entries_of f' ≡ insert (entries_of f) entry.page entry
