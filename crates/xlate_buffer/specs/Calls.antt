-- Calls of the TLB, one after another, and what they leave of a page.
use Rattle.std.specs.Prelude.{ℕ, ◌/◌, ◌%◌, ◌==◌, not, if◌then◌else◌, List, [], ◌∷◌, Option, Some, None}
use Rattle.std.specs.FinMap.{FinMap, empty, insert, remove, retain_keys}
use Rattle.std.specs.Ordering.{nat_cmp}
use Rattle.paging.specs.declared.entry.Entry.{Entry}
use Rattle.paging.specs.Uses.{without_dir}

pub data Call : Type 0 where
  Keep : Entry → Call
  DropPage : ℕ → Call
  DropDir : ℕ → Call
  DropAll : Call

-- what each call makes of the map, as the calls themselves promise
abbrev pub made : Call → FinMap nat_cmp Entry → FinMap nat_cmp Entry
made (Keep entry) m = insert (retain_keys m (λ page. not (page % 64 == entry.page % 64))) entry.page entry
made (DropPage page) m = remove m page
made (DropDir index) m = without_dir m index
made DropAll m = empty

-- the map after calls, the last of them first in the list
abbrev pub made_by : List Call → FinMap nat_cmp Entry
made_by [] = empty
made_by (call ∷ earlier) = made call (made_by earlier)

-- the entry that was kept last in the page's place, where it is of this page and neither this page, nor those of its
-- directory index, nor all pages were dropped since
abbrev pub last_kept : List Call → ℕ → Option Entry
last_kept [] page = None
last_kept (Keep entry ∷ earlier) page =
    if page % 64 == entry.page % 64 then (if page == entry.page then Some entry else None) else last_kept earlier page
last_kept (DropPage dropped ∷ earlier) page = if page == dropped then None else last_kept earlier page
last_kept (DropDir index ∷ earlier) page = if page / 1024 == index then None else last_kept earlier page
last_kept (DropAll ∷ earlier) page = None
