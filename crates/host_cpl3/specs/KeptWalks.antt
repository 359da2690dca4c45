-- Walks that are kept: what a walk would find now, with the frame of the table that it was read from.
use Rattle.std.specs.Prelude.{◌≡◌, ℕ, ◌+◌, ◌*◌, ◌/◌, ◌%◌, ◌<◌, ◌≤◌, ◌^◌, List, length, slice_index, Bool, true, false, ◌==◌, Option, Some, None, IfSome, is_some, if◌then◌else◌}
use Rattle.std.specs.FinMap.{get}
use Rattle.guest_ram.specs.Bytes.{word32, frame}
use Rattle.paging.specs.declared.entry.Entry.{Entry}
use Rattle.paging.specs.Fresh.{dir_place}
use Rattle.host_cpl3.specs.declared.walks.Walks.{Walks}
use Rattle.host_cpl3.specs.Pages.{walked, entry_in}

-- the frame of a page's table, by the word in the directory
abbrev pub table_of : List ℕ → ℕ → ℕ → ℕ
table_of m root page = word32 m (dir_place (4096 * root) page) / 4096

pub record IsKept (m : List ℕ) (root page : ℕ) (entry : Entry) (table : ℕ) : Type 0 where
  pub page_in : page < 2 ^ 20
  pub found : entry_in (walked m root page) ≡ Some entry
  pub inside : entry.frame < length m / 4096
  pub read_from : table ≡ table_of m root page

-- between the least and the greatest number of a kept table's frame
abbrev pub IsWithin : Walks → ℕ → Type 0
IsWithin w table = (w.lowest ≤ table) × (table ≤ w.highest)

-- a walk that is kept, with its table
abbrev pub IsKeptWithin : Walks → List ℕ → ℕ → ℕ → Entry → ℕ → Type 0
IsKeptWithin w m root page entry table = IsKept m root page entry table × IsWithin w table

-- the walk of the last fetch, if it was of the page
abbrev pub code_of : Walks → ℕ → Option Entry
code_of w page = if page == w.code.page then w.code.entry else None

-- of every page, each in the place of its number modulo 64, and of the last fetch
abbrev pub AreKept : Walks → List ℕ → ℕ → Type 0
AreKept w m root =
    ((page : ℕ) → IfSome (get w.buffer page) (λ entry. IsKeptWithin w m root page entry (slice_index w.tables (page % 64))))
    × ((page : ℕ) → IfSome (code_of w page) (λ entry. IsKeptWithin w m root page entry w.code.table))

-- how many walks there were
abbrev pub count_of : Walks → ℕ
count_of w = w.count

-- a page that is kept is walked no more
abbrev pub walk_count : Walks → ℕ → ℕ
walk_count w page = if is_some (get w.buffer page) then w.count else (w.count + 1) % 2 ^ 64

-- nor is that of the last fetch by the next
abbrev pub count_after : Walks → Bool → ℕ → ℕ
count_after w false page = walk_count w page
count_after w true page = if is_some (code_of w page) then w.count else walk_count w page

-- memory is as long, and the same in all frames but two
pub record SameBut (m m' : List ℕ) (first last : ℕ) : Type 0 where
  pub len : length m' ≡ length m
  pub frames : (f : ℕ) → (f ≡ first → ⊥) → (f ≡ last → ⊥) → frame m' f ≡ frame m f
