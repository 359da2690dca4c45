-- A set of translations as one word for each page.
use Rattle.std.specs.Prelude.{◌≡◌, ℕ, ◌+◌, ◌*◌, ◌/◌, ◌<◌, ◌^◌, Bool, false, List, [], ◌∷◌, length, slice_index, slice_index_or, Option, Some, None, if◌then◌else◌}
use Rattle.std.specs.FinMap.{FinMap, empty}
use Rattle.std.specs.Ordering.{nat_cmp}
use Rattle.ia32_types.specs.declared.addresses.TheConstants.{PAGES}
use Rattle.paging.specs.declared.entry.Entry.{Entry}
use Rattle.paging.specs.Fresh.{has}
use Rattle.paging.specs.Uses.{with_entry}

-- The word of an entry, as a table word has it: the frame above the lowest 12 bits, and the flags P, R/W, U/S and D
-- (Intel SDM volume 3, 32-bit paging).
abbrev pub word_of : Entry → ℕ
word_of e = 4096 * e.frame + (1 + (if e.write then 2 else 0) + (if e.user then 4 else 0) + (if e.dirty then 64 else 0))

-- what the word of a page says: nothing where P is clear
abbrev pub entry_in : ℕ → ℕ → Option Entry
entry_in page word =
    if has word 1
    then Some (record { page = page; frame = word / 4096; user = has word 4; write = has word 2; dirty = has word 0x40 })
    else None

-- the words of pages from this one on
unfoldable pub entries_from : ℕ → List ℕ → FinMap nat_cmp Entry
entries_from page [] = empty
entries_from page (word ∷ words) = with_entry (entries_from (page + 1) words) page (entry_in page word)

abbrev pub entries_of : List ℕ → FinMap nat_cmp Entry
entries_of words = entries_from 0 words

-- There is a word for each page, a frame has 32 bits, and the words of a directory index that isn't marked say nothing.
pub record IsWhole (words : List ℕ) (marks : List Bool) : Type 0 where
  pub pages : length words ≡ PAGES
  pub indices : length marks ≡ 1024
  pub small : (page : ℕ) → slice_index words page < 2 ^ 44
  pub clear : (page : ℕ) → slice_index_or marks (page / 1024) false ≡ false → slice_index words page ≡ 0
