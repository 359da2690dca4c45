-- Which rows of the opcode table bytes may begin with, as short lists of the rows' numbers.
use Rattle.std.specs.Prelude.{◌≡◌, ℕ, ◌+◌, ◌<◌, ◌≤◌, List, [], ◌∷◌, length, get_or, slice_range, slice_index, Err, ◌==◌, if◌then◌else◌}
use Rattle.std.specs.List.{Contains}
use Rattle.ia32_rows.specs.declared.row.Miss.TheVariants.{Outside}
use Rattle.ia32_rows.specs.declared.row.Row.{Row}
use Rattle.ia32_rows.specs.Spelling.{parts_at}
use Rattle.ia32_rows.specs.Rows.{rows}

-- The first byte, or after 0F the second and 256. No byte counts as 0.
abbrev pub key : List ℕ → ℕ
key [] = 0
key (first ∷ []) = first
key (first ∷ code ∷ more) = if first == 0x0f then 256 + code else first

-- the numbers of a key: each list ends where the next begins
abbrev pub listed : List ℕ → List ℕ → ℕ → List ℕ
listed starts numbers key = slice_range numbers (slice_index starts key) (slice_index starts (key + 1))

-- the row of this number meets a wrong byte
abbrev pub Misses : List ℕ → ℕ → Type 0
Misses bytes number = (other : Row) → parts_at (get_or rows number other).form bytes ≡ Err Outside

-- Where the rows that are listed meet a wrong byte, each row does.
pub record IsIndex (starts numbers : List ℕ) : Type 0 where
  pub keys : length starts ≡ 513
  pub order : (key : ℕ) → key < 512 → slice_index starts key ≤ slice_index starts (key + 1)
  pub ends : (key : ℕ) → key < 512 → slice_index starts (key + 1) ≤ length numbers
  pub below : (key : ℕ) → key < 512 → (k : ℕ) → k < length (listed starts numbers key)
      → slice_index (listed starts numbers key) k < length rows
  pub whole : (bytes : List ℕ) → ((number : ℕ) → Contains (listed starts numbers (key bytes)) number → Misses bytes number) → (number : ℕ)
      → number < length rows → Misses bytes number
