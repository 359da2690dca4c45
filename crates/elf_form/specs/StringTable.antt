-- String tables (System V ABI, chapter 4, String Table): names, each ended by a zero byte. The empty name stands first, so a
-- table begins with a zero byte.
use Rattle.std.specs.Prelude.{ℕ, ◌+◌, List, [], ◌∷◌, ◌++◌, length, Option, Some, None, is_some, unwrap_or, if◌then◌else◌}
use Rattle.std.specs.List.{flat_map}
use Rattle.std.specs.Str.{bytes_eq}
use Rattle.elf_form.specs.Tables.{further}

-- where a name begins among the names of a table, if it is there
abbrev pub place_in : List (List ℕ) → List ℕ → Option ℕ
place_in [] name = None
place_in (n ∷ names) name = if bytes_eq name n then Some 0 else further (length n + 1) (place_in names name)

-- the name at the end, unless it has a place
abbrev pub with_name : List (List ℕ) → List ℕ → List (List ℕ)
with_name names name = if is_some (place_in names name) then names else names ++ name ∷ []

unfoldable pub table_bytes : List (List ℕ) → List ℕ
table_bytes names = flat_map (λ name. name ++ 0 ∷ []) names

-- where a name begins in a table that has it
unfoldable pub name_place : List (List ℕ) → List ℕ → ℕ
name_place names name = unwrap_or (place_in names name) 0
