-- A tag before each line of a text.
use Rattle.std.specs.Prelude.{ℕ, ◌+◌, ◌==◌, List, [], ◌∷◌, ◌++◌, if◌then◌else◌}

-- what stands before each line of a kernel: its number, and a space
abbrev pub tag_of : ℕ → List ℕ
tag_of kernel = (48 + kernel) ∷ 32 ∷ []

-- what is due after a byte of a text: the tag after a line's end, and else nothing
abbrev pub due_behind : List ℕ → ℕ → List ℕ
due_behind tag b = if b == 10 then tag else []

-- a text with the tag before each of its lines, where so much is due before its first byte
abbrev pub tagged_from : List ℕ → List ℕ → List ℕ → List ℕ
tagged_from tag due [] = []
tagged_from tag due (b ∷ rest) = due ++ b ∷ tagged_from tag (due_behind tag b) rest

abbrev pub tagged : List ℕ → List ℕ → List ℕ
tagged tag text = tagged_from tag tag text
