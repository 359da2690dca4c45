-- A text that is cut at a byte: into lines, and a line into words.
use Rattle.std.specs.Prelude.{◌≡◌, ℕ, ◌<◌, ◌+◌, ◌==◌, Bool, true, List, [], ◌∷◌, Option, Some, None, length, take, drop}
use Rattle.std.specs.List.{slice_split}

-- the parts of a text between the bytes c
abbrev pub cut_at : ℕ → List ℕ → List (List ℕ)
cut_at c text = slice_split (λ b. b == c) text

-- the first part ends at i, or the text is its only part
abbrev pub IsCut : ℕ → List ℕ → Option ℕ → Type 0
IsCut c text None = cut_at c text ≡ text ∷ []
IsCut c text (Some i) = (i < length text) × (cut_at c text ≡ take i text ∷ cut_at c (drop (i + 1) text))

-- an empty line, or one that begins with '#'
abbrev pub is_skipped : List ℕ → Bool
is_skipped [] = true
is_skipped (b ∷ rest) = b == 35
