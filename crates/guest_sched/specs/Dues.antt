-- What is due after a text of lines with tags, and the first line of a text.
use Rattle.std.specs.Prelude.{ℕ, suc, Bool, true, false, ◌==◌, List, [], ◌∷◌, if◌then◌else◌}
use Rattle.guest_sched.specs.Tags.{due_behind}

-- what is due after a text, where so much is due before it
abbrev pub due_after : List ℕ → List ℕ → List ℕ → List ℕ
due_after tag due [] = due
due_after tag due (b ∷ rest) = due_after tag (due_behind tag b) rest

-- the length of the first line, with its end, and whether it has one
abbrev pub line_len : List ℕ → ℕ
line_len [] = 0
line_len (b ∷ rest) = if b == 10 then 1 else suc (line_len rest)

abbrev pub has_end : List ℕ → Bool
has_end [] = false
has_end (b ∷ rest) = if b == 10 then true else has_end rest
