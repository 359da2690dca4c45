-- A text that is read line by line: which of its lines are good, and what they say.
use Rattle.std.specs.Prelude.{◌≡◌, ℕ, ◌+◌, ◌<◌, List, [], ◌∷◌, ◌++◌, length, take, slice_index_or, Option, Some, None, Result, Ok, Err}
use Rattle.std.specs.List.{flat_map}
use Rattle.text_lines.specs.Cuts.{cut_at}

-- what a line says by itself, if anything, and why that isn't taken after what the lines before it said
pub record Rule (A C : Type 0) : Type 0 where
  pub says : List ℕ → Result (Option A) C
  pub objection : List A → A → Option C

-- what a line says, as a list
abbrev pub said : {A C : Type 0} → Result (Option A) C → List A
said (Err cause) = []
said (Ok None) = []
said (Ok (Some item)) = item ∷ []

-- what lines say, in their order
abbrev pub items_on : {A C : Type 0} → Rule A C → List (List ℕ) → List A
items_on rule lines = flat_map (λ line. said (rule.says line)) lines

-- why a line is bad after these items, or None where it is good
abbrev pub badness : {A C : Type 0} → Rule A C → List A → Result (Option A) C → Option C
badness rule before (Err cause) = Some cause
badness rule before (Ok None) = None
badness rule before (Ok (Some item)) = rule.objection before item

-- the same of line i, counted from 0, after the lines before it
abbrev pub badness_of : {A C : Type 0} → Rule A C → List (List ℕ) → ℕ → Option C
badness_of rule lines i = badness rule (items_on rule (take i lines)) (rule.says (slice_index_or lines i []))

-- the first n lines are good
abbrev pub AreGood : {A C : Type 0} → Rule A C → List (List ℕ) → ℕ → Type 0
AreGood rule lines n = (i : ℕ) → i < n → badness_of rule lines i ≡ None

-- all lines are good and say these items; or this line, counted from 1, is the first bad one
abbrev pub LinesSay : {A C : Type 0} → Rule A C → List (List ℕ) → Result (List A) (ℕ × C) → Type 0
LinesSay rule lines (Ok items) = AreGood rule lines (length lines) × (items ≡ items_on rule lines)
LinesSay rule lines (Err fault) =
    (i : ℕ) × (fault.0 ≡ i + 1) × (i < length lines) × AreGood rule lines i × (badness_of rule lines i ≡ Some fault.1)

-- what a line says, where it is good after these items, or why it is bad
abbrev pub passed : {A C : Type 0} → Option C → Result (Option A) C → Result (Option A) C
passed None line = line
passed (Some cause) line = Err cause

abbrev pub judged : {A C : Type 0} → Rule A C → List A → Result (Option A) C → Result (Option A) C
judged rule before line = passed (badness rule before line) line

-- ---- as a function

abbrev pub unless : {A C : Type 0} → Option C → ℕ → Result A (ℕ × C) → Result A (ℕ × C)
unless None n later = later
unless (Some cause) n later = Err (n, cause)

-- what lines say after these items, or the first bad line with its cause; the first line has number n
unfoldable pub lines_read : {A C : Type 0} → Rule A C → ℕ → List A → List (List ℕ) → Result (List A) (ℕ × C)
lines_read rule n before [] = Ok before
lines_read rule n before (line ∷ rest) =
    unless (badness rule before (rule.says line)) n (lines_read rule (n + 1) (before ++ said (rule.says line)) rest)

-- what a text says, or its first bad line, counted from 1, with the cause
abbrev pub text_read : {A C : Type 0} → Rule A C → List ℕ → Result (List A) (ℕ × C)
text_read rule text = lines_read rule 1 [] (cut_at 10 text)
