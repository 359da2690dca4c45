-- Texts with the tag before each of their lines.
use Rattle.std.proofs.Common.{◌≡◌, ◌≢◌, ℕ, suc, ◌+◌, ◌<◌, ◌≤◌, true, false, List, [], ◌∷◌, ◌++◌, length, take, drop, get_or, refl, ap, sym, ◌∙◌, arith, inl, inr, add-one, drop-cons}
use Rattle.std.proofs.lemmas.List.{drop_all, append_assoc}
use Rattle.std.proofs.lemmas.Bool.{ne_eqb}
use Rattle.std.proofs.lemmas.Bool.Decides.{eqb_tells}
use Rattle.std.specs.Prelude.{◌==◌, if◌then◌else◌}
use Rattle.guest_sched.specs.Tags.{due_behind, tagged_from}
use Rattle.guest_sched.specs.Dues.{due_after, line_len, has_end}

-- from a place on: the line goes on after a byte that ends none, and ends after one that does

pub line_on : (text : List ℕ) (i : ℕ) → i < length text → get_or text i 0 ≢ 10 → line_len (drop i text) ≡ suc (line_len (drop (i + 1) text))
line_on text i within other =
    let no : (get_or text i 0 == 10) ≡ false = ne_eqb _ _ other in
    rw (add-one, drop-cons text i 0 within, no) refl

pub end_on : (text : List ℕ) (i : ℕ) → i < length text → get_or text i 0 ≢ 10 → has_end (drop i text) ≡ has_end (drop (i + 1) text)
end_on text i within other =
    let no : (get_or text i 0 == 10) ≡ false = ne_eqb _ _ other in
    rw (add-one, drop-cons text i 0 within, no) refl

pub line_ends : (text : List ℕ) (i : ℕ) → i < length text → get_or text i 0 ≡ 10 → line_len (drop i text) ≡ 1
line_ends text i within is = rw (drop-cons text i 0 within, is) refl

pub end_ends : (text : List ℕ) (i : ℕ) → i < length text → get_or text i 0 ≡ 10 → has_end (drop i text) ≡ true
end_ends text i within is = rw (drop-cons text i 0 within, is) refl

pub line_past : (text : List ℕ) (i : ℕ) → length text ≤ i → line_len (drop i text) ≡ 0
line_past text i past = rw (drop_all i text past) refl

pub end_past : (text : List ℕ) (i : ℕ) → length text ≤ i → has_end (drop i text) ≡ false
end_past text i past = rw (drop_all i text past) refl

-- one text after another
pub tagged_append : (tag due xs ys : List ℕ) → tagged_from tag due (xs ++ ys) ≡ tagged_from tag due xs
    ++ tagged_from tag (due_after tag due xs) ys
tagged_append tag due [] ys = refl
tagged_append tag due (b ∷ xs) ys =
    ap (λ (z : List ℕ). due ++ b ∷ z) (tagged_append tag (due_behind tag b) xs ys)
    ∙ sym (append_assoc due (b ∷ tagged_from tag (due_behind tag b) xs) (tagged_from tag (due_after tag (due_behind tag b) xs) ys))

pub due_append : (tag due xs ys : List ℕ) → due_after tag due (xs ++ ys) ≡ due_after tag (due_after tag due xs) ys
due_append tag due [] ys = refl
due_append tag due (b ∷ xs) ys = due_append tag (due_behind tag b) xs ys

inside : (tag : List ℕ) (b : ℕ) → (b == 10) ≡ false → due_behind tag b ≡ []
inside tag b isnt = rw isnt refl

ended : (tag : List ℕ) (b : ℕ) → (b == 10) ≡ true → due_behind tag b ≡ tag
ended tag b is = rw is refl

-- the rest of a line that is begun
line_rest : (tag text : List ℕ) → tagged_from tag [] (take (line_len text) text) ≡ take (line_len text) text
line_rest tag [] = refl
line_rest tag (b ∷ rest) = elim (eqb_tells b 10) [
  | inl (is, same) ↦ rw is refl
  | inr (isnt, other) ↦ rw isnt
      (ap (λ (z : List ℕ). b ∷ z) (ap (λ (due : List ℕ). tagged_from tag due (take (line_len rest) rest)) (inside tag b isnt)
      ∙ line_rest tag rest))
]

-- the first line
pub line_tagged : (tag due text : List ℕ) → 1 ≤ length text → tagged_from tag due (take (line_len text) text) ≡ due
    ++ take (line_len text) text
line_tagged tag due [] some = absurd (omega arith)
line_tagged tag due (b ∷ rest) some = elim (eqb_tells b 10) [
  | inl (is, same) ↦ rw is refl
  | inr (isnt, other) ↦ rw isnt
      (ap (λ (z : List ℕ). due ++ b ∷ z) (ap (λ (next : List ℕ). tagged_from tag next (take (line_len rest) rest)) (inside tag b isnt)
      ∙ line_rest tag rest))
]

due_rest : (tag text : List ℕ) → due_after tag [] (take (line_len text) text) ≡ (if has_end text then tag else [])
due_rest tag [] = refl
due_rest tag (b ∷ rest) = elim (eqb_tells b 10) [
  | inl (is, same) ↦ rw is (ended tag b is)
  | inr (isnt, other) ↦ rw isnt (ap (λ (next : List ℕ). due_after tag next (take (line_len rest) rest)) (inside tag b isnt)
      ∙ due_rest tag rest)
]

pub line_due : (tag due text : List ℕ) → 1 ≤ length text
    → due_after tag due (take (line_len text) text) ≡ (if has_end text then tag else [])
line_due tag due [] some = absurd (omega arith)
line_due tag due (b ∷ rest) some = elim (eqb_tells b 10) [
  | inl (is, same) ↦ rw is (ended tag b is)
  | inr (isnt, other) ↦ rw isnt (ap (λ (next : List ℕ). due_after tag next (take (line_len rest) rest)) (inside tag b isnt)
      ∙ due_rest tag rest)
]

pub line_some : (text : List ℕ) → 1 ≤ length text → 1 ≤ line_len text
line_some [] some = some
line_some (b ∷ rest) some = elim (eqb_tells b 10) [
  | inl (is, same) ↦ rw is (omega arith)
  | inr (isnt, other) ↦ rw isnt (omega arith)
]
