-- Notes of the steps before which all translations were dropped, as they are reported one after the other.
use Rattle.std.proofs.Common.{◌≡◌, ℕ, ◌+◌, ◌≤◌, ◌<◌, Bool, true, false, ◌==◌, ◌||◌, cond, nat_le, List, [], ◌∷◌, ◌++◌, length, refl, sym, ap, subst, ◌∙◌, inl, inr, arith, length-append}
use Rattle.std.specs.List.{list_any, filter, All}
use Rattle.std.proofs.lemmas.Bool.Decides.{eqb_tells}
use Rattle.std.proofs.lemmas.List.Elements.{All-nil, All-cons, All-head, All-tail, All-append, All-weaker, filter-append}
use Rattle.std.proofs.lemmas.List.Folds.{list_any-append}
use Rattle.std.proofs.lemmas.Bool.{and_from, and_parts, le-leb, ne_eqb}
use Rattle.run_trace.specs.Notes.{Note, emptied_at, dropped_at}
use Rattle.machine_model.specs.Run.{Set}
use Rattle.machine_model.specs.Notes.{step_in, is_emptied, is_dropped, without, set_told, is_ordered, IsPage}
use Rattle.wedge_core.specs.Noted.{emptied_if}
use Rattle.wedge_step.specs.Parts.{left_of}

-- of an emptying, before a step up to this one
abbrev pub IsUpTo : ℕ → Note → Type 0
IsUpTo n (emptied_at step) = step ≤ n
IsUpTo n (dropped_at step page) = ⊥

-- how many notes are of this step
abbrev pub notes_of : ℕ → List Note → ℕ
notes_of step notes = length (filter (λ (note : Note). step_in note == step) notes)

-- Of emptyings before steps up to the next one the notes stand in order, and at most two are of one step, and at most one
-- of the next.
pub record SoFar (first now : ℕ) (notes : List Note) : Type 0 where
  pub ordered : is_ordered first notes ≡ true
  pub until : All (IsUpTo now) notes
  pub few : (step : ℕ) → notes_of step notes ≤ 2
  pub next : notes_of now notes ≤ 1

-- the same where the next step was tried
pub record TriedNotes (first now : ℕ) (notes : List Note) : Type 0 where
  pub ordered : is_ordered first notes ≡ true
  pub until : All (IsUpTo now) notes
  pub few : (step : ℕ) → notes_of step notes ≤ 2

later_note : (n k : ℕ) → n ≤ k → (note : Note) → IsUpTo n note → IsUpTo k note
later_note n k le (emptied_at step) h = omega (arith, le, h)
later_note n k le (dropped_at step page) h = absurd h

pub up_to_later : (n k : ℕ) (notes : List Note) → n ≤ k → All (IsUpTo n) notes → All (IsUpTo k) notes
up_to_later n k notes le h = All-weaker (IsUpTo n) (IsUpTo k) (later_note n k le) notes h

-- ---- one more note, at its end

up_to_if : (b : Bool) (n : ℕ) → All (IsUpTo n) (emptied_if b n)
up_to_if true n = All-cons (IsUpTo n) (emptied_at n) [] (omega arith) (All-nil (IsUpTo n))
up_to_if false n = All-nil (IsUpTo n)

pub up_to_more : (b : Bool) (n : ℕ) (notes : List Note) → All (IsUpTo n) notes → All (IsUpTo n) (notes ++ emptied_if b n)
up_to_more b n notes h = All-append (IsUpTo n) notes (emptied_if b n) h (up_to_if b n)

low_first : (b : Bool) (low n : ℕ) → low ≤ n → is_ordered low (emptied_if b n) ≡ true
low_first true low n le = and_from (nat_le low n) true (le-leb low n le) refl
low_first false low n le = refl

step_up_to : (n : ℕ) (note : Note) → IsUpTo n note → step_in note ≤ n
step_up_to n (emptied_at step) h = h
step_up_to n (dropped_at step page) h = absurd h

ordered_more : (b : Bool) (low n : ℕ) (notes : List Note) → low ≤ n → All (IsUpTo n) notes → is_ordered low notes ≡ true
    → is_ordered low (notes ++ emptied_if b n) ≡ true
ordered_more b low n [] le up h = low_first b low n le
ordered_more b low n (x ∷ xs) le up h =
    and_from (nat_le low (step_in x)) (is_ordered (step_in x) (xs ++ emptied_if b n))
    (and_parts (nat_le low (step_in x)) (is_ordered (step_in x) xs) h).0
    (ordered_more b (step_in x) n xs (step_up_to n x (All-head (IsUpTo n) x xs up)) (All-tail (IsUpTo n) x xs up)
    (and_parts (nat_le low (step_in x)) (is_ordered (step_in x) xs) h).1)

-- ---- how many there are of a step

count_join : (s : ℕ) (xs ys : List Note) → notes_of s (xs ++ ys) ≡ notes_of s xs + notes_of s ys
count_join s xs ys =
    let p = λ (note : Note). step_in note == s in
    ap (λ (l : List Note). length l) (filter-append p xs ys) ∙ length-append (filter p xs) (filter p ys)

count_if : (b : Bool) (s n : ℕ) → notes_of s (emptied_if b n) ≤ 1
count_if true s n =
    elim (eqb_tells n s) [
      | inl e ↦ let is : notes_of s (emptied_at n ∷ []) ≡ 1 =
          ap (λ (x : Bool). length (cond {A = List Note} x (emptied_at n ∷ []) [])) e.0 in omega (arith, is)
      | inr o ↦ let is : notes_of s (emptied_at n ∷ []) ≡ 0 =
          ap (λ (x : Bool). length (cond {A = List Note} x (emptied_at n ∷ []) [])) o.0 in omega (arith, is)
    ]
count_if false s n = omega arith

not_equal : (a b : ℕ) → a < b → (a == b) ≡ false
not_equal a b lt = ne_eqb a b (λ e. omega (arith, e, lt))

not_same : (a b : ℕ) → b < a → (a == b) ≡ false
not_same a b lt = ne_eqb a b (λ e. omega (arith, e, lt))

count_other : (b : Bool) (s n : ℕ) → (n == s) ≡ false → notes_of s (emptied_if b n) ≡ 0
count_other true s n o = ap (λ (x : Bool). length (cond {A = List Note} x (emptied_at n ∷ []) [])) o
count_other false s n o = refl

-- none is of a later step
none_above : (n s : ℕ) (notes : List Note) → n < s → All (IsUpTo n) notes → notes_of s notes ≡ 0
none_above n s [] lt h = refl
none_above n s (x ∷ xs) lt h =
    let le = step_up_to n x (All-head (IsUpTo n) x xs h) in
    ap (λ (b : Bool). length
    (cond {A = List Note} b (x ∷ filter (λ (note : Note). step_in note == s) xs) (filter (λ (note : Note). step_in note == s) xs)))
    (not_equal (step_in x) s (omega (arith, le, lt)))
    ∙ none_above n s xs lt (All-tail (IsUpTo n) x xs h)

pub none_yet : (first : ℕ) → SoFar first first []
none_yet first = record { ordered = refl; until = All-nil (IsUpTo first); few = λ step. omega arith; next = omega arith }

-- a step is tried
pub try_next : (b : Bool) (first now : ℕ) (notes : List Note) → first ≤ now → SoFar first now notes
    → TriedNotes first now (notes ++ emptied_if b now)
try_next b first now notes le h = record {
  ordered = ordered_more b first now notes le h.until h.ordered;
  until = up_to_more b now notes h.until;
  few = λ step.
      let join = count_join step notes (emptied_if b now) in
      let few = h.few step in
      elim (eqb_tells now step) [
        | inl e ↦
            let one = count_if b step now in
            let next : notes_of step notes ≤ 1 = subst (λ (s : ℕ). notes_of s notes ≤ 1) e.1 h.next in
            omega (arith, join, one, next)
        | inr o ↦ let none = count_other b step now o.0 in omega (arith, join, none, few)
      ];
}

-- and went
pub go_next : (b : Bool) (first now : ℕ) (notes : List Note) → first ≤ now → TriedNotes first now notes
    → SoFar first (now + 1) (notes ++ emptied_if b (now + 1))
go_next b first now notes le h =
    let up = up_to_later now (now + 1) notes (omega arith) h.until in
    let above = none_above now (now + 1) notes (omega arith) h.until in
    record {
      ordered = ordered_more b first (now + 1) notes (omega (arith, le)) up h.ordered;
      until = up_to_more b (now + 1) notes up;
      few = λ step.
          let join = count_join step notes (emptied_if b (now + 1)) in
          let few = h.few step in
          elim (eqb_tells (now + 1) step) [
            | inl e ↦
                let one = count_if b step (now + 1) in
                let none : notes_of step notes ≡ 0 = subst (λ (s : ℕ). notes_of s notes ≡ 0) e.1 above in
                omega (arith, join, one, none)
            | inr o ↦ let none = count_other b step (now + 1) o.0 in omega (arith, join, none, few)
          ];
      next = (let join = count_join (now + 1) notes (emptied_if b (now + 1)) in let one = count_if b (now + 1) (now + 1) in
          omega (arith, join, one, above));
    }

-- nothing is reported of some steps
pub so_far_later : (first now later : ℕ) (notes : List Note) → now < later → SoFar first now notes → SoFar first later notes
so_far_later first now later notes lt h = record {
  ordered = h.ordered;
  until = up_to_later now later notes (omega (arith, lt)) h.until;
  few = h.few;
  next = (let none = none_above now later notes lt h.until in omega (arith, none));
}

pub tried_none : (first now : ℕ) (notes : List Note) → SoFar first now notes → TriedNotes first now notes
tried_none first now notes h = record { ordered = h.ordered; until = h.until; few = h.few }

-- ---- no page is reported alone

no_pages : (n s page : ℕ) (notes : List Note) → All (IsUpTo n) notes → filter (is_dropped s page) notes ≡ []
no_pages n s page [] h = refl
no_pages n s page (emptied_at step ∷ xs) h = no_pages n s page xs (All-tail (IsUpTo n) (emptied_at step) xs h)
no_pages n s page (dropped_at step q ∷ xs) h = absurd (All-head (IsUpTo n) (dropped_at step q) xs h)

pub none_dropped : (n s page : ℕ) (notes : List Note) → All (IsUpTo n) notes → list_any (is_dropped s page) notes ≡ false
none_dropped n s page [] h = refl
none_dropped n s page (emptied_at step ∷ xs) h = none_dropped n s page xs (All-tail (IsUpTo n) (emptied_at step) xs h)
none_dropped n s page (dropped_at step q ∷ xs) h = absurd (All-head (IsUpTo n) (dropped_at step q) xs h)

pub dropped_once : (n s page : ℕ) (notes : List Note) → All (IsUpTo n) notes → length (filter (is_dropped s page) notes) ≤ 1
dropped_once n s page notes h = let e = ap (λ (l : List Note). length l) (no_pages n s page notes h) in omega (arith, e)

note_page : (n : ℕ) (note : Note) → IsUpTo n note → IsPage note
note_page n (emptied_at step) h = tt
note_page n (dropped_at step page) h = absurd h

pub are_pages : (n : ℕ) (notes : List Note) → All (IsUpTo n) notes → All IsPage notes
are_pages n notes h = All-weaker (IsUpTo n) IsPage (note_page n) notes h

pub steps_until : (n : ℕ) (notes : List Note) → All (IsUpTo n) notes → All (λ (note : Note). step_in note ≤ n) notes
steps_until n notes h = All-weaker (IsUpTo n) (λ (note : Note). step_in note ≤ n) (step_up_to n) notes h

-- ---- what they report of a set

-- without single pages a set stays or is empty
without_none : (n s : ℕ) (set : Set) (notes : List Note) → All (IsUpTo n) notes → without s set notes ≡ set
without_none n s set [] h = refl
without_none n s set (emptied_at step ∷ xs) h = without_none n s set xs (All-tail (IsUpTo n) (emptied_at step) xs h)
without_none n s set (dropped_at step page ∷ xs) h = absurd (All-head (IsUpTo n) (dropped_at step page) xs h)

pub told_is : (n s : ℕ) (set : Set) (notes : List Note) → All (IsUpTo n) notes
    → set_told notes s set ≡ left_of (list_any (is_emptied s) notes) set
told_is n s set notes h = ap (λ (x : Set). left_of (list_any (is_emptied s) notes) x) (without_none n s set notes h)

none_emptied : (n s : ℕ) (notes : List Note) → n < s → All (IsUpTo n) notes → list_any (is_emptied s) notes ≡ false
none_emptied n s [] lt h = refl
none_emptied n s (emptied_at step ∷ xs) lt h =
    let le : step ≤ n = All-head (IsUpTo n) (emptied_at step) xs h in
    ap (λ (b : Bool). b || list_any (is_emptied s) xs) (not_equal step s (omega (arith, le, lt)))
    ∙ none_emptied n s xs lt (All-tail (IsUpTo n) (emptied_at step) xs h)
none_emptied n s (dropped_at step page ∷ xs) lt h = absurd (All-head (IsUpTo n) (dropped_at step page) xs h)

-- of a later step nothing was reported yet
pub told_none : (n s : ℕ) (set : Set) (notes : List Note) → n < s → All (IsUpTo n) notes → set_told notes s set ≡ set
told_none n s set notes lt h = told_is n s set notes h ∙ ap (λ (b : Bool). left_of b set) (none_emptied n s notes lt h)

any_if : (b : Bool) (n : ℕ) → list_any (is_emptied n) (emptied_if b n) ≡ b
any_if true n = elim (eqb_tells n n) [ inl e ↦ ap (λ (x : Bool). x || false) e.0 | inr o ↦ absurd (o.1 refl) ]
any_if false n = refl

any_other : (b : Bool) (s n : ℕ) → s < n → list_any (is_emptied s) (emptied_if b n) ≡ false
any_other true s n lt = ap (λ (x : Bool). x || false) (not_same n s lt)
any_other false s n lt = refl

left_either : (a b : Bool) (set : Set) → left_of (a || b) set ≡ left_of b (left_of a set)
left_either true true set = refl
left_either true false set = refl
left_either false b set = refl

-- of the next step one more thing is reported
pub told_more : (b : Bool) (n : ℕ) (set : Set) (notes : List Note) → All (IsUpTo n) notes
    → set_told (notes ++ emptied_if b n) n set ≡ left_of b (set_told notes n set)
told_more b n set notes h =
    told_is n n set (notes ++ emptied_if b n) (up_to_more b n notes h)
    ∙ (ap (λ (x : Bool). left_of x set)
    (list_any-append (is_emptied n) notes (emptied_if b n) ∙ ap (λ (x : Bool). list_any (is_emptied n) notes || x) (any_if b n))
    ∙ (left_either (list_any (is_emptied n) notes) b set ∙ ap (left_of b) (sym (told_is n n set notes h))))

or_none : (a b : Bool) → b ≡ false → (a || b) ≡ a
or_none true b h = refl
or_none false b h = h

-- which says nothing of those before
pub told_before : (b : Bool) (n s : ℕ) (set : Set) (notes : List Note) → s < n → All (IsUpTo n) notes
    → set_told (notes ++ emptied_if b n) s set ≡ set_told notes s set
told_before b n s set notes lt h =
    told_is n s set (notes ++ emptied_if b n) (up_to_more b n notes h)
    ∙ (ap (λ (x : Bool). left_of x set) (list_any-append (is_emptied s) notes (emptied_if b n) ∙ or_none (list_any (is_emptied s) notes)
    (list_any (is_emptied s) (emptied_if b n)) (any_other b s n lt))
    ∙ sym (told_is n s set notes h))
