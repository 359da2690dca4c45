-- What a sink that compares has seen of a text.
use Rattle.std.proofs.Common.{◌≡◌, ℕ, Bool, true, false, not, List, [], ◌∷◌, ◌++◌, length, take, drop, get_or, Option, Some, None, Result, Ok, Err, refl, sym, ap, subst, ◌∙◌, arith, append_assoc, ◌⊎◌, inl, inr}
use Rattle.std.specs.Prelude.{◌==◌, ◌&&◌, is_some, IsSome, OnOk, OnErr}
use Rattle.std.specs.Str.{bytes_eq}
use Rattle.std.proofs.lemmas.Bool.{eqb-true}
use Rattle.std.proofs.lemmas.List.{append-nil, drop_at}
use Rattle.std.proofs.Math.Seq.{take-append_seam}
use Rattle.std.proofs.lemmas.Option.{same_Some}
use Rattle.pv_io.specs.declared.answer.Failed.{Failed}
use Rattle.pv_io.specs.Causes.{Rose}
use Rattle.pv_io.specs.Sink.{Appends, AppendsFront}
use Rattle.pv_io.proofs.Pieces.{appends_both, front_of}
use Rattle.trace_check.specs.Lines.{lines, differing}
use Rattle.trace_check.specs.Matches.{Matched, given_to, taken_by, IsMatched, DiffersAs}
use Rattle.trace_check.proofs.Differing.{none_differs, bytes_same}

-- a sink to which nothing was given
abbrev pub fresh_of : List ℕ → Matched
fresh_of text = record { text = text; at = 0; wrong = None; faults = 0 }

-- its text, and what was given
split_taken : (text text2 g rest : List ℕ) → length text2 ∷ (text2 ++ g) ≡ length text ∷ (text ++ rest) → (text2 ≡ text) × (g ≡ rest)
split_taken text text2 g rest h =
    let len : length text2 ≡ length text = ap (λ (l : List ℕ). get_or l 0 0) h in
    let all : text2 ++ g ≡ text ++ rest = ap (λ (l : List ℕ). drop 1 l) h in
    let front : text2 ≡ text = sym (take-append_seam text2 g) ∙ ap (λ (k : ℕ). take k (text2 ++ g)) len ∙ ap (take (length text)) all
    ∙ take-append_seam text rest in
    (front, sym (drop_at text2 g (length text) len) ∙ ap (drop (length text)) all ∙ drop_at text rest (length text) refl)

-- a whole was given, or a front of it with a byte that was wrong
pub record Known (text whole : List ℕ) (m : Matched) : Type 0 where
  pub text_is : m.text ≡ text
  pub rest : List ℕ
  pub given : given_to m ++ rest ≡ whole
  pub done : (rest ≡ []) ⊎ IsSome m.wrong

pub known_whole : (text whole : List ℕ) (m : Matched) → Appends (Some (taken_by (fresh_of text))) (Some (taken_by m)) whole
    → Known text whole m
known_whole text whole m h =
    let all : taken_by m ≡ length text ∷ ((text ++ []) ++ whole) = same_Some _ _ h in
    let both = split_taken text m.text (given_to m) whole (all ∙ ap (λ (l : List ℕ). length text ∷ (l ++ whole)) (append-nil text)) in
    record { text_is = both.0; rest = []; given = append-nil (given_to m) ∙ both.1; done = inl refl }

pub known_front : (text whole : List ℕ) (m : Matched) → AppendsFront (Some (taken_by (fresh_of text))) (Some (taken_by m)) whole
    → IsSome m.wrong → Known text whole m
known_front text whole m h wrong =
    let all : taken_by m ≡ length text ∷ ((text ++ []) ++ h.front) = same_Some _ _ h.taken in
    let both = split_taken text m.text (given_to m) h.front (all ∙ ap (λ (l : List ℕ). length text ∷ (l ++ h.front)) (append-nil text)) in
    record { text_is = both.0; rest = h.rest; given = ap (λ (l : List ℕ). l ++ h.rest) both.1 ∙ h.whole; done = inr wrong }

pub wrong_by : (m : Matched) (before : ℕ) → IsMatched m → Rose before m.faults → IsSome m.wrong
wrong_by m before h rose = h.failed (omega (arith, rose))

not_both : (o : Option ℕ) → o ≡ None → IsSome o → ⊥
not_both o none some = cc (ap is_some none, some)

all_of : (text whole : List ℕ) (m : Matched) → Known text whole m → given_to m ≡ m.text → m.wrong ≡ None → whole ≡ text
all_of text whole m k given none =
    elim k.done [
      | inl nothing ↦ sym k.given ∙ ap (λ (l : List ℕ). given_to m ++ l) nothing ∙ append-nil (given_to m) ∙ given ∙ k.text_is
      | inr some ↦ absurd (not_both m.wrong none some)
    ]

-- the difference that is reported is that of the whole
pub compared : (text whole : List ℕ) (m : Matched) (r : Option ℕ) → Known text whole m → DiffersAs m r
    → differing 1 (lines whole) (lines text) ≡ r
compared text whole m None k h =
    ap (λ (l : List ℕ). differing 1 (lines l) (lines text)) (all_of text whole m k h.0 h.1) ∙ none_differs 1 (lines text)
compared text whole m (Some line) k h =
    subst (λ (t : List ℕ). differing 1 (lines whole) (lines t) ≡ Some line) k.text_is (elim k.done [
      | inl nothing ↦
          let is : given_to m ≡ whole = sym (append-nil (given_to m)) ∙ ap (λ (l : List ℕ). given_to m ++ l) (sym nothing) ∙ k.given in
          subst (λ (g : List ℕ). differing 1 (lines g) (lines m.text) ≡ Some line) is h.here
      | inr some ↦ subst (λ (g : List ℕ). differing 1 (lines g) (lines m.text) ≡ Some line) k.given (h.behind some k.rest)
    ])

-- ---- a line that is compared

pub bytes_true : (a b : List ℕ) → bytes_eq a b ≡ true → a ≡ b
bytes_true [] [] h = refl
bytes_true [] (y ∷ b) h = absurd cc
bytes_true (x ∷ a) [] h = absurd cc
bytes_true (x ∷ a) (y ∷ b) h =
    let parts = both (x == y) (bytes_eq a b) h in
    let one : x ≡ y = eqb-true x y parts.0 in
    let rest : a ≡ b = bytes_true a b parts.1 in
    cc
  where
    both : (p q : Bool) → (p && q) ≡ true → (p ≡ true) × (q ≡ true)
    both true q e = (refl, e)
    both false q e = absurd cc

no_difference : (line : ℕ) → None ≡ Some line → ⊥
no_difference line h = cc

pub agrees : (text whole : List ℕ) (m : Matched) (r : Option ℕ) → Known text whole m → DiffersAs m r → not (is_some r) ≡ bytes_eq text whole
agrees text whole m None k h = sym (ap (bytes_eq text) (all_of text whole m k h.0 h.1) ∙ bytes_same text)
agrees text whole m (Some line) k h = by (bytes_eq text whole) refl
  where
    by : (b : Bool) → bytes_eq text whole ≡ b → false ≡ bytes_eq text whole
    by false e = sym e
    by true e =
        let same : text ≡ whole = bytes_true text whole e in
        absurd (no_difference line (sym (none_differs 1 (lines text)) ∙ ap (λ (l : List ℕ). differing 1 (lines l) (lines text)) same
        ∙ compared text whole m (Some line) k h))

-- one put
pub known_put : (text whole : List ℕ) (m : Matched) (r : Result (Unit {0}) Failed)
    → OnOk r (Appends (Some (taken_by (fresh_of text))) (Some (taken_by m)) whole)
    → OnErr r (AppendsFront (Some (taken_by (fresh_of text))) (Some (taken_by m)) whole)
    → OnErr r (Rose 0 m.faults) → IsMatched m → Known text whole m
known_put text whole m (Ok done) ok failed rose is = known_whole text whole m ok
known_put text whole m (Err e) ok failed rose is = known_front text whole m failed (wrong_by m 0 is rose)

-- two pieces, the second by a put
pub known_then : (text first second : List ℕ) (mid m : Matched) (r : Result (Unit {0}) Failed)
    → Appends (Some (taken_by (fresh_of text))) (Some (taken_by mid)) first
    → OnOk r (Appends (Some (taken_by mid)) (Some (taken_by m)) second)
    → OnErr r (AppendsFront (Some (taken_by mid)) (Some (taken_by m)) second)
    → OnErr r (Rose mid.faults m.faults) → IsMatched m → Known text (first ++ second) m
known_then text first second mid m (Ok done) before ok failed rose is = known_whole text (first ++ second) m
    (appends_both (Some (taken_by (fresh_of text))) (Some (taken_by mid)) (Some (taken_by m)) first second before ok)
known_then text first second mid m (Err e) before ok failed rose is =
    known_front text (first ++ second) m
    (front_of (Some (taken_by (fresh_of text))) (Some (taken_by mid)) (Some (taken_by m)) first second [] (first ++ second) before failed
    (ap (λ (l : List ℕ). first ++ l) (sym (append-nil second))))
    (wrong_by m mid.faults is rose)

-- ---- from a sink that is as new

pub put_from : (text whole : List ℕ) (first m : Matched) (r : Result (Unit {0}) Failed) → first ≡ fresh_of text
    → OnOk r (Appends (Some (taken_by first)) (Some (taken_by m)) whole)
    → OnErr r (AppendsFront (Some (taken_by first)) (Some (taken_by m)) whole)
    → OnErr r (Rose first.faults m.faults) → IsMatched m → Known text whole m
put_from text whole first m r is ok failed rose matched =
    known_put text whole m r
    (subst (λ (x : Matched). OnOk r (Appends (Some (taken_by x)) (Some (taken_by m)) whole)) is ok)
    (subst (λ (x : Matched). OnErr r (AppendsFront (Some (taken_by x)) (Some (taken_by m)) whole)) is failed)
    (subst (λ (x : Matched). OnErr r (Rose x.faults m.faults)) is rose) matched

pub whole_from : (text whole : List ℕ) (first m : Matched) → first ≡ fresh_of text → Appends (Some (taken_by first)) (Some (taken_by m))
    whole → Known text whole m
whole_from text whole first m is h =
    known_whole text whole m (subst (λ (x : Matched). Appends (Some (taken_by x)) (Some (taken_by m)) whole) is h)

pub then_from : (text first second : List ℕ) (start mid m : Matched) (r : Result (Unit {0}) Failed) → start ≡ fresh_of text
    → Appends (Some (taken_by start)) (Some (taken_by mid)) first
    → OnOk r (Appends (Some (taken_by mid)) (Some (taken_by m)) second)
    → OnErr r (AppendsFront (Some (taken_by mid)) (Some (taken_by m)) second)
    → OnErr r (Rose mid.faults m.faults) → IsMatched m → Known text (first ++ second) m
then_from text first second start mid m r is before ok failed rose matched =
    known_then text first second mid m r (subst (λ (x : Matched). Appends (Some (taken_by x)) (Some (taken_by mid)) first) is before)
    ok failed rose matched

-- a run whose text goes on after a failure
pub failed_from : (text front rest : List ℕ) (first m : Matched) → first ≡ fresh_of text
    → AppendsFront (Some (taken_by first)) (Some (taken_by m)) front → Rose first.faults m.faults → IsMatched m
    → Known text (front ++ rest) m
failed_from text front rest first m is h rose matched =
    let h = subst (λ (x : Matched). AppendsFront (Some (taken_by x)) (Some (taken_by m)) front) is h in
    known_front text (front ++ rest) m
    (record {
      front = h.front;
      rest = h.rest ++ rest;
      whole = sym (append_assoc h.front h.rest rest) ∙ ap (λ (l : List ℕ). l ++ rest) h.whole;
      taken = h.taken;
    }) (wrong_by m first.faults matched rose)

pub some_line : (text whole : List ℕ) (m : Matched) → Known text whole m → IsSome m.wrong → DiffersAs m None → ⊥
some_line text whole m k wrong h = not_both m.wrong h.1 wrong
