-- Where the places and sizes, the sweep and the end of a text are wrong.
use Rattle.std.proofs.Common.{◌≡◌, ◌≢◌, ℕ, ◌+◌, ◌<◌, ◌≤◌, Bool, true, false, not, ◌&&◌, ◌||◌, cond, List, [], ◌∷◌, length, drop, map, nat_lt, Option, Some, None, Result, Ok, Err, refl, sym, ap, ◌∙◌, inl, inr, ◌⊎◌, length-drop, arith}
use Rattle.std.specs.Prelude.{◌↔◌, ◌==◌, slice_index}
use Rattle.std.specs.Bool.{then_some}
use Rattle.std.proofs.lemmas.Bool.{cases_lt, and_parts, eqb-true, not-true, ltb-true, lt-ltb, false_from_ne_true, eq-eqb, both_ways}
use Rattle.std.proofs.lemmas.List.{drop_all}
use Rattle.std.proofs.lemmas.Bool.Decides.{nat_tests}
use Rattle.ia32_rows.specs.Spells.{AreBytes}
use Rattle.elf_form.specs.ImageParts.{ImageParts}
use Rattle.sites.specs.declared.limits.TheConstants.{TEXT_LIMIT}
use Rattle.image_check.specs.declared.fault.CheckCause.TheVariants.{TextPlace, InitPlace, TextSize, InitSize, EntryPlace}
use Rattle.image_check.specs.declared.piece.Piece.{Piece}
use Rattle.image_check.specs.Sweep.{Swept, sweep}
use Rattle.image_check.specs.Pieces.{is_refused, piece_of}
use Rattle.image_check.specs.Conditions.{text_place, init_place, text_size, init_size, entry_place, last_at, ends_at, text_end}
use Rattle.image_check.specs.Causes.{refused_stop, bad_stop, of_swept}
use Rattle.image_check.specs.Reasons.{MeetsNamed, MeetsOther, EndsOtherwise, IsWrong}
use Rattle.image_check.proofs.Refused.{named_is_refused, begins_refused}
use Rattle.image_check.proofs.SiteSteps.{next_of}
use Rattle.image_check.proofs.SweepLaws.{sweep_exact, stop_exact}

abbrev pub some : ℕ → Option ℕ
some n = Some n

-- ---- tests of a number or two

pub bad_so : (b : Bool) (place at : ℕ) → then_some b place ≡ Some at → (b ≡ true) × (at ≡ place)
bad_so true place at e = (refl, cc)
bad_so false place at e = absurd cc

pub so_bad : (b : Bool) (place at : ℕ) → b ≡ true → at ≡ place → then_some b place ≡ Some at
so_bad b place at e f = ap (λ c. then_some c place) e ∙ ap some (sym f)

not_equal : (m n : ℕ) → not (m == n) ≡ true → m ≢ n
not_equal m n e = grind (arith, nat_tests)

equal_not : (m n : ℕ) → m ≢ n → not (m == n) ≡ true
equal_not m n h = grind (arith, nat_tests)

none_or_many : (n limit : ℕ) → (n == 0 || nat_lt limit n) ≡ true → (n ≡ 0) ⊎ (limit < n)
none_or_many n limit e =
    elim (cases_lt limit n) [
      | inl lt ↦ inr lt
      | inr le ↦ inl (grind (arith, nat_tests))
    ]

so_none_or_many : (n limit : ℕ) → (n ≡ 0) ⊎ (limit < n) → (n == 0 || nat_lt limit n) ≡ true
so_none_or_many n limit (inl none) = grind (arith, nat_tests)
so_none_or_many n limit (inr many) = grind (arith, nat_tests)

before_or_behind : (n from to : ℕ) → (nat_lt n from || not (nat_lt n to)) ≡ true → (n < from) ⊎ (to ≤ n)
before_or_behind n from to e =
    elim (cases_lt n from) [
      | inl lt ↦ inl lt
      | inr le ↦ inr (grind (arith, nat_tests))
    ]

so_before_or_behind : (n from to : ℕ) → (n < from) ⊎ (to ≤ n) → (nat_lt n from || not (nat_lt n to)) ≡ true
so_before_or_behind n from to (inl before) = grind (arith, nat_tests)
so_before_or_behind n from to (inr behind) = grind (arith, nat_tests)

module _ (parts : ImageParts) (at : ℕ) where
  pub text_place_is : (text_place parts ≡ Some at) ↔ IsWrong TextPlace parts at
  text_place_is = (
    (λ e. let h = bad_so _ 0 at e in (not_equal parts.text_at 0x10000000 h.0, h.1)),
    (λ h. so_bad _ 0 at (equal_not parts.text_at 0x10000000 h.0) h.1),
  )

  pub init_place_is : (init_place parts ≡ Some at) ↔ IsWrong InitPlace parts at
  init_place_is = (
    (λ e. let h = bad_so _ 0 at e in (not_equal parts.init_at 0x11000000 h.0, h.1)),
    (λ h. so_bad _ 0 at (equal_not parts.init_at 0x11000000 h.0) h.1),
  )

  pub text_size_is : (text_size parts ≡ Some at) ↔ IsWrong TextSize parts at
  text_size_is = (
    (λ e. let h = bad_so _ 0 at e in (none_or_many (length parts.text) TEXT_LIMIT h.0, h.1)),
    (λ h. so_bad _ 0 at (so_none_or_many (length parts.text) TEXT_LIMIT h.0) h.1),
  )

  pub init_size_is : (init_size parts ≡ Some at) ↔ IsWrong InitSize parts at
  init_size_is = (
    (λ e. let h = bad_so _ 0 at e in (ltb-true 33554432 (length parts.init + parts.bss) h.0, h.1)),
    (λ h. so_bad _ 0 at (lt-ltb 33554432 (length parts.init + parts.bss) h.0) h.1),
  )

  pub entry_place_is : (entry_place parts ≡ Some at) ↔ IsWrong EntryPlace parts at
  entry_place_is = (
    (λ e. let h = bad_so _ 0 at e in (before_or_behind parts.entry 0x10000000 (0x10000000 + length parts.text) h.0, h.1)),
    (λ h. so_bad _ 0 at (so_before_or_behind parts.entry 0x10000000 (0x10000000 + length parts.text) h.0) h.1),
  )

-- ---- where the sweep stops

abbrev stopped : ℕ → Result (List Swept) ℕ
stopped at = Err at

named_so : (text : List ℕ) (r : Result (List Swept) ℕ) (at : ℕ) → refused_stop text r ≡ Some at → (r ≡ Err at)
    × (is_refused (drop at text) ≡ true)
named_so text (Ok swept) at e = absurd cc
named_so text (Err k) at e = by (is_refused (drop k text)) refl e where
  by : (b : Bool) → is_refused (drop k text) ≡ b → cond b (Some k) None ≡ some at → (stopped k ≡ stopped at)
      × (is_refused (drop at text) ≡ true)
  by true is e = let same : k ≡ at = cc in (ap stopped same, ap (λ n. is_refused (drop n text)) (sym same) ∙ is)
  by false is e = absurd cc

so_named : (text : List ℕ) (r : Result (List Swept) ℕ) (at : ℕ) → r ≡ Err at → is_refused (drop at text) ≡ true
    → refused_stop text r ≡ Some at
so_named text r at e is = ap (refused_stop text) e ∙ ap (λ b. cond b (Some at) None) is

other_so : (text : List ℕ) (r : Result (List Swept) ℕ) (at : ℕ) → bad_stop text r ≡ Some at → (r ≡ Err at)
    × (is_refused (drop at text) ≡ false)
other_so text (Ok swept) at e = absurd cc
other_so text (Err k) at e = by (is_refused (drop k text)) refl e where
  by : (b : Bool) → is_refused (drop k text) ≡ b → cond b None (Some k) ≡ some at → (stopped k ≡ stopped at)
      × (is_refused (drop at text) ≡ false)
  by false is e = let same : k ≡ at = cc in (ap stopped same, ap (λ n. is_refused (drop n text)) (sym same) ∙ is)
  by true is e = absurd cc

so_other : (text : List ℕ) (r : Result (List Swept) ℕ) (at : ℕ) → r ≡ Err at → is_refused (drop at text) ≡ false → bad_stop text r ≡ Some at
so_other text r at e is = ap (bad_stop text) e ∙ ap (λ b. cond b None (Some at)) is

module _ (text : List ℕ) (fit : AreBytes text) (at : ℕ) where
  pub refused_stop_is : (refused_stop text (sweep text) ≡ Some at) ↔ MeetsNamed text at
  refused_stop_is = (
    (λ e. let h = named_so text (sweep text) at e in let named = begins_refused (drop at text) h.1 in
        ((stop_exact text fit at).0 h.0, named.0, named.1)),
    (λ h. so_named text (sweep text) at ((stop_exact text fit at).1 h.0) (named_is_refused (drop at text) h.1 h.2)),
  )

  pub bad_stop_is : (bad_stop text (sweep text) ≡ Some at) ↔ MeetsOther text at
  bad_stop_is = (
    (λ e. let h = other_so text (sweep text) at e in (
      (stop_exact text fit at).0 h.0,
      (λ name begins. both_ways (is_refused (drop at text)) h.1 (named_is_refused (drop at text) name begins)),
    )),
    (λ h. so_other text (sweep text) at ((stop_exact text fit at).1 h.0)
        (false_from_ne_true (is_refused (drop at text)) (λ is. let named = begins_refused (drop at text) is in h.1 named.0 named.1))),
  )

-- ---- the end

abbrev front : ℕ → List ℕ → List ℕ
front b bs = b ∷ bs

all_three : {a b c : Bool} → a ≡ true → b ≡ true → c ≡ true → (a && b && c) ≡ true
all_three x y z = rw (x, y, z) refl

two_left : (text : List ℕ) (at : ℕ) → at + 2 ≡ length text → drop at text ≡ slice_index text at ∷ slice_index text (at + 1) ∷ []
two_left text at e =
    next_of text at 0 (omega arith)
    ∙ ap (front (slice_index text at))
    (next_of text (at + 1) 0 (omega arith) ∙ ap (front (slice_index text (at + 1))) (drop_all (at + 1 + 1) text (omega arith)))

ends_so : (text : List ℕ) (at : ℕ) → ends_at text at ≡ true → drop at text ≡ 0xEB ∷ 0xFE ∷ []
ends_so text at e =
    let h = and_parts (at + 2 == length text && slice_index text at == 0xEB) (slice_index text (at + 1) == 0xFE) e in
    let g = and_parts (at + 2 == length text) (slice_index text at == 0xEB) h.0 in
    two_left text at (eqb-true (at + 2) (length text) g.0)
    ∙ ap (λ b. b ∷ slice_index text (at + 1) ∷ []) (eqb-true (slice_index text at) 0xEB g.1)
    ∙ ap (λ b. 0xEB ∷ b ∷ []) (eqb-true (slice_index text (at + 1)) 0xFE h.1)

so_ends : (text : List ℕ) (at : ℕ) → drop at text ≡ 0xEB ∷ 0xFE ∷ [] → ends_at text at ≡ true
so_ends text at e =
    let long : length (drop at text) ≡ 2 = ap length e in
    let len : at + 2 ≡ length text = omega (arith, long, length-drop at text) in
    let same : slice_index text at ∷ slice_index text (at + 1) ∷ [] ≡ 0xEB ∷ 0xFE ∷ [] = sym (two_left text at len) ∙ e in
    let first : slice_index text at ≡ 0xEB = ap (λ (bs : List ℕ). slice_index bs 0) same in
    let second : slice_index text (at + 1) ≡ 0xFE = ap (λ (bs : List ℕ). slice_index bs 1) same in
    all_three (eq-eqb (at + 2) (length text) len) (eq-eqb (slice_index text at) 0xEB first) (eq-eqb (slice_index text (at + 1)) 0xFE second)

swept_so : (r : Result (List Swept) ℕ) (f : List Piece → Option ℕ) (at : ℕ) → of_swept r f ≡ Some at → (swept : List Swept) × (r ≡ Ok swept)
    × (f (map piece_of swept) ≡ Some at)
swept_so (Ok swept) f at e = (swept, refl, e)
swept_so (Err k) f at e = absurd cc

module _ (text : List ℕ) (fit : AreBytes text) (at : ℕ) where
  pub text_end_so : of_swept (sweep text) (text_end text) ≡ Some at → EndsOtherwise text at
  text_end_so e =
      let s = swept_so (sweep text) (text_end text) at e in
      let h = bad_so _ (last_at (map piece_of s.0)) at s.2 in
      record {
        swept = s.0;
        sweep = (sweep_exact text fit s.0).0 s.1;
        last = h.1;
        other =
            λ is. both_ways (ends_at text (last_at (map piece_of s.0))) (not-true _ h.0) (ap (ends_at text) (sym h.1) ∙ so_ends text at is);
      }

  pub so_text_end : EndsOtherwise text at → of_swept (sweep text) (text_end text) ≡ Some at
  so_text_end h =
      ap (λ (r : Result (List Swept) ℕ). of_swept r (text_end text)) ((sweep_exact text fit h.swept).1 h.sweep)
      ∙ so_bad (not (ends_at text (last_at (map piece_of h.swept)))) (last_at (map piece_of h.swept)) at
      (ap not (false_from_ne_true (ends_at text (last_at (map piece_of h.swept)))
      (λ is. h.other (ends_so text at (ap (ends_at text) h.last ∙ is))))) h.last
