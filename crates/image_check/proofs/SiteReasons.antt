-- Where the annotations and the sites of a text differ, or a sensitive instruction lacks its NOPs.
use Rattle.std.proofs.Common.{◌≡◌, ◌≢◌, ℕ, ◌≤◌, false, cond, min, List, [], ◌∷◌, ◌++◌, map, Option, Some, None, refl, sym, ap, ◌∙◌, inl, inr, ◌⊎◌, arith}
use Rattle.std.proofs.lemmas.Bool.{cases_lt, le-ltb, lt-ltb, cases_Bool, false_from_ne_true, both_ways}
use Rattle.elf_form.specs.Faults.{◌or_lower◌}
use Rattle.sites.specs.declared.site.Site.{Site}
use Rattle.image_check.specs.Sweep.{Swept}
use Rattle.image_check.specs.Pieces.{piece_of}
use Rattle.image_check.specs.TextSites.{is_same, differ, found_in}
use Rattle.image_check.specs.Conditions.{site_wrong}
use Rattle.image_check.specs.Reasons.{NextDiffer, FirstDiffer, IsWrongAt}
use Rattle.elf_form.specs.Order.{IsLowest}
use Rattle.image_check.proofs.Acceptance.{same_site, is_itself}
use Rattle.image_check.proofs.PlaceReasons.{some}

-- ---- two lists of sites

is_same_not : (s t : Site) → is_same s t ≡ false → s ≢ t
is_same_not s t differs same = both_ways (is_same s t) differs (ap (is_same s) (sym same) ∙ is_itself s)

not_is_same : (s t : Site) → s ≢ t → is_same s t ≡ false
not_is_same s t h = false_from_ne_true (is_same s t) (λ e. h (same_site s t e))

abbrev join : Site → List Site → List Site
join s ss = s ∷ ss

differ_so : (a b : List Site) (at : ℕ) → differ a b ≡ Some at → FirstDiffer a b at
unfolding differ
differ_so [] [] at e = absurd cc
differ_so [] (t ∷ ts) at e = record { both = []; rest_a = []; rest_b = t ∷ ts; first = refl; second = refl; differ = cc }
differ_so (s ∷ ss) [] at e = record { both = []; rest_a = s ∷ ss; rest_b = []; first = refl; second = refl; differ = cc }
differ_so (s ∷ ss) (t ∷ ts) at e =
    elim (cases_Bool (is_same s t)) [
      | inl is ↦
          let more = differ_so ss ts at (sym (ap (λ b. cond b (differ ss ts) (Some (min s.at t.at))) is) ∙ e) in
          record {
            both = s ∷ more.both;
            rest_a = more.rest_a;
            rest_b = more.rest_b;
            first = ap (join s) more.first;
            second = ap (λ (u : Site). u ∷ ts) (sym (same_site s t is)) ∙ ap (join s) more.second;
            differ = more.differ;
          }
      | inr differs ↦
          let e' : some (min s.at t.at) ≡ Some at = sym (ap (λ b. cond b (differ ss ts) (Some (min s.at t.at))) differs) ∙ e in
          record { both = []; rest_a = s ∷ ss; rest_b = t ∷ ts; first = refl; second = refl; differ = (is_same_not s t differs, cc) }
    ]

next_so : (a b : List Site) (at : ℕ) → NextDiffer a b at → differ a b ≡ Some at
unfolding differ
next_so [] [] at h = absurd h
next_so [] (t ∷ ts) at h = ap some (sym h)
next_so (s ∷ ss) [] at h = ap some (sym h)
next_so (s ∷ ss) (t ∷ ts) at h = ap (λ b. cond b (differ ss ts) (Some (min s.at t.at))) (not_is_same s t h.0) ∙ ap some (sym h.1)

behind_both : (both a b : List Site) → differ (both ++ a) (both ++ b) ≡ differ a b
unfolding differ
behind_both [] a b = refl
behind_both (s ∷ ss) a b = ap (λ c. cond c (differ (ss ++ a) (ss ++ b)) (Some (min s.at s.at))) (is_itself s) ∙ behind_both ss a b

so_differ : (a b : List Site) (at : ℕ) → FirstDiffer a b at → differ a b ≡ Some at
so_differ a b at h = rw (h.first, h.second) (behind_both h.both h.rest_a h.rest_b ∙ next_so h.rest_a h.rest_b at h.differ)

lower_of : (a b : ℕ) → ((((some a) or_lower (some b)) ≡ some a) × (a ≤ b)) ⊎ ((((some a) or_lower (some b)) ≡ some b) × (b ≤ a))
lower_of a b =
    elim (cases_lt b a) [
      | inl lt ↦ inr (ap (λ c. cond c (some b) (some a)) (lt-ltb b a lt), omega (arith, lt))
      | inr le ↦ inl (ap (λ c. cond c (some b) (some a)) (le-ltb b a le), le)
    ]

some_same : {a b : ℕ} → some a ≡ some b → a ≡ b
some_same e = cc

abbrev EitherIs : Option ℕ → Option ℕ → ℕ → Type 0
EitherIs a b at = (a ≡ Some at) ⊎ (b ≡ Some at)

lower_so : (a b : Option ℕ) (at : ℕ) → (a or_lower b) ≡ Some at → IsLowest (EitherIs a b) at
lower_so None None at e = absurd cc
lower_so None (Some b) at e = let same : b ≡ at =
    cc in (inr e, λ k h. elim h [ inl is ↦ absurd cc | inr is ↦ let other : b ≡ k = cc in omega (arith, same, other) ])
lower_so (Some a) None at e = let same : a ≡ at =
    cc in (inl e, λ k h. elim h [ inl is ↦ let other : a ≡ k = cc in omega (arith, same, other) | inr is ↦ absurd cc ])
lower_so (Some a) (Some b) at e =
    elim (lower_of a b) [
      | inl first ↦
          let same : a ≡ at = some_same (sym first.0 ∙ e) in (
            inl (ap some same),
            λ k h. elim h [
              | inl is ↦ let other : a ≡ k = cc in omega (arith, same, other)
              | inr is ↦ let other : b ≡ k = cc in let le = first.1 in omega (arith, same, other, le)
            ],
          )
      | inr second ↦
          let same : b ≡ at = some_same (sym second.0 ∙ e) in (
            inr (ap some same),
            λ k h. elim h [
              | inl is ↦ let other : a ≡ k = cc in let le = second.1 in omega (arith, same, other, le)
              | inr is ↦ let other : b ≡ k = cc in omega (arith, same, other)
            ],
          )
    ]

so_lower : (a b : Option ℕ) (at : ℕ) → IsLowest (EitherIs a b) at → (a or_lower b) ≡ Some at
so_lower None None at h = elim h.0 [ inl is ↦ is | inr is ↦ is ]
so_lower None (Some b) at h = elim h.0 [ inl is ↦ absurd cc | inr is ↦ is ]
so_lower (Some a) None at h = elim h.0 [ inl is ↦ is | inr is ↦ absurd cc ]
so_lower (Some a) (Some b) at h =
    let to_a : at ≤ a = h.1 a (inl refl) in
    let to_b : at ≤ b = h.1 b (inr refl) in
    elim h.0 [
      | inl is ↦ let same : a ≡ at = cc in elim (lower_of a b) [
        | inl first ↦ first.0 ∙ ap some same
        | inr second ↦ let le = second.1 in second.0 ∙ ap some (omega (arith, to_b, le, same))
      ]
      | inr is ↦ let same : b ≡ at = cc in elim (lower_of a b) [
        | inl first ↦ let le = first.1 in first.0 ∙ ap some (omega (arith, to_a, le, same))
        | inr second ↦ second.0 ∙ ap some same
      ]
    ]

module _ (swept : List Swept) (sites : List Site) (at : ℕ) where
  -- a list of causes by options, and by relations
  as_options : (k : ℕ) → IsWrongAt swept sites k → EitherIs (found_in (map piece_of swept)).lacking
      (differ sites (found_in (map piece_of swept)).sites) k
  as_options k (inl lacks) = inl lacks
  as_options k (inr differs) = inr (so_differ sites (found_in (map piece_of swept)).sites k differs)

  of_options : (k : ℕ) → EitherIs (found_in (map piece_of swept)).lacking (differ sites (found_in (map piece_of swept)).sites) k
      → IsWrongAt swept sites k
  of_options k (inl lacks) = inl lacks
  of_options k (inr differs) = inr (differ_so sites (found_in (map piece_of swept)).sites k differs)

  pub site_wrong_so : site_wrong sites (map piece_of swept) ≡ Some at → IsLowest (IsWrongAt swept sites) at
  site_wrong_so e =
      let h = lower_so (found_in (map piece_of swept)).lacking (differ sites (found_in (map piece_of swept)).sites) at e in
      (of_options at h.0, λ k is. h.1 k (as_options k is))

  pub so_site_wrong : IsLowest (IsWrongAt swept sites) at → site_wrong sites (map piece_of swept) ≡ Some at
  so_site_wrong h = so_lower (found_in (map piece_of swept)).lacking (differ sites (found_in (map piece_of swept)).sites) at
      (as_options at h.0, λ k is. h.1 k (of_options k is))
