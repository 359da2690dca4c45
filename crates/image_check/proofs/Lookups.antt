-- The search for the site of an offset, in halves.
use Rattle.std.proofs.Common.{◌≡◌, ℕ, zero, suc, ◌+◌, ◌<◌, ◌≤◌, Bool, true, false, cond, Option, List, [], ◌∷◌, length, get_or, Some, None, refl, sym, ap, subst, ◌∙◌, inl, inr, arith}
use Rattle.std.specs.Prelude.{IsTrue, ◌↔◌}
use Rattle.std.specs.List.{Contains}
use Rattle.std.proofs.lemmas.Bool.{cases_lt}
use Rattle.std.proofs.lemmas.List.{get_or_default}
use Rattle.std.proofs.lemmas.List.Elements.{Contains-get_or}
use Rattle.sites.specs.declared.site.Site.{Site}
use Rattle.image_check.specs.declared.place.AtOffset.TheVariants.{NotAStart, Outside, Inside}
use Rattle.image_check.specs.Image.{Image}
use Rattle.image_check.specs.Sweep.{starts_of}
use Rattle.image_check.specs.Layout.{AreApart}
use Rattle.image_check.specs.Places.{is_start}
use Rattle.image_check.specs.Standing.{site_at, by_site, place_of}
use Rattle.image_check.proofs.Laid.{apart_bounds}
use Rattle.image_check.proofs.Layouts.{start_exact, listed_site, around_none}

-- of two sites the first ends before the second
ordered : (from : ℕ) (sites : List Site) (to : ℕ) → AreApart from sites to → (i j : ℕ) (d : Site) → i < j → j < length sites
    → (get_or sites i d).at + (get_or sites i d).total ≤ (get_or sites j d).at
ordered from [] to h i j d lt in_it = absurd (omega arith)
ordered from (s ∷ sites) to h i zero d lt in_it = absurd (omega arith)
ordered from (s ∷ sites) to h zero (suc j) d lt in_it =
    (apart_bounds (s.at + s.total) sites to h.2 (get_or sites j d) (Contains-get_or sites j d (omega arith))).0
ordered from (s ∷ sites) to h (suc i) (suc j) d lt in_it = ordered (s.at + s.total) sites to h.2 i j d (omega arith) (omega arith)

-- Sites before one place end before the offset, and those from another on begin after it.
pub record IsSought (sites : List Site) (at low high : ℕ) : Type 0 where
  pub below : (k : ℕ) (d : Site) → k < low → (get_or sites k d).at + (get_or sites k d).total ≤ at
  pub above : (k : ℕ) (d : Site) → high ≤ k → k < length sites → at < (get_or sites k d).at
  pub within : high ≤ length sites

pub sought_first : (sites : List Site) (at : ℕ) → IsSought sites at 0 (length sites)
sought_first sites at = record { below = λ k d lt. absurd (omega arith); above = λ k d le lt. absurd (omega arith); within = omega arith }

module _ (sites : List Site) (to at low high middle : ℕ) (h : AreApart 0 sites to) (sought : IsSought sites at low high)
    (lt : middle < high) where
  in_list : middle < length sites
  in_list = let within = sought.within in omega (arith, within)

  pub sought_left : (s : Site) → s ≡ get_or sites middle s → at < s.at → IsSought sites at low middle
  sought_left s e before = record {
    below = sought.below;
    above = λ k d le in_it. elim (cases_lt middle k) [
      | inl later ↦
          let one = ordered 0 sites to h middle k d later in_it in
          let there : s.at ≡ (get_or sites middle d).at = ap (λ (t : Site). t.at) (e ∙ get_or_default sites middle s d in_list) in
          omega (arith, one, before, there)
      | inr not ↦
          let same : middle ≡ k = omega (arith, le, not) in
          let there : s.at ≡ (get_or sites k d).at =
          ap (λ (t : Site). t.at) (e ∙ get_or_default sites middle s d in_list ∙ ap (λ j. get_or sites j d) same) in
          omega (arith, before, there)
    ];
    within = omega (arith, in_list);
  }

  pub sought_right : (s : Site) → s ≡ get_or sites middle s → s.at + s.total ≤ at → IsSought sites at (middle + 1) high
  sought_right s e behind = record {
    below = λ k d le. elim (cases_lt k middle) [
      | inl before ↦
          let one = ordered 0 sites to h k middle d before in_list in
          let there : s.at ≡ (get_or sites middle d).at = ap (λ (t : Site). t.at) (e ∙ get_or_default sites middle s d in_list) in
          omega (arith, one, behind, there)
      | inr not ↦
          let same : middle ≡ k = omega (arith, le, not) in
          subst (λ (t : Site). t.at + t.total ≤ at) (e ∙ get_or_default sites middle s d in_list ∙ ap (λ j. get_or sites j d) same) behind
    ];
    above = sought.above;
    within = sought.within;
  }

  pub sought_found : (s : Site) → s ≡ get_or sites middle s → s.at ≤ at → at < s.at + s.total → site_at sites at ≡ Some s
  sought_found s e le before = listed_site 0 at sites to h s (middle, in_list, sym e) le before

pub sought_none : (sites : List Site) (at low high : ℕ) → IsSought sites at low high → high ≤ low → site_at sites at ≡ None
sought_none sites at low high sought le =
    around_none at sites (λ site c. elim (cases_lt c.0 low) [
      | inl before ↦ inr (subst (λ (t : Site). t.at + t.total ≤ at) c.2 (sought.below c.0 site before))
      | inr behind ↦ inl (subst (λ (t : Site). at < t.at) c.2 (sought.above c.0 site (omega (arith, behind)) c.1))
    ])

-- ---- what stands at an offset

pub start_test : (text : List ℕ) (at : ℕ) (b : Bool) → (IsTrue b ↔ Contains (starts_of text) at) → b ≡ is_start text at
start_test text at true h = sym ((start_exact text at).1 (h.0 refl))
start_test text at false h = by_value (is_start text at) refl where
  by_value : (c : Bool) → is_start text at ≡ c → false ≡ c
  by_value true e = h.1 ((start_exact text at).0 e)
  by_value false e = refl

module _ (image : Image) (at : ℕ) (b : Bool) where
  pub place_not : b ≡ is_start image.text at → b ≡ false → NotAStart ≡ place_of image at
  place_not start e = by_value b start e where
    by_value : (c : Bool) → c ≡ is_start image.text at → c ≡ false → NotAStart ≡ place_of image at
    by_value true is f = absurd cc
    by_value false is f = ap (λ t. cond t (by_site (site_at image.sites at)) NotAStart) is

  begun_place : b ≡ is_start image.text at → b ≡ true → (o : Option Site) → o ≡ site_at image.sites at → by_site o ≡ place_of image at
  begun_place start e o is = by_value b start e where
    by_value : (c : Bool) → c ≡ is_start image.text at → c ≡ true → by_site o ≡ place_of image at
    by_value false s f = absurd cc
    by_value true s f = ap by_site is ∙ ap (λ t. cond t (by_site (site_at image.sites at)) NotAStart) s

  pub place_outside : b ≡ is_start image.text at → b ≡ true → None ≡ site_at image.sites at → Outside ≡ place_of image at
  place_outside start e is = begun_place start e None is

module _ (image : Image) (at : ℕ) (b : Bool) (site : Site) where
  pub place_inside : b ≡ is_start image.text at → b ≡ true → Some site ≡ site_at image.sites at → Inside site ≡ place_of image at
  place_inside start e is = begun_place image at b start e (Some site) is
