-- An offset outside the sites, as a linear address.
use Rattle.std.proofs.Common.{◌≡◌, ℕ, ◌+◌, ◌-◌, ◌≤◌, Bool, true, false, cond, ◌&&◌, ◌||◌, List, [], ◌∷◌, Option, Some, None, refl, ap, ◌∙◌, arith}
use Rattle.std.specs.Prelude.{nat_le, nat_lt}
use Rattle.std.specs.List.{find}
use Rattle.std.proofs.lemmas.Bool.{and_parts, false_from_ne_true, le-leb, lt-ltb, leb-true, ltb-true, and_from, both_ways}
use Rattle.sites.specs.declared.site.Site.{Site}
use Rattle.image_check.specs.Places.{is_site_at}
use Rattle.image_check.specs.Standing.{lies_in, site_at}

not_in : (s : Site) (eip : ℕ) → 0x10000000 ≤ eip → lies_in (eip - 0x10000000) s ≡ false
    → (nat_le (0x10000000 + s.at) eip && nat_lt eip (0x10000000 + s.at + s.total)) ≡ false
not_in s eip above out =
    false_from_ne_true (nat_le (0x10000000 + s.at) eip && nat_lt eip (0x10000000 + s.at + s.total)) (λ e.
    let p = and_parts (nat_le (0x10000000 + s.at) eip) (nat_lt eip (0x10000000 + s.at + s.total)) e in
    let low = leb-true (0x10000000 + s.at) eip p.0 in
    let high = ltb-true eip (0x10000000 + s.at + s.total) p.1 in
    both_ways (lies_in (eip - 0x10000000) s) out
    (and_from (nat_le s.at (eip - 0x10000000)) (nat_lt (eip - 0x10000000) (s.at + s.total))
    (le-leb s.at (eip - 0x10000000) (omega (arith, above, low))) (lt-ltb (eip - 0x10000000) (s.at + s.total) (omega (arith, above, high)))))

none_found : (test : Site → Bool) (s : Site) (ss : List Site) → find test (s ∷ ss) ≡ None → (test s ≡ false) × (find test ss ≡ None)
none_found test s ss e = by_test (test s) refl e
  where
    by_test : (c : Bool) → test s ≡ c → cond {A = Option Site} c (Some s) (find test ss) ≡ None → (test s ≡ false) × (find test ss ≡ None)
    by_test true is g = absurd (let f : ◌≡◌ {A = Option Site} (Some s) None = g in cc)
    by_test false is g = (is, g)

in_none : (sites : List Site) (eip : ℕ) → 0x10000000 ≤ eip → find (lies_in (eip - 0x10000000)) sites ≡ None → is_site_at sites eip ≡ false
in_none [] eip above e = refl
in_none (s ∷ ss) eip above e =
    let p = none_found (lies_in (eip - 0x10000000)) s ss e in
    ap (λ x. x || is_site_at ss eip) (not_in s eip above p.0) ∙ in_none ss eip above p.1

pub not_inside : (sites : List Site) (eip : ℕ) → 0x10000000 ≤ eip → site_at sites (eip - 0x10000000) ≡ None → is_site_at sites eip ≡ false
unfolding site_at
not_inside sites eip above e = in_none sites eip above e
