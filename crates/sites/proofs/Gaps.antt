-- Writing sites of format 2 one after the other, and testing whether they can be written so.
use Rattle.std.proofs.Common.{◌≡◌, ℕ, ◌+◌, ◌-◌, ◌<◌, ◌≤◌, ◌^◌, Bool, true, false, eqb, ltb, List, [], ◌∷◌, ◌++◌, length, get_or, drop, refl, sym, ap, ◌∙◌, subst, arith, append_assoc, lt-ltb, le-ltb, eq-eqb}
use Rattle.std.specs.Prelude.{not, ◌&&◌, max}
use Rattle.std.proofs.lemmas.Bool.{ltb-false, ltb-true, eqb-true, and_parts, not-true}
use Rattle.std.proofs.lemmas.List.{drop_more, drop_all, append-nil}
use Rattle.sites.specs.declared.site.Site.{Site}
use Rattle.sites.specs.Spelling.{gap, gaps}
use Rattle.sites.specs.Form.{AreGapped}
use Rattle.sites.specs.Gapped.{is_gapped, are_gapped}

here : (xs : List Site) (i : ℕ) (d : Site) → i < length xs → drop i xs ≡ get_or xs i d ∷ drop (i + 1) xs
here xs i d lt = drop_more xs i d lt

pub one_gap : (out : List ℕ) (from : ℕ) (xs : List Site) (i : ℕ) (d : Site) → i < length xs
    → out ++ gaps from (drop i xs) ≡ (out ++ gap from (get_or xs i d))
    ++ gaps ((get_or xs i d).at + (get_or xs i d).total) (drop (i + 1) xs)
unfolding gaps
one_gap out from xs i d lt =
    let s = get_or xs i d in
    ap (λ (v : List Site). out ++ gaps from v) (here xs i d lt)
    ∙ sym (append_assoc out (gap from s) (gaps (s.at + s.total) (drop (i + 1) xs)))

pub no_more_gaps : (out : List ℕ) (from : ℕ) (xs : List Site) (i : ℕ) → length xs ≤ i → out ++ gaps from (drop i xs) ≡ out
unfolding gaps
no_more_gaps out from xs i le = ap (λ (v : List Site). out ++ gaps from v) (drop_all i xs le) ∙ append-nil out

pub gapped_here : (from : ℕ) (xs : List Site) (i : ℕ) (d : Site) → i < length xs → AreGapped from (drop i xs)
    → AreGapped from (get_or xs i d ∷ drop (i + 1) xs)
gapped_here from xs i d lt are = subst (AreGapped from) (here xs i d lt) are

test_here : (from : ℕ) (xs : List Site) (i : ℕ) (d : Site) → i < length xs
    → are_gapped from (drop i xs)
    ≡ (is_gapped from (get_or xs i d) && are_gapped ((get_or xs i d).at + (get_or xs i d).total) (drop (i + 1) xs))
unfolding are_gapped
test_here from xs i d lt = ap (are_gapped from) (here xs i d lt)

pub test_not : (from : ℕ) (xs : List Site) (i : ℕ) (d : Site) → i < length xs → is_gapped from (get_or xs i d) ≡ false
    → are_gapped from (drop i xs) ≡ false
test_not from xs i d lt fails =
    test_here from xs i d lt ∙ ap (λ (b : Bool). b && are_gapped ((get_or xs i d).at + (get_or xs i d).total) (drop (i + 1) xs)) fails

pub test_more : (from : ℕ) (xs : List Site) (i : ℕ) (d : Site) → i < length xs → is_gapped from (get_or xs i d) ≡ true
    → are_gapped from (drop i xs) ≡ are_gapped ((get_or xs i d).at + (get_or xs i d).total) (drop (i + 1) xs)
test_more from xs i d lt holds =
    test_here from xs i d lt ∙ ap (λ (b : Bool). b && are_gapped ((get_or xs i d).at + (get_or xs i d).total) (drop (i + 1) xs)) holds

pub test_end : (from : ℕ) (xs : List Site) (i : ℕ) → length xs ≤ i → are_gapped from (drop i xs) ≡ true
unfolding are_gapped
test_end from xs i le = ap (are_gapped from) (drop_all i xs le)

-- the tests of one site
record IsGapped (from : ℕ) (s : Site) : Type 0 where
  rises : from ≤ s.at
  near : s.at < from + 2 ^ 24
  some : 1 ≤ s.len
  most : s.len ≤ 11
  total : s.total ≡ max 5 s.len

by_test : (from : ℕ) (s : Site) → is_gapped from s ≡ true → IsGapped from s
by_test from s h =
    let t0 = not (ltb s.at from) in
    let t1 = ltb (s.at - from) 16777216 in
    let t2 = ltb 0 s.len in
    let t3 = ltb s.len 12 in
    let t4 = eqb s.total (max 5 s.len) in
    let h3 = (and_parts (t0 && t1 && t2 && t3) t4 h).0 in
    let h2 = (and_parts (t0 && t1 && t2) t3 h3).0 in
    let h1 = (and_parts (t0 && t1) t2 h2).0 in
    let rises : from ≤ s.at = ltb-false s.at from (not-true (ltb s.at from) (and_parts t0 t1 h1).0) in
    let near = ltb-true (s.at - from) 16777216 (and_parts t0 t1 h1).1 in
    let some = ltb-true 0 s.len (and_parts (t0 && t1) t2 h2).1 in
    let most = ltb-true s.len 12 (and_parts (t0 && t1 && t2) t3 h3).1 in
    record {
      rises = rises;
      near = omega arith;
      some = omega arith;
      most = omega arith;
      total = eqb-true _ _ (and_parts (t0 && t1 && t2 && t3) t4 h).1;
    }

pub gapped_by : (from : ℕ) (sites : List Site) → are_gapped from sites ≡ true → AreGapped from sites
unfolding are_gapped
gapped_by from [] h = tt
gapped_by from (s ∷ sites) h =
    let is = by_test from s (and_parts (is_gapped from s) (are_gapped (s.at + s.total) sites) h).0 in (
      is.rises,
      is.near,
      is.some,
      is.most,
      is.total,
      gapped_by (s.at + s.total) sites (and_parts (is_gapped from s) (are_gapped (s.at + s.total) sites) h).1,
    )

tested : (from : ℕ) (s : Site) → from ≤ s.at → s.at < from + 2 ^ 24 → 1 ≤ s.len → s.len ≤ 11 → s.total ≡ max 5 s.len
    → is_gapped from s ≡ true
tested from s rises near some most total =
    let a : ltb s.at from ≡ false = le-ltb _ _ rises in
    let b : ltb (s.at - from) 16777216 ≡ true = lt-ltb _ _ (omega arith) in
    let c : ltb 0 s.len ≡ true = lt-ltb _ _ (omega arith) in
    let d : ltb s.len 12 ≡ true = lt-ltb _ _ (omega arith) in
    let e : eqb s.total (max 5 s.len) ≡ true = eq-eqb _ _ total in
    rw (a, b, c, d, e) refl

pub gapped_test : (from : ℕ) (sites : List Site) → AreGapped from sites → are_gapped from sites ≡ true
unfolding are_gapped
gapped_test from [] are = refl
gapped_test from (s ∷ sites) (rises, near, some, most, total, are) =
    rw (tested from s rises near some most total, gapped_test (s.at + s.total) sites are) refl
