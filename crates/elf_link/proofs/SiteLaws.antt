-- Sites of one text after those of others.
use Rattle.std.proofs.Common.{◌≡◌, ℕ, zero, suc, ◌+◌, ◌<◌, ◌≤◌, ◌^◌, max, List, [], ◌∷◌, ◌++◌, subst, arith}
use Rattle.std.specs.Prelude.{All, map}
use Rattle.sites.specs.declared.site.Site.{Site}
use Rattle.sites.specs.Form.{AreSites, AreInForm}
use Rattle.elf_link.specs.Sites.{moved}
use Rattle.elf_link.specs.Steps.{AreBelow}

weaker : (a b : ℕ) (sites : List Site) → a ≤ b → AreInForm b sites → AreInForm a sites
weaker a b [] le h = tt
weaker a b (s ∷ sites) le h = (omega (arith, h.0), h.1, h.2, h.3, h.4)

tail : (P : Site → Type 0) (s : Site) (sites : List Site) → All P (s ∷ sites) → All P sites
tail P s sites all = λ k d h. all (suc k) d (omega arith)

head : (P : Site → Type 0) (s : Site) (sites : List Site) → All P (s ∷ sites) → P s
head P s sites all = all 0 s (omega arith)

cons : (P : Site → Type 0) (s : Site) (sites : List Site) → P s → All P sites → All P (s ∷ sites)
cons P s sites here rest zero d h = here
cons P s sites here rest (suc k) d h = rest k d (omega arith)

positive : (s : Site) → s.total ≡ max 5 s.len → 1 ≤ s.total
positive s h = omega arith

form-append : (least at : ℕ) (xs ys : List Site) → least ≤ at → AreInForm least xs → All (λ s. s.at + s.total ≤ at) xs → AreInForm at ys
    → AreInForm least (xs ++ ys)
form-append least at [] ys le xform below yform = weaker least at ys le yform
form-append least at (x ∷ xs) ys le xform below yform =
    let here : x.at + x.total ≤ at = head (λ s. s.at + s.total ≤ at) x xs below in
    let one = positive x xform.3 in (
      xform.0,
      xform.1,
      xform.2,
      xform.3,
      form-append (x.at + 1) at xs ys (omega arith) xform.4 (tail (λ s. s.at + s.total ≤ at) x xs below) yform,
    )

form-moved : (least at end : ℕ) (ys : List Site) → AreInForm least ys → All (λ s. s.at + s.total ≤ end) ys → at + end < 2 ^ 32
    → AreInForm (least + at) (map (moved at) ys)
form-moved least at end [] form below small = tt
form-moved least at end (y ∷ ys) form below small =
    let here : y.at + y.total ≤ end = head (λ s. s.at + s.total ≤ end) y ys below in
    let rest = form-moved (y.at + 1) at end ys form.4 (tail (λ s. s.at + s.total ≤ end) y ys below) small in
    let next : y.at + 1 + at ≡ y.at + at + 1 = omega arith in
    (omega (arith, form.0), omega arith, form.2, form.3, subst (λ (n : ℕ). AreInForm n (map (moved at) ys)) next rest)

below-moved : (at end : ℕ) (ys : List Site) → All (λ s. s.at + s.total ≤ end) ys → All (λ s. s.at + s.total ≤ at + end) (map (moved at) ys)
below-moved at end [] below = λ k d h. absurd (omega arith)
below-moved at end (y ∷ ys) below =
    let here : y.at + y.total ≤ end = head (λ s. s.at + s.total ≤ end) y ys below in
    let now : (moved at y).at + (moved at y).total ≤ at + end = omega arith in
    cons (λ s. s.at + s.total ≤ at + end) (moved at y) (map (moved at) ys) now
    (below-moved at end ys (tail (λ s. s.at + s.total ≤ end) y ys below))

below-append : (at end : ℕ) (xs ys : List Site) → at ≤ end → All (λ s. s.at + s.total ≤ at) xs → All (λ s. s.at + s.total ≤ end) ys
    → All (λ s. s.at + s.total ≤ end) (xs ++ ys)
below-append at end [] ys le below h = h
below-append at end (x ∷ xs) ys le below h =
    let here : x.at + x.total ≤ at = head (λ s. s.at + s.total ≤ at) x xs below in
    cons (λ s. s.at + s.total ≤ end) x (xs ++ ys) (omega arith)
    (below-append at end xs ys le (tail (λ s. s.at + s.total ≤ at) x xs below) h)

pub below-wider : (a b : ℕ) (sites : List Site) → a ≤ b → All (λ s. s.at + s.total ≤ a) sites → All (λ s. s.at + s.total ≤ b) sites
below-wider a b sites le below = λ k d h. let here = below k d h in omega arith

pub below_next : (end at size : ℕ) (xs ys : List Site) → AreBelow end xs → end ≤ at → AreBelow size ys → at + size < 2 ^ 32
    → AreBelow (at + size) (xs ++ map (moved at) ys)
below_next end at size xs ys h le own small =
    let before = below-wider end at xs le h.below in
    record {
      form = form-append 0 at xs (map (moved at) ys) (omega arith) h.form before
          (subst (λ (n : ℕ). AreInForm n (map (moved at) ys)) (omega arith) (form-moved 0 at size ys own.form own.below small));
      below = below-append at (at + size) xs (map (moved at) ys) (omega arith) before (below-moved at size ys own.below);
    }

pub sites_in_form : (least : ℕ) (sites : List Site) → AreInForm least sites → AreSites least sites
sites_in_form least [] h = tt
sites_in_form least (s ∷ sites) h = (h.0, h.3, sites_in_form (s.at + 1) sites h.4)
