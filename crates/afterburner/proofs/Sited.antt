-- Sites that lie apart are in the form of annotations.
use Rattle.std.proofs.Common.{◌≤◌, ◌+◌, ◌^◌, ℕ, List, [], ◌∷◌, arith}
use Rattle.std.specs.Prelude.{All}
use Rattle.std.proofs.lemmas.List.Elements.{All-nil, All-cons}
use Rattle.sites.specs.declared.site.Site.{Site}
use Rattle.sites.specs.Form.{AreSites, AreGapped, AreInGaps}
use Rattle.afterburner.specs.Sound.{AreApart}

pub apart_sites : (least from to : ℕ) (sites : List Site) → least ≤ from → AreApart from sites to → AreSites least sites
apart_sites least from to [] le h = tt
apart_sites least from to (s ∷ sites) le h =
    (omega (arith, h.0), h.3, apart_sites (s.at + 1) (s.at + s.total) to sites (omega (arith, h.3)) h.4)

ends : (from to : ℕ) (sites : List Site) → AreApart from sites to → from ≤ to
ends from to [] h = h
ends from to (s ∷ sites) h = let e = ends (s.at + s.total) to sites h.4 in omega (arith, h.0, e)

-- A text of at most 2^24 bytes has no gap of more than three bytes.
pub apart_gaps : (from to : ℕ) (sites : List Site) → to ≤ 2 ^ 24 → AreApart from sites to → AreInGaps from sites
apart_gaps from to [] small h = tt
apart_gaps from to (s ∷ sites) small h =
    let e = ends (s.at + s.total) to sites h.4 in
    (h.0, omega (arith, e, h.1, h.3), h.1, h.2, h.3, omega (arith, e), apart_gaps (s.at + s.total) to sites small h.4)

pub apart_gapped : (from to : ℕ) (sites : List Site) → to ≤ 2 ^ 24 → AreApart from sites to → AreGapped from sites
apart_gapped from to [] small h = tt
apart_gapped from to (s ∷ sites) small h =
    let e = ends (s.at + s.total) to sites h.4 in
    (h.0, omega (arith, e, h.1, h.3), h.1, h.2, h.3, apart_gapped (s.at + s.total) to sites small h.4)

pub apart_inside : (from to : ℕ) (sites : List Site) → AreApart from sites to → All (λ (s : Site). s.at + s.total ≤ to) sites
apart_inside from to [] h = All-nil _
apart_inside from to (s ∷ sites) h =
    All-cons (λ (x : Site). x.at + x.total ≤ to) s sites (ends (s.at + s.total) to sites h.4) (apart_inside (s.at + s.total) to sites h.4)
