-- No site of an accepted image is longer than eleven bytes.
use Rattle.std.proofs.Common.{◌≡◌, ℕ, ◌≤◌, Bool, refl, inl, inr, arith}
use Rattle.std.specs.Prelude.{true, false, max, nat_le, ◌==◌, ◌+◌, if◌then◌else◌}
use Rattle.sites.specs.declared.site.Site.{Site}
use Rattle.image_check.specs.declared.place.AtOffset.{AtOffset}
use Rattle.image_check.specs.declared.place.AtOffset.TheVariants.{NotAStart, Outside, Inside}
use Rattle.image_check.specs.Sweep.{Swept}
use Rattle.image_check.specs.Layout.{BeginsSite}
use Rattle.pv_look.specs.declared.part.Part.TheVariants as part
use Rattle.pv_look.specs.Parts.{part_at}
use Rattle.pv_look.specs.Room.{IsShort}

-- by the instruction that begins it
pub short_site : (site : Site) (s : Swept) → BeginsSite site s → s.len ≤ 11 → site.total ≡ max 5 site.len
    → (1 ≤ site.total) × (site.total ≤ 11)
short_site site s (inl alone) few total = let same = alone.len in (omega (arith, total), omega (arith, total, same))
short_site site s (inr pair) few total = let two = pair.pair.1 in (omega (arith, total), omega (arith, total, two))

by_tests : (a b : Bool) (s : Site) → (1 ≤ s.total) × (s.total ≤ 11)
    → IsShort (if a then part.Site s else if b then part.Padding else part.Alone)
by_tests true b s h = h
by_tests false true s h = tt
by_tests false false s h = tt

pub short_at : (at : ℕ) (place : AtOffset) → ((s : Site) → place ≡ Inside s → (1 ≤ s.total) × (s.total ≤ 11)) → IsShort (part_at at place)
short_at at (Inside s) small = by_tests (at == s.at) (nat_le (s.at + s.len) at) s (small s refl)
short_at at Outside small = tt
short_at at NotAStart small = tt
