-- Which sites can be written in their format, and which have its form.
use Rattle.std.specs.Prelude.{◌≡◌, ℕ, ◌+◌, ◌<◌, ◌≤◌, ◌^◌, ◌⊎◌, max, List, [], ◌∷◌}
use Rattle.sites.specs.declared.site.Site.{Site}
use Rattle.sites.specs.SitesParts.{SitesParts}

-- Offsets rise from least on, and the total is the larger of 5 and the length.
abbrev pub AreSites : ℕ → List Site → Type 0
AreSites least [] = Unit {0}
AreSites least (s ∷ sites) = (least ≤ s.at) × (s.total ≡ max 5 s.len) × AreSites (s.at + 1) sites

-- the same, and the numbers have the sizes of their fields
abbrev pub AreInForm : ℕ → List Site → Type 0
AreInForm least [] = Unit {0}
AreInForm least (s ∷ sites) = (least ≤ s.at) × (s.at < 2 ^ 32) × (s.len < 256) × (s.total ≡ max 5 s.len) × AreInForm (s.at + 1) sites

-- No site begins before the end of the one before, gaps have three bytes, an instruction has 1 to 11 bytes, and the
-- total is the larger of 5 and the length.
abbrev pub AreGapped : ℕ → List Site → Type 0
AreGapped from [] = Unit {0}
AreGapped from (s ∷ sites) =
    (from ≤ s.at) × (s.at < from + 2 ^ 24) × (1 ≤ s.len) × (s.len ≤ 11) × (s.total ≡ max 5 s.len) × AreGapped (s.at + s.total) sites

-- the same, and the ends have four bytes
abbrev pub AreInGaps : ℕ → List Site → Type 0
AreInGaps from [] = Unit {0}
AreInGaps from (s ∷ sites) = (from ≤ s.at) × (s.at < from + 2 ^ 24) × (1 ≤ s.len) × (s.len ≤ 11) × (s.total ≡ max 5 s.len)
    × (s.at + s.total < 2 ^ 32) × AreInGaps (s.at + s.total) sites

-- The sites can be written in their format.
abbrev pub IsWritable : SitesParts → Type 0
IsWritable s = ((s.format ≡ 1) × AreSites 0 s.list) ⊎ ((s.format ≡ 2) × AreGapped 0 s.list)

-- The sites have the form of their format.
abbrev pub IsInForm : SitesParts → Type 0
IsInForm s = ((s.format ≡ 1) × AreInForm 0 s.list) ⊎ ((s.format ≡ 2) × AreInGaps 0 s.list)
