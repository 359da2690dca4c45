-- Which sites lie in a memory.
use Rattle.std.specs.Prelude.{ℕ, ◌+◌, ◌≤◌, List, [], ◌∷◌}
use Rattle.sites.specs.declared.site.Site.{Site}

-- sites of at least five bytes, in a memory of this many bytes
abbrev pub AreInside : ℕ → ℕ → List Site → Type 0
AreInside len text_at [] = Unit {0}
AreInside len text_at (s ∷ sites) = (5 ≤ s.total) × (text_at + s.at + s.total ≤ len) × AreInside len text_at sites
