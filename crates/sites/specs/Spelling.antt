-- The one spelling of a list of sites, in each of two formats.
use Rattle.std.specs.Prelude.{ℕ, ◌+◌, ◌-◌, ◌/◌, ◌%◌, ◌==◌, List, [], ◌∷◌, ◌++◌, length, if◌then◌else◌}
use Rattle.std.specs.List.{flat_map}
use Rattle.std.specs.Int.{w32, to_le_bytes}
use Rattle.sites.specs.declared.site.Site.{Site}
use Rattle.sites.specs.Kinds.{number}
use Rattle.sites.specs.SitesParts.{SitesParts}

-- ---- format 1: each site by its offset

-- eight bytes
abbrev pub site : Site → List ℕ
site s = to_le_bytes w32 s.at ++ (number s.kind ∷ s.len ∷ s.total ∷ 0 ∷ [])

-- "PVS1", the count, the sites
unfoldable pub placed : List Site → List ℕ
placed sites = 80 ∷ 86 ∷ 83 ∷ 49 ∷ (to_le_bytes w32 (length sites) ++ flat_map site sites)

-- ---- format 2: each site by the gap from the end of the one before

-- three bytes of the gap from `from`, the lowest first; the kind; the length
abbrev pub gap : ℕ → Site → List ℕ
gap from s = (s.at - from) % 256 ∷ (s.at - from) / 256 % 256 ∷ (s.at - from) / 256 / 256 ∷ number s.kind ∷ s.len ∷ []

unfoldable pub gaps : ℕ → List Site → List ℕ
gaps from [] = []
gaps from (s ∷ sites) = gap from s ++ gaps (s.at + s.total) sites

-- "PVS2", the count, the sites
unfoldable pub gapped : List Site → List ℕ
gapped sites = 80 ∷ 86 ∷ 83 ∷ 50 ∷ (to_le_bytes w32 (length sites) ++ gaps 0 sites)

-- ---- the format is part of the value

unfoldable pub spelling : SitesParts → List ℕ
spelling s = if s.format == 2 then gapped s.list else placed s.list
