-- The site of one sensitive instruction, which has NOPs after it up to five bytes.
use Rattle.std.specs.Prelude.{ℕ, max}
use Rattle.ia32_types.specs.declared.site.SiteKind.{SiteKind}
use Rattle.sites.specs.declared.site.Site.{Site}

-- at an offset, of so many bytes without the NOPs
abbrev pub padded_site : ℕ → SiteKind → ℕ → Site
padded_site at kind len = record { at = at; kind = kind; len = len; total = max 5 len }
