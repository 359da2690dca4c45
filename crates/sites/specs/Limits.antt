-- The format in which the sites of a text are written.
use Rattle.std.specs.Prelude.{ℕ, List, nat_lt, if◌then◌else◌}
use Rattle.sites.specs.declared.site.Site.{Site}
use Rattle.sites.specs.declared.limits.TheConstants.{SHORT_TEXT}
use Rattle.sites.specs.SitesParts.{SitesParts}

-- format 2 from the first text on that is longer than the longest one of format 1
unfoldable pub format_of : ℕ → ℕ
format_of text = if nat_lt SHORT_TEXT text then 2 else 1

-- the sites of a text of this many bytes
abbrev pub in_text : ℕ → List Site → SitesParts
in_text text sites = record { list = sites; format = format_of text }
