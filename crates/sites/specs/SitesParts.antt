-- A list of sites as contracts see it: the record of its fields.
use Rattle.std.specs.Prelude.{ℕ, List}
use Rattle.sites.specs.declared.site.Site.{Site}

pub record SitesParts : Type 0 where
  pub list : List Site
  pub format : ℕ
