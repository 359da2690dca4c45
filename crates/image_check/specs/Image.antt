-- What an accepted image has: its parts, the linear address of its first instruction, the sites of its text,
-- and the format of their annotations.
use Rattle.std.specs.Prelude.{ℕ, List}
use Rattle.sites.specs.declared.site.Site.{Site}

pub record Image : Type 0 where
  pub text : List ℕ
  pub init : List ℕ
  pub bss : ℕ
  pub entry : ℕ
  pub sites : List Site
  pub format : ℕ
