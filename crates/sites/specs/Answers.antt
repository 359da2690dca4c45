-- What is returned, by the definitions.
use Rattle.std.specs.Prelude.{◌≡◌, ℕ, Result, Ok, Err}
use Rattle.sites.specs.declared.site.SitesFault.{SitesFault}
use Rattle.sites.specs.declared.site.SitesFault.TheVariants as faults
use Rattle.sites.specs.SitesParts.{SitesParts}

-- What `read_sites` returned is what reading gives, unless memory ran out.
abbrev pub Fails : SitesFault → Result SitesParts ℕ → Type 0
Fails faults.Memory read = Unit {0}
Fails (faults.Form at) read = read ≡ Err at

abbrev pub Gives : Result SitesParts SitesFault → Result SitesParts ℕ → Type 0
Gives (Ok sites) read = read ≡ Ok sites
Gives (Err e) read = Fails e read
