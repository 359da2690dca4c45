-- What stands at an offset or a linear address of an image: an instruction outside the sites, one in a site, or none.
use Rattle.std.specs.Prelude.{◌≡◌, ℕ, ◌+◌, ◌-◌, Bool, ◌&&◌, List, Option, Some, None, is_some, nat_le, nat_lt, if◌then◌else◌}
use Rattle.std.specs.List.{find, Contains}
use Rattle.ia32_types.specs.declared.addresses.TheConstants.{TEXT_ADDRESS}
use Rattle.sites.specs.declared.site.Site.{Site}
use Rattle.image_check.specs.declared.place.AtOffset.{AtOffset}
use Rattle.image_check.specs.declared.place.AtOffset.TheVariants.{NotAStart, Outside, Inside}
use Rattle.image_check.specs.Image.{Image}
use Rattle.image_check.specs.Sweep.{Swept, sweep, swept_or_none}
use Rattle.image_check.specs.Places.{is_start}

-- the instructions of a text
unfoldable pub swept_of : List ℕ → List Swept
swept_of text = swept_or_none (sweep text)

-- whether an offset lies in a site
abbrev pub lies_in : ℕ → Site → Bool
lies_in at s = nat_le s.at at && nat_lt at (s.at + s.total)

-- the site in which an offset lies, if it lies in one
unfoldable pub site_at : List Site → ℕ → Option Site
site_at sites at = find (lies_in at) sites

-- whether an offset lies in one of the sites
abbrev pub is_in_site : List Site → ℕ → Bool
is_in_site sites at = is_some (site_at sites at)

-- an offset at which an instruction begins lies outside the sites, or inside one
abbrev pub by_site : Option Site → AtOffset
by_site None = Outside
by_site (Some s) = Inside s

abbrev pub place_of : Image → ℕ → AtOffset
place_of image at = if is_start image.text at then by_site (site_at image.sites at) else NotAStart

-- what stands at a linear address; below the text no instruction begins
abbrev pub place_at : Image → ℕ → AtOffset
place_at image eip = if nat_lt eip TEXT_ADDRESS then NotAStart else place_of image (eip - TEXT_ADDRESS)

-- An instruction of the text stands there, and no site is around it.
pub record StandsOutside (image : Image) (s : Swept) : Type 0 where
  pub stands : Contains (swept_of image.text) s
  pub outside : site_at image.sites s.at ≡ None

-- An instruction of the text stands there, in a site.
pub record StandsInside (image : Image) (site : Site) (s : Swept) : Type 0 where
  pub stands : Contains (swept_of image.text) s
  pub inside : site_at image.sites s.at ≡ Some site
