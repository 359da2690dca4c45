-- Where instructions of a text begin, and which linear addresses lie in a site.
use Rattle.std.specs.Prelude.{ℕ, ◌+◌, ◌-◌, Bool, ◌&&◌, List, nat_le, nat_lt}
use Rattle.std.specs.List.{list_any}
use Rattle.guest_ram.specs.Among.{is_among}
use Rattle.ia32_types.specs.declared.addresses.TheConstants.{TEXT_ADDRESS}
use Rattle.sites.specs.declared.site.Site.{Site}
use Rattle.image_check.specs.Sweep.{starts_of}

-- whether an instruction of the text begins at an offset
unfoldable pub is_start : List ℕ → ℕ → Bool
is_start text at = is_among at (starts_of text)

-- the linear address of an offset of the text
abbrev pub linear : ℕ → ℕ
linear at = TEXT_ADDRESS + at

-- whether an instruction of the text begins at a linear address
abbrev pub is_start_at : List ℕ → ℕ → Bool
is_start_at text eip = nat_le TEXT_ADDRESS eip && is_start text (eip - TEXT_ADDRESS)

-- whether a linear address lies in one of the sites
abbrev pub is_site_at : List Site → ℕ → Bool
is_site_at sites eip = list_any (λ (s : Site). nat_le (linear s.at) eip && nat_lt eip (linear s.at + s.total)) sites
