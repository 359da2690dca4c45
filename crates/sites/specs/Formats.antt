-- What is read of a list of sites in either format.
use Rattle.std.specs.Prelude.{ℕ, List, length, Result, nat_lt, ◌==◌, if◌then◌else◌}
use Rattle.std.specs.Result.{result_map_both}
use Rattle.guest_ram.specs.Bytes.{byte, word32}
use Rattle.sites.specs.declared.site.Site.{Site}
use Rattle.sites.specs.SitesParts.{SitesParts}
use Rattle.sites.specs.Reading.{placed_in}
use Rattle.sites.specs.Gapped.{gapped_in}

-- The fourth byte gives the format: "PVS2" begins format 2, and all else is read as format 1.
unfoldable pub told_format : List ℕ → ℕ
told_format bytes = if byte bytes 3 == 50 then 2 else 1

unfoldable pub sites_in : List ℕ → Result SitesParts ℕ
sites_in bytes = if byte bytes 3 == 50 then gapped_in bytes else placed_in bytes

-- the list without its format
abbrev pub list_of : Result SitesParts ℕ → Result (List Site) ℕ
list_of read = result_map_both (λ sites. sites.list) (λ at. at) read

abbrev pub listed : List ℕ → Result (List Site) ℕ
listed bytes = list_of (sites_in bytes)

-- the count in four bytes after the first four, in both formats
unfoldable pub told_count : List ℕ → ℕ
told_count bytes = if nat_lt (length bytes) 8 then 0 else word32 bytes 4
