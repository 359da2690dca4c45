-- What is read of a list of sites in format 2, or the first bad byte.
use Rattle.std.specs.Prelude.{ℕ, zero, suc, ◌+◌, ◌-◌, ◌*◌, max, Bool, true, not, ◌&&◌, List, [], ◌∷◌, length, Option, unwrap_or, Result, nat_lt, ◌==◌}
use Rattle.std.specs.Bool.{then_some}
use Rattle.std.specs.Option.{option_or}
use Rattle.guest_ram.specs.Bytes.{byte, word32}
use Rattle.sites.specs.declared.site.Site.{Site}
use Rattle.ia32_types.specs.declared.site.SiteKind.TheVariants.{Cli}
use Rattle.sites.specs.SitesParts.{SitesParts}
use Rattle.sites.specs.Kinds.{kind_numbered}
use Rattle.sites.specs.Padded.{padded_site}
use Rattle.sites.specs.Reading.{cut_before, has_no_kind, head_fault, unless}

-- three bytes, the lowest first
abbrev pub gap_at : List ℕ → ℕ → ℕ
gap_at bytes a = byte bytes a + 256 * byte bytes (a + 1) + 65536 * byte bytes (a + 2)

-- where the site at a ends, after one that ends at `from`; where its length isn't there, the least end that it can have
abbrev pub end_at : List ℕ → ℕ → ℕ → ℕ
end_at bytes from a = from + gap_at bytes a + max 5 (byte bytes (a + 4))

-- the gap leads to an end of more than four bytes
abbrev pub passes : List ℕ → ℕ → ℕ → Bool
passes bytes from a = not (nat_lt (length bytes) (a + 3)) && nat_lt 4294967295 (end_at bytes from a)

-- no instruction has that many bytes
abbrev pub has_wrong_length : List ℕ → ℕ → Bool
has_wrong_length bytes at = nat_lt at (length bytes) && not (nat_lt 0 (byte bytes at) && nat_lt (byte bytes at) 12)

-- The first bad byte of the site at a.
unfoldable pub gap_fault : List ℕ → ℕ → ℕ → Option ℕ
gap_fault bytes from a =
    option_or (then_some (passes bytes from a) a)
    (option_or (then_some (has_no_kind bytes (a + 3)) (a + 3))
    (option_or (then_some (has_wrong_length bytes (a + 4)) (a + 4))
    (cut_before bytes (a + 5))))

-- the first bad byte of n sites from a on, with which the bytes end
unfoldable pub gaps_fault : List ℕ → ℕ → ℕ → ℕ → Option ℕ
gaps_fault bytes from zero a = then_some (nat_lt a (length bytes)) a
gaps_fault bytes from (suc n) a = option_or (gap_fault bytes from a) (gaps_fault bytes (end_at bytes from a) n (a + 5))

unfoldable pub gap_site : List ℕ → ℕ → ℕ → Site
gap_site bytes from a = padded_site (from + gap_at bytes a) (unwrap_or (kind_numbered (byte bytes (a + 3))) Cli) (byte bytes (a + 4))

unfoldable pub gap_sites : List ℕ → ℕ → ℕ → ℕ → List Site
gap_sites bytes from zero a = []
gap_sites bytes from (suc n) a = gap_site bytes from a ∷ gap_sites bytes (end_at bytes from a) n (a + 5)

unfoldable pub gapped_in : List ℕ → Result SitesParts ℕ
gapped_in bytes = unless (option_or (head_fault bytes 50) (gaps_fault bytes 0 (word32 bytes 4) 8))
    (record { list = gap_sites bytes 0 (word32 bytes 4) 8; format = 2 })

-- ---- whether sites can be written by their gaps

abbrev pub is_gapped : ℕ → Site → Bool
is_gapped from s = not (nat_lt s.at from) && nat_lt (s.at - from) 16777216 && nat_lt 0 s.len && nat_lt s.len 12 && s.total == max 5 s.len

unfoldable pub are_gapped : ℕ → List Site → Bool
are_gapped from [] = true
are_gapped from (s ∷ sites) = is_gapped from s && are_gapped (s.at + s.total) sites
