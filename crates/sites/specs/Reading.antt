-- What is read of a list of sites in format 1, or the first bad byte.
use Rattle.std.specs.Prelude.{ℕ, zero, suc, ◌+◌, max, Bool, not, ◌&&◌, List, [], ◌∷◌, length, Option, Result, Ok, Err, is_none, unwrap_or, nat_lt, ◌==◌}
use Rattle.std.specs.Bool.{then_some}
use Rattle.std.specs.Option.{option_or, option_map_or}
use Rattle.guest_ram.specs.Bytes.{byte, word32}
use Rattle.sites.specs.declared.site.Site.{Site}
use Rattle.ia32_types.specs.declared.site.SiteKind.TheVariants.{Cli}
use Rattle.sites.specs.SitesParts.{SitesParts}
use Rattle.sites.specs.Kinds.{kind_numbered}

-- a byte that is there, and isn't v
abbrev pub differs : List ℕ → ℕ → ℕ → Bool
differs bytes at v = nat_lt at (length bytes) && not (byte bytes at == v)

-- the bytes end before a place
abbrev pub cut_before : List ℕ → ℕ → Option ℕ
cut_before bytes end = then_some (nat_lt (length bytes) end) (length bytes)

-- The first bad byte of the eight at the front: "PVS", the format's byte, and a count.
unfoldable pub head_fault : List ℕ → ℕ → Option ℕ
head_fault bytes format =
    option_or (then_some (differs bytes 0 80) 0)
    (option_or (then_some (differs bytes 1 86) 1)
    (option_or (then_some (differs bytes 2 83) 2)
    (option_or (then_some (differs bytes 3 format) 3)
    (cut_before bytes 8))))

-- the bad byte of each field of the site at a, whose offset is to be least or more
abbrev pub falls : List ℕ → ℕ → ℕ → Bool
falls bytes least a = not (nat_lt (length bytes) (a + 4)) && nat_lt (word32 bytes a) least

abbrev pub has_no_kind : List ℕ → ℕ → Bool
has_no_kind bytes at = nat_lt at (length bytes) && is_none (kind_numbered (byte bytes at))

abbrev pub has_wrong_total : List ℕ → ℕ → Bool
has_wrong_total bytes a = differs bytes (a + 6) (max 5 (byte bytes (a + 5)))

-- The first bad byte of the site at a.
unfoldable pub site_fault : List ℕ → ℕ → ℕ → Option ℕ
site_fault bytes least a =
    option_or (then_some (falls bytes least a) a)
    (option_or (then_some (has_no_kind bytes (a + 4)) (a + 4))
    (option_or (then_some (has_wrong_total bytes a) (a + 6))
    (option_or (then_some (differs bytes (a + 7) 0) (a + 7))
    (cut_before bytes (a + 8)))))

-- the first bad byte of n sites from a on, with which the bytes end
unfoldable pub sites_fault : List ℕ → ℕ → ℕ → ℕ → Option ℕ
sites_fault bytes least zero a = then_some (nat_lt a (length bytes)) a
sites_fault bytes least (suc n) a = option_or (site_fault bytes least a) (sites_fault bytes (word32 bytes a + 1) n (a + 8))

unfoldable pub site_at : List ℕ → ℕ → Site
site_at bytes a = record {
  at = word32 bytes a;
  kind = unwrap_or (kind_numbered (byte bytes (a + 4))) Cli;
  len = byte bytes (a + 5);
  total = byte bytes (a + 6);
}

unfoldable pub sites_at : List ℕ → ℕ → ℕ → List Site
sites_at bytes zero a = []
sites_at bytes (suc n) a = site_at bytes a ∷ sites_at bytes n (a + 8)

-- a value, unless there is something by which it is refused
abbrev pub unless : {X E : Type 0} → Option E → X → Result X E
unless fault x = option_map_or Err fault (Ok x)

-- format 1
unfoldable pub placed_in : List ℕ → Result SitesParts ℕ
placed_in bytes = unless (option_or (head_fault bytes 49) (sites_fault bytes 0 (word32 bytes 4) 8))
    (record { list = sites_at bytes (word32 bytes 4) 8; format = 1 })
