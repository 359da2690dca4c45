-- The sites of the objects.
use Rattle.std.specs.Prelude.{ℕ, ◌+◌, ◌||◌, ◌&&◌, Bool, true, not, List, [], length, map, take, sum_by, nat_lt, Result, Ok, Err}
use Rattle.std.specs.List.{flat_map, list_any}
use Rattle.elf_form.specs.ObjectParts.{ObjectParts}
use Rattle.sites.specs.declared.site.Site.{Site}
use Rattle.sites.specs.declared.limits.TheConstants.{SHORT_TEXT, SITE_LIMIT}
use Rattle.sites.specs.SitesParts.{SitesParts}
use Rattle.sites.specs.Formats.{sites_in}
use Rattle.sites.specs.Gapped.{are_gapped}
use Rattle.elf_link.specs.Layout.{text_at, text_end, numbered}

abbrev pub or_none : Result SitesParts ℕ → List Site
or_none (Ok sites) = sites.list
or_none (Err at) = []

unfoldable pub sites_of : ObjectParts → List Site
sites_of o = or_none (sites_in o.sites)

-- Annotations that are malformed, or that name a site past the end of the text.
abbrev pub misplaced : ℕ → Result SitesParts ℕ → Bool
misplaced text (Ok sites) = list_any (λ s. nat_lt text (s.at + s.total)) sites.list
misplaced text (Err at) = true

-- a site of a text that stands at `at`
abbrev pub moved : ℕ → Site → Site
moved at s = record s { at = s.at + at }

-- the sites of the image: those of the objects, moved with their texts
abbrev pub moved_sites : List ObjectParts → ℕ × ObjectParts → List Site
moved_sites os p = map (moved (text_at os p.0)) (sites_of p.1)

unfoldable pub linked_sites : List ObjectParts → List Site
linked_sites os = flat_map (moved_sites os) (numbered os)

-- the same of the first n objects
abbrev pub first_sites : List ObjectParts → ℕ → List Site
first_sites os n = flat_map (moved_sites os) (take n (numbered os))

-- The text of the objects up to and with this one, laid out by themselves with the final jump, wants format 2, and
-- their sites can't be written so.
abbrev pub crowded : List ObjectParts → ℕ → Bool
crowded os n = nat_lt SHORT_TEXT (text_end (take n os) + 2) && not (are_gapped 0 (first_sites os n))

-- Malformed or misplaced, more than 262,144 in the objects up to and with this one, or crowded.
unfoldable pub sites_wrong : List ObjectParts → ℕ × ObjectParts → Bool
sites_wrong os p =
    misplaced (length p.1.text) (sites_in p.1.sites)
    || nat_lt SITE_LIMIT (sum_by (λ o. length (sites_of o)) (take (p.0 + 1) os))
    || crowded os (p.0 + 1)
