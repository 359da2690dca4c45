-- What is asked of an object, by the sums over the objects before it.
use Rattle.std.specs.Prelude.{ℕ, ◌+◌, ◌==◌, ◌≤◌, ◌<◌, ◌||◌, ◌&&◌, ◌++◌, Bool, not, All, List, length, map, codes, sum_by, nat_lt, Option, Result, Ok, Err, if◌then◌else◌}
use Rattle.std.specs.Bool.{then_some}
use Rattle.std.specs.Option.{option_or}
use Rattle.elf_form.specs.ObjectParts.{ObjectParts}
use Rattle.sites.specs.declared.site.Site.{Site}
use Rattle.sites.specs.declared.limits.TheConstants.{TEXT_LIMIT, SHORT_TEXT, SITE_LIMIT, INIT_LIMIT}
use Rattle.elf_form.specs.declared.object.TheConstants.{SYMBOL_LIMIT}
use Rattle.sites.specs.Formats.{sites_in}
use Rattle.sites.specs.Reading.{unless}
use Rattle.sites.specs.Gapped.{are_gapped}
use Rattle.sites.specs.Form.{AreInForm}
use Rattle.elf_link.specs.declared.base.Base.{Base}
use Rattle.elf_link.specs.declared.layout.Span.{Span}
use Rattle.elf_link.specs.declared.target.Target.{Target}
use Rattle.elf_link.specs.declared.totals.Totals.{Totals}
use Rattle.elf_link.specs.declared.fault.LinkCause.{LinkCause}
use Rattle.elf_link.specs.declared.fault.LinkCause.TheVariants.{TextTooLarge, InitTooLarge, TooManySymbols, SitesForm}
use Rattle.elf_link.specs.Layout.{round_up, text_room, init_room, bss_room}
use Rattle.elf_link.specs.Symbols.{lookup}
use Rattle.elf_link.specs.Sites.{sites_of, misplaced, moved}
use Rattle.elf_link.specs.Refusals.{Refused, first_doubled, exported_names, doubled_cause, start_refusal}
use Rattle.elf_link.specs.Linked.{entry_at}

-- an extent with a part of n bytes more, at the next multiple of 4,096
abbrev pub behind : Span → ℕ → Span
behind span n = record { room = span.room + round_up 4096 n; end = if n == 0 then span.end else span.room + n }

-- the sums over objects
unfoldable pub totals : List ObjectParts → Totals
totals os = record {
  text = sum_by text_room os;
  memory = sum_by init_room os + sum_by bss_room os;
  symbols = sum_by (λ o. length o.symbols) os;
  sites = sum_by (λ o. length (sites_of o)) os;
}

unfoldable pub with_object : Totals → ObjectParts → Totals
with_object t o = record {
  text = t.text + text_room o;
  memory = t.memory + init_room o + bss_room o;
  symbols = t.symbols + length o.symbols;
  sites = t.sites + length (sites_of o);
}

pub record IsWithin (t : Totals) : Type 0 where
  pub text : t.text < TEXT_LIMIT + 16
  pub memory : t.memory ≤ INIT_LIMIT
  pub symbols : t.symbols ≤ SYMBOL_LIMIT
  pub sites : t.sites ≤ SITE_LIMIT

-- An object breaks no limit after objects with these sums.
pub record HasRoom (t : Totals) (o : ObjectParts) : Type 0 where
  pub text : t.text + length o.text + 2 ≤ TEXT_LIMIT
  pub memory : t.memory + init_room o + bss_room o ≤ INIT_LIMIT
  pub symbols : t.symbols + length o.symbols ≤ SYMBOL_LIMIT

unfoldable pub size_cause : Totals → ObjectParts → Option LinkCause
size_cause t o =
    option_or (then_some (nat_lt TEXT_LIMIT (t.text + length o.text + 2)) TextTooLarge)
    (option_or (then_some (nat_lt INIT_LIMIT (t.memory + init_room o + bss_room o)) InitTooLarge)
    (then_some (nat_lt SYMBOL_LIMIT (t.symbols + length o.symbols)) TooManySymbols))

-- sites after others, in a text that wants format 2 and in which they can't be written so
abbrev pub is_crowded : Totals → List Site → ℕ → List Site → Bool
is_crowded t before text sites = nat_lt SHORT_TEXT (t.text + text + 2) && not (are_gapped 0 (before ++ map (moved t.text) sites))

-- An object's own sites are malformed or misplaced, or too many after a number of others.
abbrev pub own_sites_wrong : ℕ → ObjectParts → Bool
own_sites_wrong before o = misplaced (length o.text) (sites_in o.sites) || nat_lt SITE_LIMIT (before + length (sites_of o))

-- What Sites has as sites_wrong, by the sums over the objects before and their sites.
unfoldable pub sites_wrong_by : Totals → List Site → ObjectParts → Bool
sites_wrong_by t before o = own_sites_wrong t.sites o || is_crowded t before (length o.text) (sites_of o)

unfoldable pub step_cause : Totals → List Site → List (List ℕ × Target) → ℕ × ObjectParts → Option LinkCause
step_cause t before gs p =
    option_or (size_cause t p.1)
    (option_or (then_some (sites_wrong_by t before p.1) SitesForm)
    (doubled_cause (first_doubled (map (λ d. d.0) gs) (exported_names p))))

-- a test that passes where nothing is refused
abbrev pub tested : Option Refused → Result (Unit {0}) Refused
tested r = unless r tt

-- the sites of object i, after a number of others; and after others that are known
unfoldable pub own_sites : ℕ → ℕ → ObjectParts → Result (List Site) Refused
own_sites i before o = if own_sites_wrong before o then Err (record { object = i; cause = SitesForm }) else Ok (sites_of o)

unfoldable pub placed_sites : ℕ → Totals → List Site → ObjectParts → Result (List Site) Refused
placed_sites i t before o = if sites_wrong_by t before o then Err (record { object = i; cause = SitesForm }) else Ok (sites_of o)

-- the entry, where it is in text
unfoldable pub entered : List Base → List (List ℕ × Target) → Result ℕ Refused
entered bs gs = unless (start_refusal (lookup (codes "_start") gs)) (entry_at bs (lookup (codes "_start") gs))

-- A list of sites is in form, and its sites end by `end`.
pub record AreBelow (end : ℕ) (sites : List Site) : Type 0 where
  pub form : AreInForm 0 sites
  pub below : All (λ s. s.at + s.total ≤ end) sites
