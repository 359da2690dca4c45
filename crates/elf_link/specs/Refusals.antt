-- Why objects are not linked. The causes are tested in an order, and the first counts.
use Rattle.std.specs.Prelude.{ℕ, ◌+◌, Bool, List, [], ◌∷◌, ◌++◌, length, map, take, filter, sum_by, nat_lt, codes, Option, Some, None, option_map, option_and_then, if◌then◌else◌}
use Rattle.std.specs.Bool.{then_some}
use Rattle.std.specs.List.{list_any}
use Rattle.std.specs.Option.{option_or}
use Rattle.std.specs.Str.{bytes_eq}
use Rattle.elf_form.specs.ObjectParts.{ObjectParts}
use Rattle.elf_form.specs.Tables.{first_some}
use Rattle.sites.specs.declared.limits.TheConstants.{TEXT_LIMIT, INIT_LIMIT}
use Rattle.elf_form.specs.declared.object.TheConstants.{SYMBOL_LIMIT}
use Rattle.elf_link.specs.declared.target.Target.{Target}
use Rattle.elf_link.specs.declared.fault.LinkCause.{LinkCause}
use Rattle.elf_link.specs.declared.fault.LinkCause.TheVariants.{Doubled, NotText, TextTooLarge, InitTooLarge, TooManySymbols, SitesForm}
use Rattle.elf_link.specs.Layout.{text_end, memory_end, numbered}
use Rattle.elf_link.specs.Symbols.{is_text, is_exported, definitions, globals, lookup}
use Rattle.elf_link.specs.Relocations.{reloc_cause}
use Rattle.elf_link.specs.Sites.{sites_wrong}

-- the object, from 0, and the cause
pub record Refused : Type 0 where
  pub object : ℕ
  pub cause : LinkCause

-- a name is among others
abbrev pub holds : List (List ℕ) → List ℕ → Bool
holds names name = list_any (λ n. bytes_eq name n) names

-- the first of some names that is among others or stands twice
unfoldable pub first_doubled : List (List ℕ) → List (List ℕ) → Option (List ℕ)
first_doubled others [] = None
first_doubled others (name ∷ names) = if holds others name then Some name else first_doubled (others ++ name ∷ []) names

abbrev pub exported_names : ℕ × ObjectParts → List (List ℕ)
exported_names p = map (λ s. s.name) (filter is_exported p.1.symbols)

-- the first name of an object that it or an object before it has defined already
abbrev pub doubled : List ObjectParts → ℕ × ObjectParts → Option (List ℕ)
doubled os p = first_doubled (map (λ d. d.0) (definitions (take p.0 (numbered os)))) (exported_names p)

abbrev pub doubled_cause : Option (List ℕ) → Option LinkCause
doubled_cause name = option_map Doubled name

-- the limits, over the objects up to and with this one, laid out by themselves; its sites; its names
unfoldable pub object_cause : List ObjectParts → ℕ × ObjectParts → Option LinkCause
object_cause os p =
    let os' = take (p.0 + 1) os in
    option_or (then_some (nat_lt TEXT_LIMIT (text_end os' + 2)) TextTooLarge)
    (option_or (then_some (nat_lt INIT_LIMIT (memory_end os')) InitTooLarge)
    (option_or (then_some (nat_lt SYMBOL_LIMIT (sum_by (λ o. length o.symbols) os')) TooManySymbols)
    (option_or (then_some (sites_wrong os p) SitesForm) (doubled_cause (doubled os p)))))

abbrev pub refused : ℕ → Option LinkCause → Option Refused
refused i cause = option_map (λ c. record { object = i; cause = c }) cause

abbrev pub object_refusal : List ObjectParts → ℕ × ObjectParts → Option Refused
object_refusal os p = refused p.0 (object_cause os p)

abbrev pub relocs_refusal : List ObjectParts → ℕ × ObjectParts → Option Refused
relocs_refusal os p = refused p.0 (first_some (reloc_cause (globals os) p) p.1.relocs)

-- what `_start` stands for
abbrev pub start : List ObjectParts → Option Target
start os = lookup (codes "_start") (globals os)

abbrev pub start_refusal : Option Target → Option Refused
start_refusal start =
    option_and_then (λ t. if is_text t.place then None else Some (record { object = t.object; cause = NotText t.value })) start

-- each object; then the relocations of each object; then the entry
unfoldable pub refusal : List ObjectParts → Option Refused
refusal os =
    option_or (first_some (object_refusal os) (numbered os))
    (option_or (first_some (relocs_refusal os) (numbered os)) (start_refusal (start os)))
