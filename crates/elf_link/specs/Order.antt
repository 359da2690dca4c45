-- The order in which objects are refused, and what each test asks.
use Rattle.std.specs.Prelude.{◌≡◌, ◌+◌, ◌<◌, ◌≤◌, ℕ, List, length, take, sum_by, Option, Some, None, slice_get}
use Rattle.elf_form.specs.ObjectParts.{ObjectParts}
use Rattle.elf_form.specs.declared.object.Reloc.{Reloc}
use Rattle.sites.specs.declared.limits.TheConstants.{TEXT_LIMIT, INIT_LIMIT}
use Rattle.elf_form.specs.declared.object.TheConstants.{SYMBOL_LIMIT}
use Rattle.sites.specs.declared.site.Site.{Site}
use Rattle.elf_link.specs.declared.fault.LinkCause.{LinkCause}
use Rattle.elf_link.specs.Layout.{text_end, memory_end}
use Rattle.elf_link.specs.Refusals.{Refused}

-- a test of each object with its number refuses this one, with this cause, and none before it
pub record IsFirstRefused (test : ℕ × ObjectParts → Option LinkCause) (os : List ObjectParts) (r : Refused) : Type 0 where
  pub object : ObjectParts
  pub there : slice_get os r.object ≡ Some object
  pub cause : test (r.object, object) ≡ Some r.cause
  pub before : (j : ℕ) (o : ObjectParts) → j < r.object → slice_get os j ≡ Some o → test (j, o) ≡ None

-- a test of each relocation refuses one of them with this cause, and none before it
pub record IsFirstCause (test : Reloc → Option LinkCause) (relocs : List Reloc) (cause : LinkCause) : Type 0 where
  pub index : ℕ
  pub reloc : Reloc
  pub there : slice_get relocs index ≡ Some reloc
  pub caused : test reloc ≡ Some cause
  pub before : (j : ℕ) (r : Reloc) → j < index → slice_get relocs j ≡ Some r → test r ≡ None

-- the objects up to and with this one, which are laid out by themselves
abbrev pub up_to : List ObjectParts → ℕ × ObjectParts → List ObjectParts
up_to os p = take (p.0 + 1) os

abbrev pub symbol_count : List ObjectParts → ℕ
symbol_count os = sum_by (λ o. length o.symbols) os

-- their text with the jump after it, their data and zeroed bytes, and their symbols keep to their limits
abbrev pub TextFits : List ObjectParts → ℕ × ObjectParts → Type 0
TextFits os p = text_end (up_to os p) + 2 ≤ TEXT_LIMIT

abbrev pub MemoryFits : List ObjectParts → ℕ × ObjectParts → Type 0
MemoryFits os p = memory_end (up_to os p) ≤ INIT_LIMIT

abbrev pub SymbolsFit : List ObjectParts → ℕ × ObjectParts → Type 0
SymbolsFit os p = symbol_count (up_to os p) ≤ SYMBOL_LIMIT

-- every site of an object ends within its text
abbrev pub AreInText : ObjectParts → List Site → Type 0
AreInText o sites = (k : ℕ) (s : Site) → slice_get sites k ≡ Some s → s.at + s.total ≤ length o.text
