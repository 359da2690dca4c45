-- Fields that are filled with addresses and distances.
use Rattle.std.specs.Prelude.{ℕ, ◌+◌, ◌-◌, ◌%◌, ◌^◌, ◌&&◌, Bool, not, List, fold, slice_get, Option, Some, None, option_and_then, if◌then◌else◌}
use Rattle.std.specs.Option.{option_map_or}
use Rattle.elf_form.specs.declared.object.Symbol.{Symbol}
use Rattle.elf_form.specs.declared.object.Reloc.{Reloc}
use Rattle.elf_form.specs.ObjectParts.{ObjectParts}
use Rattle.elf_form.specs.ObjectLayout.{is_of}
use Rattle.guest_ram.specs.Bytes.{word32, with_word32}
use Rattle.elf_link.specs.declared.base.Base.{Base}
use Rattle.elf_link.specs.declared.target.Target.{Target}
use Rattle.elf_link.specs.declared.fault.LinkCause.{LinkCause}
use Rattle.elf_link.specs.declared.fault.LinkCause.TheVariants.{NoSymbol, NotText}
use Rattle.elf_link.specs.Layout.{or_zero}
use Rattle.elf_link.specs.Symbols.{is_text, target_of, address}

-- what a symbol of object i stands for, if it is there
abbrev pub target_by : List (List ℕ × Target) → ℕ → Option Symbol → Option Target
target_by gs i symbol = option_and_then (target_of gs i) symbol

-- A relocation is refused where its symbol is defined nowhere, and where a branch would leave the text.
abbrev pub target_cause : Reloc → Symbol → Option Target → Option LinkCause
target_cause r s None = Some (NoSymbol s.name)
target_cause r s (Some t) = if r.in_text && r.relative && not (is_text t.place) then Some (NotText r.at) else None

abbrev pub symbol_cause : List (List ℕ × Target) → ℕ → Reloc → Option Symbol → Option LinkCause
symbol_cause gs i r symbol = option_and_then (λ s. target_cause r s (target_of gs i s)) symbol

unfoldable pub reloc_cause : List (List ℕ × Target) → ℕ × ObjectParts → Reloc → Option LinkCause
reloc_cause gs p r = symbol_cause gs p.0 r (slice_get p.1.symbols r.symbol)

-- the linear address of a field in an object that stands there
abbrev pub field_at : Base → Reloc → ℕ
field_at b r = ((if r.in_text then b.text else b.init) + r.at) % 2 ^ 32

abbrev pub address_by : List Base → Option Target → ℕ
address_by bs target = option_map_or (address bs) target 0

-- S + A, and S + A - P
abbrev pub sum_of : Bool → ℕ → ℕ → ℕ → ℕ
sum_of relative s a p = if relative then (s + a + (2 ^ 32 - p)) % 2 ^ 32 else (s + a) % 2 ^ 32

unfoldable pub relocated : List Base → List (List ℕ × Target) → ℕ × ObjectParts → Reloc → ℕ → ℕ
relocated bs gs p r addend =
    sum_of r.relative (address_by bs (target_by gs p.0 (slice_get p.1.symbols r.symbol))) addend (field_at (or_zero (slice_get bs p.0)) r)

-- the text or the data of an object
abbrev pub contents_of : Bool → ObjectParts → List ℕ
contents_of in_text o = if in_text then o.text else o.init

-- with a field filled; the fields of the other are left
unfoldable pub filled : List Base → List (List ℕ × Target) → ℕ × ObjectParts → Bool → List ℕ → Reloc → List ℕ
filled bs gs p in_text bytes r = if is_of in_text r then with_word32 bytes r.at (relocated bs gs p r (word32 bytes r.at)) else bytes

-- with all its fields filled, in the order of the relocations
unfoldable pub with_fields : List Base → List (List ℕ × Target) → ℕ × ObjectParts → Bool → List ℕ
with_fields bs gs p in_text = fold (filled bs gs p in_text) (contents_of in_text p.1) p.1.relocs
