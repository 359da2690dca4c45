-- What labels and directives say of names.
use Rattle.std.specs.Prelude.{ℕ, Bool, List, [], ◌∷◌, Option, Some, None, slice_index_or, slice_set, nat_lt, if◌then◌else◌}
use Rattle.elf_form.specs.declared.object.Place.{Place}
use Rattle.elf_form.specs.declared.object.Reloc.{Reloc}
use Rattle.afterburner.specs.declared.symbol.Definition.{Definition}
use Rattle.afterburner.specs.declared.symbol.Binding.{Binding}
use Rattle.afterburner.specs.declared.symbol.Binding.TheVariants as binding
use Rattle.afterburner.specs.ObjectSoFar.{ObjectSoFar, undefined}
use Rattle.asm_source.specs.Names.{name_number}

abbrev pub strength : Binding → ℕ
strength binding.Unsaid = 0
strength binding.Common = 1
strength binding.Local = 2
strength binding.Global = 3

abbrev pub stronger : Binding → Binding → Binding
stronger a b = if nat_lt (strength a) (strength b) then b else a

abbrev pub definition_of : List Definition → ℕ → Definition
definition_of ds k = slice_index_or ds k undefined

abbrev pub with_place : List Definition → ℕ → Place → ℕ → List Definition
with_place ds k place value = slice_set ds k (record (definition_of ds k) { place = place; value = value })

abbrev pub with_binding : List Definition → ℕ → Binding → List Definition
with_binding ds k b = slice_set ds k (record (definition_of ds k) { binding = stronger (definition_of ds k).binding b })

-- the relocation of a field, where it names a symbol
abbrev pub reloc_to : List (List ℕ) → Bool → ℕ → Bool → Option (List ℕ) → List Reloc
reloc_to names in_text at relative None = []
reloc_to names in_text at relative (Some name) =
    record { in_text = in_text; at = at; symbol = name_number names name; relative = relative } ∷ []

-- the name is defined at this place
abbrev pub defined_at : List (List ℕ) → List Definition → List ℕ → Place → ℕ → List Definition
defined_at names ds name place value = with_place ds (name_number names name) place value

-- a directive says how far the name reaches
abbrev pub bound : List (List ℕ) → ObjectSoFar → Option (List ℕ) → Binding → ObjectSoFar
bound names st None b = st
bound names st (Some name) b = record st { definitions = with_binding st.definitions (name_number names name) b }
