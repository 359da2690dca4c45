-- The object of what all items made.
use Rattle.std.specs.Prelude.{ℕ, ◌+◌, Bool, true, false, not, List, ◌++◌, length, take, map, zip, filter, count_by, if◌then◌else◌}
use Rattle.elf_form.specs.declared.object.Place.{Place}
use Rattle.elf_form.specs.declared.object.Place.TheVariants as place
use Rattle.elf_form.specs.declared.object.Symbol.{Symbol}
use Rattle.elf_form.specs.declared.object.Reloc.{Reloc}
use Rattle.elf_form.specs.ObjectParts.{ObjectParts}
use Rattle.sites.specs.Spelling.{spelling}
use Rattle.sites.specs.Limits.{in_text}
use Rattle.afterburner.specs.declared.symbol.Definition.{Definition}
use Rattle.afterburner.specs.declared.symbol.Binding.{Binding}
use Rattle.afterburner.specs.declared.symbol.Binding.TheVariants as binding
use Rattle.afterburner.specs.ObjectSoFar.{ObjectSoFar}
use Rattle.afterburner.specs.Symbols.{definition_of}

-- An undefined name is global, and has the value 0.
abbrev pub reaches : Place → Binding → Bool
reaches place.Undefined b = true
reaches p binding.Common = true
reaches p binding.Global = true
reaches p b = false

abbrev pub is_global : Definition → Bool
is_global d = reaches d.place d.binding

abbrev pub value_at : Place → ℕ → ℕ
value_at place.Undefined value = 0
value_at p value = value

abbrev pub symbol : List ℕ → Definition → Symbol
symbol name d = record { name = name; place = d.place; value = value_at d.place d.value; global = is_global d }

-- the symbols in the order in which their names are first seen
abbrev pub symbols_seen : List (List ℕ) → List Definition → List Symbol
symbols_seen names ds = map (λ (seen : List ℕ × Definition). symbol seen.0 seen.1) (zip names ds)

-- Local symbols come before global ones, each in first-seen order.
abbrev pub are : Bool → Symbol → Bool
are global s = if global then s.global else not s.global

unfoldable pub ordered : List Symbol → List Symbol
ordered seen = filter (are false) seen ++ filter (are true) seen

abbrev pub defines : Bool → Definition → Bool
defines global d = if global then is_global d else not (is_global d)

-- the place among the ordered symbols of the one that was seen as number k
unfoldable pub ordered_number : List Definition → ℕ → ℕ
ordered_number ds k =
    if is_global (definition_of ds k)
    then count_by (defines false) ds + count_by (defines true) (take k ds)
    else count_by (defines false) (take k ds)

abbrev pub renumbered : List Definition → Reloc → Reloc
renumbered ds r = record r { symbol = ordered_number ds r.symbol }

-- The relocations of text come before those of data, each in the order of their places. The annotations are in the
-- format for so long a text.
unfoldable pub object : List (List ℕ) → ObjectSoFar → ObjectParts
object names st =
    record {
      text = st.text;
      init = st.init;
      bss = st.bss;
      sites = spelling (in_text (length st.text) st.sites);
      symbols = ordered (symbols_seen names st.definitions);
      relocs = map (renumbered st.definitions) (st.text_relocs ++ st.data_relocs);
    }
