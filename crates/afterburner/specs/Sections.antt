-- The three sections, and what an item adds to the one it stands in.
use Rattle.std.specs.Prelude.{ℕ, ◌+◌, Bool, true, false, ◌||◌, List, ◌++◌, length, replicate, codes, nat_lt, Option, Some, None, if◌then◌else◌}
use Rattle.asm_source.specs.DirectiveTable.{begins}
use Rattle.elf_form.specs.declared.object.Place.{Place}
use Rattle.elf_form.specs.declared.object.Place.TheVariants as place
use Rattle.elf_form.specs.Output.{pad}
use Rattle.afterburner.specs.declared.section.Section.{Section}
use Rattle.afterburner.specs.declared.section.Section.TheVariants as section
use Rattle.afterburner.specs.ObjectSoFar.{ObjectSoFar}
use Rattle.afterburner.specs.Symbols.{defined_at}

abbrev pub is_text : Section → Bool
is_text section.Text = true
is_text _ = false

abbrev pub is_init : Section → Bool
is_init section.Init = true
is_init _ = false

abbrev pub place_of : Section → Place
place_of section.Text = place.Text
place_of section.Init = place.Init
place_of section.Bss = place.Bss

abbrev pub size_of : ObjectSoFar → Section → ℕ
size_of st section.Text = length st.text
size_of st section.Init = length st.init
size_of st section.Bss = st.bss

-- the offset at which the next item stands in its section
abbrev pub here : ObjectSoFar → ℕ
here st = size_of st st.section

-- a section by its name; a name of another section leaves the section
unfoldable pub section_named : List ℕ → Section → Section
section_named name before =
    if begins name (codes ".text") then section.Text else
    if begins name (codes ".bss") then section.Bss else
    if begins name (codes ".rodata") || begins name (codes ".data") then section.Init else
    before

abbrev pub entered : ObjectSoFar → Section → ObjectSoFar
entered st s = record st { section = s }

-- n bytes: NOPs in text, zero bytes elsewhere
abbrev pub filled_in : ObjectSoFar → Section → ℕ → ObjectSoFar
filled_in st section.Text n = record st { text = st.text ++ replicate n 144 }
filled_in st section.Init n = record st { init = st.init ++ replicate n 0 }
filled_in st section.Bss n = record st { bss = st.bss + n }

abbrev pub unless_more : Option ℕ → ℕ → ℕ
unless_more None n = n
unless_more (Some most) n = if nat_lt most n then 0 else n

-- up to the next multiple of the alignment, unless more than `most` bytes are needed
unfoldable pub aligned : ObjectSoFar → ℕ → Option ℕ → ObjectSoFar
aligned st alignment most = filled_in st st.section (unless_more most (pad alignment (here st)))

-- a label
unfoldable pub labelled : List (List ℕ) → ObjectSoFar → List ℕ → ObjectSoFar
labelled names st name = record st { definitions = defined_at names st.definitions name (place_of st.section) (here st) }

abbrev pub defined_in_bss : List (List ℕ) → ObjectSoFar → Option (List ℕ) → ObjectSoFar
defined_in_bss names st None = st
defined_in_bss names st (Some name) = record st { definitions = defined_at names st.definitions name place.Bss st.bss }

-- a piece of the zeroed bytes at its alignment, with its name
unfoldable pub reserved : List (List ℕ) → ObjectSoFar → Option (List ℕ) → ℕ → ℕ → ObjectSoFar
reserved names st name size alignment =
    let placed = defined_in_bss names (record st { bss = st.bss + pad alignment st.bss }) name in
    record placed { bss = placed.bss + size }
