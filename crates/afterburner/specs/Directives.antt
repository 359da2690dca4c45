-- The directives, by families.
use Rattle.std.specs.Prelude.{ℕ, ◌+◌, Bool, true, false, not, nat_lt, List, [], ◌∷◌, ◌++◌, length, replicate, fold, None, Result, Ok, Err, if◌then◌else◌}
use Rattle.std.specs.Option.{unwrap_or}
use Rattle.std.specs.List.{flat_map, list_all}
use Rattle.sites.specs.declared.limits.TheConstants.{INIT_LIMIT}
use Rattle.asm_source.specs.declared.tree.Argument.{Argument}
use Rattle.asm_source.specs.Names.{symbol_in}
use Rattle.afterburner.specs.declared.fault.BurnCause.{BurnCause}
use Rattle.afterburner.specs.declared.fault.BurnCause.TheVariants as cause
use Rattle.afterburner.specs.declared.section.Section.{Section}
use Rattle.afterburner.specs.declared.section.Section.TheVariants as section
use Rattle.afterburner.specs.declared.symbol.Binding.TheVariants as binding
use Rattle.asm_source.specs.declared.directive_table.DirectiveName.{DirectiveName}
use Rattle.asm_source.specs.declared.directive_table.DirectiveName.TheVariants as directive
use Rattle.asm_source.specs.DirectiveTable.{directive_name}
use Rattle.ia32_types.specs.declared.size.Size.{Size}
use Rattle.ia32_types.specs.declared.size.Size.TheVariants as size
use Rattle.asm_instruction.specs.Field.{fits_field}
use Rattle.afterburner.specs.ObjectSoFar.{ObjectSoFar}
use Rattle.afterburner.specs.Symbols.{reloc_to, bound}
use Rattle.afterburner.specs.Arguments.{number_in, text_in, count_at, text_at, symbol_at, limit_at, alignment, power}
use Rattle.afterburner.specs.Values.{value_bytes}
use Rattle.afterburner.specs.Sections.{is_init, entered, section_named, aligned, reserved}

-- the directive of a name, in the table by which the source is read
abbrev pub directive_of : List ℕ → DirectiveName
directive_of n = unwrap_or (directive_name n) directive.Skipped

abbrev pub all_fit : Size → List Argument → Bool
all_fit s args = list_all (λ (a : Argument). fits_field s (number_in a.form)) args

abbrev pub values : Size → List Argument → List ℕ
values s args = flat_map (λ (a : Argument). value_bytes s (number_in a.form)) args

abbrev pub in_init : ObjectSoFar → ObjectSoFar → Result ObjectSoFar BurnCause
in_init st made = if is_init st.section then Ok made else Err cause.DataInText

-- numbers
unfoldable pub numbers : ObjectSoFar → Size → List Argument → Result ObjectSoFar BurnCause
numbers st s args = if not (all_fit s args) then Err cause.ValueRange else in_init st (record st { init = st.init ++ values s args })

-- a value of four bytes; a named one holds its constant and gives a relocation
abbrev pub with_long : List (List ℕ) → ObjectSoFar → Argument → ObjectSoFar
with_long names st a = record st {
  init = st.init ++ value_bytes size.Long (number_in a.form);
  data_relocs = st.data_relocs ++ reloc_to names false (length st.init) false (symbol_in a.form);
}

unfoldable pub longs : List (List ℕ) → ObjectSoFar → List Argument → Result ObjectSoFar BurnCause
longs names st args = if not (all_fit size.Long args) then Err cause.ValueRange else in_init st (fold (with_long names) st args)

-- a string, and a zero byte where it has one at its end
abbrev pub string_bytes : Bool → Argument → List ℕ
string_bytes ended a = text_in a.form ++ (if ended then 0 ∷ [] else [])

unfoldable pub strings : ObjectSoFar → Bool → List Argument → Result ObjectSoFar BurnCause
strings st ended args = in_init st (record st { init = st.init ++ flat_map (string_bytes ended) args })

-- zero bytes; too many are not made first
abbrev pub zeros_in : ObjectSoFar → Section → ℕ → Result ObjectSoFar BurnCause
zeros_in st section.Text n = Err cause.DataInText
zeros_in st section.Init n =
    if nat_lt INIT_LIMIT (length st.init + st.bss + n) then Err cause.InitTooLarge else Ok (record st { init = st.init ++ replicate n 0 })
zeros_in st section.Bss n = Ok (record st { bss = st.bss + n })

-- `.comm NAME,SIZE[,ALIGN]`: global, unless a `.local` or a `.globl` speaks of the name
unfoldable pub common : List (List ℕ) → ObjectSoFar → List Argument → ObjectSoFar
common names st args = bound names (reserved names st (symbol_at args 0) (count_at args 1) (alignment (unwrap_or (limit_at args 2) 1)))
    (symbol_at args 0) binding.Common

unfoldable pub directed : List (List ℕ) → ObjectSoFar → DirectiveName → List Argument → Result ObjectSoFar BurnCause
directed names st directive.Text args = Ok (entered st section.Text)
directed names st directive.Data args = Ok (entered st section.Init)
directed names st directive.Bss args = Ok (entered st section.Bss)
directed names st directive.Section args = Ok (entered st (section_named (text_at args 0) st.section))
directed names st directive.Global args = Ok (bound names st (symbol_at args 0) binding.Global)
directed names st directive.Local args = Ok (bound names st (symbol_at args 0) binding.Local)
directed names st directive.Bytes args = numbers st size.Byte args
directed names st directive.Shorts args = numbers st size.Word args
directed names st directive.Longs args = longs names st args
directed names st directive.Ascii args = strings st false args
directed names st directive.Asciz args = strings st true args
directed names st directive.Zeros args = zeros_in st st.section (count_at args 0)
directed names st directive.Aligned args = Ok (aligned st (alignment (count_at args 0)) None)
directed names st directive.Powered args = Ok (aligned st (power (count_at args 0)) (limit_at args 2))
directed names st directive.Common args = Ok (common names st args)
directed names st directive.LocalCommon args = Ok (reserved names st (symbol_at args 0) (count_at args 1) 1)
directed names st directive.Skipped args = Ok st
