-- The names of the directives.
use Rattle.std.specs.Str.{bytes_eq}
use Rattle.std.specs.List.{starts_with}
use Rattle.std.specs.Option.{option_or}
use Rattle.std.specs.Prelude.{codes, nat_eq, ℕ, Bool, ◌||◌, List, [], ◌∷◌, Option, Some, None, if◌then◌else◌}
use Rattle.asm_source.specs.Tables.{Table, found}
use Rattle.asm_source.specs.declared.directive_table.DirectiveName.{DirectiveName}
use Rattle.asm_source.specs.declared.directive_table.DirectiveName.TheVariants as called

abbrev pub begins : List ℕ → List ℕ → Bool
begins name text = starts_with nat_eq name text

-- What says where the next items stand.
unfoldable pub section_directives : Table DirectiveName
section_directives =
    (codes ".text", called.Text) ∷ (codes ".data", called.Data) ∷ (codes ".bss", called.Bss) ∷ (codes ".section", called.Section) ∷ []

-- What says something of a symbol.
unfoldable pub symbol_directives : Table DirectiveName
symbol_directives =
    (codes ".globl", called.Global) ∷ (codes ".global", called.Global) ∷ (codes ".local", called.Local) ∷
    (codes ".comm", called.Common) ∷ (codes ".lcomm", called.LocalCommon) ∷ []

-- What has numbers.
unfoldable pub value_directives : Table DirectiveName
value_directives =
    (codes ".byte", called.Bytes) ∷
    (codes ".short", called.Shorts) ∷ (codes ".word", called.Shorts) ∷ (codes ".value", called.Shorts) ∷
    (codes ".long", called.Longs) ∷ (codes ".int", called.Longs) ∷
    (codes ".zero", called.Zeros) ∷ (codes ".skip", called.Zeros) ∷ (codes ".space", called.Zeros) ∷ []

-- What has strings.
unfoldable pub string_directives : Table DirectiveName
string_directives = (codes ".ascii", called.Ascii) ∷ (codes ".asciz", called.Asciz) ∷ (codes ".string", called.Asciz) ∷ []

-- What says where the next item begins.
unfoldable pub alignment_directives : Table DirectiveName
alignment_directives = (codes ".align", called.Aligned) ∷ (codes ".balign", called.Aligned) ∷ (codes ".p2align", called.Powered) ∷ []

-- What says nothing of the object.
unfoldable pub is_skipped : List ℕ → Bool
is_skipped n =
    bytes_eq n (codes ".file") || bytes_eq n (codes ".type") || bytes_eq n (codes ".size") || bytes_eq n (codes ".ident")
    || bytes_eq n (codes ".code32") || bytes_eq n (codes ".loc")
    || begins n (codes ".cfi_")

abbrev pub skipped_directive : List ℕ → Option DirectiveName
skipped_directive n = if is_skipped n then Some called.Skipped else None

-- the first that is there
infixl 10 ◌or◌
abbrev ◌or◌ : Option DirectiveName → Option DirectiveName → Option DirectiveName
a or b = option_or a b

-- Every directive, by its name.
unfoldable pub directive_name : List ℕ → Option DirectiveName
directive_name n =
    found section_directives n or found symbol_directives n or found value_directives n or found string_directives n or found
    alignment_directives n
    or skipped_directive n
