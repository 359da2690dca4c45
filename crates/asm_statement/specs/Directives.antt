-- The directives: their names, and what their arguments are.
use Rattle.std.specs.Prelude.{codes, ℕ, ◌==◌, Bool, true, false, ◌&&◌, ◌||◌, List, [], ◌∷◌, Option, Some, None, if◌then◌else◌}
use Rattle.std.specs.Option.{option_map}
use Rattle.asm_argument.specs.declared.shape.Shape.{Shape}
use Rattle.asm_argument.specs.declared.shape.Shape.TheVariants as shape
use Rattle.asm_source.specs.declared.directive_table.DirectiveName.{DirectiveName}
use Rattle.asm_source.specs.declared.directive_table.DirectiveName.TheVariants as called
use Rattle.asm_source.specs.DirectiveTable.{begins, directive_name}
use Rattle.asm_statement.specs.declared.directive.Directive.{Directive}
use Rattle.asm_statement.specs.declared.directive.Directive.TheVariants as directive
use Rattle.asm_statement.specs.declared.directive.Head.{Head}
use Rattle.asm_statement.specs.declared.directive.Head.TheVariants as head

-- ---- names

-- the family of a directive, by its arguments
abbrev pub family : DirectiveName → Directive
family called.Text = directive.Plain
family called.Data = directive.Plain
family called.Bss = directive.Plain
family called.Section = directive.Section
family called.Global = directive.Global
family called.Local = directive.Global
family called.Bytes = directive.Bytes
family called.Shorts = directive.Bytes
family called.Longs = directive.Longs
family called.Ascii = directive.Strings
family called.Asciz = directive.Strings
family called.Zeros = directive.Zero
family called.Aligned = directive.Aligned
family called.Powered = directive.Powered
family called.Common = directive.Common
family called.LocalCommon = directive.LocalCommon
family called.Skipped = directive.Skipped

unfoldable pub directive_of : List ℕ → Option Directive
directive_of n = option_map family (directive_name n)

abbrev pub is_dotted : List ℕ → Bool
is_dotted [] = false
is_dotted (b ∷ bs) = b == 46

abbrev pub is_change : Option Directive → Bool
is_change (Some directive.Plain) = true
is_change (Some directive.Section) = true
is_change _ = false

abbrev pub changes_section : List ℕ → Bool
changes_section n = is_dotted n && is_change (directive_of n)

-- ---- arguments

abbrev pub directive_shape : Directive → ℕ → Option Shape
directive_shape directive.Bytes i = Some shape.Number
directive_shape directive.Longs i = Some shape.Value
directive_shape directive.Strings i = Some shape.Text
directive_shape directive.Global i = if i == 0 then Some shape.Name else None
directive_shape directive.Zero i = if i == 0 then Some shape.Count else None
directive_shape directive.Aligned i = if i == 0 then Some shape.Alignment else None
directive_shape directive.Powered i =
    if i == 0 then Some shape.Power else if i == 1 then Some shape.Fill else if i == 2 then Some shape.Count else None
directive_shape directive.Common i =
    if i == 0 then Some shape.Name else if i == 1 then Some shape.Count else if i == 2 then Some shape.Alignment else None
directive_shape directive.LocalCommon i = if i == 0 then Some shape.Name else if i == 1 then Some shape.Count else None
directive_shape _ i = None

-- what may stand as this argument
abbrev pub shape_at : Head → ℕ → Option Shape
shape_at (head.Instruction r n) i = Some shape.Operand
shape_at (head.Directive k n) i = directive_shape k i

-- how many arguments there are at least
abbrev pub least : Head → ℕ
least (head.Instruction r n) = 0
least (head.Directive directive.Plain n) = 0
least (head.Directive directive.Common n) = 2
least (head.Directive directive.LocalCommon n) = 2
least (head.Directive k n) = 1

abbrev pub is_instruction : Head → Bool
is_instruction (head.Instruction r n) = true
is_instruction (head.Directive k n) = false

-- whether this argument defines its name
abbrev pub defines : Head → ℕ → Bool
defines (head.Directive directive.Common n) i = i == 0
defines (head.Directive directive.LocalCommon n) i = i == 0
defines _ i = false

-- ---- sections

-- the sections that are read
unfoldable pub is_known : List ℕ → Bool
is_known n = begins n (codes ".text") || begins n (codes ".bss") || begins n (codes ".rodata") || begins n (codes ".data")

-- the sections that aren't read
unfoldable pub is_unread : List ℕ → Bool
is_unread n = begins n (codes ".note") || begins n (codes ".comment") || begins n (codes ".debug") || begins n (codes ".eh_frame")

abbrev pub is_section : List ℕ → Bool
is_section m = is_known m || is_unread m
