-- A statement as text.
use Rattle.std.specs.Prelude.{ℕ, ℤ, pos, negsuc, ◌==◌, Bool, true, false, List, [], ◌∷◌, ◌++◌, codes, Option, Some, None, if◌then◌else◌}
use Rattle.ia32_types.specs.declared.insn.Insn.{Insn}
use Rattle.asm_source.specs.declared.tree.Value.{Value}
use Rattle.asm_source.specs.declared.tree.Form.{Form}
use Rattle.asm_source.specs.declared.tree.Form.TheVariants as form
use Rattle.asm_source.specs.declared.tree.Argument.{Argument}
use Rattle.ia32_text.specs.Numbers.{number_text}
use Rattle.ia32_text.specs.declared.style.Style.{Style}
use Rattle.ia32_text.specs.Statement.{Statement, statement_with}

-- the constant after a name
abbrev pub constant_text : ℤ → List ℕ
constant_text (pos n) = if n == 0 then [] else (codes "+" ++ number_text (pos n))
constant_text (negsuc n) = number_text (negsuc n)

abbrev pub named_text : Option (List ℕ) → ℤ → List ℕ
named_text None z = number_text z
named_text (Some name) z = name ++ constant_text z

abbrev pub value_text : Value → List ℕ
value_text v = named_text v.name v.number

abbrev pub displacement_text : Option Value → List ℕ
displacement_text None = []
displacement_text (Some v) = value_text v

-- 1, 2, 4 or 8
abbrev pub scale_text : ℕ → List ℕ
scale_text s = if s == 1 then codes "1" else if s == 2 then codes "2" else if s == 4 then codes "4" else codes "8"

abbrev pub register_text : List ℕ → List ℕ
register_text name = codes "%" ++ name

abbrev pub base_text : Option (List ℕ) → List ℕ
base_text None = []
base_text (Some b) = register_text b

-- base and index in parentheses, where one is there
abbrev pub place_text : Option (List ℕ) → Option (List ℕ) → ℕ → List ℕ
place_text None None s = []
place_text (Some b) None s = codes "(" ++ register_text b ++ codes ")"
place_text base (Some i) s = codes "(" ++ base_text base ++ codes "," ++ register_text i ++ codes "," ++ scale_text s ++ codes ")"

-- a string is no instruction's argument
unfoldable pub form_text : Form → List ℕ
form_text form.Absent = []
form_text (form.Register r) = register_text r
form_text (form.Immediate v) = codes "$" ++ value_text v
form_text (form.Memory v b i s) = displacement_text v ++ place_text b i s
form_text (form.Text t) = []

abbrev pub star_text : Bool → List ℕ
star_text true = codes "*"
star_text false = []

abbrev pub argument_text : Argument → List ℕ
argument_text a = star_text a.star ++ form_text a.form

abbrev pub more_text : List Argument → List ℕ
more_text [] = []
more_text (a ∷ arguments) = codes "," ++ argument_text a ++ more_text arguments

abbrev pub arguments_text : List Argument → List ℕ
arguments_text [] = []
arguments_text (a ∷ arguments) = codes " " ++ argument_text a ++ more_text arguments

abbrev pub rep_text : Bool → List ℕ
rep_text true = codes "rep "
rep_text false = []

unfoldable pub text_of : Statement → List ℕ
text_of s = rep_text s.rep ++ s.name ++ arguments_text s.arguments

-- an instruction as text, at an address, with its length, by how numbers are written
unfoldable pub instruction_text : Style → Insn → ℕ → ℕ → List ℕ
instruction_text style i at len = text_of (statement_with style i at len)
