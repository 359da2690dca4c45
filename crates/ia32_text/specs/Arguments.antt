-- The arguments of a statement that operands are.
use Rattle.std.specs.Prelude.{ℕ, ℤ, pos, ◌==◌, ◌&&◌, Bool, true, false, List, [], ◌∷◌, ◌++◌, codes}
use Rattle.std.specs.Prelude.{Option, Some, None, is_none, is_some, if◌then◌else◌}
use Rattle.std.specs.Option.{option_map}
use Rattle.ia32_types.specs.declared.register.Reg.{Reg}
use Rattle.ia32_types.specs.declared.insn.Address.{Address}
use Rattle.ia32_types.specs.Register.{number_of}
use Rattle.asm_source.specs.declared.tree.Value.{Value}
use Rattle.asm_source.specs.declared.tree.Form.{Form}
use Rattle.asm_source.specs.declared.tree.Form.TheVariants as form
use Rattle.asm_source.specs.declared.tree.Argument.{Argument}
use Rattle.ia32_text.specs.declared.operands.Written.{Written}
use Rattle.ia32_text.specs.declared.operands.Written.TheVariants as written
use Rattle.ia32_text.specs.declared.operands.Operands.{Operands}
use Rattle.ia32_text.specs.declared.operands.Operands.TheVariants as operands
use Rattle.ia32_types.specs.declared.addresses.TheConstants.{TEXT_ADDRESS}
use Rattle.run_trace.specs.Text.{hex8}
use Rattle.ia32_encode.specs.Short.{plain}
use Rattle.ia32_text.specs.declared.style.Target.{Target}
use Rattle.ia32_text.specs.declared.style.Target.TheVariants as to
use Rattle.ia32_text.specs.declared.style.Style.{Style}
use Rattle.ia32_text.specs.Numbers.{signed_long, from_text}
use Rattle.ia32_text.specs.Registers.{long_name, register_name, segment_name, control_name}

abbrev pub number : ℤ → Value
number z = record { name = None; number = z }

-- the label that names an address, and the address itself
abbrev pub mark_of : Target → List ℕ
mark_of to.Label = codes "L"
mark_of to.Address = codes "0x"

abbrev pub target_name : Target → ℕ → List ℕ
target_name t n = mark_of t ++ hex8 n

abbrev pub label_of : ℕ → List ℕ
label_of n = target_name to.Label n

-- a number by the label of the text's first byte
abbrev pub by_label : ℕ → Value
by_label n = record { name = Some (label_of TEXT_ADDRESS); number = from_text n }

abbrev pub reg_name : Reg → List ℕ
reg_name r = long_name (number_of r)

-- a plain address; or a displacement with its sign, which isn't written where it is 0 and there is a base
abbrev pub displacement_of : Address → Option Value
displacement_of a =
    if is_none a.base && is_none a.index then Some (number (pos a.disp))
    else if a.disp == 0 && is_some a.base then None
    else Some (number (signed_long a.disp))

-- the displacement, by a label where it is to be written so, and the immediate
abbrev pub displacement_with : Bool → Address → Option Value
displacement_with true a = Some (by_label a.disp)
displacement_with false a = displacement_of a

abbrev pub immediate_with : Bool → ℕ → Value
immediate_with true n = by_label n
immediate_with false n = number (pos n)

-- the form of an argument
abbrev pub form_with : Style → Written → Form
form_with style (written.Register s n) = form.Register (register_name s n)
form_with style (written.Segment g) = form.Register (segment_name g)
form_with style (written.Control n) = form.Register (control_name n)
form_with style (written.Memory a) =
    form.Memory (displacement_with style.named.disp a) (option_map reg_name a.base) (option_map reg_name a.index) a.scale
form_with style (written.Immediate n) = form.Immediate (immediate_with style.named.imm n)
form_with style written.Port = form.Memory None (Some (codes "dx")) None 1
form_with style (written.Label n) = form.Memory (Some (record { name = Some (target_name style.target n); number = pos 0 })) None None 1

abbrev pub argument_with : Style → Bool → Written → Argument
argument_with style star w = record { star = star; form = form_with style w }

abbrev pub arguments_with : Style → Operands → List Argument
arguments_with style operands.Nothing = []
arguments_with style (operands.One x) = argument_with style false x ∷ []
arguments_with style (operands.Starred x) = argument_with style true x ∷ []
arguments_with style (operands.Two x y) = argument_with style false x ∷ argument_with style false y ∷ []
arguments_with style (operands.Three x y z) = argument_with style false x ∷ argument_with style false y ∷ argument_with style false z ∷ []

-- as a source has them: numbers as they are, and the target of a direct branch by its label
abbrev pub labels : Style
labels = record { target = to.Label; named = plain }

abbrev pub form_of : Written → Form
form_of w = form_with labels w

abbrev pub argument : Bool → Written → Argument
argument star w = argument_with labels star w

unfoldable pub arguments_of : Operands → List Argument
arguments_of o = arguments_with labels o
