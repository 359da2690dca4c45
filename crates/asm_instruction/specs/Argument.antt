-- What the arguments of a statement say.
use Rattle.std.specs.Prelude.{codes, ℕ, pos, ◌&&◌, Bool, false, List, [], ◌∷◌, Option, Some, None, is_some, is_none, slice_get, if◌then◌else◌}
use Rattle.std.specs.Option.{option_or}
use Rattle.std.specs.Str.{bytes_eq}
use Rattle.ia32_types.specs.declared.register.Reg.{Reg}
use Rattle.ia32_types.specs.Register.{number_of}
use Rattle.ia32_types.specs.declared.size.Size.TheVariants as size
use Rattle.asm_source.specs.declared.tree.Value.{Value}
use Rattle.asm_source.specs.declared.tree.Form.{Form}
use Rattle.asm_source.specs.declared.tree.Form.TheVariants as form
use Rattle.asm_source.specs.declared.tree.Argument.{Argument}
use Rattle.asm_source.specs.Names.{symbol_in}
use Rattle.asm_instruction.specs.declared.argument.Number.{Number}
use Rattle.asm_instruction.specs.declared.argument.Given.{Given}
use Rattle.asm_instruction.specs.declared.argument.Given.TheVariants as given
use Rattle.asm_instruction.specs.declared.argument.Operands.{Operands}
use Rattle.asm_instruction.specs.declared.argument.Operands.TheVariants as operands
use Rattle.asm_instruction.specs.Names.{found, ◌>>=◌}
use Rattle.asm_instruction.specs.Register.{long_registers, word_registers, byte_registers, segment_registers, control_registers}
use Rattle.asm_instruction.specs.Field.{field}

-- ---- registers

unfoldable pub named_register : List ℕ → Option Given
named_register name =
    option_or (found long_registers name >>= λ r. Some (given.Register size.Long (number_of r)))
    (option_or (found word_registers name >>= λ n. Some (given.Register size.Word n))
    (option_or (found byte_registers name >>= λ n. Some (given.Register size.Byte n))
    (option_or (found segment_registers name >>= λ s. Some (given.Segment s))
    (found control_registers name >>= λ n. Some (given.Control n)))))

-- ---- numbers and memory; k is the number of the argument

abbrev pub number_in : Value → ℕ → Number
number_in v k = record { value = v.number; named = is_some v.name; argument = k }

-- a displacement that is not written is 0
abbrev pub displacement : Option Value → ℕ → Number
displacement (Some v) k = number_in v k
displacement None k = record { value = pos 0; named = false; argument = k }

-- the base or the index, if it is there; only registers of 32 bits are
abbrev pub address_register : Option (List ℕ) → Option (Option Reg)
address_register None = Some None
address_register (Some name) = found long_registers name >>= λ r. Some (Some r)

abbrev pub is_dx : Option (List ℕ) → Bool
is_dx None = false
is_dx (Some name) = bytes_eq name (codes "dx")

abbrev pub address : Option Reg → Option Reg → ℕ → Number → Given
address base index scale n = given.Memory (record {
  address = record { base = base; index = index; scale = scale; disp = field size.Long n.value };
  displacement = n;
})

unfoldable pub memory_operand : Number → Option (List ℕ) → Option (List ℕ) → ℕ → Option Given
memory_operand n base index scale = do
  b ← address_register base
  i ← address_register index
  Some (address b i scale n)

-- what the argument of number k says
unfoldable pub given_by : Form → ℕ → Option Given
given_by (form.Register name) k = named_register name
given_by (form.Immediate v) k = Some (given.Immediate (number_in v k))
given_by (form.Memory v base index scale) k =
    if is_none v && is_dx base && is_none index then Some given.Port
    else memory_operand (displacement v k) base index scale
given_by _ k = None

-- ---- the operands

unfoldable pub single : Argument → Option Operands
single a = given_by a.form 0 >>= λ g. Some (if a.star then operands.Starred g else operands.One g)

-- one of several arguments: there * stands before none
unfoldable pub unstarred : Argument → ℕ → Option Given
unstarred a k = if a.star then None else given_by a.form k

unfoldable pub operands_of : List Argument → Option Operands
operands_of [] = Some operands.Nothing
operands_of (a ∷ []) = single a
operands_of (a ∷ b ∷ []) = do
  x ← unstarred a 0
  y ← unstarred b 1
  Some (operands.Two x y)
operands_of (a ∷ b ∷ c ∷ []) = do
  x ← unstarred a 0
  y ← unstarred b 1
  z ← unstarred c 2
  Some (operands.Three x y z)
operands_of _ = None

-- ---- symbols

-- the argument of this number, where there is one, names a symbol
unfoldable pub names_symbol : List Argument → Option ℕ → Bool
names_symbol arguments None = false
names_symbol arguments (Some k) = is_some (slice_get arguments k >>= λ a. symbol_in a.form)
