-- The statement that an instruction is.
use Rattle.std.specs.Prelude.{ℕ, Bool, List, [], ◌++◌, codes}
use Rattle.ia32_types.specs.declared.insn.Insn.{Insn}
use Rattle.ia32_types.specs.declared.size.Size.{Size}
use Rattle.ia32_types.specs.declared.size.Size.TheVariants as size
use Rattle.asm_source.specs.declared.tree.Argument.{Argument}
use Rattle.ia32_text.specs.declared.kinds.Ending.{Ending}
use Rattle.ia32_text.specs.declared.kinds.Ending.TheVariants as ends
use Rattle.ia32_text.specs.Kinds.{ending_of}
use Rattle.ia32_text.specs.Names.{stem, condition_name}
use Rattle.ia32_text.specs.Operands.{operands_of}
use Rattle.ia32_text.specs.declared.style.Style.{Style}
use Rattle.ia32_text.specs.Arguments.{arguments_with, arguments_of}

pub record Statement : Type 0 where
  pub rep : Bool
  pub name : List ℕ
  pub arguments : List Argument

abbrev pub letter : Size → List ℕ
letter size.Byte = codes "b"
letter size.Word = codes "w"
letter size.Long = codes "l"

abbrev pub end_of : Ending → Insn → List ℕ
end_of ends.Nothing i = []
end_of ends.Sized i = letter i.size
end_of ends.Widened i = letter i.size ++ codes "l"
end_of ends.Condition i = condition_name i.sel

unfoldable pub name_of : Insn → List ℕ
name_of i = stem i.op ++ end_of (ending_of i.op) i

-- of the instruction at an address, with its length, by how numbers are written
unfoldable pub statement_with : Style → Insn → ℕ → ℕ → Statement
statement_with style i at len = record { rep = i.rep; name = name_of i; arguments = arguments_with style (operands_of i at len) }

-- as a source has it: a direct branch names its target by a label
unfoldable pub statement_of : Insn → ℕ → ℕ → Statement
statement_of i at len = record { rep = i.rep; name = name_of i; arguments = arguments_of (operands_of i at len) }
