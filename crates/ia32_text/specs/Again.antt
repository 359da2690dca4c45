-- A statement that assembles to an instruction, and to a direct branch.
use Rattle.std.specs.Prelude.{◌≡◌, ℕ, true, List, Some, Ok, slice_get}
use Rattle.ia32_types.specs.declared.insn.Insn.{Insn}
use Rattle.ia32_encode.specs.Chosen.{chosen}
use Rattle.ia32_encode.specs.Short.{plain}
use Rattle.asm_source.specs.declared.tree.Argument.{Argument}
use Rattle.asm_source.specs.Names.{symbol_in}
use Rattle.asm_instruction.specs.declared.assembled.Assembled.{Assembled}
use Rattle.asm_instruction.specs.declared.assembled.Named.{Named}
use Rattle.asm_instruction.specs.Control.{distance}
use Rattle.asm_instruction.specs.Assembled.{assembled}
use Rattle.ia32_text.specs.Statement.{Statement}

-- the statement assembles to the instruction, in its chosen spelling
pub record AssemblesTo (s : Statement) (i : Insn) : Type 0 where
  pub answer : Assembled
  pub assembled_as : assembled s.rep s.name s.arguments ≡ Ok answer
  pub same : answer.insn ≡ i
  pub spelling_is : chosen plain i ≡ Some answer.spelling

-- The statement assembles to a direct branch like the instruction, whose field is the distance to the symbol that its argument names.
pub record BranchesTo (s : Statement) (label : List ℕ) (i : Insn) : Type 0 where
  pub answer : Assembled
  pub assembled_as : assembled s.rep s.name s.arguments ≡ Ok answer
  pub same : answer.insn ≡ record i { imm = distance 0 }
  pub field : Named
  pub field_there : answer.imm ≡ Some field
  pub relative : field.relative ≡ true
  pub argument : Argument
  pub argument_there : slice_get s.arguments field.argument ≡ Some argument
  pub names : symbol_in argument.form ≡ Some label
