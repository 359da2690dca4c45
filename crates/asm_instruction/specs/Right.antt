-- What is said of an assembled instruction: its spelling, its fields, and the distance of a direct branch.
use Rattle.std.specs.Prelude.{◌≡◌, ℕ, ℤ, pos, ◌+◌, ◌≤◌, true, List, take, Option, Some, None, is_some, slice_get}
use Rattle.ia32_types.specs.declared.size.Size.TheVariants as size
use Rattle.ia32_types.specs.Branches.{is_direct_branch}
use Rattle.ia32_encode.specs.declared.choose.Wide.{Wide}
use Rattle.ia32_encode.specs.Chosen.{chosen}
use Rattle.ia32_encode.specs.Good.{SpellsWide, IsReadBack, IsBounded}
use Rattle.asm_source.specs.declared.tree.Form.{Form}
use Rattle.asm_source.specs.declared.tree.Form.TheVariants as form
use Rattle.asm_source.specs.declared.tree.Argument.{Argument}
use Rattle.asm_source.specs.Names.{symbol_in}
use Rattle.asm_instruction.specs.declared.assembled.Assembled.{Assembled}
use Rattle.asm_instruction.specs.declared.assembled.Named.{Named}
use Rattle.asm_instruction.specs.Field.{field}
use Rattle.asm_instruction.specs.Control.{distance}

-- ---- what is said of an answer

-- from one to eleven bytes
pub record HasBoundedLength (a : Assembled) : Type 0 where
  pub some : 1 ≤ a.spelling.len
  pub most : a.spelling.len ≤ 11

abbrev pub spelling_bytes : Assembled → List ℕ
spelling_bytes a = take a.spelling.len a.spelling.bytes

-- which of its fields name a symbol
abbrev pub named_in : Assembled → Wide
named_in a = record { disp = is_some a.disp; imm = is_some a.imm }

-- the bytes spell the instruction, with four bytes for what names a symbol, and are read back whatever follows
pub record SpellsItsInstruction (a : Assembled) : Type 0 where
  pub spells : SpellsWide (named_in a) (spelling_bytes a) a.insn
  pub read_back : IsReadBack (spelling_bytes a) a.insn a.spelling.len

-- the field lies in the spelling, and its argument names a symbol
abbrev pub IsField : ℕ → List Argument → Option Named → Type 0
IsField len args None = Unit {0}
IsField len args (Some f) =
    (f.at + 4 ≤ len) × (a : Argument) × (n : List ℕ) × (slice_get args f.argument ≡ Some a) × (symbol_in a.form ≡ Some n)

pub record HasFields (args : List Argument) (a : Assembled) : Type 0 where
  pub disp : IsField a.spelling.len args a.disp
  pub imm : IsField a.spelling.len args a.imm

-- the displacement stands before the immediate
abbrev pub Before : Option Named → Option Named → Type 0
Before (Some d) (Some i) = d.at + 4 ≤ i.at
Before _ _ = Unit {0}

abbrev pub AreInOrder : Assembled → Type 0
AreInOrder a = Before a.disp a.imm

-- the spelling is the chosen one, and the fields stand where it has its displacement and its immediate
pub record IsFromChosen (a : Assembled) : Type 0 where
  pub chosen_there : chosen (named_in a) a.insn ≡ Some a.spelling
  pub bounded : IsBounded a.insn
  pub disp_at : (f : Named) → a.disp ≡ Some f → f.at ≡ a.spelling.disp_at
  pub imm_at : (f : Named) → a.imm ≡ Some f → f.at ≡ a.spelling.imm_at

-- all of these
pub record IsRight (args : List Argument) (a : Assembled) : Type 0 where
  pub spelled : SpellsItsInstruction a
  pub short : HasBoundedLength a
  pub fields : HasFields args a
  pub order : AreInOrder a

-- ---- direct branches

-- the number in a value, which is 0 where none is written
abbrev pub constant_of : Form → ℤ
constant_of (form.Immediate v) = v.number
constant_of (form.Memory (Some v) base index scale) = v.number
constant_of _ = pos 0

abbrev pub argument_constant : Option Argument → ℤ
argument_constant None = pos 0
argument_constant (Some a) = constant_of a.form

abbrev pub constant_in : List Argument → ℕ → ℤ
constant_in args k = argument_constant (slice_get args k)

-- the field is the distance to the symbol of its argument and the constant there
pub record IsDistance (args : List Argument) (a : Assembled) : Type 0 where
  pub field_there : Named
  pub is : a.imm ≡ Some field_there
  pub relative : field_there.relative ≡ true
  pub constant : a.insn.imm ≡ distance (field size.Long (constant_in args field_there.argument))

-- no field of an instruction is a distance but that of a direct branch
pub record IsBranchRight (args : List Argument) (a : Assembled) : Type 0 where
  pub direct : is_direct_branch a.insn.op ≡ true → IsDistance args a
  pub only : (f : Named) → a.imm ≡ Some f → f.relative ≡ true → is_direct_branch a.insn.op ≡ true
