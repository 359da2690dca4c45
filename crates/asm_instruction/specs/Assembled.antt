-- The instruction that a statement is, in its chosen spelling.
use Rattle.std.specs.Prelude.{ℕ, Bool, false, List, Option, Some, None, is_some, Result, Ok, Err, if◌then◌else◌}
use Rattle.ia32_encode.specs.declared.bytes.ArrayBytes.{ArrayBytes}
use Rattle.ia32_encode.specs.declared.choose.Wide.{Wide}
use Rattle.ia32_encode.specs.Chosen.{chosen}
use Rattle.asm_source.specs.declared.tree.Argument.{Argument}
use Rattle.asm_instruction.specs.declared.draft.Draft.{Draft}
use Rattle.asm_instruction.specs.declared.mnemonic.Mnemonic.{Mnemonic}
use Rattle.asm_instruction.specs.declared.assembled.Assembled.{Assembled}
use Rattle.asm_instruction.specs.declared.assembled.Named.{Named}
use Rattle.asm_instruction.specs.declared.assembled.Refusal.{Refusal}
use Rattle.asm_instruction.specs.declared.assembled.Refusal.TheVariants as refusal
use Rattle.asm_instruction.specs.Names.{found, ◌>>=◌}
use Rattle.asm_instruction.specs.Argument.{operands_of, names_symbol}
use Rattle.asm_instruction.specs.Mnemonic.{known_name, drafted}
use Rattle.asm_instruction.specs.Refused.{refused_names}

-- ---- from the name and the arguments to the answer

-- the field at a place, if the argument that gives it names a symbol
abbrev pub named_field : Bool → Option ℕ → ℕ → Bool → Option Named
named_field named None at relative = None
named_field named (Some k) at relative = if named then Some (record { at = at; argument = k; relative = relative }) else None

-- which fields name a symbol, and so have four bytes
unfoldable pub widths : Draft → List Argument → Wide
widths d arguments = record { disp = names_symbol arguments d.disp; imm = names_symbol arguments d.imm }

unfoldable pub whole : Draft → Wide → ArrayBytes → Assembled
whole d wide spelling = record {
  spelling = spelling;
  insn = d.insn;
  disp = named_field wide.disp d.disp spelling.disp_at false;
  imm = named_field wide.imm d.imm spelling.imm_at d.relative;
}

-- without a spelling there is no row with such operands; with one its numbers must fit
abbrev pub with_spelling : Draft → Wide → Option ArrayBytes → Result Assembled Refusal
with_spelling d wide None = Err refusal.Operands
with_spelling d wide (Some spelling) = if d.fits then Ok (whole d wide spelling) else Err refusal.ValueRange

unfoldable pub spelled : Draft → List Argument → Result Assembled Refusal
spelled d arguments = with_spelling d (widths d arguments) (chosen (widths d arguments) d.insn)

unfoldable pub drafted_of : Bool → Mnemonic → List Argument → Option Draft
drafted_of rep m arguments = operands_of arguments >>= λ os. drafted rep m os

abbrev pub by_draft : List Argument → Option Draft → Result Assembled Refusal
by_draft arguments None = Err refusal.Operands
by_draft arguments (Some d) = spelled d arguments

unfoldable pub by_mnemonic : Bool → Mnemonic → List Argument → Result Assembled Refusal
by_mnemonic rep m arguments = by_draft arguments (drafted_of rep m arguments)

abbrev pub by_name : Bool → List Argument → Option Mnemonic → Result Assembled Refusal
by_name rep arguments None = Err refusal.UnknownInstruction
by_name rep arguments (Some m) = by_mnemonic rep m arguments

unfoldable pub assembled : Bool → List ℕ → List Argument → Result Assembled Refusal
assembled rep name arguments =
    if is_some (found refused_names name) then Err refusal.RefusedInstruction else by_name rep arguments (known_name name)
