-- A direct branch is assembled to the distance to its target's label.
use Rattle.std.proofs.Common.{◌≡◌, ℕ, ◌+◌, ◌<◌, ◌++◌, true, false, List, [], ◌∷◌, Option, Some, None, Ok, refl}
use Rattle.std.specs.Prelude.{pos}
use Rattle.ia32_types.specs.declared.insn.Op.{Op}
use Rattle.ia32_types.specs.declared.insn.Op.TheVariants as op
use Rattle.ia32_encode.specs.declared.bytes.ArrayBytes.{ArrayBytes}
use Rattle.ia32_encode.specs.Chosen.{chosen}
use Rattle.ia32_encode.specs.Short.{by_distance, with_wide, Begins}
use Rattle.ia32_encode.proofs.ShortForms.{jmp_by_four_bytes, call_by_four_bytes, jcc_by_four_bytes}
use Rattle.asm_source.specs.declared.tree.Argument.{Argument}
use Rattle.asm_instruction.specs.declared.argument.Memory.{Memory}
use Rattle.asm_instruction.specs.declared.argument.Given.TheVariants as given
use Rattle.asm_instruction.specs.declared.argument.Operands.TheVariants as taken
use Rattle.asm_instruction.specs.declared.draft.Draft.{Draft}
use Rattle.asm_instruction.specs.declared.mnemonic.Mnemonic.{Mnemonic}
use Rattle.asm_instruction.specs.Argument.{given_by, memory_operand, single, operands_of as taken_by, names_symbol}
use Rattle.asm_instruction.specs.Sizes.{agreed}
use Rattle.asm_instruction.specs.Draft.{instruction}
use Rattle.asm_instruction.specs.Control.{distance, to_symbol, direct, control_draft}
use Rattle.asm_instruction.specs.Mnemonic.{known_name, drafted}
use Rattle.asm_instruction.specs.Assembled.{widths, whole, spelled, drafted_of}
use Rattle.ia32_text.specs.declared.operands.Written.TheVariants as written
use Rattle.ia32_text.specs.Names.{stem, condition_name}
use Rattle.ia32_text.specs.Arguments.{label_of, argument, arguments_of}
use Rattle.ia32_text.specs.Operands.{target, operands_of}
use Rattle.ia32_text.specs.Statement.{name_of, statement_of}
use Rattle.ia32_text.specs.Again.{BranchesTo}
use Rattle.ia32_text.proofs.Closing.{assembles_as}
use Rattle.ia32_text.proofs.Naming.{jump_named, bare_Jmp, bare_Call}

-- the symbol that a label's argument gives
abbrev symbol : Memory
symbol = record {
  address = record { base = None; index = None; scale = 1; disp = 0 };
  displacement = record { value = pos 0; named = true; argument = 0 };
}

abbrev label_arguments : ℕ → List Argument
label_arguments n = argument false (written.Label n) ∷ []

label_taken : (n : ℕ) → taken_by (label_arguments n) ≡ Some (taken.One (given.Memory symbol))
unfolding taken_by single given_by memory_operand
label_taken n = refl

label_widths : (o : Op) (c n : ℕ) → widths (to_symbol o c symbol) (label_arguments n) ≡ with_wide true
unfolding widths to_symbol names_symbol instruction
label_widths o c n = refl

symbol_insn : (o : Op) (c : ℕ) → (to_symbol o c symbol).insn ≡ by_distance o c (distance 0)
unfolding to_symbol instruction
symbol_insn o c = refl

symbol_fits : (o : Op) (c : ℕ) → (to_symbol o c symbol).fits ≡ true
unfolding to_symbol
symbol_fits o c = refl

there : (x : Option ArrayBytes) (front : List ℕ) (n : ℕ) → Begins front n x → (a : ArrayBytes) × (x ≡ Some a)
there None front n h = absurd h
there (Some a) front n h = (a, refl)

symbol_spelled : (o : Op) (c n : ℕ) (a : ArrayBytes) → chosen (with_wide true) (by_distance o c (distance 0)) ≡ Some a
    → spelled (to_symbol o c symbol) (label_arguments n) ≡ Ok (whole (to_symbol o c symbol) (with_wide true) a)
unfolding spelled
symbol_spelled o c n a e = rw (label_widths o c n, symbol_insn o c, e, symbol_fits o c) refl

symbol_drafted : (m : Mnemonic) (n : ℕ) (d : Draft) → drafted false m (taken.One (given.Memory symbol)) ≡ Some d
    → drafted_of false m (label_arguments n) ≡ Some d
unfolding drafted_of
symbol_drafted m n d e = rw (label_taken n) e

branches : (o : Op) (c n : ℕ) (front : List ℕ) (len : ℕ) (name : List ℕ) (m : Mnemonic) → known_name name ≡ Some m
    → drafted false m (taken.One (given.Memory symbol)) ≡ Some (to_symbol o c symbol)
    → Begins front len (chosen (with_wide true) (by_distance o c (distance 0))) → (imm : ℕ)
    → BranchesTo (record { rep = false; name = name; arguments = label_arguments n }) (label_of n) (by_distance o c imm)
unfolding whole to_symbol instruction
branches o c n front len name m k d b imm =
    let a = there (chosen (with_wide true) (by_distance o c (distance 0))) front len b in
    let w = whole (to_symbol o c symbol) (with_wide true) a.0 in
    record {
      answer = w;
      assembled_as = assembles_as false name m (label_arguments n) (to_symbol o c symbol) w k (symbol_drafted m n (to_symbol o c symbol) d)
          (symbol_spelled o c n a.0 a.1);
      same = refl;
      field = record { at = a.0.imm_at; argument = 0; relative = true };
      field_there = refl;
      relative = refl;
      argument = argument false (written.Label n);
      argument_there = refl;
      names = refl;
    }

pub jmp_again : (imm at len : ℕ) → BranchesTo (statement_of (by_distance op.Jmp 0 imm) at len) (label_of (target imm at len))
    (by_distance op.Jmp 0 imm)
unfolding statement_of name_of operands_of arguments_of drafted control_draft direct agreed
jmp_again imm at len =
    branches op.Jmp 0 (target imm at len) (0xe9 ∷ []) 5 (stem op.Jmp ++ []) _ bare_Jmp refl (jmp_by_four_bytes true (distance 0)) imm

pub call_again : (imm at len : ℕ) → BranchesTo (statement_of (by_distance op.Call 0 imm) at len) (label_of (target imm at len))
    (by_distance op.Call 0 imm)
unfolding statement_of name_of operands_of arguments_of drafted control_draft direct agreed
call_again imm at len =
    branches op.Call 0 (target imm at len) (0xe8 ∷ []) 5 (stem op.Call ++ []) _ bare_Call refl (call_by_four_bytes true (distance 0)) imm

pub jcc_again : (c imm at len : ℕ) → c < 16 → BranchesTo (statement_of (by_distance op.Jcc c imm) at len) (label_of (target imm at len))
    (by_distance op.Jcc c imm)
unfolding statement_of name_of operands_of arguments_of drafted control_draft direct agreed
jcc_again c imm at len l = branches op.Jcc c (target imm at len) (0x0f ∷ (0x80 + c) ∷ []) 6 (stem op.Jcc ++ condition_name c) _
    (jump_named c l) refl (jcc_by_four_bytes true c (distance 0) l) imm
