-- The statement that an instruction is assembles to it again.
use Rattle.std.proofs.Common.{◌≡◌, ℕ, Bool, false, List, Ok}
use Rattle.ia32_types.specs.declared.insn.Insn.{Insn}
use Rattle.ia32_types.specs.Branches.{is_direct_branch}
use Rattle.ia32_rows.specs.Spells.{Spells}
use Rattle.asm_source.specs.declared.tree.Argument.{Argument}
use Rattle.asm_instruction.specs.declared.assembled.Assembled.{Assembled}
use Rattle.asm_instruction.specs.Assembled.{assembled}
use Rattle.asm_instruction.specs.Right.{spelling_bytes}
use Rattle.asm_instruction.proofs.Answered.{answer_right}
use Rattle.ia32_text.specs.Statement.{name_of, statement_of}
use Rattle.ia32_text.specs.Operands.{operands_of}
use Rattle.ia32_text.specs.Again.{AssemblesTo}
use Rattle.ia32_text.proofs.Closing.{assembles, spelled_chosen}
use Rattle.ia32_text.proofs.RowLaw.{spelled_meant}
use Rattle.ia32_text.proofs.SpelledBounds.{spelled_bounded}

pub spelled_again : (bytes : List ℕ) (i : Insn) (at len : ℕ) → Spells bytes i → is_direct_branch i.op ≡ false
    → AssemblesTo (statement_of i at len) i
unfolding statement_of
spelled_again bytes i at len s d =
    let c = spelled_chosen bytes i s in
    let a = assembles i (name_of i) (operands_of i at len) c.0 c.1 (spelled_meant bytes i at len s (spelled_bounded bytes i s) d) in
    record { answer = a.answer; assembled_as = a.assembled_as; same = a.same; spelling_is = a.spelling_is }

pub assembled_again : (rep : Bool) (name : List ℕ) (args : List Argument) (a : Assembled) (at len : ℕ) → assembled rep name args ≡ Ok a
    → is_direct_branch a.insn.op ≡ false
    → AssemblesTo (statement_of a.insn at len) a.insn
assembled_again rep name args a at len e d =
    let s = (answer_right rep name args a e).spelled.spells in
    spelled_again (spelling_bytes a) a.insn at len (record { row = s.row; listed = s.listed; parts = s.parts; by_row = s.by_row }) d
