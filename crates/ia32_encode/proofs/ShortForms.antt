-- Short forms and branches, by the table: each is the first row of its instruction.
use Rattle.std.proofs.Common.{◌≡◌, ℕ, ◌/◌, ◌+◌, ◌*◌, ◌%◌, ◌<◌, Bool, true, false, [], ◌∷◌, Some, refl, sym, ap, subst, ◌∙◌, arith}
use Rattle.std.specs.Prelude.{◌==◌, ◌&&◌, ◌||◌, not, nat_le}
use Rattle.std.specs.Cmp.Derive.{both_true}
use Rattle.std.proofs.lemmas.Bool.Decides.{nat_tests}
use Rattle.ia32_types.specs.declared.insn.Insn.{Insn}
use Rattle.ia32_types.specs.declared.insn.Op.{Op}
use Rattle.ia32_types.specs.declared.insn.Op.TheVariants.{Return, Push, Pop, Jmp, Call, Jcc}
use Rattle.ia32_types.specs.declared.insn.Operand.TheVariants.{Absent, Register}
use Rattle.ia32_types.specs.declared.size.Size.TheVariants.{Long}
use Rattle.ia32_rows.specs.declared.row.Row.{Row}
use Rattle.ia32_rows.specs.declared.row.Lead.TheVariants as lead
use Rattle.ia32_rows.specs.declared.row.Plus.TheVariants as plus
use Rattle.ia32_rows.specs.declared.row.Immediate.TheVariants as immediate
use Rattle.ia32_rows.specs.declared.row.Operands.TheVariants as operands
use Rattle.ia32_rows.specs.Rows.{rows, row, no_modrm}
use Rattle.ia32_rows.specs.Spelling.{insn_of}
use Rattle.ia32_encode.specs.declared.choose.Wide.{Wide}
use Rattle.ia32_encode.specs.Chosen.{chosen}
use Rattle.ia32_encode.specs.Good.{Suits}
use Rattle.ia32_encode.specs.Parts.{parts_for, form_fits}
use Rattle.ia32_encode.specs.Text.{laid_out}
use Rattle.ia32_encode.specs.Short.{with_operand, by_distance, plain, with_wide, bare, Begins}
use Rattle.ia32_encode.proofs.FirstRow.{first_that, first_of, is_of, needs_same, code_itself}

-- the row is the first of its instruction and size
abbrev IsFirst : Row → Type 0
IsFirst r = first_that (is_of r.op r.size) rows ≡ Some r

chosen_by : (r : Row) (w : Wide) (i : Insn) → IsFirst r → r.op ≡ i.op → r.size ≡ i.size → Suits r w i
    → chosen w i ≡ Some (laid_out r.form (parts_for r w.disp i))
chosen_by r w i first o s suits =
    first_of (is_of i.op i.size) w i (needs_same w i) r
    (ap (λ (t : Op). first_that (is_of t i.size) rows) (sym o)
    ∙ (ap (λ (t : _). first_that (is_of r.op t) rows) (sym s) ∙ first)) suits

-- ---- RET

return_row : Row
return_row = row lead.Nothing 0xc3 plus.Nothing no_modrm immediate.Nothing Return Long operands.Nothing

return_first : IsFirst return_row
unfolding rows return_row
return_first = refl

pub ret_is_one_byte : chosen plain (with_operand Return Absent) ≡ Some (bare (0xc3 ∷ []))
unfolding return_row parts_for form_fits insn_of
ret_is_one_byte =
    chosen_by return_row plain (with_operand Return Absent) return_first refl refl (record { means = refl; fits = refl; widths = refl })

-- ---- PUSH and POP of a register

abbrev opcode_row : ℕ → Op → Row
opcode_row n o = row lead.Nothing n plus.Register no_modrm immediate.Nothing o Long operands.Opcode

push_first : IsFirst (opcode_row 0x50 Push)
unfolding rows
push_first = refl

pop_first : IsFirst (opcode_row 0x58 Pop)
unfolding rows
pop_first = refl

-- the opcode names the register: its three low bits
in_opcode : (k n : ℕ) → n < 8 → (k * 8 / 8 * 8 + n % 8) % 8 ≡ n
in_opcode k n lt = omega arith

opcode_is : (k n : ℕ) → n < 8 → k * 8 / 8 * 8 + n % 8 ≡ k * 8 + n
opcode_is k n lt = omega arith

within : (k n : ℕ) (span : ℕ) → n < span + 1 → (nat_le k (k + n) && nat_le (k + n) (k + span)) ≡ true
within k n span lt = grind (arith, nat_tests)

opcode_suits : (k n : ℕ) (o : Op) → n < 8 → Suits (opcode_row (k * 8) o) plain (with_operand o (Register n))
unfolding parts_for form_fits insn_of
opcode_suits k n o lt = record {
  means = ap (λ (m : ℕ). with_operand o (Register m)) (in_opcode k n lt);
  fits =
      both_true (both_true (ap (λ (m : ℕ). nat_le (k * 8) m && nat_le m (k * 8 + 7)) (opcode_is k n lt) ∙ within (k * 8) n 7 lt) refl) refl;
  widths = refl;
}

opcode_laid : (k n : ℕ) (o : Op) → n < 8
    → laid_out (opcode_row (k * 8) o).form (parts_for (opcode_row (k * 8) o) false (with_operand o (Register n))) ≡ bare ((k * 8 + n) ∷ [])
unfolding parts_for
opcode_laid k n o lt = ap (λ (m : ℕ). bare (m ∷ [])) (opcode_is k n lt)

by_opcode : (k n : ℕ) (o : Op) → IsFirst (opcode_row (k * 8) o) → n < 8 → chosen plain (with_operand o (Register n)) ≡ Some
    (bare ((k * 8 + n) ∷ []))
by_opcode k n o f lt =
    chosen_by (opcode_row (k * 8) o) plain (with_operand o (Register n)) f refl refl (opcode_suits k n o lt)
    ∙ ap (λ (a : _). Some a) (opcode_laid k n o lt)

pub push_is_one_byte : (n : ℕ) → n < 8 → chosen plain (with_operand Push (Register n)) ≡ Some (bare ((0x50 + n) ∷ []))
push_is_one_byte n lt = by_opcode 10 n Push push_first lt

pub pop_is_one_byte : (n : ℕ) → n < 8 → chosen plain (with_operand Pop (Register n)) ≡ Some (bare ((0x58 + n) ∷ []))
pop_is_one_byte n lt = by_opcode 11 n Pop pop_first lt

-- ---- branches

abbrev branch_row : ℕ → Op → Row
branch_row n o = row lead.Nothing n plus.Nothing no_modrm immediate.Long o Long operands.Nothing

jmp_first : IsFirst (branch_row 0xe9 Jmp)
unfolding rows
jmp_first = refl

call_first : IsFirst (branch_row 0xe8 Call)
unfolding rows
call_first = refl

four_bytes : (w : Bool) → (true && (not w || 4 == 4)) ≡ true
four_bytes true = refl
four_bytes false = refl

branch_suits : (w : Bool) (n : ℕ) (o : Op) (d : ℕ) → Suits (branch_row n o) (with_wide w) (by_distance o 0 d)
unfolding parts_for form_fits insn_of
branch_suits w n o d = record {
  means = refl;
  fits = both_true (both_true (code_itself n) refl) refl;
  widths = four_bytes w;
}

branch_laid : (w : Bool) (n : ℕ) (o : Op) (d : ℕ)
    → Begins (n ∷ []) 5 (Some (laid_out (branch_row n o).form (parts_for (branch_row n o) false (by_distance o 0 d))))
unfolding parts_for
branch_laid w n o d = (refl, refl)

by_branch : (n : ℕ) (o : Op) (w : Bool) (d : ℕ) → IsFirst (branch_row n o)
    → Begins (n ∷ []) 5 (chosen (with_wide w) (by_distance o 0 d))
by_branch n o w d f =
    subst (Begins (n ∷ []) 5) (sym (chosen_by (branch_row n o) (with_wide w) (by_distance o 0 d) f refl refl (branch_suits w n o d)))
    (branch_laid w n o d)

pub jmp_by_four_bytes : (w : Bool) (distance : ℕ) → Begins (0xe9 ∷ []) 5 (chosen (with_wide w) (by_distance Jmp 0 distance))
jmp_by_four_bytes w d = by_branch 0xe9 Jmp w d jmp_first

pub call_by_four_bytes : (w : Bool) (distance : ℕ) → Begins (0xe8 ∷ []) 5 (chosen (with_wide w) (by_distance Call 0 distance))
call_by_four_bytes w d = by_branch 0xe8 Call w d call_first

abbrev conditional : Row
conditional = row lead.Escape 0x80 plus.Condition no_modrm immediate.Long Jcc Long operands.Nothing

jcc_first : IsFirst conditional
unfolding rows
jcc_first = refl

-- the opcode names the condition: its four low bits
condition_in_opcode : (n : ℕ) → n < 16 → (0x80 / 16 * 16 + n % 16) % 16 ≡ n
condition_in_opcode n lt = omega arith

condition_is : (n : ℕ) → n < 16 → 0x80 / 16 * 16 + n % 16 ≡ 0x80 + n
condition_is n lt = omega arith

conditional_suits : (w : Bool) (n d : ℕ) → n < 16 → Suits conditional (with_wide w) (by_distance Jcc n d)
unfolding parts_for form_fits insn_of
conditional_suits w n d lt = record {
  means = ap (λ (m : ℕ). by_distance Jcc m d) (condition_in_opcode n lt);
  fits = both_true (both_true (ap (λ (m : ℕ). nat_le 0x80 m && nat_le m (0x80 + 15)) (condition_is n lt) ∙ within 0x80 n 15 lt) refl) refl;
  widths = four_bytes w;
}

conditional_laid : (n d : ℕ) → n < 16
    → Begins (0x0f ∷ (0x80 + n) ∷ []) 6 (Some (laid_out conditional.form (parts_for conditional false (by_distance Jcc n d))))
unfolding parts_for
conditional_laid n d lt = (ap (λ (m : ℕ). 0x0f ∷ m ∷ []) (condition_is n lt), refl)

pub jcc_by_four_bytes : (w : Bool) (condition distance : ℕ) → condition < 16
    → Begins (0x0f ∷ (0x80 + condition) ∷ []) 6 (chosen (with_wide w) (by_distance Jcc condition distance))
jcc_by_four_bytes w n d lt =
    subst (Begins (0x0f ∷ (0x80 + n) ∷ []) 6)
    (sym (chosen_by conditional (with_wide w) (by_distance Jcc n d) jcc_first refl refl (conditional_suits w n d lt)))
    (conditional_laid n d lt)

pub ruleset long_branches = (jmp_by_four_bytes, call_by_four_bytes, jcc_by_four_bytes)
