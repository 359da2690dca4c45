-- What the rows of the opcode table spell is meant by its name and its operands.
use Rattle.std.proofs.Common.{◌≡◌, ℕ, ◌<◌, ◌^◌, Bool, true, false, List, refl, sym, ap, subst, ◌∙◌, arith}
use Rattle.std.specs.Prelude.{◌==◌, ◌&&◌, not, nat_lt}
use Rattle.std.specs.List.{list_all, Contains}
use Rattle.std.proofs.lemmas.List.Sums.{AllPass-from_list_all}
use Rattle.std.proofs.lemmas.Bool.{eqb-true, not-true, and_parts}
use Rattle.ia32_types.specs.declared.insn.Insn.{Insn}
use Rattle.ia32_types.specs.declared.insn.Op.{Op}
use Rattle.ia32_types.specs.declared.insn.Op.TheVariants as op
use Rattle.ia32_types.specs.declared.insn.Operand.{Operand}
use Rattle.ia32_types.specs.declared.size.Size.{Size}
use Rattle.ia32_types.specs.declared.size.Size.TheVariants as size
use Rattle.ia32_types.specs.Branches.{is_direct_branch}
use Rattle.ia32_rows.specs.declared.row.Lead.{Lead}
use Rattle.ia32_rows.specs.declared.row.Plus.{Plus}
use Rattle.ia32_rows.specs.declared.row.Plus.TheVariants as plus
use Rattle.ia32_rows.specs.declared.row.Addressing.{Addressing}
use Rattle.ia32_rows.specs.declared.row.Immediate.{Immediate}
use Rattle.ia32_rows.specs.declared.row.Immediate.TheVariants as immediate
use Rattle.ia32_rows.specs.declared.row.Operands.{Operands}
use Rattle.ia32_rows.specs.declared.row.Operands.TheVariants as operands
use Rattle.ia32_rows.specs.declared.row.Row.{Row}
use Rattle.ia32_rows.specs.declared.row.Parts.{Parts}
use Rattle.ia32_rows.specs.Spelling.{has_code, operands_of, sel_of, repeats, insn_of}
use Rattle.ia32_rows.specs.Spells.{Spells}
use Rattle.ia32_rows.specs.Rows.{rows}
use Rattle.ia32_rows.proofs.ShapeLaws.{shaped}
use Rattle.ia32_encode.specs.Parts.{addressing_fits, immediate_fits, form_fits, parts_for}
use Rattle.ia32_encode.specs.Good.{IsBounded, Suits}
use Rattle.ia32_encode.specs.Short.{plain}
use Rattle.ia32_encode.proofs.Suiting.{listed_suits}
use Rattle.ia32_text.proofs.Drafting.{made}
use Rattle.ia32_text.proofs.Meaning as meaning
use Rattle.ia32_text.proofs.Meaning.{Meant}
use Rattle.ia32_text.proofs.RowFacts.{IsSafe, is_safe, Facts, two_row, two_is, test_operands, test_is, one_row, one_is, memory_row, memory_is, into_row, into_zero, into_zero_is, into_number_is, lea_row, lea_is, product_row, product_is, shift_row, shift_is, exchange_row, exchange_is, special_row, read_segment_is, load_segment_is, read_control_is, write_control_is, segment_row, segment_is, bare_row, bare_is, no_number, a_byte, a_drop, nothing_is, byte_alone_is, drop_alone_is, push_row, push_is, port_row, port_is, is_long, is_byte, no_word, no_long, long_size, byte_size, string_size, small_size}

-- the operands, number and size that a row of this name has
abbrev row_fits : Op → Size → Operands → Addressing → Immediate → Bool
row_fits op.Add s os a k = two_row s os a k
row_fits op.Or s os a k = two_row s os a k
row_fits op.Adc s os a k = two_row s os a k
row_fits op.Sbb s os a k = two_row s os a k
row_fits op.And s os a k = two_row s os a k
row_fits op.Sub s os a k = two_row s os a k
row_fits op.Xor s os a k = two_row s os a k
row_fits op.Cmp s os a k = two_row s os a k
row_fits op.Mov s os a k = two_row s os a k
row_fits op.Test s os a k = test_operands os && two_row s os a k
row_fits op.Not s os a k = one_row os a k
row_fits op.Neg s os a k = one_row os a k
row_fits op.Mul s os a k = one_row os a k
row_fits op.Div s os a k = one_row os a k
row_fits op.Idiv s os a k = one_row os a k
row_fits op.Inc s os a k = one_row os a k
row_fits op.Dec s os a k = one_row os a k
row_fits op.Imul s os a k = product_row os a k
row_fits op.ImulBy s os a k = into_row os a
row_fits op.Rol s os a k = shift_row os a k
row_fits op.Ror s os a k = shift_row os a k
row_fits op.Shl s os a k = shift_row os a k
row_fits op.Shr s os a k = shift_row os a k
row_fits op.Sar s os a k = shift_row os a k
row_fits op.Lea s os a k = lea_row os a k
row_fits op.Xchg s os a k = exchange_row os a k
row_fits op.Movzx s os a k = no_long s && into_zero os a k
row_fits op.Movsx s os a k = no_long s && into_zero os a k
row_fits op.Push s os a k = is_long s && push_row os a k
row_fits op.Pop s os a k = is_long s && one_row os a k
row_fits op.JumpTo s os a k = is_long s && one_row os a k
row_fits op.CallTo s os a k = is_long s && one_row os a k
row_fits op.LoadTask s os a k = is_long s && one_row os a k
row_fits op.LoadGdt s os a k = is_long s && memory_row os a k
row_fits op.LoadIdt s os a k = is_long s && memory_row os a k
row_fits op.DropPage s os a k = is_long s && memory_row os a k
row_fits op.ReadSeg s os a k = is_long s && special_row operands.RmSegment os a k
row_fits op.LoadSeg s os a k = is_long s && special_row operands.SegmentRm os a k
row_fits op.ReadControl s os a k = is_long s && special_row operands.RmControl os a k
row_fits op.WriteControl s os a k = is_long s && special_row operands.ControlRm os a k
row_fits op.PushSeg s os a k = is_long s && segment_row os k
row_fits op.PopSeg s os a k = is_long s && segment_row os k
row_fits op.Int s os a k = is_long s && (bare_row os && a_byte k)
row_fits op.Return s os a k = is_long s && (bare_row os && a_drop k)
row_fits op.PortIn s os a k = port_row os k
row_fits op.PortOut s os a k = port_row os k
row_fits op.Pusha s os a k = is_long s && (bare_row os && no_number k)
row_fits op.Popa s os a k = is_long s && (bare_row os && no_number k)
row_fits op.Cwde s os a k = is_long s && (bare_row os && no_number k)
row_fits op.Cdq s os a k = is_long s && (bare_row os && no_number k)
row_fits op.Leave s os a k = is_long s && (bare_row os && no_number k)
row_fits op.Nop s os a k = is_long s && (bare_row os && no_number k)
row_fits op.Int3 s os a k = is_long s && (bare_row os && no_number k)
row_fits op.Ud2 s os a k = is_long s && (bare_row os && no_number k)
row_fits op.Clc s os a k = is_long s && (bare_row os && no_number k)
row_fits op.Stc s os a k = is_long s && (bare_row os && no_number k)
row_fits op.Cld s os a k = is_long s && (bare_row os && no_number k)
row_fits op.Std s os a k = is_long s && (bare_row os && no_number k)
row_fits op.Cli s os a k = is_long s && (bare_row os && no_number k)
row_fits op.Sti s os a k = is_long s && (bare_row os && no_number k)
row_fits op.Hlt s os a k = is_long s && (bare_row os && no_number k)
row_fits op.PushFlags s os a k = is_long s && (bare_row os && no_number k)
row_fits op.PopFlags s os a k = is_long s && (bare_row os && no_number k)
row_fits op.Iret s os a k = is_long s && (bare_row os && no_number k)
row_fits op.Movs s os a k = no_word s && (bare_row os && no_number k)
row_fits op.Stos s os a k = no_word s && (bare_row os && no_number k)
row_fits op.Lods s os a k = no_word s && (bare_row os && no_number k)
row_fits op.Setcc s os a k = is_byte s && one_row os a k
row_fits op.FarJump s os a k = is_long s && bare_row os
row_fits op.Jmp s os a k = true
row_fits op.Call s os a k = true
row_fits op.Jcc s os a k = true

-- what is known of the selector, or the condition, and of the prefix
abbrev Tail : Op → ℕ → Bool → Type 0
Tail op.Setcc sel rep = (sel < 16) × (rep ≡ false)
Tail op.FarJump sel rep = (sel < 65536) × (rep ≡ false)
Tail op.Movs sel rep = sel ≡ 0
Tail op.Stos sel rep = sel ≡ 0
Tail op.Lods sel rep = sel ≡ 0
Tail op.Jmp sel rep = Unit {0}
Tail op.Call sel rep = Unit {0}
Tail op.Jcc sel rep = Unit {0}
Tail _ sel rep = (sel ≡ 0) × (rep ≡ false)

bare : (o : Op) (s : Size) (a b : Operand) (imm sel : ℕ) (rep : Bool) (at len : ℕ) → (sel ≡ 0) × (rep ≡ false)
    → Meant at len (made o s a b imm 0 false) → Meant at len (made o s a b imm sel rep)
bare o s a b imm sel rep at len e h =
    subst (λ r. Meant at len (made o s a b imm sel r)) (sym e.1) (subst (λ n. Meant at len (made o s a b imm n false)) (sym e.0) h)

unselected : (o : Op) (s : Size) (a b : Operand) (imm sel : ℕ) (rep : Bool) (at len : ℕ) → sel ≡ 0 → Meant at len (made o s a b imm 0 rep)
    → Meant at len (made o s a b imm sel rep)
unselected o s a b imm sel rep at len e h = subst (λ n. Meant at len (made o s a b imm n rep)) (sym e) h

unrepeated : (o : Op) (s : Size) (a b : Operand) (imm sel : ℕ) (rep : Bool) (at len : ℕ) → rep ≡ false
    → Meant at len (made o s a b imm sel false) → Meant at len (made o s a b imm sel rep)
unrepeated o s a b imm sel rep at len e h = subst (λ r. Meant at len (made o s a b imm sel r)) (sym e) h

meant_by : (o : Op) (s : Size) (os : Operands) (a : Addressing) (k : Immediate) (p : Parts) (sel : ℕ) (rep : Bool) (at len : ℕ)
    → row_fits o s os a k ≡ true → Facts os a k p → Tail o sel rep
    → is_direct_branch o ≡ false → Meant at len (made o s (operands_of os p).0 (operands_of os p).1 p.imm sel rep)
meant_by op.Add s os a k p sel rep at len t h e d =
    bare op.Add s _ _ p.imm sel rep at len e (meaning.meant_Add s _ _ p.imm at len (two_is s os a k p t h))
meant_by op.Or s os a k p sel rep at len t h e d =
    bare op.Or s _ _ p.imm sel rep at len e (meaning.meant_Or s _ _ p.imm at len (two_is s os a k p t h))
meant_by op.Adc s os a k p sel rep at len t h e d =
    bare op.Adc s _ _ p.imm sel rep at len e (meaning.meant_Adc s _ _ p.imm at len (two_is s os a k p t h))
meant_by op.Sbb s os a k p sel rep at len t h e d =
    bare op.Sbb s _ _ p.imm sel rep at len e (meaning.meant_Sbb s _ _ p.imm at len (two_is s os a k p t h))
meant_by op.And s os a k p sel rep at len t h e d =
    bare op.And s _ _ p.imm sel rep at len e (meaning.meant_And s _ _ p.imm at len (two_is s os a k p t h))
meant_by op.Sub s os a k p sel rep at len t h e d =
    bare op.Sub s _ _ p.imm sel rep at len e (meaning.meant_Sub s _ _ p.imm at len (two_is s os a k p t h))
meant_by op.Xor s os a k p sel rep at len t h e d =
    bare op.Xor s _ _ p.imm sel rep at len e (meaning.meant_Xor s _ _ p.imm at len (two_is s os a k p t h))
meant_by op.Cmp s os a k p sel rep at len t h e d =
    bare op.Cmp s _ _ p.imm sel rep at len e (meaning.meant_Cmp s _ _ p.imm at len (two_is s os a k p t h))
meant_by op.Mov s os a k p sel rep at len t h e d =
    bare op.Mov s _ _ p.imm sel rep at len e (meaning.meant_Mov s _ _ p.imm at len (two_is s os a k p t h))
meant_by op.Test s os a k p sel rep at len t h e d = bare op.Test s _ _ p.imm sel rep at len e
    (let both = and_parts (test_operands os) (two_row s os a k) t in meaning.meant_Test s _ _ p.imm at len (two_is s os a k p both.1 h)
    (test_is os p both.0))
meant_by op.Not s os a k p sel rep at len t h e d = bare op.Not s _ _ p.imm sel rep at len e
    (one_is (λ a b imm. Meant at len (made op.Not s a b imm 0 false)) (λ x i q. meaning.meant_Not s x at len i q) os a k p t h)
meant_by op.Neg s os a k p sel rep at len t h e d = bare op.Neg s _ _ p.imm sel rep at len e
    (one_is (λ a b imm. Meant at len (made op.Neg s a b imm 0 false)) (λ x i q. meaning.meant_Neg s x at len i q) os a k p t h)
meant_by op.Mul s os a k p sel rep at len t h e d = bare op.Mul s _ _ p.imm sel rep at len e
    (one_is (λ a b imm. Meant at len (made op.Mul s a b imm 0 false)) (λ x i q. meaning.meant_Mul s x at len i q) os a k p t h)
meant_by op.Div s os a k p sel rep at len t h e d = bare op.Div s _ _ p.imm sel rep at len e
    (one_is (λ a b imm. Meant at len (made op.Div s a b imm 0 false)) (λ x i q. meaning.meant_Div s x at len i q) os a k p t h)
meant_by op.Idiv s os a k p sel rep at len t h e d = bare op.Idiv s _ _ p.imm sel rep at len e
    (one_is (λ a b imm. Meant at len (made op.Idiv s a b imm 0 false)) (λ x i q. meaning.meant_Idiv s x at len i q) os a k p t h)
meant_by op.Inc s os a k p sel rep at len t h e d = bare op.Inc s _ _ p.imm sel rep at len e
    (one_is (λ a b imm. Meant at len (made op.Inc s a b imm 0 false)) (λ x i q. meaning.meant_Inc s x at len i q) os a k p t h)
meant_by op.Dec s os a k p sel rep at len t h e d = bare op.Dec s _ _ p.imm sel rep at len e
    (one_is (λ a b imm. Meant at len (made op.Dec s a b imm 0 false)) (λ x i q. meaning.meant_Dec s x at len i q) os a k p t h)
meant_by op.Imul s os a k p sel rep at len t h e d = bare op.Imul s _ _ p.imm sel rep at len e
    (product_is (λ a b imm. Meant at len (made op.Imul s a b imm 0 false)) (λ x i q. meaning.meant_Imul_one s x at len i q)
    (λ n x l i q. meaning.meant_Imul_two s n x at len l i q) os a k p t h)
meant_by op.ImulBy s os a k p sel rep at len t h e d = bare op.ImulBy s _ _ p.imm sel rep at len e
    (into_number_is (λ a b imm. Meant at len (made op.ImulBy s a b imm 0 false))
    (λ n x imm l i q m. meaning.meant_ImulBy s n x imm at len l i q m) os a k p t h)
meant_by op.Rol s os a k p sel rep at len t h e d = bare op.Rol s _ _ p.imm sel rep at len e
    (shift_is (λ a b imm. Meant at len (made op.Rol s a b imm 0 false)) (λ x imm i q l. meaning.meant_Rol_number s x imm at len i q l)
    (λ x i q. meaning.meant_Rol_register s x at len i q) os a k p t h)
meant_by op.Ror s os a k p sel rep at len t h e d = bare op.Ror s _ _ p.imm sel rep at len e
    (shift_is (λ a b imm. Meant at len (made op.Ror s a b imm 0 false)) (λ x imm i q l. meaning.meant_Ror_number s x imm at len i q l)
    (λ x i q. meaning.meant_Ror_register s x at len i q) os a k p t h)
meant_by op.Shl s os a k p sel rep at len t h e d = bare op.Shl s _ _ p.imm sel rep at len e
    (shift_is (λ a b imm. Meant at len (made op.Shl s a b imm 0 false)) (λ x imm i q l. meaning.meant_Shl_number s x imm at len i q l)
    (λ x i q. meaning.meant_Shl_register s x at len i q) os a k p t h)
meant_by op.Shr s os a k p sel rep at len t h e d = bare op.Shr s _ _ p.imm sel rep at len e
    (shift_is (λ a b imm. Meant at len (made op.Shr s a b imm 0 false)) (λ x imm i q l. meaning.meant_Shr_number s x imm at len i q l)
    (λ x i q. meaning.meant_Shr_register s x at len i q) os a k p t h)
meant_by op.Sar s os a k p sel rep at len t h e d = bare op.Sar s _ _ p.imm sel rep at len e
    (shift_is (λ a b imm. Meant at len (made op.Sar s a b imm 0 false)) (λ x imm i q l. meaning.meant_Sar_number s x imm at len i q l)
    (λ x i q. meaning.meant_Sar_register s x at len i q) os a k p t h)
meant_by op.Lea s os a k p sel rep at len t h e d = bare op.Lea s _ _ p.imm sel rep at len e
    (lea_is (λ a b imm. Meant at len (made op.Lea s a b imm 0 false)) (λ n x l i. meaning.meant_Lea s n x at len l i) os a k p t h)
meant_by op.Xchg s os a k p sel rep at len t h e d = bare op.Xchg s _ _ p.imm sel rep at len e
    (exchange_is (λ a b imm. Meant at len (made op.Xchg s a b imm 0 false)) (λ m n e l q. meaning.meant_Xchg_registers s m n at len e l q)
    (λ x n i l. meaning.meant_Xchg_memory s x n at len i l) os a k p t h)
meant_by op.Movzx s os a k p sel rep at len t h e d = bare op.Movzx s _ _ p.imm sel rep at len e
    (let both = and_parts (no_long s) (into_zero os a k) t in
    small_size (λ s. Meant at len (made op.Movzx s (operands_of os p).0 (operands_of os p).1 p.imm 0 false))
    (into_zero_is (λ a b imm. Meant at len (made op.Movzx size.Byte a b imm 0 false))
    (λ n x l i q. meaning.meant_Movzx_Byte n x at len l i q) os a k p both.1 h) (into_zero_is
    (λ a b imm. Meant at len (made op.Movzx size.Word a b imm 0 false)) (λ n x l i q. meaning.meant_Movzx_Word n x at len l i q) os a k
    p both.1 h) s both.0)
meant_by op.Movsx s os a k p sel rep at len t h e d = bare op.Movsx s _ _ p.imm sel rep at len e
    (let both = and_parts (no_long s) (into_zero os a k) t in
    small_size (λ s. Meant at len (made op.Movsx s (operands_of os p).0 (operands_of os p).1 p.imm 0 false))
    (into_zero_is (λ a b imm. Meant at len (made op.Movsx size.Byte a b imm 0 false))
    (λ n x l i q. meaning.meant_Movsx_Byte n x at len l i q) os a k p both.1 h) (into_zero_is
    (λ a b imm. Meant at len (made op.Movsx size.Word a b imm 0 false)) (λ n x l i q. meaning.meant_Movsx_Word n x at len l i q) os a k
    p both.1 h) s both.0)
meant_by op.Push s os a k p sel rep at len t h e d = bare op.Push s _ _ p.imm sel rep at len e
    (let both = and_parts (is_long s) (push_row os a k) t in
    long_size (λ s. Meant at len (made op.Push s (operands_of os p).0 (operands_of os p).1 p.imm 0 false))
    (push_is (λ a b imm. Meant at len (made op.Push size.Long a b imm 0 false)) (λ imm l. meaning.meant_Push_number imm at len l)
    (λ x i q. meaning.meant_Push_place x at len i q) os a k p both.1 h) s both.0)
meant_by op.Pop s os a k p sel rep at len t h e d = bare op.Pop s _ _ p.imm sel rep at len e
    (let both = and_parts (is_long s) (one_row os a k) t in
    long_size (λ s. Meant at len (made op.Pop s (operands_of os p).0 (operands_of os p).1 p.imm 0 false))
    (one_is (λ a b imm. Meant at len (made op.Pop size.Long a b imm 0 false)) (λ x i q. meaning.meant_Pop x at len i q) os a k p both.1 h) s
    both.0)
meant_by op.JumpTo s os a k p sel rep at len t h e d = bare op.JumpTo s _ _ p.imm sel rep at len e
    (let both = and_parts (is_long s) (one_row os a k) t in
    long_size (λ s. Meant at len (made op.JumpTo s (operands_of os p).0 (operands_of os p).1 p.imm 0 false))
    (one_is (λ a b imm. Meant at len (made op.JumpTo size.Long a b imm 0 false)) (λ x i q. meaning.meant_JumpTo x at len i q) os a k
    p both.1 h) s both.0)
meant_by op.CallTo s os a k p sel rep at len t h e d = bare op.CallTo s _ _ p.imm sel rep at len e
    (let both = and_parts (is_long s) (one_row os a k) t in
    long_size (λ s. Meant at len (made op.CallTo s (operands_of os p).0 (operands_of os p).1 p.imm 0 false))
    (one_is (λ a b imm. Meant at len (made op.CallTo size.Long a b imm 0 false)) (λ x i q. meaning.meant_CallTo x at len i q) os a k
    p both.1 h) s both.0)
meant_by op.LoadTask s os a k p sel rep at len t h e d = bare op.LoadTask s _ _ p.imm sel rep at len e
    (let both = and_parts (is_long s) (one_row os a k) t in
    long_size (λ s. Meant at len (made op.LoadTask s (operands_of os p).0 (operands_of os p).1 p.imm 0 false))
    (one_is (λ a b imm. Meant at len (made op.LoadTask size.Long a b imm 0 false)) (λ x i q. meaning.meant_LoadTask x at len i q) os a k
    p both.1 h) s both.0)
meant_by op.LoadGdt s os a k p sel rep at len t h e d = bare op.LoadGdt s _ _ p.imm sel rep at len e
    (let both = and_parts (is_long s) (memory_row os a k) t in
    long_size (λ s. Meant at len (made op.LoadGdt s (operands_of os p).0 (operands_of os p).1 p.imm 0 false))
    (memory_is (λ a b imm. Meant at len (made op.LoadGdt size.Long a b imm 0 false)) (λ x i. meaning.meant_LoadGdt x at len i) os a k
    p both.1 h) s both.0)
meant_by op.LoadIdt s os a k p sel rep at len t h e d = bare op.LoadIdt s _ _ p.imm sel rep at len e
    (let both = and_parts (is_long s) (memory_row os a k) t in
    long_size (λ s. Meant at len (made op.LoadIdt s (operands_of os p).0 (operands_of os p).1 p.imm 0 false))
    (memory_is (λ a b imm. Meant at len (made op.LoadIdt size.Long a b imm 0 false)) (λ x i. meaning.meant_LoadIdt x at len i) os a k
    p both.1 h) s both.0)
meant_by op.DropPage s os a k p sel rep at len t h e d = bare op.DropPage s _ _ p.imm sel rep at len e
    (let both = and_parts (is_long s) (memory_row os a k) t in
    long_size (λ s. Meant at len (made op.DropPage s (operands_of os p).0 (operands_of os p).1 p.imm 0 false))
    (memory_is (λ a b imm. Meant at len (made op.DropPage size.Long a b imm 0 false)) (λ x i. meaning.meant_DropPage x at len i) os a k
    p both.1 h) s both.0)
meant_by op.ReadSeg s os a k p sel rep at len t h e d = bare op.ReadSeg s _ _ p.imm sel rep at len e
    (let both = and_parts (is_long s) (special_row operands.RmSegment os a k) t in
    long_size (λ s. Meant at len (made op.ReadSeg s (operands_of os p).0 (operands_of os p).1 p.imm 0 false))
    (read_segment_is (λ a b imm. Meant at len (made op.ReadSeg size.Long a b imm 0 false)) (λ x g i q. meaning.meant_ReadSeg x g at len i q)
    os a k p both.1 h) s both.0)
meant_by op.LoadSeg s os a k p sel rep at len t h e d = bare op.LoadSeg s _ _ p.imm sel rep at len e
    (let both = and_parts (is_long s) (special_row operands.SegmentRm os a k) t in
    long_size (λ s. Meant at len (made op.LoadSeg s (operands_of os p).0 (operands_of os p).1 p.imm 0 false))
    (load_segment_is (λ a b imm. Meant at len (made op.LoadSeg size.Long a b imm 0 false)) (λ g x i q. meaning.meant_LoadSeg g x at len i q)
    os a k p both.1 h) s both.0)
meant_by op.ReadControl s os a k p sel rep at len t h e d = bare op.ReadControl s _ _ p.imm sel rep at len e
    (let both = and_parts (is_long s) (special_row operands.RmControl os a k) t in
    long_size (λ s. Meant at len (made op.ReadControl s (operands_of os p).0 (operands_of os p).1 p.imm 0 false))
    (read_control_is (λ a b imm. Meant at len (made op.ReadControl size.Long a b imm 0 false))
    (λ x c i q e. meaning.meant_ReadControl x c at len i q e) os a k p both.1 h) s both.0)
meant_by op.WriteControl s os a k p sel rep at len t h e d = bare op.WriteControl s _ _ p.imm sel rep at len e
    (let both = and_parts (is_long s) (special_row operands.ControlRm os a k) t in
    long_size (λ s. Meant at len (made op.WriteControl s (operands_of os p).0 (operands_of os p).1 p.imm 0 false))
    (write_control_is (λ a b imm. Meant at len (made op.WriteControl size.Long a b imm 0 false))
    (λ c x e i q. meaning.meant_WriteControl c x at len e i q) os a k p both.1 h) s both.0)
meant_by op.PushSeg s os a k p sel rep at len t h e d = bare op.PushSeg s _ _ p.imm sel rep at len e
    (let both = and_parts (is_long s) (segment_row os k) t in
    long_size (λ s. Meant at len (made op.PushSeg s (operands_of os p).0 (operands_of os p).1 p.imm 0 false))
    (segment_is (λ a b imm. Meant at len (made op.PushSeg size.Long a b imm 0 false)) (λ g. meaning.meant_PushSeg g at len) os a k
    p both.1 h) s both.0)
meant_by op.PopSeg s os a k p sel rep at len t h e d = bare op.PopSeg s _ _ p.imm sel rep at len e
    (let both = and_parts (is_long s) (segment_row os k) t in
    long_size (λ s. Meant at len (made op.PopSeg s (operands_of os p).0 (operands_of os p).1 p.imm 0 false))
    (segment_is (λ a b imm. Meant at len (made op.PopSeg size.Long a b imm 0 false)) (λ g. meaning.meant_PopSeg g at len) os a k p both.1 h)
    s both.0)
meant_by op.Int s os a k p sel rep at len t h e d = bare op.Int s _ _ p.imm sel rep at len e
    (let both = and_parts (is_long s) ((bare_row os && a_byte k)) t in
    long_size (λ s. Meant at len (made op.Int s (operands_of os p).0 (operands_of os p).1 p.imm 0 false))
    (byte_alone_is (λ a b imm. Meant at len (made op.Int size.Long a b imm 0 false)) (λ imm l. meaning.meant_Int imm at len l) os a k
    p both.1 h) s both.0)
meant_by op.Return s os a k p sel rep at len t h e d = bare op.Return s _ _ p.imm sel rep at len e
    (let both = and_parts (is_long s) ((bare_row os && a_drop k)) t in
    long_size (λ s. Meant at len (made op.Return s (operands_of os p).0 (operands_of os p).1 p.imm 0 false))
    (drop_alone_is (λ a b imm. Meant at len (made op.Return size.Long a b imm 0 false)) (λ imm l. meaning.meant_Return imm at len l) os a k
    p both.1 h) s both.0)
meant_by op.PortIn s os a k p sel rep at len t h e d = bare op.PortIn s _ _ p.imm sel rep at len e
    (port_is (λ a b imm. Meant at len (made op.PortIn s a b imm 0 false)) (λ imm l. meaning.meant_PortIn_number s imm at len l)
    (meaning.meant_PortIn_port s at len) os a k p t h)
meant_by op.PortOut s os a k p sel rep at len t h e d = bare op.PortOut s _ _ p.imm sel rep at len e
    (port_is (λ a b imm. Meant at len (made op.PortOut s a b imm 0 false)) (λ imm l. meaning.meant_PortOut_number s imm at len l)
    (meaning.meant_PortOut_port s at len) os a k p t h)
meant_by op.Pusha s os a k p sel rep at len t h e d = bare op.Pusha s _ _ p.imm sel rep at len e
    (let both = and_parts (is_long s) ((bare_row os && no_number k)) t in
    long_size (λ s. Meant at len (made op.Pusha s (operands_of os p).0 (operands_of os p).1 p.imm 0 false))
    (nothing_is (λ a b imm. Meant at len (made op.Pusha size.Long a b imm 0 false)) (meaning.meant_Pusha at len) os a k p both.1 h) s
    both.0)
meant_by op.Popa s os a k p sel rep at len t h e d = bare op.Popa s _ _ p.imm sel rep at len e
    (let both = and_parts (is_long s) ((bare_row os && no_number k)) t in
    long_size (λ s. Meant at len (made op.Popa s (operands_of os p).0 (operands_of os p).1 p.imm 0 false))
    (nothing_is (λ a b imm. Meant at len (made op.Popa size.Long a b imm 0 false)) (meaning.meant_Popa at len) os a k p both.1 h) s both.0)
meant_by op.Cwde s os a k p sel rep at len t h e d = bare op.Cwde s _ _ p.imm sel rep at len e
    (let both = and_parts (is_long s) ((bare_row os && no_number k)) t in
    long_size (λ s. Meant at len (made op.Cwde s (operands_of os p).0 (operands_of os p).1 p.imm 0 false))
    (nothing_is (λ a b imm. Meant at len (made op.Cwde size.Long a b imm 0 false)) (meaning.meant_Cwde at len) os a k p both.1 h) s both.0)
meant_by op.Cdq s os a k p sel rep at len t h e d = bare op.Cdq s _ _ p.imm sel rep at len e
    (let both = and_parts (is_long s) ((bare_row os && no_number k)) t in
    long_size (λ s. Meant at len (made op.Cdq s (operands_of os p).0 (operands_of os p).1 p.imm 0 false))
    (nothing_is (λ a b imm. Meant at len (made op.Cdq size.Long a b imm 0 false)) (meaning.meant_Cdq at len) os a k p both.1 h) s both.0)
meant_by op.Leave s os a k p sel rep at len t h e d = bare op.Leave s _ _ p.imm sel rep at len e
    (let both = and_parts (is_long s) ((bare_row os && no_number k)) t in
    long_size (λ s. Meant at len (made op.Leave s (operands_of os p).0 (operands_of os p).1 p.imm 0 false))
    (nothing_is (λ a b imm. Meant at len (made op.Leave size.Long a b imm 0 false)) (meaning.meant_Leave at len) os a k p both.1 h) s
    both.0)
meant_by op.Nop s os a k p sel rep at len t h e d = bare op.Nop s _ _ p.imm sel rep at len e
    (let both = and_parts (is_long s) ((bare_row os && no_number k)) t in
    long_size (λ s. Meant at len (made op.Nop s (operands_of os p).0 (operands_of os p).1 p.imm 0 false))
    (nothing_is (λ a b imm. Meant at len (made op.Nop size.Long a b imm 0 false)) (meaning.meant_Nop at len) os a k p both.1 h) s both.0)
meant_by op.Int3 s os a k p sel rep at len t h e d = bare op.Int3 s _ _ p.imm sel rep at len e
    (let both = and_parts (is_long s) ((bare_row os && no_number k)) t in
    long_size (λ s. Meant at len (made op.Int3 s (operands_of os p).0 (operands_of os p).1 p.imm 0 false))
    (nothing_is (λ a b imm. Meant at len (made op.Int3 size.Long a b imm 0 false)) (meaning.meant_Int3 at len) os a k p both.1 h) s both.0)
meant_by op.Ud2 s os a k p sel rep at len t h e d = bare op.Ud2 s _ _ p.imm sel rep at len e
    (let both = and_parts (is_long s) ((bare_row os && no_number k)) t in
    long_size (λ s. Meant at len (made op.Ud2 s (operands_of os p).0 (operands_of os p).1 p.imm 0 false))
    (nothing_is (λ a b imm. Meant at len (made op.Ud2 size.Long a b imm 0 false)) (meaning.meant_Ud2 at len) os a k p both.1 h) s both.0)
meant_by op.Clc s os a k p sel rep at len t h e d = bare op.Clc s _ _ p.imm sel rep at len e
    (let both = and_parts (is_long s) ((bare_row os && no_number k)) t in
    long_size (λ s. Meant at len (made op.Clc s (operands_of os p).0 (operands_of os p).1 p.imm 0 false))
    (nothing_is (λ a b imm. Meant at len (made op.Clc size.Long a b imm 0 false)) (meaning.meant_Clc at len) os a k p both.1 h) s both.0)
meant_by op.Stc s os a k p sel rep at len t h e d = bare op.Stc s _ _ p.imm sel rep at len e
    (let both = and_parts (is_long s) ((bare_row os && no_number k)) t in
    long_size (λ s. Meant at len (made op.Stc s (operands_of os p).0 (operands_of os p).1 p.imm 0 false))
    (nothing_is (λ a b imm. Meant at len (made op.Stc size.Long a b imm 0 false)) (meaning.meant_Stc at len) os a k p both.1 h) s both.0)
meant_by op.Cld s os a k p sel rep at len t h e d = bare op.Cld s _ _ p.imm sel rep at len e
    (let both = and_parts (is_long s) ((bare_row os && no_number k)) t in
    long_size (λ s. Meant at len (made op.Cld s (operands_of os p).0 (operands_of os p).1 p.imm 0 false))
    (nothing_is (λ a b imm. Meant at len (made op.Cld size.Long a b imm 0 false)) (meaning.meant_Cld at len) os a k p both.1 h) s both.0)
meant_by op.Std s os a k p sel rep at len t h e d = bare op.Std s _ _ p.imm sel rep at len e
    (let both = and_parts (is_long s) ((bare_row os && no_number k)) t in
    long_size (λ s. Meant at len (made op.Std s (operands_of os p).0 (operands_of os p).1 p.imm 0 false))
    (nothing_is (λ a b imm. Meant at len (made op.Std size.Long a b imm 0 false)) (meaning.meant_Std at len) os a k p both.1 h) s both.0)
meant_by op.Cli s os a k p sel rep at len t h e d = bare op.Cli s _ _ p.imm sel rep at len e
    (let both = and_parts (is_long s) ((bare_row os && no_number k)) t in
    long_size (λ s. Meant at len (made op.Cli s (operands_of os p).0 (operands_of os p).1 p.imm 0 false))
    (nothing_is (λ a b imm. Meant at len (made op.Cli size.Long a b imm 0 false)) (meaning.meant_Cli at len) os a k p both.1 h) s both.0)
meant_by op.Sti s os a k p sel rep at len t h e d = bare op.Sti s _ _ p.imm sel rep at len e
    (let both = and_parts (is_long s) ((bare_row os && no_number k)) t in
    long_size (λ s. Meant at len (made op.Sti s (operands_of os p).0 (operands_of os p).1 p.imm 0 false))
    (nothing_is (λ a b imm. Meant at len (made op.Sti size.Long a b imm 0 false)) (meaning.meant_Sti at len) os a k p both.1 h) s both.0)
meant_by op.Hlt s os a k p sel rep at len t h e d = bare op.Hlt s _ _ p.imm sel rep at len e
    (let both = and_parts (is_long s) ((bare_row os && no_number k)) t in
    long_size (λ s. Meant at len (made op.Hlt s (operands_of os p).0 (operands_of os p).1 p.imm 0 false))
    (nothing_is (λ a b imm. Meant at len (made op.Hlt size.Long a b imm 0 false)) (meaning.meant_Hlt at len) os a k p both.1 h) s both.0)
meant_by op.PushFlags s os a k p sel rep at len t h e d = bare op.PushFlags s _ _ p.imm sel rep at len e
    (let both = and_parts (is_long s) ((bare_row os && no_number k)) t in
    long_size (λ s. Meant at len (made op.PushFlags s (operands_of os p).0 (operands_of os p).1 p.imm 0 false))
    (nothing_is (λ a b imm. Meant at len (made op.PushFlags size.Long a b imm 0 false)) (meaning.meant_PushFlags at len) os a k p both.1 h)
    s both.0)
meant_by op.PopFlags s os a k p sel rep at len t h e d = bare op.PopFlags s _ _ p.imm sel rep at len e
    (let both = and_parts (is_long s) ((bare_row os && no_number k)) t in
    long_size (λ s. Meant at len (made op.PopFlags s (operands_of os p).0 (operands_of os p).1 p.imm 0 false))
    (nothing_is (λ a b imm. Meant at len (made op.PopFlags size.Long a b imm 0 false)) (meaning.meant_PopFlags at len) os a k p both.1 h) s
    both.0)
meant_by op.Iret s os a k p sel rep at len t h e d = bare op.Iret s _ _ p.imm sel rep at len e
    (let both = and_parts (is_long s) ((bare_row os && no_number k)) t in
    long_size (λ s. Meant at len (made op.Iret s (operands_of os p).0 (operands_of os p).1 p.imm 0 false))
    (nothing_is (λ a b imm. Meant at len (made op.Iret size.Long a b imm 0 false)) (meaning.meant_Iret at len) os a k p both.1 h) s both.0)
meant_by op.Movs s os a k p sel rep at len t h e d = unselected op.Movs s _ _ p.imm sel rep at len e
    (let both = and_parts (no_word s) (bare_row os && no_number k) t in
    string_size (λ s. Meant at len (made op.Movs s (operands_of os p).0 (operands_of os p).1 p.imm 0 rep))
    (nothing_is (λ a b imm. Meant at len (made op.Movs size.Byte a b imm 0 rep)) (meaning.meant_Movs_Byte at len rep) os a k p both.1 h)
    (nothing_is (λ a b imm. Meant at len (made op.Movs size.Long a b imm 0 rep)) (meaning.meant_Movs_Long at len rep) os a k p both.1 h) s
    both.0)
meant_by op.Stos s os a k p sel rep at len t h e d = unselected op.Stos s _ _ p.imm sel rep at len e
    (let both = and_parts (no_word s) (bare_row os && no_number k) t in
    string_size (λ s. Meant at len (made op.Stos s (operands_of os p).0 (operands_of os p).1 p.imm 0 rep))
    (nothing_is (λ a b imm. Meant at len (made op.Stos size.Byte a b imm 0 rep)) (meaning.meant_Stos_Byte at len rep) os a k p both.1 h)
    (nothing_is (λ a b imm. Meant at len (made op.Stos size.Long a b imm 0 rep)) (meaning.meant_Stos_Long at len rep) os a k p both.1 h) s
    both.0)
meant_by op.Lods s os a k p sel rep at len t h e d = unselected op.Lods s _ _ p.imm sel rep at len e
    (let both = and_parts (no_word s) (bare_row os && no_number k) t in
    string_size (λ s. Meant at len (made op.Lods s (operands_of os p).0 (operands_of os p).1 p.imm 0 rep))
    (nothing_is (λ a b imm. Meant at len (made op.Lods size.Byte a b imm 0 rep)) (meaning.meant_Lods_Byte at len rep) os a k p both.1 h)
    (nothing_is (λ a b imm. Meant at len (made op.Lods size.Long a b imm 0 rep)) (meaning.meant_Lods_Long at len rep) os a k p both.1 h) s
    both.0)
meant_by op.Setcc s os a k p sel rep at len t h e d =
    let both = and_parts (is_byte s) (one_row os a k) t in
    unrepeated op.Setcc s _ _ p.imm sel rep at len e.1
    (byte_size (λ s. Meant at len (made op.Setcc s (operands_of os p).0 (operands_of os p).1 p.imm sel false))
    (one_is (λ a b imm. Meant at len (made op.Setcc size.Byte a b imm sel false)) (λ x i q. meaning.meant_Setcc x sel at len i q e.0) os a k
    p both.1 h) s both.0)
meant_by op.FarJump s os a k p sel rep at len t h e d =
    let both = and_parts (is_long s) (bare_row os) t in
    unrepeated op.FarJump s _ _ p.imm sel rep at len e.1
    (long_size (λ s. Meant at len (made op.FarJump s (operands_of os p).0 (operands_of os p).1 p.imm sel false))
    (bare_is (λ a b imm. Meant at len (made op.FarJump size.Long a b imm sel false)) p.imm
    (meaning.meant_FarJump p.imm sel at len h.small e.0) os p both.1) s both.0)
meant_by op.Jmp s os a k p sel rep at len t h e d = absurd cc
meant_by op.Call s os a k p sel rep at len t h e d = absurd cc
meant_by op.Jcc s os a k p sel rep at len t h e d = absurd cc

-- ---- the selector and the prefix

abbrev plain_plus : Plus → Bool
plain_plus plus.Condition = false
plain_plus _ = true

abbrev condition_plus : Plus → Bool
condition_plus plus.Condition = true
condition_plus _ = false

abbrev not_far : Immediate → Bool
not_far immediate.Far = false
not_far _ = true

abbrev tail_fits : Op → Plus → Lead → Immediate → Bool
tail_fits op.Setcc p l k = condition_plus p && not (repeats l)
tail_fits op.FarJump p l k = not (repeats l)
tail_fits op.Movs p l k = plain_plus p && not_far k
tail_fits op.Stos p l k = plain_plus p && not_far k
tail_fits op.Lods p l k = plain_plus p && not_far k
tail_fits op.Jmp p l k = true
tail_fits op.Call p l k = true
tail_fits op.Jcc p l k = true
tail_fits _ p l k = plain_plus p && not_far k && not (repeats l)

unselected_is : (k : Immediate) (imm sel : ℕ) → not_far k ≡ true → immediate_fits k imm sel ≡ true → sel ≡ 0
unselected_is immediate.Nothing imm sel t e = eqb-true sel 0 (and_parts (imm == 0) (sel == 0) e).1
unselected_is immediate.One imm sel t e = eqb-true sel 0 (and_parts (imm == 1) (sel == 0) e).1
unselected_is immediate.Byte imm sel t e = eqb-true sel 0 (and_parts (nat_lt imm 256) (sel == 0) e).1
unselected_is immediate.SignedByte imm sel t e = eqb-true sel 0 (and_parts _ (sel == 0) e).1
unselected_is immediate.Word imm sel t e = eqb-true sel 0 (and_parts (nat_lt imm 65536) (sel == 0) e).1
unselected_is immediate.Long imm sel t e = eqb-true sel 0 e
unselected_is immediate.Far imm sel t e = absurd cc

plain_sel : (q : Plus) (p : Parts) → plain_plus q ≡ true → sel_of q p ≡ p.sel
plain_sel plus.Nothing p t = refl
plain_sel plus.Register p t = refl
plain_sel plus.OtherRegister p t = refl
plain_sel plus.Condition p t = absurd cc

condition_sel : (q : Plus) (p : Parts) → condition_plus q ≡ true → sel_of q p < 16
condition_sel plus.Condition p t = omega arith
condition_sel _ p t = absurd cc

zero_sel : (q : Plus) (k : Immediate) (p : Parts) → (plain_plus q && not_far k) ≡ true
    → immediate_fits k p.imm p.sel ≡ true → sel_of q p ≡ 0
zero_sel q k p t e = let both = and_parts (plain_plus q) (not_far k) t in plain_sel q p both.0 ∙ unselected_is k p.imm p.sel both.1 e

both_tail : (q : Plus) (l : Lead) (k : Immediate) (p : Parts) → (plain_plus q && not_far k && not (repeats l)) ≡ true
    → immediate_fits k p.imm p.sel ≡ true → (sel_of q p ≡ 0) × (repeats l ≡ false)
both_tail q l k p t e = let both =
    and_parts (plain_plus q && not_far k) (not (repeats l)) t in (zero_sel q k p both.0 e, not-true (repeats l) both.1)

tail_is : (o : Op) (q : Plus) (l : Lead) (k : Immediate) (p : Parts) → tail_fits o q l k ≡ true → immediate_fits k p.imm p.sel ≡ true
    → sel_of q p < 65536 → Tail o (sel_of q p) (repeats l)
tail_is op.Setcc q l k p t e b = let both =
    and_parts (condition_plus q) (not (repeats l)) t in (condition_sel q p both.0, not-true (repeats l) both.1)
tail_is op.FarJump q l k p t e b = (b, not-true (repeats l) t)
tail_is op.Movs q l k p t e b = zero_sel q k p t e
tail_is op.Stos q l k p t e b = zero_sel q k p t e
tail_is op.Lods q l k p t e b = zero_sel q k p t e
tail_is op.Jmp q l k p t e b = tt
tail_is op.Call q l k p t e b = tt
tail_is op.Jcc q l k p t e b = tt
tail_is _ q l k p t e b = both_tail q l k p t e

-- ---- every row

abbrev row_ok : Row → Bool
row_ok row = row_fits row.op row.size row.operands row.form.addressing row.form.immediate
    && tail_fits row.op row.form.plus row.form.lead row.form.immediate

all_rows_ok : list_all row_ok rows ≡ true
unfolding rows
all_rows_ok = refl

row_listed : (row : Row) → Contains rows row → row_ok row ≡ true
row_listed row c = ap row_ok (sym c.2) ∙ AllPass-from_list_all row_ok rows all_rows_ok c.0 row c.1

-- what is known of the instruction that the row has
record Known (i : Insn) : Type 0 where
  a_is : IsSafe i.a
  b_is : IsSafe i.b
  imm : i.imm < 2 ^ 32
  sel : i.sel < 65536

known : (bytes : List ℕ) (i : Insn) → Spells bytes i → IsBounded i → Known i
known bytes i s b = let h =
    shaped bytes i s in record { a_is = is_safe i.a h.named_a b.a; b_is = is_safe i.b h.named_b b.b; imm = b.imm; sel = b.sel }

row_meant : (row : Row) (p : Parts) (at len : ℕ) → row_ok row ≡ true → form_fits row.form p ≡ true → Known (insn_of row p)
    → is_direct_branch row.op ≡ false → Meant at len (insn_of row p)
unfolding insn_of form_fits
row_meant row p at len t f h d =
    let ok = and_parts (row_fits row.op row.size row.operands row.form.addressing row.form.immediate) _ t in
    let second = and_parts (has_code row.form p.code && addressing_fits row.form.addressing p.reg p.rm)
    (immediate_fits row.form.immediate p.imm p.sel) f in
    let first = and_parts (has_code row.form p.code) (addressing_fits row.form.addressing p.reg p.rm) second.0 in
    meant_by row.op row.size row.operands row.form.addressing row.form.immediate p (sel_of row.form.plus p)
    (repeats row.form.lead) at len ok.0
    (record { a_is = h.a_is; b_is = h.b_is; place = first.1; number = second.1; small = h.imm })
    (tail_is row.op row.form.plus row.form.lead row.form.immediate p ok.1 second.1 h.sel) d

row_op : (row : Row) (p : Parts) → (insn_of row p).op ≡ row.op
unfolding insn_of
row_op row p = refl

suited_meant : (row : Row) (i : Insn) (at len : ℕ) → Contains rows row → Suits row plain i → Known i
    → is_direct_branch i.op ≡ false → Meant at len i
suited_meant row i at len c s h d =
    let p = parts_for row false i in
    let same : insn_of row p ≡ i = s.means in
    subst (Meant at len) same
    (row_meant row p at len (row_listed row c) s.fits (subst Known (sym same) h)
    (ap is_direct_branch (sym (row_op row p) ∙ ap (λ (x : Insn). x.op) same) ∙ d))

-- A spelled instruction but a direct branch is meant by its name and its operands.
pub spelled_meant : (bytes : List ℕ) (i : Insn) (at len : ℕ) → Spells bytes i → IsBounded i → is_direct_branch i.op ≡ false → Meant at len i
spelled_meant bytes i at len s b d =
    suited_meant s.row i at len s.listed
    (listed_suits plain bytes i (record {
      row = s.row;
      listed = s.listed;
      parts = s.parts;
      by_row = s.by_row;
      disp = λ t. absurd cc;
      imm = λ t. absurd cc;
    }))
    (known bytes i s b) d
