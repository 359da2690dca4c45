-- A number or a register as the second operand, by the table: the first row that can spell it.
use Rattle.std.proofs.Common.{◌≡◌, ℕ, zero, suc, ◌+◌, ◌*◌, ◌%◌, ◌<◌, Bool, true, false, List, [], ◌∷◌, ◌++◌, Some, None, length, replicate, refl, sym, ap, subst, ◌∙◌, arith}
use Rattle.std.specs.Prelude.{◌-◌, ◌==◌, ◌&&◌, ◌||◌, not}
use Rattle.std.specs.Cmp.Derive.{both_true}
use Rattle.std.proofs.lemmas.Bool.{lt-ltb, and_parts, eq-eqb}
use Rattle.std.proofs.lemmas.List.{take_at}
use Rattle.ia32_types.specs.declared.insn.Address.{Address}
use Rattle.ia32_types.specs.declared.insn.Insn.{Insn}
use Rattle.ia32_types.specs.declared.insn.Op.{Op}
use Rattle.ia32_types.specs.declared.insn.Op.TheVariants.{Mov}
use Rattle.ia32_types.specs.declared.insn.Operand.{Operand}
use Rattle.ia32_types.specs.declared.insn.Operand.TheVariants.{Register, Memory}
use Rattle.ia32_types.specs.declared.size.Size.{Size}
use Rattle.ia32_types.specs.declared.size.Size.TheVariants.{Byte, Word, Long}
use Rattle.ia32_rows.specs.declared.row.Row.{Row}
use Rattle.ia32_rows.specs.declared.row.Parts.{Parts}
use Rattle.ia32_rows.specs.declared.row.Lead.{Lead}
use Rattle.ia32_rows.specs.declared.row.Lead.TheVariants as lead
use Rattle.ia32_rows.specs.declared.row.Plus.TheVariants as plus
use Rattle.ia32_rows.specs.declared.row.RmForm.TheVariants as place
use Rattle.ia32_rows.specs.declared.row.Addressing.{Addressing}
use Rattle.ia32_rows.specs.declared.row.Addressing.TheVariants as addressing
use Rattle.ia32_rows.specs.declared.row.Immediate.TheVariants as immediate
use Rattle.ia32_rows.specs.declared.row.Operands.{Operands}
use Rattle.ia32_rows.specs.declared.row.Operands.TheVariants as operands
use Rattle.ia32_rows.specs.Fields.{reg_of}
use Rattle.ia32_rows.specs.Rows.{rows, row, digit, slash_r}
use Rattle.ia32_rows.specs.Spelling.{has_code, operands_of, repeats, insn_of}
use Rattle.ia32_encode.specs.declared.choose.Wide.{Wide}
use Rattle.ia32_encode.specs.Chosen.{chosen}
use Rattle.ia32_encode.specs.Good.{Suits}
use Rattle.ia32_encode.specs.Parts.{rm_from, parts_for, form_fits, address_fits, rm_fits, is_offset, addressing_fits, immediate_fits}
use Rattle.ia32_encode.specs.Text.{laid_out, is_signed_byte, index_number, base_number, disp_len_of, memory_len, mode_for, scale_bits, disp_bytes, modrm, has_sib, memory_bytes}
use Rattle.ia32_encode.specs.Short.{arithmetic, with_number, with_registers, plain, with_displacement, Begins, IsSpelledByDigit}
use Rattle.ia32_encode.proofs.Back.{base_below}
use Rattle.ia32_encode.proofs.FirstRow.{first_that, first_of, none_of, is_of, needs_same, code_itself, Needs}

-- ---- a number that fits a signed byte

abbrev short_row : ℕ → Op → Row
short_row k o = row lead.Nothing 0x83 plus.Nothing (digit k) immediate.SignedByte o Long operands.Rm

-- of the rows of each of the eight this one is first
short_is_first : (k : ℕ) → k < 8 → first_that (is_of (arithmetic k) Long) rows ≡ Some (short_row k (arithmetic k))
unfolding rows
short_is_first zero lt = refl
short_is_first (suc zero) lt = refl
short_is_first (suc (suc zero)) lt = refl
short_is_first (suc (suc (suc zero))) lt = refl
short_is_first (suc (suc (suc (suc zero)))) lt = refl
short_is_first (suc (suc (suc (suc (suc zero))))) lt = refl
short_is_first (suc (suc (suc (suc (suc (suc zero)))))) lt = refl
short_is_first (suc (suc (suc (suc (suc (suc (suc zero))))))) lt = refl
short_is_first (suc (suc (suc (suc (suc (suc (suc (suc n)))))))) lt = absurd (omega arith)

short_suits : (w : Bool) (k imm : ℕ) (o : Op) (a : Operand) → k < 8 → rm_fits place.Either a ≡ true → is_signed_byte imm ≡ true
    → (not w || disp_len_of w a == 4) ≡ true
    → Suits (short_row k o) (with_displacement w) (with_number o a imm)
unfolding parts_for form_fits insn_of
short_suits w k imm o a lt fit short four = record {
  means = refl;
  fits = both_true (both_true (both_true (lt-ltb k 8 lt) (eq-eqb k k refl)) fit) (both_true short refl);
  widths = both_true four refl;
}

short_is_chosen : (w : Bool) (k imm : ℕ) (a : Operand) → k < 8 → rm_fits place.Either a ≡ true → is_signed_byte imm ≡ true
    → (not w || disp_len_of w a == 4) ≡ true
    → chosen (with_displacement w) (with_number (arithmetic k) a imm) ≡ Some
    (laid_out (short_row k (arithmetic k)).form (parts_for (short_row k (arithmetic k)) w (with_number (arithmetic k) a imm)))
short_is_chosen w k imm a lt fit short four =
    let i = with_number (arithmetic k) a imm in
    first_of (is_of (arithmetic k) Long) (with_displacement w) i (needs_same (with_displacement w) i) (short_row k (arithmetic k))
    (short_is_first k lt) (short_suits w k imm (arithmetic k) a lt fit short four)

modrm_is : (n m : ℕ) → modrm 3 n m ≡ 0xc0 + 8 * n + m
modrm_is n m = omega arith

laid_register : (k n imm : ℕ) (o : Op) → Begins (0x83 ∷ (0xc0 + 8 * k + n) ∷ (imm % 256) ∷ []) 3
    (Some (laid_out (short_row k o).form (parts_for (short_row k o) false (with_number o (Register n) imm))))
unfolding parts_for
laid_register k n imm o = (ap (λ (x : ℕ). 0x83 ∷ x ∷ imm % 256 ∷ []) (modrm_is k n), refl)

pub short_number : (k n imm : ℕ) → k < 8 → n < 8 → is_signed_byte imm ≡ true → Begins (0x83 ∷ (0xc0 + 8 * k + n) ∷ (imm % 256) ∷ []) 3
    (chosen plain (with_number (arithmetic k) (Register n) imm))
short_number k n imm lt small short =
    subst (Begins (0x83 ∷ (0xc0 + 8 * k + n) ∷ (imm % 256) ∷ []) 3)
    (sym (short_is_chosen false k imm (Register n) lt (both_true (lt-ltb n 8 small) refl) short refl))
    (laid_register k n imm (arithmetic k))

four_or_not : (w : Bool) (a : Address) → (not w || memory_len w a == 4) ≡ true
four_or_not true a = refl
four_or_not false a = refl

-- the ModRM byte of an address, with a number in its reg field
record HasReg (k : ℕ) (bytes : List ℕ) : Type 0 where
  first : ℕ
  rest : List ℕ
  are : bytes ≡ first ∷ rest
  reg : reg_of first ≡ k

memory_reg : (k len : ℕ) (a : Address) (sib : Bool) → has_sib a ≡ sib → k < 8 → HasReg k (memory_bytes k len a)
memory_reg k len a true s lt = rw s (record {
  first = modrm (mode_for a.base len) k 4;
  rest = modrm (scale_bits a.scale) (index_number a.index) (base_number a.base) ∷ disp_bytes len a.disp;
  are = refl;
  reg = omega arith;
})
memory_reg k len a false s lt = let b = base_below a.base in rw s (record {
  first = modrm (mode_for a.base len) k (base_number a.base);
  rest = disp_bytes len a.disp;
  are = refl;
  reg = omega (arith, b);
})

laid_by_digit : (w : Bool) (k imm : ℕ) (o : Op) (a : Address) → HasReg k (memory_bytes k (memory_len w a) a)
    → IsSpelledByDigit 0x83 k imm (Some (laid_out (short_row k o).form (parts_for (short_row k o) w (with_number o (Memory a) imm))))
unfolding parts_for
laid_by_digit w k imm o a m =
    let bytes = 0x83 ∷ (memory_bytes k (memory_len w a) a ++ imm % 256 ∷ []) in
    record {
      modrm = m.first;
      rest = m.rest;
      spelled =
          take_at bytes (replicate (16 - length bytes) 0) (length bytes) refl ∙ ap (λ (t : List ℕ). 0x83 ∷ (t ++ imm % 256 ∷ [])) m.are;
      reg = m.reg;
    }

pub short_number_at : (w : Bool) (k imm : ℕ) (a : Address) → k < 8 → address_fits a ≡ true → is_signed_byte imm ≡ true
    → IsSpelledByDigit 0x83 k imm (chosen (with_displacement w) (with_number (arithmetic k) (Memory a) imm))
short_number_at w k imm a lt fit short =
    subst (IsSpelledByDigit 0x83 k imm) (sym (short_is_chosen w k imm (Memory a) lt (both_true fit refl) short (four_or_not w a)))
    (laid_by_digit w k imm (arithmetic k) a (memory_reg k (memory_len w a) a (has_sib a) refl lt))

-- the eight have no row of 16 bits
no_word_row : (k : ℕ) → first_that (is_of (arithmetic k) Word) rows ≡ None
unfolding rows
no_word_row zero = refl
no_word_row (suc zero) = refl
no_word_row (suc (suc zero)) = refl
no_word_row (suc (suc (suc zero))) = refl
no_word_row (suc (suc (suc (suc zero)))) = refl
no_word_row (suc (suc (suc (suc (suc zero))))) = refl
no_word_row (suc (suc (suc (suc (suc (suc zero)))))) = refl
no_word_row (suc (suc (suc (suc (suc (suc (suc n))))))) = refl

pub no_words : (wide : Wide) (k : ℕ) (insn : Insn) → insn.op ≡ arithmetic k → insn.size ≡ Word → chosen wide insn ≡ None
no_words w k i e f =
    none_of (is_of i.op i.size) w i (needs_same w i)
    (ap (λ (o : Op). first_that (is_of o i.size) rows) e ∙ ap (λ (s : Size). first_that (is_of (arithmetic k) s) rows) f ∙ no_word_row k)

-- ---- two registers

-- rows with a second operand
abbrev has_second : Operands → Bool
has_second operands.Nothing = false
has_second operands.Rm = false
has_second operands.Opcode = false
has_second operands.Accumulator = false
has_second operands.Extra = false
has_second operands.Code = false
has_second operands.Stack = false
has_second operands.Data = false
has_second _ = true

abbrev is_plain : Addressing → Bool
is_plain addressing.Offset = true
is_plain _ = false

-- rows of this instruction and size with a second operand and no plain address
abbrev is_pair : Op → Size → Row → Bool
is_pair o s r = is_of o s r && (has_second r.operands && not (is_plain r.form.addressing))

second_is_there : (ops : Operands) (p : Parts) (n : ℕ) → (operands_of ops p).1 ≡ Register n → has_second ops ≡ true
second_is_there operands.Nothing p n e = absurd cc
second_is_there operands.Rm p n e = absurd cc
second_is_there operands.Opcode p n e = absurd cc
second_is_there operands.Accumulator p n e = absurd cc
second_is_there operands.Extra p n e = absurd cc
second_is_there operands.Code p n e = absurd cc
second_is_there operands.Stack p n e = absurd cc
second_is_there operands.Data p n e = absurd cc
second_is_there _ p n e = refl

no_offset : (ops : Operands) (m n : ℕ) → is_offset (rm_from ops (Register m) (Register n)) ≡ true → ⊥
no_offset operands.Rm m n h = cc
no_offset operands.RmReg m n h = cc
no_offset operands.RegRm m n h = cc
no_offset operands.RmCount m n h = cc
no_offset operands.AccumulatorRm m n h = cc
no_offset operands.RmAccumulator m n h = cc
no_offset operands.RmControl m n h = cc
no_offset operands.ControlRm m n h = cc
no_offset operands.RmSegment m n h = cc
no_offset operands.SegmentRm m n h = cc
no_offset operands.TwoRegisters m n h = cc
no_offset _ m n h = cc

no_plain_address : (kind : Addressing) (ops : Operands) (reg m n : ℕ) → addressing_fits kind reg (rm_from ops (Register m) (Register n))
    ≡ true → not (is_plain kind) ≡ true
no_plain_address addressing.Nothing ops reg m n h = refl
no_plain_address addressing.Offset ops reg m n h =
    absurd (no_offset ops m n (and_parts (reg == 0) (is_offset (rm_from ops (Register m) (Register n))) h).1)
no_plain_address (addressing.Modrm form) ops reg m n h = refl

fits_address : (r : Row) (i : Insn) → form_fits r.form (parts_for r false i) ≡ true
    → addressing_fits r.form.addressing (parts_for r false i).reg (rm_from r.operands i.a i.b) ≡ true
unfolding form_fits parts_for
fits_address r i h =
    let p = parts_for r false i in
    (and_parts (has_code r.form p.code) (addressing_fits r.form.addressing p.reg p.rm)
    (and_parts (has_code r.form p.code && addressing_fits r.form.addressing p.reg p.rm)
    (immediate_fits r.form.immediate p.imm p.sel) h).0).1

needs_pair : (o : Op) (s : Size) (m n : ℕ) → Needs (is_pair o s) plain (with_registers o s m n)
unfolding insn_of
needs_pair o s m n r t =
    let i = with_registers o s m n in
    both_true (needs_same plain i r t) (both_true
    (second_is_there r.operands (parts_for r false i) n (ap (λ (j : Insn). j.b) t.means))
    (no_plain_address r.form.addressing r.operands (parts_for r false i).reg m n (fits_address r i t.fits)))

abbrev pair_row : Lead → ℕ → Op → Size → Row
pair_row l code o s = row l code plus.Nothing slash_r immediate.Nothing o s operands.RmReg

-- of the rows with a second operand this one is first
abbrev IsFirstPair : Lead → ℕ → Op → Size → Type 0
IsFirstPair l code o s = first_that (is_pair o s) rows ≡ Some (pair_row l code o s)

pair_suits : (l : Lead) (code : ℕ) (o : Op) (s : Size) (m n : ℕ) → repeats l ≡ false → m < 8 → n < 8
    → Suits (pair_row l code o s) plain (with_registers o s m n)
unfolding parts_for form_fits insn_of
pair_suits l code o s m n e a b = record {
  means = ap (λ (t : Bool). record { op = o; size = s; a = Register m; b = Register n; imm = 0; sel = 0; rep = t }) e;
  fits = both_true (both_true (code_itself code) (both_true (both_true (lt-ltb n 8 b) refl) (both_true (lt-ltb m 8 a) refl))) refl;
  widths = refl;
}

pair_is_chosen : (l : Lead) (code : ℕ) (o : Op) (s : Size) (m n : ℕ) → repeats l ≡ false → m < 8 → n < 8
    → IsFirstPair l code o s
    → chosen plain (with_registers o s m n) ≡ Some
    (laid_out (pair_row l code o s).form (parts_for (pair_row l code o s) false (with_registers o s m n)))
pair_is_chosen l code o s m n e a b first =
    first_of (is_pair o s) plain (with_registers o s m n) (needs_pair o s m n) (pair_row l code o s) first
    (pair_suits l code o s m n e a b)

laid_pair : (code : ℕ) (o : Op) (s : Size) (m n : ℕ)
    → Begins (code ∷ (0xc0 + 8 * n + m) ∷ []) 2
    (Some (laid_out (pair_row lead.Nothing code o s).form (parts_for (pair_row lead.Nothing code o s) false (with_registers o s m n))))
unfolding parts_for
laid_pair code o s m n = (ap (λ (x : ℕ). code ∷ x ∷ []) (modrm_is n m), refl)

laid_words : (code : ℕ) (o : Op) (m n : ℕ) → Begins (0x66 ∷ code ∷ (0xc0 + 8 * n + m) ∷ []) 3
    (Some (laid_out (pair_row lead.Word code o Word).form (parts_for (pair_row lead.Word code o Word) false (with_registers o Word m n))))
unfolding parts_for
laid_words code o m n = (ap (λ (x : ℕ). 0x66 ∷ code ∷ x ∷ []) (modrm_is n m), refl)

two_registers : (code : ℕ) (o : Op) (s : Size) (m n : ℕ) → m < 8 → n < 8 → IsFirstPair lead.Nothing code o s
    → Begins (code ∷ (0xc0 + 8 * n + m) ∷ []) 2 (chosen plain (with_registers o s m n))
two_registers code o s m n a b first =
    subst (Begins (code ∷ (0xc0 + 8 * n + m) ∷ []) 2) (sym (pair_is_chosen lead.Nothing code o s m n refl a b first))
    (laid_pair code o s m n)

byte_is_first : (k : ℕ) → k < 8 → IsFirstPair lead.Nothing (8 * k) (arithmetic k) Byte
unfolding rows
byte_is_first zero lt = refl
byte_is_first (suc zero) lt = refl
byte_is_first (suc (suc zero)) lt = refl
byte_is_first (suc (suc (suc zero))) lt = refl
byte_is_first (suc (suc (suc (suc zero)))) lt = refl
byte_is_first (suc (suc (suc (suc (suc zero))))) lt = refl
byte_is_first (suc (suc (suc (suc (suc (suc zero)))))) lt = refl
byte_is_first (suc (suc (suc (suc (suc (suc (suc zero))))))) lt = refl
byte_is_first (suc (suc (suc (suc (suc (suc (suc (suc n)))))))) lt = absurd (omega arith)

long_is_first : (k : ℕ) → k < 8 → IsFirstPair lead.Nothing (8 * k + 1) (arithmetic k) Long
unfolding rows
long_is_first zero lt = refl
long_is_first (suc zero) lt = refl
long_is_first (suc (suc zero)) lt = refl
long_is_first (suc (suc (suc zero))) lt = refl
long_is_first (suc (suc (suc (suc zero)))) lt = refl
long_is_first (suc (suc (suc (suc (suc zero))))) lt = refl
long_is_first (suc (suc (suc (suc (suc (suc zero)))))) lt = refl
long_is_first (suc (suc (suc (suc (suc (suc (suc zero))))))) lt = refl
long_is_first (suc (suc (suc (suc (suc (suc (suc (suc n)))))))) lt = absurd (omega arith)

pub rm_is_destination : (k m n : ℕ) → k < 8 → m < 8 → n < 8 → Begins ((8 * k + 1) ∷ (0xc0 + 8 * n + m) ∷ []) 2
    (chosen plain (with_registers (arithmetic k) Long m n))
rm_is_destination k m n lt a b = two_registers (8 * k + 1) (arithmetic k) Long m n a b (long_is_first k lt)

pub rm_is_byte_destination : (k m n : ℕ) → k < 8 → m < 8 → n < 8
    → Begins ((8 * k) ∷ (0xc0 + 8 * n + m) ∷ []) 2 (chosen plain (with_registers (arithmetic k) Byte m n))
rm_is_byte_destination k m n lt a b = two_registers (8 * k) (arithmetic k) Byte m n a b (byte_is_first k lt)

pub moved_bytes_to_rm : (m n : ℕ) → m < 8 → n < 8 → Begins (0x88 ∷ (0xc0 + 8 * n + m) ∷ []) 2 (chosen plain (with_registers Mov Byte m n))
unfolding rows
moved_bytes_to_rm m n a b = two_registers 0x88 Mov Byte m n a b refl

pub moved_to_rm : (m n : ℕ) → m < 8 → n < 8 → Begins (0x89 ∷ (0xc0 + 8 * n + m) ∷ []) 2 (chosen plain (with_registers Mov Long m n))
unfolding rows
moved_to_rm m n a b = two_registers 0x89 Mov Long m n a b refl

pub moved_words_to_rm : (m n : ℕ) → m < 8 → n < 8 → Begins (0x66 ∷ 0x89 ∷ (0xc0 + 8 * n + m) ∷ []) 3
    (chosen plain (with_registers Mov Word m n))
unfolding rows
moved_words_to_rm m n a b =
    subst (Begins (0x66 ∷ 0x89 ∷ (0xc0 + 8 * n + m) ∷ []) 3)
    (sym (pair_is_chosen lead.Word 0x89 Mov Word m n refl a b refl)) (laid_words 0x89 Mov m n)

pub ruleset into_rm = (rm_is_destination, rm_is_byte_destination, moved_to_rm, moved_bytes_to_rm, moved_words_to_rm)
