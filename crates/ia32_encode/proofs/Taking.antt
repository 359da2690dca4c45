-- What the function of the chosen spelling answers is chosen, and its bytes are bytes.
use Rattle.std.proofs.Common.{◌≡◌, ℕ, zero, suc, ◌%◌, ◌-◌, ◌^◌, ◌<◌, ◌≤◌, Bool, true, false, List, [], ◌∷◌, Option, Some, None, length, get_or, replicate, refl, sym, ap, subst, ◌∙◌, arith}
use Rattle.std.specs.Prelude.{◌==◌, ◌&&◌, take, nat_le, if◌then◌else◌, is_none}
use Rattle.std.specs.List.{Contains, list_all}
use Rattle.std.proofs.lemmas.Bool.{leb-true, both_ways, and_parts}
use Rattle.std.proofs.lemmas.List.{take_at}
use Rattle.std.proofs.lemmas.List.Sums.{AllPass-from_list_all}
use Rattle.ia32_types.specs.declared.register.Reg.{Reg}
use Rattle.ia32_types.specs.declared.insn.Address.{Address}
use Rattle.ia32_types.specs.declared.insn.Operand.{Operand}
use Rattle.ia32_types.specs.declared.insn.Operand.TheVariants as operand
use Rattle.ia32_types.specs.declared.insn.Insn.{Insn}
use Rattle.ia32_types.specs.declared.insn.Op.TheVariants as op
use Rattle.ia32_types.specs.declared.size.Size.TheVariants as size
use Rattle.ia32_types.specs.Shape.{IsNamed}
use Rattle.ia32_rows.specs.declared.row.Plus.{Plus}
use Rattle.ia32_rows.specs.declared.row.Plus.TheVariants as plus
use Rattle.ia32_rows.specs.declared.row.Lead.{Lead}
use Rattle.ia32_rows.specs.declared.row.Lead.TheVariants as lead
use Rattle.ia32_rows.specs.declared.row.Addressing.{Addressing}
use Rattle.ia32_rows.specs.declared.row.Addressing.TheVariants as addressing
use Rattle.ia32_rows.specs.declared.row.Immediate.{Immediate}
use Rattle.ia32_rows.specs.declared.row.Immediate.TheVariants as immediate
use Rattle.ia32_rows.specs.declared.row.Operands.{Operands}
use Rattle.ia32_rows.specs.declared.row.Operands.TheVariants as operands
use Rattle.ia32_rows.specs.declared.row.Form.{Form}
use Rattle.ia32_rows.specs.declared.row.Row.{Row}
use Rattle.ia32_rows.specs.declared.row.Parts.{Parts}
use Rattle.ia32_rows.specs.Spelling.{first_code, last_code, has_code}
use Rattle.ia32_rows.specs.Spells.{AreBytes}
use Rattle.ia32_rows.specs.Rows.{rows}
use Rattle.ia32_rows.proofs.Readers.{AreBytes-append}
use Rattle.ia32_encode.specs.declared.bytes.ArrayBytes.{ArrayBytes}
use Rattle.ia32_encode.specs.declared.choose.Wide.{Wide}
use Rattle.ia32_encode.specs.Text.{word_bytes, long_bytes, base_number, index_number, scale_bits, mode_for, disp_bytes, modrm, has_sib, modrm_bytes, offset_of, addressing_bytes, immediate_bytes, lead_bytes, head_bytes, form_bytes, laid_out}
use Rattle.ia32_encode.specs.Parts.{rm_from, sel_from, parts_for, form_fits, addressing_fits, immediate_fits}
use Rattle.ia32_encode.specs.Chosen.{does_suit, chosen_from, chosen}
use Rattle.ia32_encode.specs.Good.{Suits, IsChosen, NoneSuits, IsOperandBounded, IsBounded, IsGood}
use Rattle.ia32_encode.proofs.Back.{base_below, index_below}
use Rattle.ia32_encode.proofs.Laid.{FirstFail, is_chosen, chosen_spells, chosen_back, fits_below}
use Rattle.ia32_encode.proofs.Function.{suits_true, true_suits, chosen_placed}

-- ---- the row that the function takes

pub record Taken (table : List Row) (wide : Wide) (insn : Insn) (a : ArrayBytes) : Type 0 where
  pub at : ℕ
  pub below : at < length table
  pub suits : (d : Row) → Suits (get_or table at d) wide insn
  pub first : FirstFail table wide insn at
  pub text : (d : Row) → a ≡ laid_out (get_or table at d).form (parts_for (get_or table at d) wide.disp insn)

fail_first : (row : Row) (table : List Row) (wide : Wide) (insn : Insn) → does_suit row wide insn ≡ false → (n : ℕ)
    → FirstFail table wide insn n → FirstFail (row ∷ table) wide insn (suc n)
fail_first row table wide insn t n h zero lt d s = both_ways (does_suit row wide insn) t (suits_true row wide insn s)
fail_first row table wide insn t n h (suc k) lt d s = h k (omega arith) d s

taken_or : (row : Row) (table : List Row) (wide : Wide) (insn : Insn) (a : ArrayBytes) (b : Bool) → does_suit row wide insn ≡ b
    → (if b then Some (laid_out row.form (parts_for row wide.disp insn)) else chosen_from table wide insn) ≡ Some a
    → (chosen_from table wide insn ≡ Some a → Taken table wide insn a) → Taken (row ∷ table) wide insn a
taken_or row table wide insn a true t e later = record {
  at = 0;
  below = omega arith;
  suits = λ d. true_suits row wide insn t;
  first = λ k lt. absurd (omega arith);
  text = λ d. cc;
}
taken_or row table wide insn a false t e later =
    let r = later e in
    record {
      at = suc r.at;
      below = omega (arith, r.below);
      suits = r.suits;
      first = fail_first row table wide insn t r.at r.first;
      text = r.text;
    }

taken : (table : List Row) (wide : Wide) (insn : Insn) (a : ArrayBytes) → chosen_from table wide insn ≡ Some a → Taken table wide insn a
unfolding chosen_from
taken [] wide insn a e = absurd cc
taken (row ∷ table) wide insn a e = taken_or row table wide insn a (does_suit row wide insn) refl e (taken table wide insn a)

any_row : Row
any_row = record {
  form = record {
    lead = lead.Nothing;
    opcode = 0;
    plus = plus.Nothing;
    addressing = addressing.Nothing;
    immediate = immediate.Nothing;
  };
  op = op.Nop;
  size = size.Long;
  operands = operands.Nothing;
}

pub chosen_taken : (wide : Wide) (insn : Insn) (a : ArrayBytes) → chosen wide insn ≡ Some a → (d : Row) → IsChosen wide insn a
unfolding chosen
chosen_taken wide insn a e d = let t =
    taken rows wide insn a e in is_chosen rows refl wide insn t.at d t.below (t.suits d) t.first a (t.text d)

-- ---- where it takes none

none_or : (row : Row) (table : List Row) (wide : Wide) (insn : Insn) (b : Bool) → does_suit row wide insn ≡ b
    → (if b then Some (laid_out row.form (parts_for row wide.disp insn)) else chosen_from table wide insn) ≡ None
    → (does_suit row wide insn ≡ false) × (chosen_from table wide insn ≡ None)
none_or row table wide insn true t e = absurd cc
none_or row table wide insn false t e = (t, e)

none_of : (table : List Row) (wide : Wide) (insn : Insn) → chosen_from table wide insn ≡ None → (k : ℕ) (d : Row) → k < length table
    → Suits (get_or table k d) wide insn → ⊥
unfolding chosen_from
none_of [] wide insn e k d lt s = absurd (omega arith)
none_of (row ∷ table) wide insn e zero d lt s =
    both_ways (does_suit row wide insn) (none_or row table wide insn (does_suit row wide insn) refl e).0 (suits_true row wide insn s)
none_of (row ∷ table) wide insn e (suc k) d lt s =
    none_of table wide insn (none_or row table wide insn (does_suit row wide insn) refl e).1 k d (omega arith) s

pub none_suit : (wide : Wide) (insn : Insn) → chosen wide insn ≡ None → NoneSuits wide insn
unfolding chosen
none_suit wide insn e row c s = none_of rows wide insn e c.0 row c.1 (subst (λ r. Suits r wide insn) (sym c.2) s)

-- ---- the bytes are bytes

word_are : (n : ℕ) → n < 65536 → AreBytes (word_bytes n)
word_are n h = (omega arith, (omega arith, tt))

long_are : (n : ℕ) → n < 2 ^ 32 → AreBytes (long_bytes n)
long_are n h = (omega arith, (omega arith, (omega arith, (omega arith, tt))))

lead_are : (l : Lead) → AreBytes (lead_bytes l)
lead_are lead.Nothing = tt
lead_are lead.Word = (omega arith, tt)
lead_are lead.Repeat = (omega arith, tt)
lead_are lead.Escape = (omega arith, tt)

scale_cases : (a b c : Bool) → (if a then 0 else if b then 1 else if c then 2 else 3) < 4
scale_cases true b c = omega arith
scale_cases false true c = omega arith
scale_cases false false true = omega arith
scale_cases false false false = omega arith

scale_below : (n : ℕ) → scale_bits n < 4
scale_below n = scale_cases (n == 1) (n == 2) (n == 4)

mode_cases : (a b c : Bool) → (if a then 0 else if b then 0 else if c then 1 else 2) < 4
mode_cases true b c = omega arith
mode_cases false true c = omega arith
mode_cases false false true = omega arith
mode_cases false false false = omega arith

mode_below : (base : Option Reg) (len : ℕ) → mode_for base len < 4
mode_below base len = mode_cases (is_none base) (len == 0) (len == 1)

disp_cases : (a b : Bool) (disp : ℕ) → disp < 2 ^ 32 → AreBytes (if a then [] else if b then disp % 256 ∷ [] else long_bytes disp)
disp_cases true b disp h = tt
disp_cases false true disp h = (omega arith, tt)
disp_cases false false disp h = long_are disp h

modrm_below : (m r n : ℕ) → m < 4 → r < 8 → n < 8 → modrm m r n < 256
modrm_below m r n a b c = omega arith

memory_cases : (sib : Bool) (reg len : ℕ) (a : Address) → reg < 8 → a.disp < 2 ^ 32
    → AreBytes (if sib then modrm (mode_for a.base len) reg 4 ∷ modrm (scale_bits a.scale) (index_number a.index)
    (base_number a.base) ∷ disp_bytes len a.disp
    else modrm (mode_for a.base len) reg (base_number a.base) ∷ disp_bytes len a.disp)
memory_cases true reg len a r d = (
  modrm_below (mode_for a.base len) reg 4 (mode_below a.base len) r (omega arith),
  (
    modrm_below (scale_bits a.scale) (index_number a.index) (base_number a.base) (scale_below a.scale) (index_below a.index)
        (base_below a.base),
    disp_cases (len == 0) (len == 1) a.disp d,
  ),
)
memory_cases false reg len a r d = (
  modrm_below (mode_for a.base len) reg (base_number a.base) (mode_below a.base len) r (base_below a.base),
  disp_cases (len == 0) (len == 1) a.disp d,
)

modrm_are : (reg len : ℕ) (rm : Operand) → reg < 8 → IsNamed rm → IsOperandBounded rm → AreBytes (modrm_bytes reg len rm)
modrm_are reg len (operand.Register n) r f h = (modrm_below 3 reg n (omega arith) r f, tt)
modrm_are reg len (operand.Memory a) r f h = memory_cases (has_sib a) reg len a r h
modrm_are reg len operand.Absent r f h = tt
modrm_are reg len (operand.Segment s) r f h = tt
modrm_are reg len (operand.Control n) r f h = tt

offset_below : (rm : Operand) → IsOperandBounded rm → offset_of rm < 2 ^ 32
offset_below (operand.Memory a) h = h
offset_below operand.Absent h = omega arith
offset_below (operand.Register n) h = omega arith
offset_below (operand.Segment s) h = omega arith
offset_below (operand.Control n) h = omega arith

addressing_are : (kind : Addressing) (p : Parts) → p.reg < 8 → IsNamed p.rm → IsOperandBounded p.rm → AreBytes (addressing_bytes kind p)
addressing_are addressing.Nothing p r f h = tt
addressing_are addressing.Offset p r f h = long_are (offset_of p.rm) (offset_below p.rm h)
addressing_are (addressing.Modrm form) p r f h = modrm_are p.reg p.disp_len p.rm r f h

immediate_are : (kind : Immediate) (p : Parts) → p.imm < 2 ^ 32 → p.sel < 2 ^ 16 → AreBytes (immediate_bytes kind p)
immediate_are immediate.Nothing p i s = tt
immediate_are immediate.One p i s = tt
immediate_are immediate.Byte p i s = (omega arith, tt)
immediate_are immediate.SignedByte p i s = (omega arith, tt)
immediate_are immediate.Word p i s = word_are (p.imm % 65536) (omega arith)
immediate_are immediate.Long p i s = long_are p.imm i
immediate_are immediate.Far p i s = AreBytes-append (long_bytes p.imm) (word_bytes p.sel) (long_are p.imm i) (word_are p.sel (omega arith))

form_are : (form : Form) (p : Parts) → last_code form ≤ 255 → form_fits form p ≡ true → IsOperandBounded p.rm → p.imm < 2 ^ 32
    → p.sel < 2 ^ 16 → AreBytes (form_bytes form p)
unfolding form_fits
form_are form p last h rm i s =
    let below = fits_below form p h in
    let a = and_parts (has_code form p.code && addressing_fits form.addressing p.reg p.rm) (immediate_fits form.immediate p.imm p.sel) h in
    let code = and_parts (nat_le (first_code form) p.code) (nat_le p.code (last_code form))
    (and_parts (has_code form p.code) (addressing_fits form.addressing p.reg p.rm) a.0).0 in
    let most = leb-true p.code (last_code form) code.1 in
    AreBytes-append (head_bytes form p) (immediate_bytes form.immediate p)
    (AreBytes-append (lead_bytes form.lead) (p.code ∷ addressing_bytes form.addressing p) (lead_are form.lead)
    (omega (arith, most, last), addressing_are form.addressing p below.0 below.1 rm))
    (immediate_are form.immediate p i s)

abbrev is_byte_row : Row → Bool
is_byte_row row = nat_le (last_code row.form) 255

all_bytes : list_all is_byte_row rows ≡ true
unfolding rows
all_bytes = refl

listed_last : (r : Row) → Contains rows r → last_code r.form ≤ 255
listed_last r c = leb-true (last_code r.form) 255 (ap is_byte_row (sym c.2) ∙ AllPass-from_list_all is_byte_row rows all_bytes c.0 r c.1)

rm_bounded : (ops : Operands) (a b : Operand) → IsOperandBounded a → IsOperandBounded b → IsOperandBounded (rm_from ops a b)
rm_bounded operands.Rm a b p q = p
rm_bounded operands.RmReg a b p q = p
rm_bounded operands.RegRm a b p q = q
rm_bounded operands.RmCount a b p q = p
rm_bounded operands.AccumulatorRm a b p q = q
rm_bounded operands.RmAccumulator a b p q = p
rm_bounded operands.RmControl a b p q = p
rm_bounded operands.ControlRm a b p q = q
rm_bounded operands.RmSegment a b p q = p
rm_bounded operands.SegmentRm a b p q = q
rm_bounded operands.TwoRegisters a b p q = p
rm_bounded operands.Nothing a b p q = tt
rm_bounded operands.Opcode a b p q = tt
rm_bounded operands.Accumulator a b p q = tt
rm_bounded operands.AccumulatorOpcode a b p q = tt
rm_bounded operands.Port a b p q = tt
rm_bounded operands.Extra a b p q = tt
rm_bounded operands.Code a b p q = tt
rm_bounded operands.Stack a b p q = tt
rm_bounded operands.Data a b p q = tt

sel_bounded : (k : Plus) (n : ℕ) → n < 2 ^ 16 → sel_from k n < 2 ^ 16
sel_bounded plus.Nothing n h = h
sel_bounded plus.Register n h = h
sel_bounded plus.OtherRegister n h = h
sel_bounded plus.Condition n h = omega arith

parts_are : (row : Row) (wide : Bool) (insn : Insn) → last_code row.form ≤ 255 → form_fits row.form (parts_for row wide insn) ≡ true
    → IsBounded insn → AreBytes (form_bytes row.form (parts_for row wide insn))
unfolding parts_for
parts_are row wide insn last fits h =
    form_are row.form (parts_for row wide insn) last fits (rm_bounded row.operands insn.a insn.b h.a h.b) h.imm
    (sel_bounded row.form.plus insn.sel h.sel)

pub chosen_good : (wide : Wide) (insn : Insn) (a : ArrayBytes) → chosen wide insn ≡ Some a → IsBounded insn → IsGood wide insn a
chosen_good wide insn a e h =
    let c = chosen_taken wide insn a e any_row in
    let bytes = form_bytes c.row.form (parts_for c.row wide.disp insn) in
    let text : take a.len a.bytes ≡ bytes =
    ap (λ (t : ArrayBytes). take t.len t.bytes) c.text ∙ take_at bytes (replicate (16 - length bytes) 0) (length bytes) refl in
    let are = subst AreBytes (sym text) (parts_are c.row wide.disp insn (listed_last c.row c.listed) c.suits.fits h) in
    record {
      chosen = c;
      spells = chosen_spells wide insn a c are;
      read_back = chosen_back wide insn a c are;
      placed = chosen_placed wide insn a c are;
    }
