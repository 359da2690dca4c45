-- The chosen spelling as a function, and where its fields stand.
use Rattle.std.proofs.Common.{◌≡◌, ℕ, zero, suc, ◌-◌, ◌<◌, ◌≤◌, Bool, true, false, List, [], ◌∷◌, Option, Some, None, length, get_or, refl, sym, ap, subst, ◌∙◌, arith, rules}
use Rattle.std.specs.Prelude.{◌==◌, ◌&&◌, ◌||◌, not, IsTrue, take, if◌then◌else◌}
use Rattle.std.specs.List.{Contains}
use Rattle.std.specs.Cmp.Derive.{both_true}
use Rattle.std.proofs.lemmas.Bool.{eqb-true, eq-eqb, false_from_ne_true, and_parts}
use denote.Enum.Bare.{same_true, true_same}
use Rattle.ia32_types.specs.contracts.insn.Op.{the_type}
use Rattle.ia32_types.specs.declared.register.Reg.{Reg}
use Rattle.ia32_types.specs.declared.register.Reg.TheVariants as reg
use Rattle.ia32_types.specs.Register.{number_of, segment_number}
use Rattle.ia32_types.specs.declared.register.Seg.{Seg}
use Rattle.ia32_types.specs.declared.register.Seg.TheVariants as seg
use Rattle.ia32_types.specs.declared.insn.Address.{Address}
use Rattle.ia32_types.specs.declared.insn.Op.{Op}
use Rattle.ia32_types.specs.declared.insn.Operand.{Operand}
use Rattle.ia32_types.specs.declared.insn.Operand.TheVariants as operand
use Rattle.ia32_types.specs.declared.insn.Insn.{Insn}
use Rattle.ia32_types.specs.declared.size.Size.{Size}
use Rattle.ia32_types.specs.declared.size.Size.TheVariants as size
use Rattle.ia32_types.specs.Size.{width}
use Rattle.ia32_rows.specs.declared.row.Row.{Row}
use Rattle.ia32_rows.specs.declared.row.Form.{Form}
use Rattle.ia32_rows.specs.declared.row.Parts.{Parts}
use Rattle.ia32_rows.specs.declared.row.Addressing.{Addressing}
use Rattle.ia32_rows.specs.declared.row.Addressing.TheVariants as addressing
use Rattle.ia32_rows.specs.declared.row.Immediate.{Immediate}
use Rattle.ia32_rows.specs.declared.row.Immediate.TheVariants as immediate
use Rattle.ia32_rows.specs.Spells.{AreBytes, Spells}
use Rattle.ia32_rows.proofs.TableLaws.{not_empty, at_most_eleven}
use Rattle.std.proofs.lemmas.List.{length-append}
use Rattle.ia32_rows.specs.Fields.{imm_len}
use Rattle.ia32_rows.specs.Spelling.{has_code, insn_of}
use Rattle.ia32_rows.specs.Rows.{rows}
use Rattle.ia32_encode.specs.declared.bytes.ArrayBytes.{ArrayBytes}
use Rattle.ia32_encode.specs.declared.choose.Wide.{Wide}
use Rattle.ia32_encode.specs.Parts.{parts_for, form_fits, is_absent, addressing_fits, immediate_fits}
use Rattle.ia32_encode.specs.Text.{laid_out, disp_bytes, has_sib, memory_bytes, modrm_bytes, addressing_bytes, immediate_bytes, lead_bytes, head_bytes, disp_len_of}
use Rattle.ia32_encode.proofs.Laid.{parts_len, width_of, chosen_spells, chosen_length}
use Rattle.ia32_encode.specs.Same.{same_op, same_size, same_register, same_address, same_operand, same_insn}
use mathlib.Core.Bool.{beq}
use Rattle.ia32_encode.specs.Chosen.{widths_fit, does_suit, chosen_from, chosen}
use Rattle.ia32_encode.specs.Good.{Suits, IsChosen, NoneSuits, IsPlaced}

-- ---- the test of two instructions

sizes_same : (s t : Size) → same_size s t ≡ true → s ≡ t
sizes_same size.Byte size.Byte h = refl
sizes_same size.Byte size.Word h = absurd cc
sizes_same size.Byte size.Long h = absurd cc
sizes_same size.Word size.Byte h = absurd cc
sizes_same size.Word size.Word h = refl
sizes_same size.Word size.Long h = absurd cc
sizes_same size.Long size.Byte h = absurd cc
sizes_same size.Long size.Word h = absurd cc
sizes_same size.Long size.Long h = refl

reg_at : ℕ → Reg
reg_at n = get_or (reg.Eax ∷ reg.Ecx ∷ reg.Edx ∷ reg.Ebx ∷ reg.Esp ∷ reg.Ebp ∷ reg.Esi ∷ reg.Edi ∷ []) n reg.Eax

reg_back : (r : Reg) → reg_at (number_of r) ≡ r
unfolding reg_at
reg_back reg.Eax = refl
reg_back reg.Ecx = refl
reg_back reg.Edx = refl
reg_back reg.Ebx = refl
reg_back reg.Esp = refl
reg_back reg.Ebp = refl
reg_back reg.Esi = refl
reg_back reg.Edi = refl

seg_at : ℕ → Seg
seg_at n = get_or (seg.Es ∷ seg.Cs ∷ seg.Ss ∷ seg.Ds ∷ []) n seg.Es

seg_back : (s : Seg) → seg_at (segment_number s) ≡ s
unfolding seg_at
seg_back seg.Es = refl
seg_back seg.Cs = refl
seg_back seg.Ss = refl
seg_back seg.Ds = refl

registers_same : (r s : Option Reg) → same_register r s ≡ true → r ≡ s
registers_same None None h = refl
registers_same None (Some s) h = absurd cc
registers_same (Some r) None h = absurd cc
registers_same (Some r) (Some s) h = ap Some (sym (reg_back r) ∙ ap reg_at (eqb-true (number_of r) (number_of s) h) ∙ reg_back s)

segments_same : (s t : Seg) → (segment_number s == segment_number t) ≡ true → s ≡ t
segments_same s t h = sym (seg_back s) ∙ ap seg_at (eqb-true (segment_number s) (segment_number t) h) ∙ seg_back t

abbrev made_address : Option Reg → Option Reg → ℕ → ℕ → Address
made_address b i s d = record { base = b; index = i; scale = s; disp = d }

addresses_same : (x y : Address) → same_address x y ≡ true → x ≡ y
addresses_same x y h =
    let d = and_parts (same_register x.base y.base && same_register x.index y.index && x.scale == y.scale) (x.disp == y.disp) h in
    let s = and_parts (same_register x.base y.base && same_register x.index y.index) (x.scale == y.scale) d.0 in
    let r = and_parts (same_register x.base y.base) (same_register x.index y.index) s.0 in
    let e : x.disp ≡ y.disp = eqb-true x.disp y.disp d.1 in
    let f : x.scale ≡ y.scale = eqb-true x.scale y.scale s.1 in
    let g : x.base ≡ y.base = registers_same x.base y.base r.0 in
    let k : x.index ≡ y.index = registers_same x.index y.index r.1 in
    ap (λ b. made_address b x.index x.scale x.disp) g ∙ ap (λ i. made_address y.base i x.scale x.disp) k
    ∙ ap (λ n. made_address y.base y.index n x.disp) f ∙ ap (made_address y.base y.index y.scale) e

operands_same : (x y : Operand) → same_operand x y ≡ true → x ≡ y
operands_same operand.Absent operand.Absent h = refl
operands_same (operand.Register m) (operand.Register n) h = ap operand.Register (eqb-true m n h)
operands_same (operand.Memory x) (operand.Memory y) h = ap operand.Memory (addresses_same x y h)
operands_same (operand.Segment s) (operand.Segment t) h = ap operand.Segment (segments_same s t h)
operands_same (operand.Control m) (operand.Control n) h = ap operand.Control (eqb-true m n h)
operands_same operand.Absent (operand.Register n) h = absurd cc
operands_same operand.Absent (operand.Memory n) h = absurd cc
operands_same operand.Absent (operand.Segment n) h = absurd cc
operands_same operand.Absent (operand.Control n) h = absurd cc
operands_same (operand.Register m) operand.Absent h = absurd cc
operands_same (operand.Register m) (operand.Memory n) h = absurd cc
operands_same (operand.Register m) (operand.Segment n) h = absurd cc
operands_same (operand.Register m) (operand.Control n) h = absurd cc
operands_same (operand.Memory m) operand.Absent h = absurd cc
operands_same (operand.Memory m) (operand.Register n) h = absurd cc
operands_same (operand.Memory m) (operand.Segment n) h = absurd cc
operands_same (operand.Memory m) (operand.Control n) h = absurd cc
operands_same (operand.Segment m) operand.Absent h = absurd cc
operands_same (operand.Segment m) (operand.Register n) h = absurd cc
operands_same (operand.Segment m) (operand.Memory n) h = absurd cc
operands_same (operand.Segment m) (operand.Control n) h = absurd cc
operands_same (operand.Control m) operand.Absent h = absurd cc
operands_same (operand.Control m) (operand.Register n) h = absurd cc
operands_same (operand.Control m) (operand.Memory n) h = absurd cc
operands_same (operand.Control m) (operand.Segment n) h = absurd cc

flags_same : (a b : Bool) → beq a b ≡ true → a ≡ b
flags_same true true h = refl
flags_same true false h = absurd cc
flags_same false true h = absurd cc
flags_same false false h = refl

number_itself : (n : ℕ) → (n == n) ≡ true
number_itself n = eq-eqb n n refl

register_itself : (r : Option Reg) → same_register r r ≡ true
register_itself None = refl
register_itself (Some r) = number_itself (number_of r)

address_itself : (x : Address) → same_address x x ≡ true
address_itself x =
    both_true (both_true (both_true (register_itself x.base) (register_itself x.index)) (number_itself x.scale)) (number_itself x.disp)

operand_itself : (x : Operand) → same_operand x x ≡ true
operand_itself operand.Absent = refl
operand_itself (operand.Register n) = number_itself n
operand_itself (operand.Memory x) = address_itself x
operand_itself (operand.Segment s) = number_itself (segment_number s)
operand_itself (operand.Control n) = number_itself n

flag_itself : (b : Bool) → beq b b ≡ true
flag_itself true = refl
flag_itself false = refl

insn_itself : (i : Insn) → same_insn i i ≡ true
unfolding same_insn
insn_itself i =
    both_true
    (both_true
    (both_true (both_true (both_true (both_true (true_same the_type i.op i.op refl) (number_itself (width i.size))) (operand_itself i.a))
    (operand_itself i.b)) (number_itself i.imm)) (number_itself i.sel)) (flag_itself i.rep)

abbrev made_insn : Op → Size → Operand → Operand → ℕ → ℕ → Bool → Insn
made_insn o s a b n t r = record { op = o; size = s; a = a; b = b; imm = n; sel = t; rep = r }

insns_same : (i j : Insn) → same_insn i j ≡ true → i ≡ j
unfolding same_insn
insns_same i j h =
    let f = and_parts (same_op i.op j.op && same_size i.size j.size && same_operand i.a j.a && same_operand i.b j.b && i.imm == j.imm
    && i.sel == j.sel) (beq i.rep j.rep) h in
    let s = and_parts (same_op i.op j.op && same_size i.size j.size && same_operand i.a j.a && same_operand i.b j.b && i.imm == j.imm)
    (i.sel == j.sel) f.0 in
    let n = and_parts (same_op i.op j.op && same_size i.size j.size && same_operand i.a j.a && same_operand i.b j.b) (i.imm == j.imm) s.0 in
    let b = and_parts (same_op i.op j.op && same_size i.size j.size && same_operand i.a j.a) (same_operand i.b j.b) n.0 in
    let a = and_parts (same_op i.op j.op && same_size i.size j.size) (same_operand i.a j.a) b.0 in
    let o = and_parts (same_op i.op j.op) (same_size i.size j.size) a.0 in
    let e1 : i.op ≡ j.op = same_true the_type (search rules) i.op j.op o.0 in
    let e2 : i.size ≡ j.size = sizes_same i.size j.size o.1 in
    let e3 : i.a ≡ j.a = operands_same i.a j.a a.1 in
    let e4 : i.b ≡ j.b = operands_same i.b j.b b.1 in
    let e5 : i.imm ≡ j.imm = eqb-true i.imm j.imm n.1 in
    let e6 : i.sel ≡ j.sel = eqb-true i.sel j.sel s.1 in
    let e7 : i.rep ≡ j.rep = flags_same i.rep j.rep f.1 in
    ap (λ x. made_insn x i.size i.a i.b i.imm i.sel i.rep) e1 ∙ ap (λ x. made_insn j.op x i.a i.b i.imm i.sel i.rep) e2
    ∙ ap (λ x. made_insn j.op j.size x i.b i.imm i.sel i.rep) e3 ∙ ap (λ x. made_insn j.op j.size j.a x i.imm i.sel i.rep) e4
    ∙ ap (λ x. made_insn j.op j.size j.a j.b x i.sel i.rep) e5 ∙ ap (λ x. made_insn j.op j.size j.a j.b j.imm x i.rep) e6
    ∙ ap (made_insn j.op j.size j.a j.b j.imm j.sel) e7

-- ---- the first row that suits

pub suits_true : (row : Row) (wide : Wide) (insn : Insn) → Suits row wide insn → does_suit row wide insn ≡ true
suits_true row wide insn s = both_true (both_true (ap (λ i. same_insn i insn) s.means ∙ insn_itself insn) s.fits) s.widths

pub true_suits : (row : Row) (wide : Wide) (insn : Insn) → does_suit row wide insn ≡ true → Suits row wide insn
true_suits row wide insn h =
    let p = parts_for row wide.disp insn in
    let w =
    and_parts (same_insn (insn_of row p) insn && form_fits row.form p) (widths_fit wide p.disp_len (imm_len row.form.immediate)) h in
    let f = and_parts (same_insn (insn_of row p) insn) (form_fits row.form p) w.0 in
    record { means = insns_same (insn_of row p) insn f.0; fits = f.1; widths = w.1 }

pub fails : (row : Row) (wide : Wide) (insn : Insn) → (Suits row wide insn → ⊥) → does_suit row wide insn ≡ false
fails row wide insn h = false_from_ne_true (does_suit row wide insn) (λ t. h (true_suits row wide insn t))

from_first : (table : List Row) (wide : Wide) (insn : Insn) (i : ℕ) (d : Row) → i < length table → Suits (get_or table i d) wide insn
    → ((k : ℕ) → k < i → Suits (get_or table k d) wide insn → ⊥)
    → chosen_from table wide insn ≡ Some (laid_out (get_or table i d).form (parts_for (get_or table i d) wide.disp insn))
unfolding chosen_from
from_first [] wide insn i d h s fail = absurd (omega arith)
from_first (row ∷ table) wide insn zero d h s fail = rw (suits_true row wide insn s) refl
from_first (row ∷ table) wide insn (suc i) d h s fail =
    rw (fails row wide insn (fail 0 (omega arith))) (from_first table wide insn i d (omega arith) s (λ k lt. fail (suc k) (omega arith)))

from_none : (table : List Row) (wide : Wide) (insn : Insn) → ((row : Row) → Contains table row → Suits row wide insn → ⊥)
    → chosen_from table wide insn ≡ None
unfolding chosen_from
from_none [] wide insn fail = refl
from_none (row ∷ table) wide insn fail =
    rw (fails row wide insn (fail row (0, omega arith, refl)))
    (from_none table wide insn (λ r c. fail r (suc c.0, omega (arith, c.1), c.2)))

-- What is chosen is the answer of the function.
pub chosen_is : (wide : Wide) (insn : Insn) (a : ArrayBytes) → IsChosen wide insn a → chosen wide insn ≡ Some a
unfolding chosen
chosen_is wide insn a c =
    let i = c.listed.0 in
    let e : get_or rows i c.row ≡ c.row = c.listed.2 in
    from_first rows wide insn i c.row c.listed.1 (subst (λ r. Suits r wide insn) (sym e) c.suits) (λ k lt. c.first k c.row lt)
    ∙ ap (λ r. Some (laid_out r.form (parts_for r wide.disp insn))) e ∙ ap Some (sym c.text)

pub none_is : (wide : Wide) (insn : Insn) → NoneSuits wide insn → chosen wide insn ≡ None
unfolding chosen
none_is wide insn h = from_none rows wide insn h

-- ---- where the fields stand

immediate_length : (kind : Immediate) (p : Parts) → imm_len kind ≤ length (immediate_bytes kind p)
immediate_length immediate.Nothing p = omega arith
immediate_length immediate.One p = omega arith
immediate_length immediate.Byte p = omega arith
immediate_length immediate.SignedByte p = omega arith
immediate_length immediate.Word p = omega arith
immediate_length immediate.Long p = omega arith
immediate_length immediate.Far p = omega arith

disp_four : (n disp : ℕ) → n ≡ 4 → length (disp_bytes n disp) ≡ 4
disp_four n disp e = rw e refl

memory_four : (reg n : ℕ) (a : Address) (sib : Bool) → has_sib a ≡ sib → n ≡ 4 → 4 ≤ length (memory_bytes reg n a)
memory_four reg n a true s e = rw (s, e) (omega arith)
memory_four reg n a false s e = rw (s, e) (omega arith)

rm_four : (wide : Bool) (reg n : ℕ) (rm : Operand) → n ≡ disp_len_of wide rm → n ≡ 4 → 4 ≤ length (modrm_bytes reg n rm)
rm_four wide reg n (operand.Memory a) e f = memory_four reg n a (has_sib a) refl f
rm_four wide reg n operand.Absent e f = absurd (omega (arith, e, f))
rm_four wide reg n (operand.Register r) e f = absurd (omega (arith, e, f))
rm_four wide reg n (operand.Segment r) e f = absurd (omega (arith, e, f))
rm_four wide reg n (operand.Control r) e f = absurd (omega (arith, e, f))

absent_none : (wide : Bool) (rm : Operand) → is_absent rm ≡ true → disp_len_of wide rm ≡ 4 → ⊥
absent_none wide operand.Absent h e = omega (arith, e)
absent_none wide (operand.Memory a) h e = cc
absent_none wide (operand.Register r) h e = cc
absent_none wide (operand.Segment r) h e = cc
absent_none wide (operand.Control r) h e = cc

addressing_four : (kind : Addressing) (p : Parts) (wide : Bool) → addressing_fits kind p.reg p.rm ≡ true
    → p.disp_len ≡ disp_len_of wide p.rm → p.disp_len ≡ 4 → 4 ≤ length (addressing_bytes kind p)
addressing_four addressing.Nothing p wide h e f = absurd (absent_none wide p.rm (and_parts (p.reg == 0) (is_absent p.rm) h).1 (sym e ∙ f))
addressing_four addressing.Offset p wide h e f = omega arith
addressing_four (addressing.Modrm form) p wide h e f = rm_four wide p.reg p.disp_len p.rm e f

form_four : (form : Form) (p : Parts) (wide : Bool) → form_fits form p ≡ true → p.disp_len ≡ disp_len_of wide p.rm → p.disp_len ≡ 4
    → 4 ≤ length (head_bytes form p)
unfolding form_fits
form_four form p wide h e f =
    let a = and_parts (has_code form p.code && addressing_fits form.addressing p.reg p.rm) (immediate_fits form.immediate p.imm p.sel) h in
    let b = and_parts (has_code form p.code) (addressing_fits form.addressing p.reg p.rm) a.0 in
    let four = addressing_four form.addressing p wide b.1 e f in
    omega (arith, length-append (lead_bytes form.lead) (p.code ∷ addressing_bytes form.addressing p))

place_at : (len head : ℕ) → len ≡ 4 → (if len == 0 then 0 else head - len) ≡ head - 4
place_at len head e = rw e refl

imm_at : (len head : ℕ) → len ≡ 4 → (if len == 0 then 0 else head) ≡ head
imm_at len head e = rw e refl

-- the fields of what is laid out
laid_placed : (form : Form) (p : Parts) (wide : Wide) (w : Bool) → form_fits form p ≡ true → p.disp_len ≡ disp_len_of w p.rm
    → (IsTrue wide.disp → p.disp_len ≡ 4) → (IsTrue wide.imm → imm_len form.immediate ≡ 4)
    → 1 ≤ (laid_out form p).len → (laid_out form p).len ≤ 11 → IsPlaced wide (laid_out form p)
laid_placed form p wide w h e disp imm some most =
    let both_lengths = length-append (head_bytes form p) (immediate_bytes form.immediate p) in
    let imms = immediate_length form.immediate p in
    record {
      some = some;
      most = most;
      disp = λ d. omega (arith, both_lengths, form_four form p w h e (disp d), place_at p.disp_len (length (head_bytes form p)) (disp d));
      imm = λ i. omega (arith, both_lengths, imms, imm i, imm_at (imm_len form.immediate) (length (head_bytes form p)) (imm i));
      order = λ d i. omega (
        arith,
        form_four form p w h e (disp d),
        place_at p.disp_len (length (head_bytes form p)) (disp d),
        imm_at (imm_len form.immediate) (length (head_bytes form p)) (imm i),
      );
    }

-- What is chosen has one to eleven bytes, with the fields among them.
pub chosen_placed : (wide : Wide) (insn : Insn) (a : ArrayBytes) → IsChosen wide insn a → AreBytes (take a.len a.bytes) → IsPlaced wide a
chosen_placed wide insn a c fit =
    let p = parts_for c.row wide.disp insn in
    let s = chosen_spells wide insn a c fit in
    let spells : Spells (take a.len a.bytes) insn = record { row = s.row; listed = s.listed; parts = s.parts; by_row = s.by_row } in
    let n = chosen_length wide insn a c in
    let some = not_empty (take a.len a.bytes) insn spells in
    let most = at_most_eleven (take a.len a.bytes) insn spells in
    let len : (laid_out c.row.form p).len ≡ a.len = ap (λ (t : ArrayBytes). t.len) (sym c.text) in
    let w = and_parts (not wide.disp || p.disp_len == 4) (not wide.imm || imm_len c.row.form.immediate == 4) c.suits.widths in
    subst (IsPlaced wide) (sym c.text)
    (laid_placed c.row.form p wide wide.disp c.suits.fits (parts_len c.row wide.disp insn) (width_of wide.disp p.disp_len w.0)
    (width_of wide.imm (imm_len c.row.form.immediate) w.1)
    (omega (arith, some, n, len)) (omega (arith, most, n, len)))
