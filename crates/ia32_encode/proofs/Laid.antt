-- The bytes that are put one after the other are those of the spelling, and they spell the instruction.
use Rattle.std.proofs.Common.{◌≡◌, ℕ, suc, ◌+◌, ◌-◌, ◌<◌, ◌≤◌, Bool, true, false, cond, List, [], ◌∷◌, ◌++◌, length, get_or, set, take, replicate, refl, sym, ap, subst, zero-add, add-zero, ◌∙◌, append_assoc, arith}
use Rattle.std.specs.Prelude.{◌==◌, ◌&&◌, ◌||◌, not, nat_lt, IsTrue, ◌↔◌}
use Rattle.std.specs.Cmp.Derive.{both_true}
use Rattle.std.proofs.lemmas.Bool.{eqb-true, ltb-true, and_parts}
use Rattle.std.proofs.lemmas.List.{length-append, append-nil, take_at, get_or_default}
use Rattle.ia32_types.specs.declared.insn.Insn.{Insn}
use Rattle.ia32_types.specs.declared.insn.Operand.{Operand}
use Rattle.ia32_types.specs.declared.insn.Operand.TheVariants as operand
use Rattle.ia32_types.specs.Shape.{IsNamed}
use Rattle.ia32_rows.specs.declared.row.Addressing.{Addressing}
use Rattle.ia32_rows.specs.declared.row.Addressing.TheVariants as addressing
use Rattle.ia32_rows.specs.declared.row.RmForm.{RmForm}
use Rattle.ia32_rows.specs.declared.row.Form.{Form}
use Rattle.ia32_rows.specs.declared.row.Row.{Row}
use Rattle.ia32_rows.specs.declared.row.Parts.{Parts}
use Rattle.ia32_rows.specs.Fields.{has_slash, has_place, imm_len}
use Rattle.ia32_rows.specs.Spelling.{has_code, insn_of, parts_at}
use Rattle.ia32_rows.specs.Spells.{AreBytes}
use Rattle.ia32_rows.specs.Rows.{rows}
use Rattle.ia32_decode.specs.declared.answer.Decoded.TheVariants as answer
use Rattle.ia32_decode.proofs.Exact.{decoded_back}
use Rattle.ia32_encode.specs.declared.bytes.ArrayBytes.{ArrayBytes}
use Rattle.ia32_encode.specs.declared.choose.Wide.{Wide}
use Rattle.ia32_encode.specs.Text.{disp_len_of, lead_bytes, addressing_bytes, immediate_bytes, head_bytes, form_bytes, laid_out}
use Rattle.ia32_encode.specs.Parts.{parts_for, rm_fits, is_absent, is_offset, addressing_fits, immediate_fits, form_fits}
use Rattle.ia32_encode.specs.Pushed.{pushed, pushed_all}
use Rattle.ia32_encode.specs.Chosen.{widths_fit}
use Rattle.ia32_encode.specs.Good.{SpellsWide, IsReadBack, Suits, NoneSuits, IsChosen}
use Rattle.ia32_encode.proofs.Back.{form_back}
use Rattle.ia32_encode.proofs.Suiting.{listed_suits}

pub pushed_all-append : (a : ArrayBytes) (xs ys : List ℕ) → pushed_all a (xs ++ ys) ≡ pushed_all (pushed_all a xs) ys
pushed_all-append a [] ys = refl
pushed_all-append a (x ∷ xs) ys = pushed_all-append (pushed a x) xs ys

pub pushed_len : (a : ArrayBytes) (xs : List ℕ) → (pushed_all a xs).len ≡ a.len + length xs
pushed_len a [] = omega arith
pushed_len a (x ∷ xs) = omega (arith, pushed_len (pushed a x) xs)

abbrev array : List ℕ → ℕ → ArrayBytes
array bytes len = record { bytes = bytes; len = len; disp_at = 0; imm_at = 0 }

-- a write after the front
set_behind : (front : List ℕ) (c b : ℕ) (rest : List ℕ) → set (front ++ c ∷ rest) (length front) b ≡ front ++ b ∷ rest
set_behind [] c b rest = refl
set_behind (f ∷ front) c b rest = ap (λ xs. f ∷ xs) (set_behind front c b rest)

fill : (front text : List ℕ) (k : ℕ) → pushed_all (array (front ++ replicate (length text + k) 0) (length front)) text ≡ array
    (front ++ (text ++ replicate k 0)) (length front + length text)
fill front [] k = ap (λ n. array (front ++ replicate n 0) (length front)) (zero-add k)
    ∙ ap (array (front ++ replicate k 0)) (sym (add-zero (length front)))
fill front (b ∷ text) k =
    let one : length (front ++ b ∷ []) ≡ length front + 1 = length-append front (b ∷ []) in
    let more : (suc (length text)) + k ≡ suc (length text + k) = omega arith in
    let count : length (front ++ b ∷ []) + length text ≡ length front + suc (length text) = omega (arith, one) in
    ap (λ n. pushed_all (array (set (front ++ replicate n 0) (length front) b) (length front + 1)) text) more
    ∙ ap (λ bs. pushed_all (array bs (length front + 1)) text)
    (set_behind front 0 b (replicate (length text + k) 0) ∙ sym (append_assoc front (b ∷ []) (replicate (length text + k) 0)))
    ∙ ap (λ n. pushed_all (array ((front ++ b ∷ []) ++ replicate (length text + k) 0) n) text) (sym one)
    ∙ fill (front ++ b ∷ []) text k
    ∙ ap (λ bs. array bs (length (front ++ b ∷ []) + length text)) (append_assoc front (b ∷ []) (text ++ replicate k 0))
    ∙ ap (array (front ++ b ∷ (text ++ replicate k 0))) count

-- bytes that are put into an array of zeros
pub filled : (text : List ℕ) → length text ≤ 16 → pushed_all (array (replicate 16 0) 0) text ≡ array
    (text ++ replicate (16 - length text) 0) (length text)
filled text le =
    let n : length text + (16 - length text) ≡ 16 = omega arith in
    let m : 0 + length text ≡ length text = zero-add (length text) in
    ap (λ k. pushed_all (array (replicate k 0) 0) text) (sym n) ∙ fill [] text (16 - length text)
    ∙ ap (array (text ++ replicate (16 - length text) 0)) m

-- the bytes of a form with its parts, in the order in which they are put
pub laid : (form : Form) (p : Parts) (a b : ArrayBytes)
    → a ≡ pushed_all (pushed (pushed_all (array (replicate 16 0) 0) (lead_bytes form.lead)) p.code) (addressing_bytes form.addressing p)
    → b ≡ pushed_all a (immediate_bytes form.immediate p) → b.len ≤ 16
    → record {
      bytes = b.bytes;
      len = b.len;
      disp_at = cond (p.disp_len == 0) 0 (a.len - p.disp_len);
      imm_at = cond (imm_len form.immediate == 0) 0 a.len;
    } ≡ laid_out form p
laid form p a b ea eb le =
    let zeros = array (replicate 16 0) 0 in
    let head : a ≡ pushed_all zeros (head_bytes form p) =
    ea ∙ sym (pushed_all-append zeros (lead_bytes form.lead) (p.code ∷ addressing_bytes form.addressing p)) in
    let whole : b ≡ pushed_all zeros (form_bytes form p) = eb ∙ ap (λ t. pushed_all t (immediate_bytes form.immediate p)) head
    ∙ sym (pushed_all-append zeros (head_bytes form p) (immediate_bytes form.immediate p)) in
    let count : b.len ≡ length (form_bytes form p) =
    ap (λ (t : ArrayBytes). t.len) whole ∙ pushed_len zeros (form_bytes form p) ∙ zero-add (length (form_bytes form p)) in
    let at : a.len ≡ length (head_bytes form p) =
    ap (λ (t : ArrayBytes). t.len) head ∙ pushed_len zeros (head_bytes form p) ∙ zero-add (length (head_bytes form p)) in
    let full : b ≡ array (form_bytes form p ++ replicate (16 - length (form_bytes form p)) 0) (length (form_bytes form p)) =
    whole ∙ filled (form_bytes form p) (omega (arith, count, le)) in
    ap (λ (t : ArrayBytes). record {
      bytes = t.bytes;
      len = t.len;
      disp_at = cond (p.disp_len == 0) 0 (a.len - p.disp_len);
      imm_at = cond (imm_len form.immediate == 0) 0 a.len;
    }) full
    ∙ ap (λ n. record {
      bytes = form_bytes form p ++ replicate (16 - length (form_bytes form p)) 0;
      len = length (form_bytes form p);
      disp_at = cond (p.disp_len == 0) 0 (n - p.disp_len);
      imm_at = cond (imm_len form.immediate == 0) 0 n;
    }) at

-- ---- what a row that suits gives

rm_below : (place : RmForm) (rm : Operand) → rm_fits place rm ≡ true → IsNamed rm
rm_below place (operand.Register n) h = ltb-true n 8 (and_parts (nat_lt n 8) (has_place place 3) h).0
rm_below place (operand.Memory a) h = tt
rm_below place operand.Absent h = tt
rm_below place (operand.Segment s) h = tt
rm_below place (operand.Control n) h = tt

offset_below : (rm : Operand) → is_offset rm ≡ true → IsNamed rm
offset_below (operand.Register n) h = absurd cc
offset_below (operand.Memory a) h = tt
offset_below operand.Absent h = tt
offset_below (operand.Segment s) h = tt
offset_below (operand.Control n) h = tt

absent_below : (rm : Operand) → is_absent rm ≡ true → IsNamed rm
absent_below (operand.Register n) h = absurd cc
absent_below (operand.Memory a) h = tt
absent_below operand.Absent h = tt
absent_below (operand.Segment s) h = tt
absent_below (operand.Control n) h = tt

addressing_below : (kind : Addressing) (reg : ℕ) (rm : Operand) → addressing_fits kind reg rm ≡ true → (reg < 8) × IsNamed rm
addressing_below addressing.Nothing reg rm h = let s =
    and_parts (reg == 0) (is_absent rm) h in let z = eqb-true reg 0 s.0 in (omega (arith, z), absent_below rm s.1)
addressing_below addressing.Offset reg rm h = let s =
    and_parts (reg == 0) (is_offset rm) h in let z = eqb-true reg 0 s.0 in (omega (arith, z), offset_below rm s.1)
addressing_below (addressing.Modrm form) reg rm h =
    let s = and_parts (nat_lt reg 8 && has_slash form.slash reg) (rm_fits form.place rm) h in
    (ltb-true reg 8 (and_parts (nat_lt reg 8) (has_slash form.slash reg) s.0).0, rm_below form.place rm s.1)

pub fits_below : (form : Form) (p : Parts) → form_fits form p ≡ true → (p.reg < 8) × IsNamed p.rm
unfolding form_fits
fits_below form p h = addressing_below form.addressing p.reg p.rm
    (and_parts (has_code form p.code) (addressing_fits form.addressing p.reg p.rm)
    (and_parts (has_code form p.code && addressing_fits form.addressing p.reg p.rm) (immediate_fits form.immediate p.imm p.sel) h).0).1

pub width_of : (b : Bool) (n : ℕ) → (not b || n == 4) ≡ true → IsTrue b → n ≡ 4
width_of true n h t = eqb-true n 4 h
width_of false n h t = absurd cc

pub parts_len : (row : Row) (wide : Bool) (insn : Insn) → (parts_for row wide insn).disp_len ≡ disp_len_of wide (parts_for row wide insn).rm
unfolding parts_for
parts_len row wide insn = refl

-- a row that suits an instruction is of its name
pub suits_name : (row : Row) (wide : Wide) (insn : Insn) → Suits row wide insn → row.op ≡ insn.op
unfolding insn_of
suits_name row wide insn s = ap (λ (i : Insn). i.op) s.means

-- what the three tests together say
pub suits_iff : (row : Row) (wide : Wide) (insn : Insn) (p : Parts) (m f w r : Bool) → p ≡ parts_for row wide.disp insn
    → IsTrue m ↔ (insn_of row p ≡ insn) → f ≡ form_fits row.form p → w ≡ widths_fit wide p.disp_len (imm_len row.form.immediate)
    → r ≡ (m && f && w) → IsTrue r ↔ Suits row wide insn
suits_iff row wide insn p m f w r e em ef ew er = (
  λ t.
      let a = and_parts (m && f) w (sym er ∙ t) in
      let b = and_parts m f a.0 in
      record {
        means = ap (insn_of row) (sym e) ∙ em.0 b.0;
        fits = ap (form_fits row.form) (sym e) ∙ sym ef ∙ b.1;
        widths = ap (λ (q : Parts). widths_fit wide q.disp_len (imm_len row.form.immediate)) (sym e) ∙ sym ew ∙ a.1;
      },
  λ s. er ∙ both_true (both_true (em.1 (ap (insn_of row) e ∙ s.means)) (ef ∙ ap (form_fits row.form) e ∙ s.fits))
      (ew ∙ ap (λ (q : Parts). widths_fit wide q.disp_len (imm_len row.form.immediate)) e ∙ s.widths),
)

-- The chosen spelling spells the instruction, with four bytes for what names a symbol.
pub chosen_spells : (wide : Wide) (insn : Insn) (a : ArrayBytes) → IsChosen wide insn a → AreBytes (take a.len a.bytes)
    → SpellsWide wide (take a.len a.bytes) insn
chosen_spells wide insn a c fit =
    let p = parts_for c.row wide.disp insn in
    let bytes = form_bytes c.row.form p in
    let text : take a.len a.bytes ≡ bytes =
    ap (λ (t : ArrayBytes). take t.len t.bytes) c.text ∙ take_at bytes (replicate (16 - length bytes) 0) (length bytes) refl in
    let w = and_parts (not wide.disp || p.disp_len == 4) (not wide.imm || imm_len c.row.form.immediate == 4) c.suits.widths in
    record {
      row = c.row;
      listed = c.listed;
      parts = p;
      by_row = record {
        fit = fit;
        read = ap (parts_at c.row.form) (text ∙ sym (append-nil bytes))
            ∙ form_back wide.disp c.row.form p c.suits.fits (parts_len c.row wide.disp insn) [];
        means = sym c.suits.means;
      };
      disp = width_of wide.disp p.disp_len w.0;
      imm = width_of wide.imm (imm_len c.row.form.immediate) w.1;
    }

pub chosen_length : (wide : Wide) (insn : Insn) (a : ArrayBytes) → IsChosen wide insn a → length (take a.len a.bytes) ≡ a.len
chosen_length wide insn a c =
    let bytes = form_bytes c.row.form (parts_for c.row wide.disp insn) in
    let text : take a.len a.bytes ≡ bytes =
    ap (λ (t : ArrayBytes). take t.len t.bytes) c.text ∙ take_at bytes (replicate (16 - length bytes) 0) (length bytes) refl in
    ap length text ∙ sym (ap (λ (t : ArrayBytes). t.len) c.text)

-- The chosen spelling is read back, whatever follows.
pub chosen_back : (wide : Wide) (insn : Insn) (a : ArrayBytes) → IsChosen wide insn a → AreBytes (take a.len a.bytes)
    → IsReadBack (take a.len a.bytes) insn a.len
chosen_back wide insn a c fit more =
    let s = chosen_spells wide insn a c fit in
    decoded_back (take a.len a.bytes) more insn (record { row = s.row; listed = s.listed; parts = s.parts; by_row = s.by_row })
    ∙ ap (answer.Insn insn) (chosen_length wide insn a c)

-- where no row suits, nothing spells the instruction
pub none_spells : (wide : Wide) (insn : Insn) → NoneSuits wide insn → (bytes : List ℕ) → SpellsWide wide bytes insn → ⊥
none_spells wide insn h bytes s = h s.row s.listed (listed_suits wide bytes insn s)

-- none of the first rows suits
abbrev pub FirstFail : List Row → Wide → Insn → ℕ → Type 0
FirstFail table wide insn count = (k : ℕ) → k < count → (d : Row) → Suits (get_or table k d) wide insn → ⊥

pub fails_at : (table : List Row) (wide : Wide) (insn : Insn) (i : ℕ) (d : Row) → i < length table
    → (Suits (get_or table i d) wide insn → ⊥) → (e : Row) → Suits (get_or table i e) wide insn → ⊥
fails_at table wide insn i d h m e s = m (subst (λ r. Suits r wide insn) (get_or_default table i e d h) s)

pub none_suits : (table : List Row) → table ≡ rows → (wide : Wide) (insn : Insn) (count : ℕ) → length table ≤ count
    → FirstFail table wide insn count → NoneSuits wide insn
none_suits table same wide insn count le h row c s =
    h c.0 (omega (arith, c.1, ap length same)) row (subst (λ r. Suits r wide insn) (sym (ap (λ t. get_or t c.0 row) same ∙ c.2)) s)

pub laid_for : (row : Row) (wide : Bool) (insn : Insn) (p : Parts) (a : ArrayBytes) → p ≡ parts_for row wide insn → a ≡ laid_out row.form p
    → a ≡ laid_out row.form (parts_for row wide insn)
laid_for row wide insn p a e f = f ∙ ap (laid_out row.form) e

pub is_chosen : (table : List Row) → table ≡ rows → (wide : Wide) (insn : Insn) (i : ℕ) (d : Row) → i < length table
    → Suits (get_or table i d) wide insn → FirstFail table wide insn i → (a : ArrayBytes)
    → a ≡ laid_out (get_or table i d).form (parts_for (get_or table i d) wide.disp insn) → IsChosen wide insn a
is_chosen table same wide insn i d h s fail a e = record {
  row = get_or table i d;
  listed = (
    i,
    omega (arith, h, ap length same),
    ap (λ t. get_or t i (get_or table i d)) (sym same) ∙ get_or_default table i (get_or table i d) d h,
  );
  suits = s;
  first = λ k r lt t. fail k lt r (subst (λ x. Suits x wide insn) (ap (λ x. get_or x k r) (sym same)) t);
  text = e;
}
