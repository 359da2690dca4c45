-- The row of a chosen spelling, and where its fields stand.
use Rattle.std.proofs.Common.{◌≡◌, ℕ, suc, ◌+◌, ◌-◌, Bool, true, false, not, cond, ◌&&◌, ◌||◌, List, [], ◌∷◌, length, take, Option, Some, Ok, refl, sym, ap, ◌∙◌, arith, rules}
use Rattle.std.specs.Prelude.{replicate, ◌==◌}
use Rattle.std.specs.List.{Contains}
use Rattle.std.proofs.lemmas.Bool.{and_parts}
use Rattle.std.proofs.lemmas.List.{append-nil, length-append, take_at}
use denote.Enum.Bare.{same_true}
use Rattle.ia32_types.specs.contracts.insn.Op.{the_type}
use Rattle.ia32_types.specs.declared.insn.Insn.{Insn}
use Rattle.ia32_rows.specs.declared.row.Row.{Row}
use Rattle.ia32_rows.specs.declared.row.Parts.{Parts}
use Rattle.ia32_rows.specs.declared.row.Immediate.{Immediate}
use Rattle.ia32_rows.specs.declared.row.Immediate.TheVariants as immediate
use Rattle.ia32_rows.specs.Fields.{imm_len}
use Rattle.ia32_rows.specs.Spelling.{parts_at, insn_of}
use Rattle.ia32_rows.specs.Rows.{rows}
use Rattle.ia32_encode.specs.declared.bytes.ArrayBytes.{ArrayBytes}
use Rattle.ia32_encode.specs.declared.choose.Wide.{Wide}
use Rattle.ia32_encode.specs.Parts.{parts_for, form_fits}
use Rattle.ia32_encode.specs.Text.{laid_out, immediate_bytes, head_bytes, form_bytes}
use Rattle.ia32_encode.specs.Same.{same_op, same_size, same_operand, same_insn}
use mathlib.Core.Bool.{beq}
use Rattle.ia32_encode.specs.Chosen.{widths_fit, does_suit, chosen_from, chosen}
use Rattle.ia32_encode.proofs.Back.{form_back}
use Rattle.ia32_encode.proofs.Laid.{parts_len, width_of}
use Rattle.built_images.specs.Fields.{imm_size, disp_place, imm_place}
use Rattle.image_check.proofs.Room.{op_is}

-- ---- the chosen row

pub record IsLaid (wide : Wide) (insn : Insn) (s : ArrayBytes) : Type 0 where
  pub row : Row
  pub listed : Contains rows row
  pub suits : does_suit row wide insn ≡ true
  pub text : s ≡ laid_out row.form (parts_for row wide.disp insn)

abbrev pub some_bytes : ArrayBytes → Option ArrayBytes
some_bytes s = Some s

record IsFound (table : List Row) (wide : Wide) (insn : Insn) (s : ArrayBytes) : Type 0 where
  row : Row
  listed : Contains table row
  suits : does_suit row wide insn ≡ true
  text : s ≡ laid_out row.form (parts_for row wide.disp insn)

found_further : (r : Row) (table : List Row) (wide : Wide) (insn : Insn) (s : ArrayBytes) → IsFound table wide insn s
    → IsFound (r ∷ table) wide insn s
found_further r table wide insn s h =
    record { row = h.row; listed = (suc h.listed.0, omega (arith, h.listed.1), h.listed.2); suits = h.suits; text = h.text }

found_row : (table : List Row) (wide : Wide) (insn : Insn) (s : ArrayBytes) → chosen_from table wide insn ≡ Some s
    → IsFound table wide insn s
unfolding chosen_from
found_row [] wide insn s e = absurd cc
found_row (r ∷ table) wide insn s e = by_test (does_suit r wide insn) refl (found_row table wide insn s) e where
  by_test : (b : Bool) → does_suit r wide insn ≡ b → (chosen_from table wide insn ≡ Some s → IsFound table wide insn s)
      → cond b (some_bytes (laid_out r.form (parts_for r wide.disp insn))) (chosen_from table wide insn) ≡ Some s
      → IsFound (r ∷ table) wide insn s
  by_test true is later e = let same : laid_out r.form (parts_for r wide.disp insn) ≡ s =
      cc in record { row = r; listed = (0, omega arith, refl); suits = is; text = sym same }
  by_test false is later e = found_further r table wide insn s (later e)

laid_row : (wide : Wide) (insn : Insn) (s : ArrayBytes) → chosen wide insn ≡ Some s → IsLaid wide insn s
unfolding chosen
laid_row wide insn s e = let f = found_row rows wide insn s e in record { row = f.row; listed = f.listed; suits = f.suits; text = f.text }

-- what the test of a row says
same_ops : (i j : Insn) → same_insn i j ≡ true → i.op ≡ j.op
unfolding same_insn
same_ops i j h =
    let f = and_parts (same_op i.op j.op && same_size i.size j.size && same_operand i.a j.a && same_operand i.b j.b && i.imm == j.imm
    && i.sel == j.sel) (beq i.rep j.rep) h in
    let s = and_parts (same_op i.op j.op && same_size i.size j.size && same_operand i.a j.a && same_operand i.b j.b && i.imm == j.imm)
    (i.sel == j.sel) f.0 in
    let n = and_parts (same_op i.op j.op && same_size i.size j.size && same_operand i.a j.a && same_operand i.b j.b) (i.imm == j.imm) s.0 in
    let b = and_parts (same_op i.op j.op && same_size i.size j.size && same_operand i.a j.a) (same_operand i.b j.b) n.0 in
    let a = and_parts (same_op i.op j.op && same_size i.size j.size) (same_operand i.a j.a) b.0 in
    let o = and_parts (same_op i.op j.op) (same_size i.size j.size) a.0 in
    same_true the_type (search rules) i.op j.op o.0

-- ---- what is laid out

imm_bytes_size : (i : Immediate) (p : Parts) → length (immediate_bytes i p) ≡ imm_size i
imm_bytes_size immediate.Nothing p = refl
imm_bytes_size immediate.One p = refl
imm_bytes_size immediate.Byte p = refl
imm_bytes_size immediate.SignedByte p = refl
imm_bytes_size immediate.Word p = refl
imm_bytes_size immediate.Long p = refl
imm_bytes_size immediate.Far p = refl

-- a spelling by its row: its bytes, what they are read as, and where its fields stand
pub record IsKnown (wide : Wide) (insn : Insn) (s : ArrayBytes) : Type 0 where
  pub row : Row
  pub listed : Contains rows row
  pub parts : Parts
  pub op : row.op ≡ insn.op
  pub number : parts.imm ≡ insn.imm
  pub read : parts_at row.form (take s.len s.bytes) ≡ Ok (parts, [])
  pub len : length (take s.len s.bytes) ≡ s.len
  pub disp_len : wide.disp ≡ true → parts.disp_len ≡ 4
  pub disp_at : wide.disp ≡ true → s.disp_at ≡ disp_place row (take s.len s.bytes)
  pub imm_long : wide.imm ≡ true → imm_len row.form.immediate ≡ 4
  pub imm_at : wide.imm ≡ true → s.imm_at ≡ imm_place row (take s.len s.bytes)
  pub imm_room : wide.imm ≡ true → s.imm_at + imm_size row.form.immediate ≡ s.len

parts_imm : (row : Row) (wide : Bool) (insn : Insn) → (parts_for row wide insn).imm ≡ insn.imm
unfolding parts_for
parts_imm row wide insn = refl

at_disp : (len head : ℕ) → len ≡ 4 → cond (len == 0) 0 (head - len) ≡ head - 4
at_disp len head e = ap (λ n. cond (n == 0) 0 (head - n)) e

at_imm : (len head : ℕ) → len ≡ 4 → cond (len == 0) 0 head ≡ head
at_imm len head e = ap (λ n. cond (n == 0) 0 head) e

pub known : (wide : Wide) (insn : Insn) (s : ArrayBytes) → chosen wide insn ≡ Some s → IsKnown wide insn s
known wide insn s e =
    let l = laid_row wide insn s e in
    let row = l.row in
    let p = parts_for row wide.disp insn in
    let bytes = form_bytes row.form p in
    let head = head_bytes row.form p in
    let imms = immediate_bytes row.form.immediate p in
    let a = and_parts (same_insn (insn_of row p) insn && form_fits row.form p)
    (widths_fit wide p.disp_len (imm_len row.form.immediate)) l.suits in
    let b = and_parts (same_insn (insn_of row p) insn) (form_fits row.form p) a.0 in
    let w = and_parts (not wide.disp || p.disp_len == 4) (not wide.imm || imm_len row.form.immediate == 4) a.1 in
    let text : take s.len s.bytes ≡ bytes =
    ap (λ (t : ArrayBytes). take t.len t.bytes) l.text ∙ take_at bytes (replicate (16 - length bytes) 0) (length bytes) refl in
    let len : s.len ≡ length bytes = ap (λ (t : ArrayBytes). t.len) l.text in
    let size = imm_bytes_size row.form.immediate p in
    let whole_len : length bytes ≡ length head + imm_size row.form.immediate = length-append head imms ∙ ap (λ n. length head + n) size in
    let taken : length (take s.len s.bytes) ≡ length bytes = ap length text in
    record {
      row = row;
      listed = l.listed;
      parts = p;
      op = sym (op_is row p) ∙ same_ops (insn_of row p) insn b.0;
      number = parts_imm row wide.disp insn;
      read = ap (parts_at row.form) (text ∙ sym (append-nil bytes)) ∙ form_back wide.disp row.form p b.1 (parts_len row wide.disp insn) [];
      len = taken ∙ sym len;
      disp_len = λ t. width_of wide.disp p.disp_len w.0 t;
      disp_at = λ t.
          let four = width_of wide.disp p.disp_len w.0 t in
          let at : s.disp_at ≡ length head - 4 = ap (λ (x : ArrayBytes). x.disp_at) l.text ∙ at_disp p.disp_len (length head) four in
          omega (arith, at, taken, whole_len);
      imm_long = λ t. width_of wide.imm (imm_len row.form.immediate) w.1 t;
      imm_at = λ t.
          let four = width_of wide.imm (imm_len row.form.immediate) w.1 t in
          let at : s.imm_at ≡ length head =
          ap (λ (x : ArrayBytes). x.imm_at) l.text ∙ at_imm (imm_len row.form.immediate) (length head) four in
          omega (arith, at, taken, whole_len);
      imm_room = λ t.
          let four = width_of wide.imm (imm_len row.form.immediate) w.1 t in
          let at : s.imm_at ≡ length head =
          ap (λ (x : ArrayBytes). x.imm_at) l.text ∙ at_imm (imm_len row.form.immediate) (length head) four in
          omega (arith, at, len, whole_len);
    }
