-- What is spelled has the operands that its row has.
use Rattle.std.proofs.Common.{◌≡◌, ℕ, Bool, true, false, cond, List, [], ◌∷◌, Ok, refl, sym, ap, subst, ◌∙◌}
use Rattle.std.specs.Prelude.{◌==◌, is_none}
use Rattle.std.specs.List.{list_all, Contains}
use Rattle.std.proofs.lemmas.List.Sums.{AllPass-from_list_all}
use Rattle.ia32_types.specs.declared.insn.Insn.{Insn}
use Rattle.ia32_types.specs.declared.insn.Op.{Op}
use Rattle.ia32_types.specs.declared.insn.Op.TheVariants as op
use Rattle.ia32_types.specs.declared.insn.Operand.{Operand}
use Rattle.ia32_types.specs.declared.insn.Operand.TheVariants as operand
use Rattle.ia32_types.specs.Places.{IsPlace, IsSegment, OperandsFit}
use Rattle.ia32_rows.specs.declared.row.Located.{Located}
use Rattle.ia32_rows.specs.declared.row.Base.{Base}
use Rattle.ia32_rows.specs.declared.row.Addressing.{Addressing}
use Rattle.ia32_rows.specs.declared.row.Addressing.TheVariants as addressing
use Rattle.ia32_rows.specs.declared.row.Operands.{Operands}
use Rattle.ia32_rows.specs.declared.row.Operands.TheVariants as operands
use Rattle.ia32_rows.specs.declared.row.Form.{Form}
use Rattle.ia32_rows.specs.declared.row.Row.{Row}
use Rattle.ia32_rows.specs.declared.row.Parts.{Parts}
use Rattle.ia32_rows.specs.Reader.{◌>>=◌, success, byte_where, long_at}
use Rattle.ia32_rows.specs.Fields.{mod_of, rm_of, has_modrm, base_at, disp_at, memory_at, rm_at, addressing_at, immediate_at}
use Rattle.ia32_rows.specs.Spelling.{has_code, lead_at, coded_at, parts_at, operands_of, insn_of}
use Rattle.ia32_rows.specs.Spells.{Spells}
use Rattle.ia32_rows.specs.Rows.{rows}
use Rattle.ia32_rows.proofs.Readers.{and_then_ok, same_read}

abbrev memory_with : Base → ℕ × ℕ → Operand × ℕ
memory_with place d = (operand.Memory (record { base = place.base; index = place.index; scale = place.scale; disp = d.0 }), d.1)

memory_inner : (place : Base) (mode : ℕ) (bytes : List ℕ) (x : Operand × ℕ) (rest : List ℕ)
    → (disp_at mode >>= λ d. success (memory_with place d)) bytes ≡ Ok (x, rest) → IsPlace x.0
memory_inner place mode bytes x rest e =
    let b = and_then_ok {A = ℕ × ℕ} (disp_at mode bytes) (λ d. success (memory_with place d)) x rest e in
    let same : memory_with place b.0 ≡ x = (same_read (memory_with place b.0) x b.1 rest b.3).0 in
    let is : IsPlace (memory_with place b.0).0 = refl in
    subst (λ (y : Operand × ℕ). IsPlace y.0) same is

memory_place : (m : ℕ) (bytes : List ℕ) (x : Operand × ℕ) (rest : List ℕ) → memory_at m bytes ≡ Ok (x, rest) → IsPlace x.0
unfolding memory_at
memory_place m bytes x rest e =
    let a = and_then_ok {A = Base} (base_at m bytes)
    (λ place. disp_at (cond (is_none place.base) 2 (mod_of m)) >>= λ d. success (memory_with place d)) x rest e in
    memory_inner a.0 (cond (is_none a.0.base) 2 (mod_of m)) a.1 x rest a.3

rm_place_by : (b : Bool) (m : ℕ) (bytes : List ℕ) (x : Operand × ℕ) (rest : List ℕ) → cond b (success (operand.Register (rm_of m), 0))
    (memory_at m) bytes ≡ Ok (x, rest) → IsPlace x.0
rm_place_by true m bytes x rest e = subst (λ (y : Operand × ℕ). IsPlace y.0) (same_read _ x bytes rest e).0 refl
rm_place_by false m bytes x rest e = memory_place m bytes x rest e

rm_place : (m : ℕ) (bytes : List ℕ) (x : Operand × ℕ) (rest : List ℕ) → rm_at m bytes ≡ Ok (x, rest) → IsPlace x.0
unfolding rm_at
rm_place m bytes x rest e = rm_place_by (mod_of m == 3) m bytes x rest e

-- after a ModRM byte the r/m operand is a place
abbrev HasPlace : Addressing → Operand → Type 0
HasPlace (addressing.Modrm form) rm = IsPlace rm
HasPlace _ rm = Unit {0}

addressing_place : (a : Addressing) (bytes : List ℕ) (x : Located) (rest : List ℕ) → addressing_at a bytes ≡ Ok (x, rest) → HasPlace a x.rm
unfolding addressing_at
addressing_place addressing.Nothing bytes x rest e = tt
addressing_place addressing.Offset bytes x rest e = tt
addressing_place (addressing.Modrm form) bytes x rest e =
    let a = and_then_ok (byte_where (has_modrm form) bytes) _ x rest e in
    let b = and_then_ok (rm_at a.0 a.1) _ x rest a.3 in
    subst (λ (y : Located). IsPlace y.rm) (same_read _ x _ rest b.3).0 (rm_place a.0 a.1 b.0 b.1 b.2)

coded_place : (form : Form) (bytes : List ℕ) (p : Parts) (rest : List ℕ) → coded_at form bytes ≡ Ok (p, rest)
    → HasPlace form.addressing p.rm
unfolding coded_at
coded_place form bytes p rest e =
    let a = and_then_ok (byte_where (has_code form) bytes) _ p rest e in
    let b = and_then_ok (addressing_at form.addressing a.1) _ p rest a.3 in
    let c = and_then_ok (immediate_at form.immediate b.1) _ p rest b.3 in
    subst (λ (q : Parts). HasPlace form.addressing q.rm) (same_read _ p _ rest c.3).0 (addressing_place form.addressing a.1 b.0 b.1 b.2)

parts_place : (form : Form) (bytes : List ℕ) (p : Parts) (rest : List ℕ) → parts_at form bytes ≡ Ok (p, rest)
    → HasPlace form.addressing p.rm
unfolding parts_at
parts_place form bytes p rest e =
    let a = and_then_ok (lead_at form.lead bytes) _ p rest e in
    coded_place form a.1 p rest a.3

-- the operands that the rows of these instructions have
abbrev has_operands : Op → Operands → Addressing → Bool
has_operands op.ReadSeg operands.RmSegment (addressing.Modrm form) = true
has_operands op.ReadSeg os a = false
has_operands op.PushSeg operands.Extra a = true
has_operands op.PushSeg operands.Code a = true
has_operands op.PushSeg operands.Stack a = true
has_operands op.PushSeg operands.Data a = true
has_operands op.PushSeg os a = false
has_operands op.JumpTo operands.Rm (addressing.Modrm form) = true
has_operands op.JumpTo os a = false
has_operands op.CallTo operands.Rm (addressing.Modrm form) = true
has_operands op.CallTo os a = false
has_operands o os a = true

abbrev row_has : Row → Bool
row_has row = has_operands row.op row.operands row.form.addressing

all_rows_have : list_all row_has rows ≡ true
unfolding rows
all_rows_have = refl

row_listed : (row : Row) → Contains rows row → row_has row ≡ true
row_listed row c = ap row_has (sym c.2) ∙ AllPass-from_list_all row_has rows all_rows_have c.0 row c.1

fits : (o : Op) (os : Operands) (a : Addressing) (p : Parts) → has_operands o os a ≡ true → HasPlace a p.rm
    → OperandsFit o (operands_of os p).0 (operands_of os p).1
fits op.ReadSeg operands.RmSegment (addressing.Modrm form) p e h = (h, tt)
fits op.ReadSeg os a p e h = absurd cc
fits op.PushSeg operands.Extra a p e h = tt
fits op.PushSeg operands.Code a p e h = tt
fits op.PushSeg operands.Stack a p e h = tt
fits op.PushSeg operands.Data a p e h = tt
fits op.PushSeg os a p e h = absurd cc
fits op.JumpTo operands.Rm (addressing.Modrm form) p e h = h
fits op.JumpTo os a p e h = absurd cc
fits op.CallTo operands.Rm (addressing.Modrm form) p e h = h
fits op.CallTo os a p e h = absurd cc
fits _ os a p e h = tt

row_fits : (row : Row) (p : Parts) → row_has row ≡ true → HasPlace row.form.addressing p.rm
    → OperandsFit (insn_of row p).op (insn_of row p).a (insn_of row p).b
unfolding insn_of
row_fits row p e h = fits row.op row.operands row.form.addressing p e h

pub operands_fit : (bytes : List ℕ) (insn : Insn) → Spells bytes insn → OperandsFit insn.op insn.a insn.b
operands_fit bytes insn s =
    subst (λ (i : Insn). OperandsFit i.op i.a i.b) (sym s.by_row.means)
    (row_fits s.row s.parts (row_listed s.row s.listed) (parts_place s.row.form bytes s.parts [] s.by_row.read))
