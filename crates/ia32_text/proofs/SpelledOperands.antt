-- What is written of a spelled instruction's operands can be read.
use Rattle.std.proofs.Common.{◌≡◌, ℕ, ◌<◌, ◌^◌, Bool, true, false, List, Option, Some, None, refl, subst, arith}
use Rattle.std.specs.Prelude.{◌==◌, ◌&&◌, ◌||◌, not, nat_lt, is_none, if◌then◌else◌}
use Rattle.std.proofs.lemmas.Bool.{eqb-true, and_parts}
use Rattle.ia32_types.specs.declared.register.Reg.{Reg}
use Rattle.ia32_types.specs.declared.insn.Insn.{Insn}
use Rattle.ia32_types.specs.declared.insn.Op.{Op}
use Rattle.ia32_types.specs.declared.insn.Op.TheVariants as op
use Rattle.ia32_types.specs.declared.insn.Operand.{Operand}
use Rattle.ia32_types.specs.declared.insn.Operand.TheVariants as operand
use Rattle.ia32_types.specs.declared.size.Size.{Size}
use Rattle.ia32_types.specs.Branches.{is_direct_branch}
use Rattle.ia32_rows.specs.declared.row.RmForm.{RmForm}
use Rattle.ia32_rows.specs.declared.row.Addressing.{Addressing}
use Rattle.ia32_rows.specs.declared.row.Addressing.TheVariants as addressing
use Rattle.ia32_rows.specs.declared.row.Row.{Row}
use Rattle.ia32_rows.specs.declared.row.Parts.{Parts}
use Rattle.ia32_rows.specs.Fields.{has_slash}
use Rattle.ia32_rows.specs.Spelling.{has_code, insn_of}
use Rattle.ia32_rows.specs.Spells.{Spells}
use Rattle.ia32_encode.specs.Text.{index_number}
use Rattle.ia32_encode.specs.Parts.{address_fits, rm_fits, is_absent, is_offset, addressing_fits, immediate_fits, form_fits, parts_for}
use Rattle.ia32_encode.specs.Good.{IsBounded, Suits}
use Rattle.ia32_encode.specs.Short.{plain}
use Rattle.ia32_encode.proofs.Suiting.{listed_suits}
use Rattle.asm_argument.specs.Shapes.{is_scale}
use Rattle.ia32_text.specs.declared.kinds.Layout.{Layout}
use Rattle.ia32_text.specs.declared.kinds.Layout.TheVariants as layout
use Rattle.ia32_text.specs.declared.operands.Written.{Written}
use Rattle.ia32_text.specs.declared.operands.Written.TheVariants as written
use Rattle.ia32_text.specs.declared.operands.Operands.{Operands}
use Rattle.ia32_text.specs.declared.operands.Operands.TheVariants as operands
use Rattle.ia32_text.specs.Kinds.{layout_of}
use Rattle.ia32_text.specs.Operands.{as_written, port_or, product_by, laid_out, operands_of}
use Rattle.ia32_text.proofs.SpelledBounds.{OfOthers, both_have, spelled_bounded}
use Rattle.ia32_text.proofs.Reading.{IsWritten, AreWritten}
use Rattle.ia32_text.proofs.RowLaw.{spelled_meant}
use Rattle.ia32_text.proofs.WrittenForms.{IsScaled, IsSpelled}

-- ---- scales of a spelled instruction

abbrev IsScaledOperand : Operand → Type 0
IsScaledOperand (operand.Memory a) = IsScaled a.index a.scale
IsScaledOperand _ = Unit {0}

scaled_by : (index : Option Reg) (s : ℕ)
    → (if is_none index then s == 1 else (not (index_number index == 4) && (s == 1 || s == 2 || s == 4 || s == 8))) ≡ true
    → IsScaled index s
scaled_by None s e = eqb-true s 1 e
scaled_by (Some i) s e = (and_parts (not (index_number (Some i) == 4)) (is_scale s) e).1

unindexed_by : (bare : Bool) (index : Option Reg) (s : ℕ) → (bare && is_none index && s == 1) ≡ true → IsScaled index s
unindexed_by bare None s e = eqb-true s 1 (and_parts (bare && true) (s == 1) e).1
unindexed_by true (Some i) s e = absurd cc
unindexed_by false (Some i) s e = absurd cc

rm_scaled : (f : RmForm) (rm : Operand) → rm_fits f rm ≡ true → IsScaledOperand rm
rm_scaled f operand.Absent e = tt
rm_scaled f (operand.Register n) e = tt
rm_scaled f (operand.Memory a) e = scaled_by a.index a.scale (and_parts (address_fits a) _ e).0
rm_scaled f (operand.Segment g) e = tt
rm_scaled f (operand.Control n) e = tt

absent_scaled : (rm : Operand) → is_absent rm ≡ true → IsScaledOperand rm
absent_scaled operand.Absent e = tt
absent_scaled _ e = absurd cc

offset_scaled : (rm : Operand) → is_offset rm ≡ true → IsScaledOperand rm
offset_scaled (operand.Memory a) e = unindexed_by (is_none a.base) a.index a.scale e
offset_scaled _ e = absurd cc

addressed_scaled : (kind : Addressing) (reg : ℕ) (rm : Operand) → addressing_fits kind reg rm ≡ true → IsScaledOperand rm
addressed_scaled addressing.Nothing reg rm e = absent_scaled rm (and_parts (reg == 0) (is_absent rm) e).1
addressed_scaled addressing.Offset reg rm e = offset_scaled rm (and_parts (reg == 0) (is_offset rm) e).1
addressed_scaled (addressing.Modrm form) reg rm e =
    rm_scaled form.place rm (and_parts (nat_lt reg 8 && has_slash form.slash reg) (rm_fits form.place rm) e).1

others_scaled : OfOthers IsScaledOperand
others_scaled = record { absent = tt; register = λ n. tt; segment = λ g. tt; control = λ n. tt }

-- both operands of the instruction
abbrev HasScales : Insn → Type 0
HasScales i = IsScaledOperand i.a × IsScaledOperand i.b

row_scaled : (row : Row) (p : Parts) → form_fits row.form p ≡ true → HasScales (insn_of row p)
unfolding insn_of form_fits
row_scaled row p f =
    let front =
    (and_parts (has_code row.form p.code && addressing_fits row.form.addressing p.reg p.rm)
    (immediate_fits row.form.immediate p.imm p.sel) f).0 in
    both_have IsScaledOperand others_scaled row.operands p
    (addressed_scaled row.form.addressing p.reg p.rm
    (and_parts (has_code row.form p.code) (addressing_fits row.form.addressing p.reg p.rm) front).1)

suited_scaled : (row : Row) (i : Insn) → Suits row plain i → HasScales i
suited_scaled row i s = subst HasScales s.means (row_scaled row (parts_for row false i) s.fits)

spelled_scaled : (bytes : List ℕ) (i : Insn) → Spells bytes i → HasScales i
spelled_scaled bytes i s =
    suited_scaled s.row i
    (listed_suits plain bytes i
    (record { row = s.row; listed = s.listed; parts = s.parts; by_row = s.by_row; disp = λ t. absurd cc; imm = λ t. absurd cc }))

-- ---- operands as they are written

-- a number has 32 bits, and an address a scale that can be spelled
abbrev HasBounds : Written → Type 0
HasBounds (written.Memory a) = IsScaled a.index a.scale
HasBounds (written.Immediate n) = n < 2 ^ 32
HasBounds (written.Label n) = n < 2 ^ 32
HasBounds _ = Unit {0}

abbrev HaveBounds : Operands → Type 0
HaveBounds operands.Nothing = Unit {0}
HaveBounds (operands.One x) = HasBounds x
HaveBounds (operands.Starred x) = HasBounds x
HaveBounds (operands.Two x y) = HasBounds x × HasBounds y
HaveBounds (operands.Three x y z) = HasBounds x × HasBounds y × HasBounds z

written_bounds : (s : Size) (imm : ℕ) (a : Operand) → imm < 2 ^ 32 → IsScaledOperand a → HasBounds (as_written s imm a)
written_bounds s imm operand.Absent l h = l
written_bounds s imm (operand.Register n) l h = tt
written_bounds s imm (operand.Memory a) l h = h
written_bounds s imm (operand.Segment g) l h = tt
written_bounds s imm (operand.Control n) l h = tt

port_bounds : (b : Operand) (imm : ℕ) → imm < 2 ^ 32 → HasBounds (port_or b imm)
port_bounds operand.Absent imm l = l
port_bounds (operand.Register n) imm l = tt
port_bounds (operand.Memory a) imm l = tt
port_bounds (operand.Segment g) imm l = tt
port_bounds (operand.Control n) imm l = tt

product_bounds : (b : Operand) (i : Insn) → HasBounds (as_written i.size i.imm i.a) → HasBounds (as_written i.size i.imm i.b)
    → HaveBounds (product_by b i)
product_bounds operand.Absent i p q = p
product_bounds (operand.Register n) i p q = (q, p)
product_bounds (operand.Memory a) i p q = (q, p)
product_bounds (operand.Segment g) i p q = (q, p)
product_bounds (operand.Control n) i p q = (q, p)

returned_by : (b : Bool) (n : ℕ) → n < 2 ^ 32 → HaveBounds (if b then operands.Nothing else operands.One (written.Immediate n))
returned_by true n l = tt
returned_by false n l = l

laid_bounds : (l : Layout) (i : Insn) (at len : ℕ) → HasScales i → IsBounded i → HaveBounds (laid_out l i at len)
laid_bounds layout.Nothing i at len h b = tt
laid_bounds layout.One i at len h b = written_bounds i.size i.imm i.a b.imm h.0
laid_bounds layout.Two i at len h b = (written_bounds i.size i.imm i.b b.imm h.1, written_bounds i.size i.imm i.a b.imm h.0)
laid_bounds layout.Product i at len h b =
    product_bounds i.b i (written_bounds i.size i.imm i.a b.imm h.0) (written_bounds i.size i.imm i.b b.imm h.1)
laid_bounds layout.ProductBy i at len h b = (b.imm, written_bounds i.size i.imm i.b b.imm h.1, written_bounds i.size i.imm i.a b.imm h.0)
laid_bounds layout.Widened i at len h b = (written_bounds i.size i.imm i.b b.imm h.1, written_bounds _ i.imm i.a b.imm h.0)
laid_bounds layout.Shift i at len h b = (written_bounds _ i.imm i.b b.imm h.1, written_bounds i.size i.imm i.a b.imm h.0)
laid_bounds layout.Task i at len h b = written_bounds _ i.imm i.a b.imm h.0
laid_bounds layout.In i at len h b = (port_bounds i.b i.imm b.imm, tt)
laid_bounds layout.Out i at len h b = (tt, port_bounds i.b i.imm b.imm)
laid_bounds layout.Return i at len h b = returned_by (i.imm == 0) i.imm b.imm
laid_bounds layout.Starred i at len h b = written_bounds i.size i.imm i.a b.imm h.0
laid_bounds layout.Far i at len h b = (omega (arith, b.sel), b.imm)
laid_bounds layout.Label i at len h b = omega arith

-- ---- what can be read

abbrev pub AreSpelled : Operands → Type 0
AreSpelled operands.Nothing = Unit {0}
AreSpelled (operands.One x) = IsSpelled x
AreSpelled (operands.Starred x) = IsSpelled x
AreSpelled (operands.Two x y) = IsSpelled x × IsSpelled y
AreSpelled (operands.Three x y z) = IsSpelled x × IsSpelled y × IsSpelled z

one_spelled : (w : Written) → IsWritten w → HasBounds w → IsSpelled w
one_spelled (written.Register s n) h b = h
one_spelled (written.Segment g) h b = tt
one_spelled (written.Control n) h b = h
one_spelled (written.Memory a) h b = (h, b)
one_spelled (written.Immediate n) h b = b
one_spelled written.Port h b = tt
one_spelled (written.Label n) h b = b

all_spelled : (o : Operands) → AreWritten o → HaveBounds o → AreSpelled o
all_spelled operands.Nothing h b = tt
all_spelled (operands.One x) h b = one_spelled x h b
all_spelled (operands.Starred x) h b = one_spelled x h b
all_spelled (operands.Two x y) h b = (one_spelled x h.0 b.0, one_spelled y h.1 b.1)
all_spelled (operands.Three x y z) h b = (one_spelled x h.0 b.0, one_spelled y h.1 b.1, one_spelled z h.2 b.2)

branch_spelled : (o : Op) (i : Insn) (at len : ℕ) → is_direct_branch o ≡ true → AreSpelled (laid_out (layout_of o) i at len)
branch_spelled op.Jmp i at len e = omega arith
branch_spelled op.Call i at len e = omega arith
branch_spelled op.Jcc i at len e = omega arith
branch_spelled _ i at len e = absurd cc

spelled_by : (branch : Bool) (bytes : List ℕ) (i : Insn) (at len : ℕ) → is_direct_branch i.op ≡ branch → Spells bytes i
    → AreSpelled (operands_of i at len)
unfolding operands_of
spelled_by true bytes i at len e s = branch_spelled i.op i at len e
spelled_by false bytes i at len e s =
    let b = spelled_bounded bytes i s in
    all_spelled (laid_out (layout_of i.op) i at len) (spelled_meant bytes i at len s b e).written
    (laid_bounds (layout_of i.op) i at len (spelled_scaled bytes i s) b)

-- The operands of a spelled instruction can be read.
pub spelled_operands : (bytes : List ℕ) (i : Insn) (at len : ℕ) → Spells bytes i → AreSpelled (operands_of i at len)
spelled_operands bytes i at len s = spelled_by (is_direct_branch i.op) bytes i at len refl s
