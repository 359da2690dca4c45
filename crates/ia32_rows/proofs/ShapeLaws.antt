-- What is spelled has the shape that the processor's instructions ask for.
use Rattle.std.proofs.Common.{◌≡◌, ℕ, ◌<◌, ◌/◌, ◌%◌, Bool, true, false, cond, List, [], Ok, refl, sym, subst, inl, inr, arith}
use Rattle.std.specs.Prelude.{◌==◌, min, max, is_none}
use Rattle.ia32_types.specs.declared.insn.Insn.{Insn}
use Rattle.ia32_types.specs.declared.insn.Op.{Op}
use Rattle.ia32_types.specs.declared.insn.Op.TheVariants as op
use Rattle.ia32_types.specs.declared.insn.Operand.{Operand}
use Rattle.ia32_types.specs.declared.insn.Operand.TheVariants as operand
use Rattle.ia32_types.specs.Shape.{IsNamed, IsAlone, IsShaped, IsDone, IsPlain, IsFlagImage}
use Rattle.ia32_rows.specs.declared.row.Located.{Located}
use Rattle.ia32_rows.specs.declared.row.Base.{Base}
use Rattle.ia32_rows.specs.declared.row.Addressing.{Addressing}
use Rattle.ia32_rows.specs.declared.row.Addressing.TheVariants as addressing
use Rattle.ia32_rows.specs.declared.row.Operands.{Operands}
use Rattle.ia32_rows.specs.declared.row.Operands.TheVariants as operands
use Rattle.ia32_rows.specs.declared.row.Form.{Form}
use Rattle.ia32_rows.specs.declared.row.Row.{Row}
use Rattle.ia32_rows.specs.declared.row.Parts.{Parts}
use Rattle.ia32_rows.specs.Reader.{◌>>=◌, success, byte_where, long_at}
use Rattle.ia32_rows.specs.Fields.{mod_of, rm_of, has_modrm, base_at, disp_at, memory_at, rm_at, addressing_at, immediate_at}
use Rattle.ia32_rows.specs.Spelling.{has_code, lead_at, coded_at, parts_at, operands_of, insn_of, in_order}
use Rattle.ia32_rows.specs.Spells.{Spells}
use Rattle.ia32_rows.proofs.Readers.{and_then_ok, same_read}

below_8 : (m : ℕ) → m % 8 < 8
below_8 m = omega arith

-- a memory operand is no register
abbrev memory_with : Base → ℕ × ℕ → Operand × ℕ
memory_with place d = (operand.Memory (record { base = place.base; index = place.index; scale = place.scale; disp = d.0 }), d.1)

memory_inner : (place : Base) (mode : ℕ) (bytes : List ℕ) (x : Operand × ℕ) (rest : List ℕ)
    → (disp_at mode >>= λ d. success (memory_with place d)) bytes ≡ Ok (x, rest) → IsNamed x.0
memory_inner place mode bytes x rest e =
    let b = and_then_ok {A = ℕ × ℕ} (disp_at mode bytes) (λ d. success (memory_with place d)) x rest e in
    let same : memory_with place b.0 ≡ x = (same_read (memory_with place b.0) x b.1 rest b.3).0 in
    let named : IsNamed (memory_with place b.0).0 = tt in
    subst (λ (y : Operand × ℕ). IsNamed y.0) same named

memory_named : (m : ℕ) (bytes : List ℕ) (x : Operand × ℕ) (rest : List ℕ) → memory_at m bytes ≡ Ok (x, rest) → IsNamed x.0
unfolding memory_at
memory_named m bytes x rest e =
    let a = and_then_ok {A = Base} (base_at m bytes)
    (λ place. disp_at (cond (is_none place.base) 2 (mod_of m)) >>= λ d. success (memory_with place d)) x rest e in
    memory_inner a.0 (cond (is_none a.0.base) 2 (mod_of m)) a.1 x rest a.3

rm_named_by : (b : Bool) (m : ℕ) (bytes : List ℕ) (x : Operand × ℕ) (rest : List ℕ) → cond b (success (operand.Register (rm_of m), 0))
    (memory_at m) bytes ≡ Ok (x, rest) → IsNamed x.0
rm_named_by true m bytes x rest e = subst (λ (y : Operand × ℕ). IsNamed y.0) (same_read _ x bytes rest e).0 (below_8 m)
rm_named_by false m bytes x rest e = memory_named m bytes x rest e

rm_named : (m : ℕ) (bytes : List ℕ) (x : Operand × ℕ) (rest : List ℕ) → rm_at m bytes ≡ Ok (x, rest) → IsNamed x.0
unfolding rm_at
rm_named m bytes x rest e = rm_named_by (mod_of m == 3) m bytes x rest e

-- the reg field is below 8, and a register in the r/m operand too
pub record IsLocated (reg : ℕ) (rm : Operand) : Type 0 where
  pub reg_below : reg < 8
  pub rm_named : IsNamed rm

abbrev Located_of : Located → Type 0
Located_of at = IsLocated at.reg at.rm

addressing_located : (a : Addressing) (bytes : List ℕ) (x : Located) (rest : List ℕ) → addressing_at a bytes ≡ Ok (x, rest) → Located_of x
unfolding addressing_at
addressing_located addressing.Nothing bytes x rest e =
    subst Located_of (same_read _ x bytes rest e).0 (record { reg_below = omega arith; rm_named = tt })
addressing_located addressing.Offset bytes x rest e =
    let a = and_then_ok (long_at bytes) _ x rest e in
    subst Located_of (same_read _ x _ rest a.3).0 (record { reg_below = omega arith; rm_named = tt })
addressing_located (addressing.Modrm form) bytes x rest e =
    let a = and_then_ok (byte_where (has_modrm form) bytes) _ x rest e in
    let b = and_then_ok (rm_at a.0 a.1) _ x rest a.3 in
    subst Located_of (same_read _ x _ rest b.3).0 (record { reg_below = below_8 (a.0 / 8); rm_named = rm_named a.0 a.1 b.0 b.1 b.2 })

abbrev Parts_of : Parts → Type 0
Parts_of p = IsLocated p.reg p.rm

coded_located : (form : Form) (bytes : List ℕ) (p : Parts) (rest : List ℕ) → coded_at form bytes ≡ Ok (p, rest) → Parts_of p
unfolding coded_at
coded_located form bytes p rest e =
    let a = and_then_ok (byte_where (has_code form) bytes) _ p rest e in
    let b = and_then_ok (addressing_at form.addressing a.1) _ p rest a.3 in
    let c = and_then_ok (immediate_at form.immediate b.1) _ p rest b.3 in
    subst Parts_of (same_read _ p _ rest c.3).0 (addressing_located form.addressing a.1 b.0 b.1 b.2)

pub parts_located : (form : Form) (bytes : List ℕ) (p : Parts) (rest : List ℕ) → parts_at form bytes ≡ Ok (p, rest) → Parts_of p
unfolding parts_at
parts_located form bytes p rest e =
    let a = and_then_ok (lead_at form.lead bytes) _ p rest e in
    coded_located form a.1 p rest a.3

-- what the two operands have
pub record AreShaped (a b : Operand) : Type 0 where
  pub named_a : IsNamed a
  pub named_b : IsNamed b
  pub alone : IsAlone a b

abbrev Pair_of : Operand × Operand → Type 0
Pair_of p = AreShaped p.0 p.1

alone_with_register : (rm : Operand) (n : ℕ) → IsAlone rm (operand.Register n)
alone_with_register operand.Absent n = tt
alone_with_register (operand.Register m) n = tt
alone_with_register (operand.Memory a) n = tt
alone_with_register (operand.Segment s) n = tt
alone_with_register (operand.Control m) n = tt

alone_absent : (rm : Operand) → IsAlone rm operand.Absent
alone_absent operand.Absent = tt
alone_absent (operand.Register m) = tt
alone_absent (operand.Memory a) = tt
alone_absent (operand.Segment s) = tt
alone_absent (operand.Control m) = tt

alone_control : (rm : Operand) (n : ℕ) → IsAlone rm (operand.Control n)
alone_control operand.Absent n = tt
alone_control (operand.Register m) n = tt
alone_control (operand.Memory a) n = tt
alone_control (operand.Segment s) n = tt
alone_control (operand.Control m) n = tt

alone_segment : (rm : Operand) (s : _) → IsAlone rm (operand.Segment s)
alone_segment operand.Absent s = tt
alone_segment (operand.Register m) s = tt
alone_segment (operand.Memory a) s = tt
alone_segment (operand.Segment t) s = tt
alone_segment (operand.Control m) s = tt

min_below : (m n : ℕ) → m < 8 → n < 8 → min m n < 8
min_below m n p q = omega arith

max_below : (m n : ℕ) → m < 8 → n < 8 → max m n < 8
max_below m n p q = omega arith

in_order_shaped : (rm : Operand) (n : ℕ) → IsNamed rm → n < 8 → Pair_of (in_order rm n)
in_order_shaped operand.Absent n h l = record { named_a = tt; named_b = l; alone = tt }
in_order_shaped (operand.Register m) n h l = record { named_a = min_below m n h l; named_b = max_below m n h l; alone = tt }
in_order_shaped (operand.Memory a) n h l = record { named_a = tt; named_b = l; alone = tt }
in_order_shaped (operand.Segment s) n h l = record { named_a = tt; named_b = l; alone = tt }
in_order_shaped (operand.Control m) n h l = record { named_a = tt; named_b = l; alone = tt }

operands_shaped : (o : Operands) (p : Parts) → Parts_of p → Pair_of (operands_of o p)
operands_shaped operands.Nothing p h = record { named_a = tt; named_b = tt; alone = tt }
operands_shaped operands.Rm p h = record { named_a = h.rm_named; named_b = tt; alone = alone_absent p.rm }
operands_shaped operands.RmReg p h = record { named_a = h.rm_named; named_b = h.reg_below; alone = alone_with_register p.rm p.reg }
operands_shaped operands.RegRm p h = record { named_a = h.reg_below; named_b = h.rm_named; alone = tt }
operands_shaped operands.RmCount p h = record { named_a = h.rm_named; named_b = omega arith; alone = alone_with_register p.rm 1 }
operands_shaped operands.Opcode p h = record { named_a = below_8 p.code; named_b = tt; alone = tt }
operands_shaped operands.Accumulator p h = record { named_a = omega arith; named_b = tt; alone = tt }
operands_shaped operands.AccumulatorOpcode p h = record { named_a = omega arith; named_b = below_8 p.code; alone = tt }
operands_shaped operands.AccumulatorRm p h = record { named_a = omega arith; named_b = h.rm_named; alone = tt }
operands_shaped operands.RmAccumulator p h = record { named_a = h.rm_named; named_b = omega arith; alone = alone_with_register p.rm 0 }
operands_shaped operands.Port p h = record { named_a = tt; named_b = omega arith; alone = tt }
operands_shaped operands.RmControl p h = record { named_a = h.rm_named; named_b = tt; alone = alone_control p.rm p.reg }
operands_shaped operands.ControlRm p h = record { named_a = tt; named_b = h.rm_named; alone = tt }
operands_shaped operands.RmSegment p h = record { named_a = h.rm_named; named_b = tt; alone = alone_segment p.rm _ }
operands_shaped operands.SegmentRm p h = record { named_a = tt; named_b = h.rm_named; alone = tt }
operands_shaped operands.Extra p h = record { named_a = tt; named_b = tt; alone = tt }
operands_shaped operands.Code p h = record { named_a = tt; named_b = tt; alone = tt }
operands_shaped operands.Stack p h = record { named_a = tt; named_b = tt; alone = tt }
operands_shaped operands.Data p h = record { named_a = tt; named_b = tt; alone = tt }
operands_shaped operands.TwoRegisters p h = in_order_shaped p.rm p.reg h.rm_named h.reg_below

pub row_shaped : (row : Row) (p : Parts) → Parts_of p → IsShaped (insn_of row p)
unfolding insn_of
row_shaped row p h =
    let s = operands_shaped row.operands p h in
    record { named_a = s.named_a; named_b = s.named_b; alone = s.alone }

pub shaped : (bytes : List ℕ) (insn : Insn) → Spells bytes insn → IsShaped insn
shaped bytes insn s =
    subst IsShaped (sym s.by_row.means) (row_shaped s.row s.parts (parts_located s.row.form bytes s.parts [] s.by_row.read))

-- the plain instructions, PUSHF and POPF are those that `exec` does
pub plain_done : (o : Op) → IsPlain o → IsDone o
plain_done op.Add h = tt
plain_done op.Or h = tt
plain_done op.Adc h = tt
plain_done op.Sbb h = tt
plain_done op.And h = tt
plain_done op.Sub h = tt
plain_done op.Xor h = tt
plain_done op.Cmp h = tt
plain_done op.Test h = tt
plain_done op.Not h = tt
plain_done op.Neg h = tt
plain_done op.Mul h = tt
plain_done op.Imul h = tt
plain_done op.ImulBy h = tt
plain_done op.Div h = tt
plain_done op.Idiv h = tt
plain_done op.Inc h = tt
plain_done op.Dec h = tt
plain_done op.Rol h = tt
plain_done op.Ror h = tt
plain_done op.Shl h = tt
plain_done op.Shr h = tt
plain_done op.Sar h = tt
plain_done op.Mov h = tt
plain_done op.Movzx h = tt
plain_done op.Movsx h = tt
plain_done op.Lea h = tt
plain_done op.Xchg h = tt
plain_done op.Push h = tt
plain_done op.Pop h = tt
plain_done op.Pusha h = tt
plain_done op.Popa h = tt
plain_done op.Cwde h = tt
plain_done op.Cdq h = tt
plain_done op.Leave h = tt
plain_done op.Nop h = tt
plain_done op.Jcc h = tt
plain_done op.Setcc h = tt
plain_done op.Jmp h = tt
plain_done op.Call h = tt
plain_done op.Int h = absurd (h.not_int refl)
plain_done op.Int3 h = absurd (h.not_int3 refl)
plain_done op.Ud2 h = tt
plain_done op.Movs h = tt
plain_done op.Stos h = tt
plain_done op.Lods h = tt
plain_done op.Clc h = tt
plain_done op.Stc h = tt
plain_done op.Cld h = tt
plain_done op.Std h = tt
plain_done op.PushFlags h = tt
plain_done op.PopFlags h = tt
plain_done _ h = absurd (let e = h.insensitive in cc)

flag_image_done : (o : Op) → IsFlagImage o → IsDone o
flag_image_done o (inl e) = subst IsDone (sym e) tt
flag_image_done o (inr e) = subst IsDone (sym e) tt

pub done_ops : (o : Op) → IsPlain o → IsDone o
done_ops = plain_done

pub done_images : (o : Op) → IsFlagImage o → IsDone o
done_images = flag_image_done
