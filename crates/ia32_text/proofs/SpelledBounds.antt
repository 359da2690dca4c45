-- The numbers of a spelled instruction lie within their widths.
use Rattle.std.proofs.Common.{◌≡◌, ℕ, ◌+◌, ◌-◌, ◌*◌, ◌<◌, ◌^◌, Bool, true, false, List, [], ◌∷◌, Ok, sym, subst, arith}
use Rattle.std.specs.Prelude.{◌==◌, is_none, if◌then◌else◌, nat_lt}
use Rattle.ia32_types.specs.declared.insn.Insn.{Insn}
use Rattle.ia32_types.specs.declared.insn.Operand.{Operand}
use Rattle.ia32_types.specs.declared.insn.Operand.TheVariants as operand
use Rattle.ia32_types.specs.declared.register.Seg.{Seg}
use Rattle.ia32_types.specs.declared.size.Size.TheVariants as size
use Rattle.ia32_types.specs.Bits.{sign_extended}
use Rattle.ia32_rows.specs.declared.row.Base.{Base}
use Rattle.ia32_rows.specs.declared.row.Located.{Located}
use Rattle.ia32_rows.specs.declared.row.Lead.{Lead}
use Rattle.ia32_rows.specs.declared.row.Lead.TheVariants as lead
use Rattle.ia32_rows.specs.declared.row.Plus.{Plus}
use Rattle.ia32_rows.specs.declared.row.Plus.TheVariants as plus
use Rattle.ia32_rows.specs.declared.row.Addressing.{Addressing}
use Rattle.ia32_rows.specs.declared.row.Addressing.TheVariants as addressing
use Rattle.ia32_rows.specs.declared.row.Immediate.{Immediate}
use Rattle.ia32_rows.specs.declared.row.Immediate.TheVariants as immediate
use Rattle.ia32_rows.specs.declared.row.Operands.{Operands}
use Rattle.ia32_rows.specs.declared.row.Operands.TheVariants as operands
use Rattle.ia32_rows.specs.declared.row.Form.{Form}
use Rattle.ia32_rows.specs.declared.row.Row.{Row}
use Rattle.ia32_rows.specs.declared.row.Parts.{Parts}
use Rattle.ia32_rows.specs.Reader.{Reader, ◌>>=◌, success, byte_at, byte_where, word_at, long_at}
use Rattle.ia32_rows.specs.Fields.{mod_of, rm_of, sib_of, has_modrm, base_at, disp_at, memory_at, rm_at, addressing_at, immediate_at}
use Rattle.ia32_rows.specs.Spelling.{has_code, lead_at, coded_at, parts_at, in_order, operands_of, sel_of, insn_of}
use Rattle.ia32_rows.specs.Spells.{AreBytes, Spells}
use Rattle.ia32_rows.proofs.Readers.{and_then_ok, same_read}
use Rattle.ia32_rows.proofs.Pieces.{byte_is}
use Rattle.ia32_encode.specs.Good.{IsOperandBounded, IsBounded}

-- ---- what is read of bytes

-- of bytes the reader finds such a value, and leaves bytes
record Finds {A : Type 0} (P : A → Type 0) (p : Reader A) : Type 0 where
  found : (bytes : List ℕ) (x : A) (rest : List ℕ) → AreBytes bytes → p bytes ≡ Ok (x, rest) → P x × AreBytes rest

then_finds : {A B : Type 0} (P : A → Type 0) (Q : B → Type 0) (p : Reader A) (f : A → Reader B) → Finds P p
    → ((x : A) → P x → Finds Q (f x))
    → Finds Q (p >>= f)
then_finds P Q p f first second = record {
  found = λ bytes y rest k e.
      let s = and_then_ok (p bytes) f y rest e in
      let a = first.found bytes s.0 s.1 k s.2 in
      (second s.0 a.0).found s.1 y rest a.1 s.3;
}

success_finds : {A : Type 0} (P : A → Type 0) (x : A) → P x → Finds P (success x)
success_finds P x h = record { found = λ bytes y rest k e. let s = same_read x y bytes rest e in (subst P s.0 h, subst AreBytes s.1 k) }

abbrev IsByte : ℕ → Type 0
IsByte b = b < 256

abbrev IsAny : {A : Type 0} → A → Type 0
IsAny x = Unit {0}

byte_found : (bytes : List ℕ) (x : ℕ) (rest : List ℕ) → AreBytes bytes → byte_at bytes ≡ Ok (x, rest) → IsByte x × AreBytes rest
byte_found [] x rest k e = absurd cc
byte_found (b ∷ bytes) x rest k e = let s = same_read b x bytes rest e in (subst IsByte s.0 k.0, subst AreBytes s.1 k.1)

byte_finds : Finds IsByte byte_at
byte_finds = record { found = byte_found }

where_finds : (test : ℕ → Bool) → Finds IsByte (byte_where test)
where_finds test = record { found = λ bytes x rest k e. let both = subst AreBytes (byte_is test bytes x rest e).0 k in (both.0, both.1) }

word_finds : Finds (λ n. n < 65536) word_at
unfolding word_at
word_finds =
    then_finds IsByte _ byte_at _ byte_finds
    (λ low l. then_finds IsByte _ byte_at _ byte_finds (λ high h. success_finds (λ n. n < 65536) (low + 256 * high) (omega (arith, l, h))))

long_finds : Finds (λ n. n < 2 ^ 32) long_at
unfolding long_at
long_finds =
    then_finds (λ n. n < 65536) _ word_at _ word_finds
    (λ low l. then_finds (λ n. n < 65536) _ word_at _ word_finds
    (λ high h. success_finds (λ n. n < 2 ^ 32) (low + 65536 * high) (omega (arith, l, h))))

extended_by : (b : Bool) (n : ℕ) → n < 256 → (if b then n else (n + (2 ^ 32 - 256))) < 2 ^ 32
extended_by true n l = omega arith
extended_by false n l = omega arith

extended_below : (n : ℕ) → n < 256 → sign_extended 32 size.Byte n < 2 ^ 32
extended_below n l = extended_by (nat_lt n 128) n l

-- ---- parts

abbrev IsDisplaced : ℕ × ℕ → Type 0
IsDisplaced d = d.0 < 2 ^ 32

disp_by : (b c : Bool)
    → Finds IsDisplaced
    (if b then success (0, 0) else if c then (byte_at >>= λ n. success (sign_extended 32 size.Byte n, 1)) else
    (long_at >>= λ n. success (n, 4)))
disp_by true c = success_finds IsDisplaced (0, 0) (omega arith)
disp_by false true =
    then_finds IsByte IsDisplaced byte_at _ byte_finds
    (λ n l. success_finds IsDisplaced (sign_extended 32 size.Byte n, 1) (extended_below n l))
disp_by false false = then_finds (λ n. n < 2 ^ 32) IsDisplaced long_at _ long_finds (λ n l. success_finds IsDisplaced (n, 4) l)

disp_finds : (mode : ℕ) → Finds IsDisplaced (disp_at mode)
unfolding disp_at
disp_finds mode = disp_by (mode == 0) (mode == 1)

base_by : (b : Bool) (m : ℕ) (place : Base)
    → Finds {A = Base} IsAny (if b then (byte_at >>= λ s. success (sib_of (mod_of m) s)) else success place)
base_by true m place = then_finds {B = Base} IsByte IsAny byte_at _ byte_finds (λ s l. success_finds IsAny (sib_of (mod_of m) s) tt)
base_by false m place = success_finds IsAny place tt

base_finds : (m : ℕ) → Finds {A = Base} IsAny (base_at m)
unfolding base_at
base_finds m = base_by (rm_of m == 4) m _

abbrev IsPlaced : Operand × ℕ → Type 0
IsPlaced x = IsOperandBounded x.0

memory_finds : (m : ℕ) → Finds IsPlaced (memory_at m)
unfolding memory_at
memory_finds m =
    then_finds {A = Base} IsAny IsPlaced (base_at m) _ (base_finds m)
    (λ place t. then_finds IsDisplaced IsPlaced (disp_at (if is_none place.base then 2 else mod_of m)) _
    (disp_finds (if is_none place.base then 2 else mod_of m))
    (λ d l. success_finds IsPlaced
    (operand.Memory (record { base = place.base; index = place.index; scale = place.scale; disp = d.0 }), d.1) l))

rm_by : (b : Bool) (m : ℕ) → Finds IsPlaced (if b then success (operand.Register (rm_of m), 0) else memory_at m)
rm_by true m = success_finds IsPlaced (operand.Register (rm_of m), 0) tt
rm_by false m = memory_finds m

rm_finds : (m : ℕ) → Finds IsPlaced (rm_at m)
unfolding rm_at
rm_finds m = rm_by (mod_of m == 3) m

abbrev IsLocated : Located → Type 0
IsLocated at = IsOperandBounded at.rm

addressing_finds : (a : Addressing) → Finds IsLocated (addressing_at a)
unfolding addressing_at
addressing_finds addressing.Nothing = success_finds IsLocated _ tt
addressing_finds addressing.Offset = then_finds (λ n. n < 2 ^ 32) IsLocated long_at _ long_finds (λ d l. success_finds IsLocated _ l)
addressing_finds (addressing.Modrm form) =
    then_finds IsByte IsLocated (byte_where (has_modrm form)) _ (where_finds (has_modrm form))
    (λ m b. then_finds IsPlaced IsLocated (rm_at m) _ (rm_finds m) (λ rm h. success_finds IsLocated _ h))

-- the immediate and the selector
abbrev AreSmall : ℕ × ℕ → Type 0
AreSmall x = (x.0 < 2 ^ 32) × (x.1 < 2 ^ 16)

immediate_finds : (i : Immediate) → Finds AreSmall (immediate_at i)
unfolding immediate_at
immediate_finds immediate.Nothing = success_finds AreSmall (0, 0) (omega arith, omega arith)
immediate_finds immediate.One = success_finds AreSmall (1, 0) (omega arith, omega arith)
immediate_finds immediate.Byte =
    then_finds IsByte AreSmall byte_at _ byte_finds (λ b l. success_finds AreSmall (b, 0) (omega (arith, l), omega arith))
immediate_finds immediate.SignedByte =
    then_finds IsByte AreSmall byte_at _ byte_finds
    (λ b l. success_finds AreSmall (sign_extended 32 size.Byte b, 0) (extended_below b l, omega arith))
immediate_finds immediate.Word =
    then_finds (λ n. n < 65536) AreSmall word_at _ word_finds (λ n l. success_finds AreSmall (n, 0) (omega (arith, l), omega arith))
immediate_finds immediate.Long =
    then_finds (λ n. n < 2 ^ 32) AreSmall long_at _ long_finds (λ n l. success_finds AreSmall (n, 0) (l, omega arith))
immediate_finds immediate.Far =
    then_finds (λ n. n < 2 ^ 32) AreSmall long_at _ long_finds
    (λ offset l. then_finds (λ n. n < 65536) AreSmall word_at _ word_finds
    (λ selector s. success_finds AreSmall (offset, selector) (l, omega (arith, s))))

-- ---- an instruction

abbrev AreBounded : Parts → Type 0
AreBounded p = IsOperandBounded p.rm × (p.imm < 2 ^ 32) × (p.sel < 2 ^ 16)

coded_finds : (form : Form) → Finds AreBounded (coded_at form)
unfolding coded_at
coded_finds form =
    then_finds IsByte AreBounded (byte_where (has_code form)) _ (where_finds (has_code form))
    (λ code b. then_finds IsLocated AreBounded (addressing_at form.addressing) _ (addressing_finds form.addressing)
    (λ at h. then_finds AreSmall AreBounded (immediate_at form.immediate) _ (immediate_finds form.immediate)
    (λ imm s. success_finds AreBounded _ (h, s.0, s.1))))

any_byte : (test : ℕ → Bool) → Finds {A = ℕ} IsAny (byte_where test)
any_byte test = record { found = λ bytes x rest k e. (tt, ((where_finds test).found bytes x rest k e).1) }

lead_finds : (l : Lead) → Finds {A = ℕ} IsAny (lead_at l)
unfolding lead_at
lead_finds lead.Nothing = success_finds IsAny 0 tt
lead_finds lead.Word = any_byte (λ b. b == 0x66)
lead_finds lead.Repeat = any_byte (λ b. b == 0xf3)
lead_finds lead.Escape = any_byte (λ b. b == 0x0f)

parts_finds : (form : Form) → Finds AreBounded (parts_at form)
unfolding parts_at
parts_finds form = then_finds {A = ℕ} IsAny AreBounded (lead_at form.lead) _ (lead_finds form.lead) (λ b t. coded_finds form)

-- what holds of each operand but memory
pub record OfOthers (P : Operand → Type 0) : Type 0 where
  pub absent : P operand.Absent
  pub register : (n : ℕ) → P (operand.Register n)
  pub segment : (g : Seg) → P (operand.Segment g)
  pub control : (n : ℕ) → P (operand.Control n)

ordered_have : (P : Operand → Type 0) → OfOthers P → (rm : Operand) (reg : ℕ) → P rm → P (in_order rm reg).0 × P (in_order rm reg).1
ordered_have P o operand.Absent reg h = (h, o.register reg)
ordered_have P o (operand.Register n) reg h = (o.register _, o.register _)
ordered_have P o (operand.Memory a) reg h = (h, o.register reg)
ordered_have P o (operand.Segment g) reg h = (h, o.register reg)
ordered_have P o (operand.Control n) reg h = (h, o.register reg)

-- What holds of them and of the r/m operand holds of both operands.
pub both_have : (P : Operand → Type 0) → OfOthers P → (os : Operands) (p : Parts) → P p.rm → P (operands_of os p).0 × P (operands_of os p).1
both_have P o operands.Nothing p h = (o.absent, o.absent)
both_have P o operands.Rm p h = (h, o.absent)
both_have P o operands.RmReg p h = (h, o.register _)
both_have P o operands.RegRm p h = (o.register _, h)
both_have P o operands.RmCount p h = (h, o.register _)
both_have P o operands.Opcode p h = (o.register _, o.absent)
both_have P o operands.Accumulator p h = (o.register _, o.absent)
both_have P o operands.AccumulatorOpcode p h = (o.register _, o.register _)
both_have P o operands.AccumulatorRm p h = (o.register _, h)
both_have P o operands.RmAccumulator p h = (h, o.register _)
both_have P o operands.Port p h = (o.absent, o.register _)
both_have P o operands.RmControl p h = (h, o.control _)
both_have P o operands.ControlRm p h = (o.control _, h)
both_have P o operands.RmSegment p h = (h, o.segment _)
both_have P o operands.SegmentRm p h = (o.segment _, h)
both_have P o operands.Extra p h = (o.segment _, o.absent)
both_have P o operands.Code p h = (o.segment _, o.absent)
both_have P o operands.Stack p h = (o.segment _, o.absent)
both_have P o operands.Data p h = (o.segment _, o.absent)
both_have P o operands.TwoRegisters p h = ordered_have P o p.rm p.reg h

others_bounded : OfOthers IsOperandBounded
others_bounded = record { absent = tt; register = λ n. tt; segment = λ g. tt; control = λ n. tt }

sel_bounded : (q : Plus) (p : Parts) → p.sel < 2 ^ 16 → sel_of q p < 2 ^ 16
sel_bounded plus.Condition p l = omega arith
sel_bounded plus.Nothing p l = l
sel_bounded plus.Register p l = l
sel_bounded plus.OtherRegister p l = l

row_bounded : (row : Row) (p : Parts) → AreBounded p → IsBounded (insn_of row p)
unfolding insn_of
row_bounded row p h =
    let both = both_have IsOperandBounded others_bounded row.operands p h.0 in
    record { a = both.0; b = both.1; imm = h.1; sel = sel_bounded row.form.plus p h.2 }

-- The displacements, the immediate and the selector of a spelled instruction lie within their widths.
pub spelled_bounded : (bytes : List ℕ) (i : Insn) → Spells bytes i → IsBounded i
spelled_bounded bytes i s =
    subst IsBounded (sym s.by_row.means)
    (row_bounded s.row s.parts ((parts_finds s.row.form).found bytes s.parts [] s.by_row.fit s.by_row.read).0)
