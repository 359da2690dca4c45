-- What is laid out is read back, whatever follows.
use Rattle.std.proofs.Common.{◌≡◌, ℕ, ◌+◌, ◌*◌, ◌/◌, ◌%◌, ◌<◌, ◌^◌, Bool, true, false, cond, List, [], ◌∷◌, ◌++◌, Option, Some, None, Ok, refl, sym, ap, ◌∙◌, inl, inr, ◌⊎◌, append_assoc, arith}
use Rattle.std.specs.Prelude.{◌==◌, ◌&&◌, ◌||◌, not, nat_lt, is_none, is_some}
use Rattle.std.specs.Cmp.Derive.{both_true}
use Rattle.std.proofs.lemmas.Bool.{eqb-true, ltb-true, or_parts, not-true, and_parts}
use Rattle.std.proofs.lemmas.Bool.Decides.{nat_tests}
use Rattle.ia32_types.specs.declared.register.Reg.{Reg}
use Rattle.ia32_types.specs.declared.register.Reg.TheVariants as reg
use Rattle.ia32_types.specs.declared.insn.Address.{Address}
use Rattle.ia32_types.specs.declared.insn.Operand.{Operand}
use Rattle.ia32_types.specs.declared.insn.Operand.TheVariants as operand
use Rattle.ia32_types.specs.declared.size.Size.TheVariants as size
use Rattle.ia32_types.specs.Register.{number_of, numbered_register}
use Rattle.ia32_types.specs.Bits.{sign_extended}
use Rattle.ia32_rows.specs.declared.row.RmForm.{RmForm}
use Rattle.ia32_rows.specs.declared.row.RmForm.TheVariants as place
use Rattle.ia32_rows.specs.declared.row.Addressing.{Addressing}
use Rattle.ia32_rows.specs.declared.row.Addressing.TheVariants as addressing
use Rattle.ia32_rows.specs.declared.row.Immediate.{Immediate}
use Rattle.ia32_rows.specs.declared.row.Immediate.TheVariants as immediate
use Rattle.ia32_rows.specs.declared.row.Lead.{Lead}
use Rattle.ia32_rows.specs.declared.row.Lead.TheVariants as lead
use Rattle.ia32_rows.specs.declared.row.Base.{Base}
use Rattle.ia32_rows.specs.declared.row.Located.{Located}
use Rattle.ia32_rows.specs.declared.row.Form.{Form}
use Rattle.ia32_rows.specs.declared.row.Parts.{Parts}
use Rattle.ia32_rows.specs.Reader.{Reading, and_then, ◌>>=◌, success, byte_where, word_at, long_at}
use Rattle.ia32_rows.specs.Fields.{mod_of, reg_of, rm_of, base_of, sib_of, base_at, disp_at, memory_at, rm_at, has_slash, has_place, has_modrm, addressing_at, immediate_at}
use Rattle.ia32_rows.specs.Spelling.{has_code, lead_at, coded_at, parts_at}
use Rattle.ia32_rows.proofs.Readers.{read, tested}
use Rattle.ia32_encode.specs.Text.{word_bytes, long_bytes, is_signed_byte, base_number, index_number, scale_bits, memory_len, disp_len_of, mode_for, disp_bytes, modrm, has_sib, modrm_bytes, offset_of, addressing_bytes, immediate_bytes, lead_bytes, form_bytes}
use Rattle.ia32_encode.specs.Parts.{address_fits, rm_fits, is_absent, is_offset, addressing_fits, immediate_fits, form_fits}

-- ---- numbers

word_back : (n : ℕ) (more : List ℕ) → word_at (word_bytes n ++ more) ≡ read n more
unfolding word_at
word_back n more = let e : n % 256 + 256 * (n / 256) ≡ n = omega arith in ap (λ k. read k more) e

long_back : (n : ℕ) (more : List ℕ) → long_at (long_bytes n ++ more) ≡ read n more
unfolding long_at word_at
long_back n more =
    let e : (n % 256 + 256 * (n / 256 % 256)) + 65536 * (n / 65536 % 256 + 256 * (n / 16777216)) ≡ n = omega arith in
    ap (λ k. read k more) e

-- ---- the fields of a ModRM or SIB byte

module _ (mode reg low : ℕ) (small : reg < 8) (lower : low < 8) where
  mod_back : mod_of (modrm mode reg low) ≡ mode
  mod_back = omega arith

  reg_back : reg_of (modrm mode reg low) ≡ reg
  reg_back = omega arith

  rm_back : rm_of (modrm mode reg low) ≡ low
  rm_back = omega arith

number_below : (r : Reg) → number_of r < 8
number_below reg.Eax = omega arith
number_below reg.Ecx = omega arith
number_below reg.Edx = omega arith
number_below reg.Ebx = omega arith
number_below reg.Esp = omega arith
number_below reg.Ebp = omega arith
number_below reg.Esi = omega arith
number_below reg.Edi = omega arith

pub base_below : (base : Option Reg) → base_number base < 8
base_below None = omega arith
base_below (Some r) = number_below r

pub index_below : (index : Option Reg) → index_number index < 8
index_below None = omega arith
index_below (Some r) = number_below r

register_back : (r : Reg) → numbered_register (number_of r) ≡ r
register_back reg.Eax = refl
register_back reg.Ecx = refl
register_back reg.Edx = refl
register_back reg.Ebx = refl
register_back reg.Esp = refl
register_back reg.Ebp = refl
register_back reg.Esi = refl
register_back reg.Edi = refl

-- ---- displacement and base, by the length of the displacement

len_cases : (P : ℕ → Type 0) (s z f : Bool) → P 4 → (s ≡ false → z ≡ true → P 0) → (s ≡ false → f ≡ true → P 1)
    → P (cond s 4 (cond z 0 (cond f 1 4)))
len_cases P true z f four none one = four
len_cases P false true f four none one = none refl refl
len_cases P false false true four none one = one refl refl
len_cases P false false false four none one = four

-- what the displacement's length says
pub record Placed (base : Option Reg) (disp len : ℕ) : Type 0 where
  pub mode : mode_for base len < 3
  pub base_is : base_of (mode_for base len) (base_number base) ≡ base
  pub disp_is : (more : List ℕ) → disp_at (cond (is_none base) 2 (mode_for base len)) (disp_bytes len disp ++ more) ≡ read (disp, len) more

placed_4 : (base : Option Reg) (disp : ℕ) → Placed base disp 4
unfolding disp_at
placed_4 None disp =
    record { mode = omega arith; base_is = refl; disp_is = λ more. ap (λ r. and_then r (λ d. success (d, 4))) (long_back disp more) }
placed_4 (Some r) disp = record {
  mode = omega arith;
  base_is = ap (λ (t : Reg). Some t) (register_back r);
  disp_is = λ more. ap (λ r. and_then r (λ d. success (d, 4))) (long_back disp more);
}

some_base : (r : Reg) → (number_of r == 5) ≡ false → base_of 0 (number_of r) ≡ Some r
some_base reg.Eax e = refl
some_base reg.Ecx e = refl
some_base reg.Edx e = refl
some_base reg.Ebx e = refl
some_base reg.Esp e = refl
some_base reg.Ebp e = absurd cc
some_base reg.Esi e = refl
some_base reg.Edi e = refl

placed_0 : (base : Option Reg) (disp : ℕ) → is_none base ≡ false → (disp == 0 && not (base_number base == 5)) ≡ true → Placed base disp 0
unfolding disp_at
placed_0 None disp s z = absurd cc
placed_0 (Some r) disp s z =
    let e = and_parts (disp == 0) (not (number_of r == 5)) z in
    record {
      mode = omega arith;
      base_is = some_base r (not-true (number_of r == 5) e.1);
      disp_is = λ more. ap (λ k. read (k, 0) more) (sym (eqb-true disp 0 e.0));
    }

placed_1 : (base : Option Reg) (disp : ℕ) → is_none base ≡ false → is_signed_byte disp ≡ true → Placed base disp 1
unfolding disp_at
placed_1 None disp s f = absurd cc
placed_1 (Some r) disp s f = record {
  mode = omega arith;
  base_is = ap (λ (t : Reg). Some t) (register_back r);
  disp_is = λ more. ap (λ k. read (k, 1) more) (eqb-true (sign_extended 32 size.Byte (disp % 256)) disp f);
}

placed : (wide : Bool) (a : Address) → Placed a.base a.disp (memory_len wide a)
placed wide a =
    len_cases (Placed a.base a.disp) (wide || is_none a.base) (a.disp == 0 && not (base_number a.base == 5)) (is_signed_byte a.disp)
    (placed_4 a.base a.disp)
    (λ s z. placed_0 a.base a.disp (or_parts wide (is_none a.base) s).1 z)
    (λ s f. placed_1 a.base a.disp (or_parts wide (is_none a.base) s).1 f)

-- ---- memory operands

pub scales : (n : ℕ) → (n == 1 || n == 2 || n == 4 || n == 8) ≡ true → (n ≡ 1) ⊎ (n ≡ 2) ⊎ (n ≡ 4) ⊎ (n ≡ 8)
scales n e = grind (arith, nat_tests)

scale_back : (n : ℕ) → (n == 1 || n == 2 || n == 4 || n == 8) ≡ true → (scale_bits n < 4) × (2 ^ scale_bits n ≡ n)
scale_back n e = elim (scales n e) [
  | inl h ↦ rw h (omega arith, refl)
  | inr h ↦ elim h [
    | inl g ↦ rw g (omega arith, refl)
    | inr g ↦ elim g [
      | inl f ↦ rw f (omega arith, refl)
      | inr f ↦ rw f (omega arith, refl)
    ]
  ]
]

abbrev base_record : Option Reg → Option Reg → ℕ → Base
base_record base index scale = record { base = base; index = index; scale = scale }

no_index : (index : Option Reg) → is_some index ≡ false → index ≡ None
no_index None e = refl
no_index (Some r) e = absurd cc

-- whether an index and a scale can be spelled
abbrev scaled : Option Reg → ℕ → Bool
scaled index scale =
    cond (is_none index) (scale == 1) (not (index_number index == 4) && (scale == 1 || scale == 2 || scale == 4 || scale == 8))

one_scale : (index : Option Reg) (scale : ℕ) → index ≡ None → scaled index scale ≡ true → scale ≡ 1
one_scale None scale e h = eqb-true scale 1 h
one_scale (Some r) scale e h = absurd cc

-- a SIB byte stands for base, index and scale
sib_back : (mode : ℕ) (base index : Option Reg) (scale : ℕ) → base_of mode (base_number base) ≡ base → scaled index scale ≡ true
    → sib_of mode (modrm (scale_bits scale) (index_number index) (base_number base)) ≡ base_record base index scale
sib_back mode base None scale eb h =
    let one : scale ≡ 1 = eqb-true scale 1 h in
    let low = base_below base in
    let i : modrm (scale_bits scale) 4 (base_number base) / 8 % 8 ≡ 4 =
    reg_back (scale_bits scale) 4 (base_number base) (omega arith) low in
    let b : modrm (scale_bits scale) 4 (base_number base) % 8 ≡ base_number base =
    rm_back (scale_bits scale) 4 (base_number base) (omega arith) low in
    rw (i, b, eb, one) refl
sib_back mode base (Some r) scale eb h =
    let e = and_parts (not (number_of r == 4)) (scale == 1 || scale == 2 || scale == 4 || scale == 8) h in
    let s = scale_back scale e.1 in
    let low = base_below base in
    let i : modrm (scale_bits scale) (number_of r) (base_number base) / 8 % 8 ≡ number_of r =
    reg_back (scale_bits scale) (number_of r) (base_number base) (number_below r) low in
    let b : modrm (scale_bits scale) (number_of r) (base_number base) % 8 ≡ base_number base =
    rm_back (scale_bits scale) (number_of r) (base_number base) (number_below r) low in
    let k : modrm (scale_bits scale) (number_of r) (base_number base) / 64 ≡ scale_bits scale =
    mod_back (scale_bits scale) (number_of r) (base_number base) (number_below r) low in
    rw (i, b, eb, register_back r, not-true (number_of r == 4) e.0, k, s.1) refl

-- with no SIB byte
plain_base : (m mode : ℕ) (a : Address) → mod_of m ≡ mode → rm_of m ≡ base_number a.base → base_of mode (base_number a.base) ≡ a.base
    → is_some a.index ≡ false → (base_number a.base == 4) ≡ false → address_fits a ≡ true
    → (more : List ℕ) → base_at m more ≡ read (base_record a.base a.index a.scale) more
unfolding base_at
plain_base m mode a em er eb ei e4 fit more =
    let none : a.index ≡ None = no_index a.index ei in
    let one : a.scale ≡ 1 = one_scale a.index a.scale none fit in
    rw (er, em, eb, e4, none, one) refl

-- with a SIB byte
sib_base : (m mode : ℕ) (a : Address) → mod_of m ≡ mode → rm_of m ≡ 4 → base_of mode (base_number a.base) ≡ a.base → address_fits a ≡ true
    → (more : List ℕ) → base_at m (modrm (scale_bits a.scale) (index_number a.index) (base_number a.base) ∷ more) ≡ read
    (base_record a.base a.index a.scale) more
unfolding base_at
sib_base m mode a em er eb fit more =
    rw (er, em) (ap (λ b. read b more) (sib_back mode a.base a.index a.scale eb fit))

-- a memory operand after its ModRM byte
memory_then : (m : ℕ) (bytes mid more : List ℕ) (a : Address) (len mode : ℕ) → mod_of m ≡ mode
    → base_at m bytes ≡ read (base_record a.base a.index a.scale) mid → disp_at (cond (is_none a.base) 2 mode) mid ≡ read (a.disp, len) more
    → memory_at m bytes ≡ read (operand.Memory a, len) more
unfolding memory_at
memory_then m bytes mid more a len mode em eb ed = rw (eb, em, ed) refl

mode_not_3 : (m mode : ℕ) → mod_of m ≡ mode → mode < 3 → (mod_of m == 3) ≡ false
mode_not_3 m mode e h = grind (arith, nat_tests)

pub record ReadBack (reg : ℕ) (rm : Operand) (len : ℕ) (bytes : List ℕ) : Type 0 where
  pub m : ℕ
  pub tail : List ℕ
  pub bytes_are : bytes ≡ m ∷ tail
  pub reg_is : reg_of m ≡ reg
  pub mode_is : (place : RmForm) → rm_fits place rm ≡ true → has_place place (mod_of m) ≡ true
  pub rm_is : (more : List ℕ) → rm_at m (tail ++ more) ≡ read (rm, len) more

memory_place : (place : RmForm) (mode : ℕ) → mode < 3 → has_place place 0 ≡ true → has_place place mode ≡ true
memory_place place.Either mode lt h = refl
memory_place place.Memory mode lt h = grind (arith, nat_tests)
memory_place place.Register mode lt h = absurd cc

memory_back : (wide : Bool) (reg : ℕ) (a : Address) → reg < 8 → address_fits a ≡ true → (sib : Bool) → has_sib a ≡ sib
    → ReadBack reg (operand.Memory a) (memory_len wide a)
    (cond sib (modrm (mode_for a.base (memory_len wide a)) reg 4 ∷ modrm (scale_bits a.scale) (index_number a.index)
    (base_number a.base) ∷ disp_bytes (memory_len wide a) a.disp) (modrm (mode_for a.base (memory_len wide a)) reg
    (base_number a.base) ∷ disp_bytes (memory_len wide a) a.disp))
unfolding rm_at
memory_back wide reg a small fit true h =
    let len = memory_len wide a in
    let mode = mode_for a.base len in
    let m = modrm mode reg 4 in
    let p = placed wide a in
    let em : mod_of m ≡ mode = mod_back mode reg 4 small (omega arith) in
    record {
      m = m;
      tail = modrm (scale_bits a.scale) (index_number a.index) (base_number a.base) ∷ disp_bytes len a.disp;
      bytes_are = refl;
      reg_is = reg_back mode reg 4 small (omega arith);
      mode_is = λ place f. rw em (memory_place place mode p.mode (and_parts (address_fits a) (has_place place 0) f).1);
      rm_is = λ more. rw (mode_not_3 m mode em p.mode)
          (memory_then m _ (disp_bytes len a.disp ++ more) more a len mode em
          (sib_base m mode a em (rm_back mode reg 4 small (omega arith)) p.base_is fit (disp_bytes len a.disp ++ more)) (p.disp_is more));
    }
memory_back wide reg a small fit false h =
    let len = memory_len wide a in
    let mode = mode_for a.base len in
    let m = modrm mode reg (base_number a.base) in
    let p = placed wide a in
    let low = base_below a.base in
    let em : mod_of m ≡ mode = mod_back mode reg (base_number a.base) small low in
    let s = or_parts (is_some a.index) (base_number a.base == 4) h in
    record {
      m = m;
      tail = disp_bytes len a.disp;
      bytes_are = refl;
      reg_is = reg_back mode reg (base_number a.base) small low;
      mode_is = λ place f. rw em (memory_place place mode p.mode (and_parts (address_fits a) (has_place place 0) f).1);
      rm_is = λ more. rw (mode_not_3 m mode em p.mode)
          (memory_then m _ (disp_bytes len a.disp ++ more) more a len mode em
          (plain_base m mode a em (rm_back mode reg (base_number a.base) small low) p.base_is s.0 s.1 fit (disp_bytes len a.disp ++ more))
          (p.disp_is more));
    }

modrm_back : (wide : Bool) (reg : ℕ) (place : RmForm) (rm : Operand) → reg < 8 → rm_fits place rm ≡ true
    → ReadBack reg rm (disp_len_of wide rm) (modrm_bytes reg (disp_len_of wide rm) rm)
unfolding rm_at
modrm_back wide reg place operand.Absent small fit = absurd cc
modrm_back wide reg place (operand.Segment s) small fit = absurd cc
modrm_back wide reg place (operand.Control n) small fit = absurd cc
modrm_back wide reg place (operand.Memory a) small fit =
    memory_back wide reg a small (and_parts (address_fits a) (has_place place 0) fit).0 (has_sib a) refl
modrm_back wide reg place (operand.Register n) small fit =
    let lt : n < 8 = ltb-true n 8 (and_parts (nat_lt n 8) (has_place place 3) fit).0 in
    let em : mod_of (modrm 3 reg n) ≡ 3 = mod_back 3 reg n small lt in
    record {
      m = modrm 3 reg n;
      tail = [];
      bytes_are = refl;
      reg_is = reg_back 3 reg n small lt;
      mode_is = λ p f. rw em (and_parts (nat_lt n 8) (has_place p 3) f).1;
      rm_is = λ more. rw (em, rm_back 3 reg n small lt) refl;
    }

-- ---- what follows the opcode

located_is : (reg len : ℕ) (rm : Operand) → Located
located_is reg len rm = record { reg = reg; rm = rm; disp_len = len }

offset_is : (rm : Operand) → is_offset rm ≡ true
    → rm ≡ operand.Memory (record { base = None; index = None; scale = 1; disp = offset_of rm })
offset_is operand.Absent e = absurd cc
offset_is (operand.Register n) e = absurd cc
offset_is (operand.Segment s) e = absurd cc
offset_is (operand.Control n) e = absurd cc
offset_is (operand.Memory a) e = offset_address a.base a.index a.scale a.disp e where
  offset_address : (base index : Option Reg) (scale disp : ℕ) → (is_none base && is_none index && scale == 1) ≡ true
      → operand.Memory (record { base = base; index = index; scale = scale; disp = disp }) ≡ operand.Memory
      (record { base = None; index = None; scale = 1; disp = disp })
  offset_address None None scale disp e =
      ap (λ k. operand.Memory (record { base = None; index = None; scale = k; disp = disp })) (eqb-true scale 1 e)
  offset_address None (Some r) scale disp e = absurd cc
  offset_address (Some r) index scale disp e = absurd cc

pub absent_is : (rm : Operand) → is_absent rm ≡ true → rm ≡ operand.Absent
absent_is operand.Absent e = refl
absent_is (operand.Register n) e = absurd cc
absent_is (operand.Memory a) e = absurd cc
absent_is (operand.Segment s) e = absurd cc
absent_is (operand.Control n) e = absurd cc

four_bytes : (wide : Bool) (d : ℕ) → disp_len_of wide (operand.Memory (record { base = None; index = None; scale = 1; disp = d })) ≡ 4
four_bytes true d = refl
four_bytes false d = refl

located_eq : (r q l k : ℕ) (o m : Operand) → r ≡ q → l ≡ k → o ≡ m → located_is r l o ≡ located_is q k m
located_eq r q l k o m a b c = ap (λ x. located_is x l o) a ∙ ap (λ x. located_is q x o) b ∙ ap (located_is q k) c

-- an immediate and a selector that were read
abbrev both_read : ℕ → ℕ → List ℕ → Reading (ℕ × ℕ)
both_read imm sel more = Ok ((imm, sel), more)

number_eq : (n imm sel : ℕ) → n ≡ imm → (sel == 0) ≡ true → (more : List ℕ) → both_read n 0 more ≡ both_read imm sel more
number_eq n imm sel e z more = ap (λ k. both_read k 0 more) e ∙ ap (λ k. both_read imm k more) (sym (eqb-true sel 0 z))

pub and_right : (a b c : Bool) → (a && b && c) ≡ true → (a && (b && c)) ≡ true
and_right true b c e = e
and_right false b c e = e

-- each addressing reads its bytes back
addressing_back : (wide : Bool) (kind : Addressing) (p : Parts) → addressing_fits kind p.reg p.rm ≡ true
    → p.disp_len ≡ disp_len_of wide p.rm → (more : List ℕ)
    → addressing_at kind (addressing_bytes kind p ++ more) ≡ read (located_is p.reg p.disp_len p.rm) more
unfolding addressing_at located_is
addressing_back wide addressing.Nothing p fit len more =
    let e = and_parts (p.reg == 0) (is_absent p.rm) fit in
    let absent = absent_is p.rm e.1 in
    let none : p.disp_len ≡ 0 = len ∙ ap (disp_len_of wide) absent in
    ap (λ l. read l more) (located_eq 0 p.reg 0 p.disp_len operand.Absent p.rm (sym (eqb-true p.reg 0 e.0)) (sym none) (sym absent))
addressing_back wide addressing.Offset p fit len more =
    let e = and_parts (p.reg == 0) (is_offset p.rm) fit in
    let plain = offset_is p.rm e.1 in
    let four : p.disp_len ≡ 4 = len ∙ ap (disp_len_of wide) plain ∙ four_bytes wide (offset_of p.rm) in
    ap (λ r. and_then r (λ d. success (located_is 0 4 (operand.Memory (record { base = None; index = None; scale = 1; disp = d })))))
    (long_back (offset_of p.rm) more)
    ∙ ap (λ l. read l more) (located_eq 0 p.reg 4 p.disp_len _ p.rm (sym (eqb-true p.reg 0 e.0)) (sym four) (sym plain))
addressing_back wide (addressing.Modrm form) p fit len more =
    let e = and_parts (nat_lt p.reg 8) (has_slash form.slash p.reg && rm_fits form.place p.rm)
    (and_right (nat_lt p.reg 8) (has_slash form.slash p.reg) (rm_fits form.place p.rm) fit) in
    let f = and_parts (has_slash form.slash p.reg) (rm_fits form.place p.rm) e.1 in
    let b = modrm_back wide p.reg form.place p.rm (ltb-true p.reg 8 e.0) f.1 in
    let slash : has_slash form.slash (reg_of b.m) ≡ true = ap (has_slash form.slash) b.reg_is ∙ f.0 in
    let ok : has_modrm form b.m ≡ true = both_true slash (b.mode_is form.place f.1) in
    let bytes : modrm_bytes p.reg p.disp_len p.rm ≡ b.m ∷ b.tail = ap (λ l. modrm_bytes p.reg l p.rm) len ∙ b.bytes_are in
    ap (λ bs. and_then (byte_where (has_modrm form) (bs ++ more)) (λ m. rm_at m >>= λ rm. success (located_is (reg_of m) rm.1 rm.0))) bytes
    ∙ ap (λ t. and_then (tested t b.m (b.tail ++ more)) (λ m. rm_at m >>= λ rm. success (located_is (reg_of m) rm.1 rm.0))) ok
    ∙ ap (λ r. and_then r (λ rm. success (located_is (reg_of b.m) rm.1 rm.0))) (b.rm_is more)
    ∙ ap (λ l. read l more) (located_eq (reg_of b.m) p.reg (disp_len_of wide p.rm) p.disp_len p.rm p.rm b.reg_is (sym len) refl)

-- each immediate reads its bytes back
immediate_back : (kind : Immediate) (p : Parts) → immediate_fits kind p.imm p.sel ≡ true → (more : List ℕ)
    → immediate_at kind (immediate_bytes kind p ++ more) ≡ both_read p.imm p.sel more
unfolding immediate_at
immediate_back immediate.Nothing p fit more = let e =
    and_parts (p.imm == 0) (p.sel == 0) fit in number_eq 0 p.imm p.sel (sym (eqb-true p.imm 0 e.0)) e.1 more
immediate_back immediate.One p fit more = let e =
    and_parts (p.imm == 1) (p.sel == 0) fit in number_eq 1 p.imm p.sel (sym (eqb-true p.imm 1 e.0)) e.1 more
immediate_back immediate.Byte p fit more =
    let e = and_parts (nat_lt p.imm 256) (p.sel == 0) fit in
    let lt = ltb-true p.imm 256 e.0 in
    let same : p.imm % 256 ≡ p.imm = omega arith in
    number_eq (p.imm % 256) p.imm p.sel same e.1 more
immediate_back immediate.SignedByte p fit more =
    let e = and_parts (is_signed_byte p.imm) (p.sel == 0) fit in
    number_eq (sign_extended 32 size.Byte (p.imm % 256)) p.imm p.sel
    (eqb-true (sign_extended 32 size.Byte (p.imm % 256)) p.imm e.0) e.1 more
immediate_back immediate.Word p fit more =
    let e = and_parts (nat_lt p.imm 65536) (p.sel == 0) fit in
    let lt = ltb-true p.imm 65536 e.0 in
    let same : p.imm % 65536 ≡ p.imm = omega arith in
    ap (λ r. and_then r (λ n. success (n, 0))) (word_back (p.imm % 65536) more) ∙ number_eq (p.imm % 65536) p.imm p.sel same e.1 more
immediate_back immediate.Long p fit more =
    ap (λ r. and_then r (λ n. success (n, 0))) (long_back p.imm more) ∙ number_eq p.imm p.imm p.sel refl fit more
immediate_back immediate.Far p fit more =
    ap (λ r. and_then r (λ offset. word_at >>= λ selector. success (offset, selector))) (long_back p.imm (word_bytes p.sel ++ more))
    ∙ ap (λ r. and_then r (λ selector. success (p.imm, selector))) (word_back p.sel more)

lead_back : (kind : Lead) (more : List ℕ) → (n : ℕ) × (lead_at kind (lead_bytes kind ++ more) ≡ read n more)
unfolding lead_at
lead_back lead.Nothing more = (0, refl)
lead_back lead.Word more = (0x66, refl)
lead_back lead.Repeat more = (0xf3, refl)
lead_back lead.Escape more = (0x0f, refl)

parts_is : (code reg disp_len imm sel : ℕ) (rm : Operand) → Parts
parts_is code reg disp_len imm sel rm = record { code = code; reg = reg; rm = rm; disp_len = disp_len; imm = imm; sel = sel }

coded_back : (wide : Bool) (form : Form) (p : Parts) → form_fits form p ≡ true → p.disp_len ≡ disp_len_of wide p.rm → (more : List ℕ)
    → coded_at form (p.code ∷ (addressing_bytes form.addressing p ++ (immediate_bytes form.immediate p ++ more))) ≡ read p more
unfolding coded_at form_fits located_is
coded_back wide form p fit len more =
    let s =
    and_parts (has_code form p.code && addressing_fits form.addressing p.reg p.rm) (immediate_fits form.immediate p.imm p.sel) fit in
    let t = and_parts (has_code form p.code) (addressing_fits form.addressing p.reg p.rm) s.0 in
    rw (
      t.0,
      addressing_back wide form.addressing p t.1 len (immediate_bytes form.immediate p ++ more),
      immediate_back form.immediate p s.1 more,
    ) refl

-- The bytes of the parts are read back as these parts, whatever follows.
pub form_back : (wide : Bool) (form : Form) (p : Parts) → form_fits form p ≡ true → p.disp_len ≡ disp_len_of wide p.rm → (more : List ℕ)
    → parts_at form (form_bytes form p ++ more) ≡ read p more
unfolding parts_at
form_back wide form p fit len more =
    let tail = addressing_bytes form.addressing p ++ (immediate_bytes form.immediate p ++ more) in
    let l = lead_back form.lead (p.code ∷ tail) in
    let split : form_bytes form p ++ more ≡ lead_bytes form.lead ++ (p.code ∷ tail) = simp append_assoc in
    ap (λ bs. and_then (lead_at form.lead bs) (λ _. coded_at form)) split ∙ ap (λ r. and_then r (λ _. coded_at form)) l.1
    ∙ coded_back wide form p fit len more
