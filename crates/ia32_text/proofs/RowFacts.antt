-- What the rows of the opcode table spell is meant by its name and its operands.
use Rattle.std.proofs.Common.{◌≡◌, ℕ, ◌%◌, ◌<◌, ◌≤◌, ◌^◌, Bool, true, false, sym, subst, arith}
use Rattle.std.specs.Prelude.{◌==◌, ◌&&◌, nat_lt, min, max}
use Rattle.std.proofs.lemmas.Bool.{eqb-true, ltb-true, and_parts}
use Rattle.ia32_types.specs.declared.insn.Operand.{Operand}
use Rattle.ia32_types.specs.declared.insn.Operand.TheVariants as operand
use Rattle.ia32_types.specs.declared.size.Size.{Size}
use Rattle.ia32_types.specs.declared.size.Size.TheVariants as size
use Rattle.ia32_types.specs.Size.{span}
use Rattle.ia32_types.specs.Shape.{IsNamed}
use Rattle.ia32_rows.specs.declared.row.Slash.{Slash}
use Rattle.ia32_rows.specs.declared.row.Slash.TheVariants as slash
use Rattle.ia32_rows.specs.declared.row.RmForm.{RmForm}
use Rattle.ia32_rows.specs.declared.row.RmForm.TheVariants as place
use Rattle.ia32_rows.specs.declared.row.Modrm.{Modrm}
use Rattle.ia32_rows.specs.declared.row.Addressing.{Addressing}
use Rattle.ia32_rows.specs.declared.row.Addressing.TheVariants as addressing
use Rattle.ia32_rows.specs.declared.row.Immediate.{Immediate}
use Rattle.ia32_rows.specs.declared.row.Immediate.TheVariants as immediate
use Rattle.ia32_rows.specs.declared.row.Operands.{Operands}
use Rattle.ia32_rows.specs.declared.row.Operands.TheVariants as operands
use Rattle.ia32_rows.specs.declared.row.Parts.{Parts}
use Rattle.ia32_rows.specs.Fields.{has_slash}
use Rattle.ia32_rows.specs.Spelling.{segment, in_order, operands_of}
use Rattle.ia32_encode.specs.Parts.{rm_fits, address_fits, addressing_fits, immediate_fits}
use Rattle.ia32_encode.specs.Good.{IsOperandBounded}
use Rattle.ia32_text.proofs.Reading.{is_control}
use Rattle.ia32_text.proofs.Drafting.{IsOperand, TwoKinds, TwoNumber, IsTwo, PlaceKind}
use Rattle.ia32_text.proofs.Families.{TestKinds}

-- ---- operands

-- a register's number is below 8, and a displacement has 32 bits
abbrev pub IsSafe : Operand → Type 0
IsSafe (operand.Register n) = n < 8
IsSafe (operand.Memory a) = a.disp < 2 ^ 32
IsSafe _ = Unit {0}

pub is_safe : (a : Operand) → IsNamed a → IsOperandBounded a → IsSafe a
is_safe operand.Absent n b = tt
is_safe (operand.Register m) n b = n
is_safe (operand.Memory x) n b = b
is_safe (operand.Segment g) n b = tt
is_safe (operand.Control m) n b = tt

pub safe_place : (a : Operand) → PlaceKind a → IsSafe a → IsOperand a
safe_place operand.Absent p h = absurd p
safe_place (operand.Register n) p h = h
safe_place (operand.Memory x) p h = h
safe_place (operand.Segment g) p h = absurd p
safe_place (operand.Control n) p h = absurd p

pub rm_place : (f : RmForm) (rm : Operand) → rm_fits f rm ≡ true → PlaceKind rm
rm_place f operand.Absent e = absurd cc
rm_place f (operand.Register n) e = tt
rm_place f (operand.Memory x) e = tt
rm_place f (operand.Segment g) e = absurd cc
rm_place f (operand.Control n) e = absurd cc

pub modrm_place : (f : Modrm) (reg : ℕ) (rm : Operand) → addressing_fits (addressing.Modrm f) reg rm ≡ true → PlaceKind rm
modrm_place f reg rm e = rm_place f.place rm (and_parts (nat_lt reg 8 && has_slash f.slash reg) (rm_fits f.place rm) e).1

pub offset_place : (reg : ℕ) (rm : Operand) → addressing_fits addressing.Offset reg rm ≡ true → PlaceKind rm
offset_place reg operand.Absent e = absurd (let x = (and_parts (reg == 0) false e).1 in cc)
offset_place reg (operand.Register n) e = absurd (let x = (and_parts (reg == 0) false e).1 in cc)
offset_place reg (operand.Memory x) e = tt
offset_place reg (operand.Segment g) e = absurd (let x = (and_parts (reg == 0) false e).1 in cc)
offset_place reg (operand.Control n) e = absurd (let x = (and_parts (reg == 0) false e).1 in cc)

-- memory alone
abbrev pub IsMemory : Operand → Type 0
IsMemory (operand.Memory x) = Unit {0}
IsMemory _ = ⊥

abbrev pub memory_alone : RmForm → Bool
memory_alone place.Memory = true
memory_alone _ = false

pub rm_memory : (f : RmForm) (rm : Operand) → memory_alone f ≡ true → rm_fits f rm ≡ true → IsMemory rm
rm_memory place.Memory operand.Absent t e = absurd cc
rm_memory place.Memory (operand.Register n) t e = absurd (let x = (and_parts (nat_lt n 8) false e).1 in cc)
rm_memory place.Memory (operand.Memory x) t e = tt
rm_memory place.Memory (operand.Segment g) t e = absurd cc
rm_memory place.Memory (operand.Control n) t e = absurd cc
rm_memory _ rm t e = absurd cc

pub modrm_memory : (f : Modrm) (reg : ℕ) (rm : Operand) → memory_alone f.place ≡ true
    → addressing_fits (addressing.Modrm f) reg rm ≡ true → IsMemory rm
modrm_memory f reg rm t e = rm_memory f.place rm t (and_parts (nat_lt reg 8 && has_slash f.slash reg) (rm_fits f.place rm) e).1

-- a register alone
abbrev pub IsRegister : Operand → Type 0
IsRegister (operand.Register n) = Unit {0}
IsRegister _ = ⊥

abbrev pub register_alone : RmForm → Bool
register_alone place.Register = true
register_alone _ = false

pub rm_register : (f : RmForm) (rm : Operand) → register_alone f ≡ true → rm_fits f rm ≡ true → IsRegister rm
rm_register place.Register operand.Absent t e = absurd cc
rm_register place.Register (operand.Register n) t e = tt
rm_register place.Register (operand.Memory x) t e = absurd (let y = (and_parts (address_fits x) false e).1 in cc)
rm_register place.Register (operand.Segment g) t e = absurd cc
rm_register place.Register (operand.Control n) t e = absurd cc
rm_register _ rm t e = absurd cc

pub modrm_register : (f : Modrm) (reg : ℕ) (rm : Operand) → register_alone f.place ≡ true
    → addressing_fits (addressing.Modrm f) reg rm ≡ true → IsRegister rm
modrm_register f reg rm t e = rm_register f.place rm t (and_parts (nat_lt reg 8 && has_slash f.slash reg) (rm_fits f.place rm) e).1

abbrev pub control_slash : Slash → Bool
control_slash slash.Control = true
control_slash _ = false

pub slash_control : (s : Slash) (n : ℕ) → control_slash s ≡ true → has_slash s n ≡ true → is_control n ≡ true
slash_control slash.Control n t e = e
slash_control _ n t e = absurd cc

pub modrm_control : (f : Modrm) (reg : ℕ) (rm : Operand) → control_slash f.slash ≡ true → addressing_fits (addressing.Modrm f) reg rm ≡ true
    → is_control reg ≡ true
modrm_control f reg rm t e =
    slash_control f.slash reg t
    (and_parts (nat_lt reg 8) (has_slash f.slash reg) (and_parts (nat_lt reg 8 && has_slash f.slash reg) (rm_fits f.place rm) e).0).1

-- ---- numbers

abbrev pub number_kind : Size → Immediate → Bool
number_kind size.Byte immediate.Byte = true
number_kind size.Word immediate.Word = true
number_kind size.Long immediate.SignedByte = true
number_kind size.Long immediate.Long = true
number_kind _ _ = false

pub number_is : (s : Size) (k : Immediate) (imm sel : ℕ) → number_kind s k ≡ true → immediate_fits k imm sel ≡ true
    → imm < 2 ^ 32 → imm < span s
number_is size.Byte immediate.Byte imm sel t e l = ltb-true imm 256 (and_parts (nat_lt imm 256) (sel == 0) e).0
number_is size.Word immediate.Word imm sel t e l = ltb-true imm 65536 (and_parts (nat_lt imm 65536) (sel == 0) e).0
number_is size.Long immediate.SignedByte imm sel t e l = l
number_is size.Long immediate.Long imm sel t e l = l
number_is _ _ imm sel t e l = absurd cc

abbrev pub no_number : Immediate → Bool
no_number immediate.Nothing = true
no_number _ = false

pub zero_is : (k : Immediate) (imm sel : ℕ) → no_number k ≡ true → immediate_fits k imm sel ≡ true → imm ≡ 0
zero_is immediate.Nothing imm sel t e = eqb-true imm 0 (and_parts (imm == 0) (sel == 0) e).0
zero_is _ imm sel t e = absurd cc

abbrev pub a_byte : Immediate → Bool
a_byte immediate.Byte = true
a_byte _ = false

pub byte_is : (k : Immediate) (imm sel : ℕ) → a_byte k ≡ true → immediate_fits k imm sel ≡ true → imm < 256
byte_is immediate.Byte imm sel t e = ltb-true imm 256 (and_parts (nat_lt imm 256) (sel == 0) e).0
byte_is _ imm sel t e = absurd cc

abbrev pub a_count : Immediate → Bool
a_count immediate.One = true
a_count immediate.Byte = true
a_count _ = false

pub count_is : (k : Immediate) (imm sel : ℕ) → a_count k ≡ true → immediate_fits k imm sel ≡ true → imm < 256
count_is immediate.One imm sel t e = let x = eqb-true imm 1 (and_parts (imm == 1) (sel == 0) e).0 in omega (arith, x)
count_is immediate.Byte imm sel t e = ltb-true imm 256 (and_parts (nat_lt imm 256) (sel == 0) e).0
count_is _ imm sel t e = absurd cc

-- what RET drops
abbrev pub a_drop : Immediate → Bool
a_drop immediate.Nothing = true
a_drop immediate.Word = true
a_drop _ = false

pub drop_is : (k : Immediate) (imm sel : ℕ) → a_drop k ≡ true → immediate_fits k imm sel ≡ true → imm < 65536
drop_is immediate.Nothing imm sel t e = let x = eqb-true imm 0 (and_parts (imm == 0) (sel == 0) e).0 in omega (arith, x)
drop_is immediate.Word imm sel t e = ltb-true imm 65536 (and_parts (nat_lt imm 65536) (sel == 0) e).0
drop_is _ imm sel t e = absurd cc

-- ---- what is known of a row's parts

pub record Facts (os : Operands) (addr : Addressing) (k : Immediate) (p : Parts) : Type 0 where
  pub a_is : IsSafe (operands_of os p).0
  pub b_is : IsSafe (operands_of os p).1
  pub place : addressing_fits addr p.reg p.rm ≡ true
  pub number : immediate_fits k p.imm p.sel ≡ true
  pub small : p.imm < 2 ^ 32

-- an instruction's operands and its number
abbrev pub Shape : Type 1
Shape = Operand → Operand → ℕ → Type 0

abbrev pub Has : Shape → Operands → Parts → Type 0
Has P os p = P (operands_of os p).0 (operands_of os p).1 p.imm

-- ---- two operands, or one and a number

pub kinds_absent : (a : Operand) → PlaceKind a → TwoKinds a operand.Absent
kinds_absent (operand.Register n) p = tt
kinds_absent (operand.Memory x) p = tt
kinds_absent _ p = absurd p

pub kinds_register : (a : Operand) (n : ℕ) → PlaceKind a → TwoKinds a (operand.Register n)
kinds_register (operand.Register m) n p = tt
kinds_register (operand.Memory x) n p = tt
kinds_register _ n p = absurd p

pub kinds_to : (n : ℕ) (b : Operand) → PlaceKind b → TwoKinds (operand.Register n) b
kinds_to n (operand.Register m) p = tt
kinds_to n (operand.Memory x) p = tt
kinds_to n _ p = absurd p

pub two_number : (s : Size) (b : Operand) (imm : ℕ) → PlaceKind b → imm ≡ 0 → TwoNumber s b imm
two_number s (operand.Register m) imm p e = e
two_number s (operand.Memory x) imm p e = e
two_number s _ imm p e = absurd p

abbrev pub two_row : Size → Operands → Addressing → Immediate → Bool
two_row s operands.Rm (addressing.Modrm f) k = number_kind s k
two_row s operands.Accumulator addressing.Nothing k = number_kind s k
two_row s operands.Opcode addressing.Nothing k = number_kind s k
two_row s operands.RmReg (addressing.Modrm f) k = no_number k
two_row s operands.RegRm (addressing.Modrm f) k = no_number k
two_row s operands.AccumulatorRm addressing.Offset k = no_number k
two_row s operands.RmAccumulator addressing.Offset k = no_number k
two_row s _ _ k = false

pub two_is : (s : Size) (os : Operands) (addr : Addressing) (k : Immediate) (p : Parts) → two_row s os addr k ≡ true → Facts os addr k p
    → IsTwo s (operands_of os p).0 (operands_of os p).1 p.imm
two_is s operands.Rm (addressing.Modrm f) k p t h =
    let place = modrm_place f p.reg p.rm h.place in
    record {
      a_is = safe_place p.rm place h.a_is;
      b_is = tt;
      kinds = kinds_absent p.rm place;
      number = number_is s k p.imm p.sel t h.number h.small;
    }
two_is s operands.Accumulator addressing.Nothing k p t h =
    record { a_is = h.a_is; b_is = tt; kinds = tt; number = number_is s k p.imm p.sel t h.number h.small }
two_is s operands.Opcode addressing.Nothing k p t h =
    record { a_is = h.a_is; b_is = tt; kinds = tt; number = number_is s k p.imm p.sel t h.number h.small }
two_is s operands.RmReg (addressing.Modrm f) k p t h =
    let place = modrm_place f p.reg p.rm h.place in
    record {
      a_is = safe_place p.rm place h.a_is;
      b_is = h.b_is;
      kinds = kinds_register p.rm p.reg place;
      number = zero_is k p.imm p.sel t h.number;
    }
two_is s operands.RegRm (addressing.Modrm f) k p t h =
    let place = modrm_place f p.reg p.rm h.place in
    record {
      a_is = h.a_is;
      b_is = safe_place p.rm place h.b_is;
      kinds = kinds_to p.reg p.rm place;
      number = two_number s p.rm p.imm place (zero_is k p.imm p.sel t h.number);
    }
two_is s operands.AccumulatorRm addressing.Offset k p t h =
    let place = offset_place p.reg p.rm h.place in
    record {
      a_is = h.a_is;
      b_is = safe_place p.rm place h.b_is;
      kinds = kinds_to 0 p.rm place;
      number = two_number s p.rm p.imm place (zero_is k p.imm p.sel t h.number);
    }
two_is s operands.RmAccumulator addressing.Offset k p t h =
    let place = offset_place p.reg p.rm h.place in
    record {
      a_is = safe_place p.rm place h.a_is;
      b_is = h.b_is;
      kinds = kinds_register p.rm 0 place;
      number = zero_is k p.imm p.sel t h.number;
    }
two_is s _ _ k p t h = absurd cc

pub test_absent : (a : Operand) → TestKinds a operand.Absent
test_absent operand.Absent = tt
test_absent (operand.Register n) = tt
test_absent (operand.Memory x) = tt
test_absent (operand.Segment g) = tt
test_absent (operand.Control n) = tt

pub test_register : (a : Operand) (m : ℕ) → TestKinds a (operand.Register m)
test_register operand.Absent m = tt
test_register (operand.Register n) m = tt
test_register (operand.Memory x) m = tt
test_register (operand.Segment g) m = tt
test_register (operand.Control n) m = tt

-- TEST has no row from memory
abbrev pub test_operands : Operands → Bool
test_operands operands.Rm = true
test_operands operands.Accumulator = true
test_operands operands.RmReg = true
test_operands _ = false

pub test_is : (os : Operands) (p : Parts) → test_operands os ≡ true → TestKinds (operands_of os p).0 (operands_of os p).1
test_is operands.Rm p t = test_absent p.rm
test_is operands.Accumulator p t = tt
test_is operands.RmReg p t = test_register p.rm p.reg
test_is _ p t = absurd cc

-- ---- one operand

pub zero_has : (P : Shape) (a b : Operand) (imm : ℕ) → imm ≡ 0 → P a b 0 → P a b imm
zero_has P a b imm e h = subst (P a b) (sym e) h

abbrev pub one_row : Operands → Addressing → Immediate → Bool
one_row operands.Rm (addressing.Modrm f) k = no_number k
one_row operands.Opcode addressing.Nothing k = no_number k
one_row _ _ k = false

pub one_is : (P : Shape) → ((a : Operand) → IsOperand a → PlaceKind a → P a operand.Absent 0)
    → (os : Operands) (addr : Addressing) (k : Immediate) (p : Parts) → one_row os addr k ≡ true → Facts os addr k p → Has P os p
one_is P all operands.Rm (addressing.Modrm f) k p t h =
    let place = modrm_place f p.reg p.rm h.place in
    zero_has P p.rm operand.Absent p.imm (zero_is k p.imm p.sel t h.number) (all p.rm (safe_place p.rm place h.a_is) place)
one_is P all operands.Opcode addressing.Nothing k p t h =
    zero_has P (operand.Register (p.code % 8)) operand.Absent p.imm (zero_is k p.imm p.sel t h.number)
    (all (operand.Register (p.code % 8)) h.a_is tt)
one_is P all _ _ k p t h = absurd cc

-- memory alone
abbrev pub memory_row : Operands → Addressing → Immediate → Bool
memory_row operands.Rm (addressing.Modrm f) k = memory_alone f.place && no_number k
memory_row _ _ k = false

pub of_memory : (P : Operand → Type 0) → ((x : _) → IsOperand (operand.Memory x) → P (operand.Memory x)) → (a : Operand)
    → IsMemory a → IsSafe a → P a
of_memory P all (operand.Memory x) m h = all x h
of_memory P all _ m h = absurd m

pub memory_is : (P : Shape) → ((x : _) → IsOperand (operand.Memory x) → P (operand.Memory x) operand.Absent 0)
    → (os : Operands) (addr : Addressing) (k : Immediate) (p : Parts) → memory_row os addr k ≡ true → Facts os addr k p → Has P os p
memory_is P all operands.Rm (addressing.Modrm f) k p t h =
    let both = and_parts (memory_alone f.place) (no_number k) t in
    zero_has P p.rm operand.Absent p.imm (zero_is k p.imm p.sel both.1 h.number)
    (of_memory (λ a. P a operand.Absent 0) all p.rm (modrm_memory f p.reg p.rm both.0 h.place) h.a_is)
memory_is P all _ _ k p t h = absurd cc

-- ---- into a register

abbrev pub into_row : Operands → Addressing → Bool
into_row operands.RegRm (addressing.Modrm f) = true
into_row _ _ = false

pub into_is : (P : Shape) (imm : ℕ) → ((n : ℕ) (b : Operand) → n < 8 → IsOperand b → PlaceKind b → P (operand.Register n) b imm)
    → (os : Operands) (addr : Addressing) (k : Immediate) (p : Parts) → into_row os addr ≡ true → Facts os addr k p
    → P (operands_of os p).0 (operands_of os p).1 imm
into_is P imm all operands.RegRm (addressing.Modrm f) k p t h =
    let place = modrm_place f p.reg p.rm h.place in
    all p.reg p.rm h.a_is (safe_place p.rm place h.b_is) place
into_is P imm all _ _ k p t h = absurd cc

abbrev pub into_zero : Operands → Addressing → Immediate → Bool
into_zero os addr k = into_row os addr && no_number k

pub into_zero_is : (P : Shape) → ((n : ℕ) (b : Operand) → n < 8 → IsOperand b → PlaceKind b → P (operand.Register n) b 0)
    → (os : Operands) (addr : Addressing) (k : Immediate) (p : Parts) → into_zero os addr k ≡ true → Facts os addr k p → Has P os p
into_zero_is P all os addr k p t h =
    let both = and_parts (into_row os addr) (no_number k) t in
    zero_has P _ _ p.imm (zero_is k p.imm p.sel both.1 h.number) (into_is P 0 all os addr k p both.0 h)

pub into_number_is : (P : Shape)
    → ((n : ℕ) (b : Operand) (imm : ℕ) → n < 8 → IsOperand b → PlaceKind b → imm < 2 ^ 32 → P (operand.Register n) b imm)
    → (os : Operands) (addr : Addressing) (k : Immediate) (p : Parts) → into_row os addr ≡ true → Facts os addr k p → Has P os p
into_number_is P all os addr k p t h = into_is P p.imm (λ n b l i q. all n b p.imm l i q h.small) os addr k p t h

-- LEA: of memory alone
abbrev pub lea_row : Operands → Addressing → Immediate → Bool
lea_row operands.RegRm (addressing.Modrm f) k = memory_alone f.place && no_number k
lea_row _ _ k = false

pub lea_is : (P : Shape) → ((n : ℕ) (x : _) → n < 8 → IsOperand (operand.Memory x) → P (operand.Register n) (operand.Memory x) 0)
    → (os : Operands) (addr : Addressing) (k : Immediate) (p : Parts) → lea_row os addr k ≡ true → Facts os addr k p → Has P os p
lea_is P all operands.RegRm (addressing.Modrm f) k p t h =
    let both = and_parts (memory_alone f.place) (no_number k) t in
    zero_has P (operand.Register p.reg) p.rm p.imm (zero_is k p.imm p.sel both.1 h.number)
    (of_memory (λ b. P (operand.Register p.reg) b 0) (λ x i. all p.reg x h.a_is i) p.rm (modrm_memory f p.reg p.rm both.0 h.place) h.b_is)
lea_is P all _ _ k p t h = absurd cc

-- IMUL: one operand, or two
abbrev pub product_row : Operands → Addressing → Immediate → Bool
product_row operands.RegRm a k = into_zero operands.RegRm a k
product_row os a k = one_row os a k

pub product_is : (P : Shape) → ((a : Operand) → IsOperand a → PlaceKind a → P a operand.Absent 0)
    → ((n : ℕ) (b : Operand) → n < 8 → IsOperand b → PlaceKind b → P (operand.Register n) b 0)
    → (os : Operands) (addr : Addressing) (k : Immediate) (p : Parts) → product_row os addr k ≡ true → Facts os addr k p → Has P os p
product_is P one two operands.RegRm addr k p t h = into_zero_is P two operands.RegRm addr k p t h
product_is P one two os addr k p t h = one_is P one os addr k p t h

-- ---- shifts

abbrev pub shift_row : Operands → Addressing → Immediate → Bool
shift_row operands.Rm (addressing.Modrm f) k = a_count k
shift_row operands.RmCount (addressing.Modrm f) k = no_number k
shift_row _ _ k = false

pub shift_is : (P : Shape) → ((a : Operand) (imm : ℕ) → IsOperand a → PlaceKind a → imm < 256 → P a operand.Absent imm)
    → ((a : Operand) → IsOperand a → PlaceKind a → P a (operand.Register 1) 0)
    → (os : Operands) (addr : Addressing) (k : Immediate) (p : Parts) → shift_row os addr k ≡ true → Facts os addr k p → Has P os p
shift_is P number count operands.Rm (addressing.Modrm f) k p t h =
    let place = modrm_place f p.reg p.rm h.place in
    number p.rm p.imm (safe_place p.rm place h.a_is) place (count_is k p.imm p.sel t h.number)
shift_is P number count operands.RmCount (addressing.Modrm f) k p t h =
    let place = modrm_place f p.reg p.rm h.place in
    zero_has P p.rm (operand.Register 1) p.imm (zero_is k p.imm p.sel t h.number) (count p.rm (safe_place p.rm place h.a_is) place)
shift_is P number count _ _ k p t h = absurd cc

-- ---- XCHG

abbrev pub exchange_row : Operands → Addressing → Immediate → Bool
exchange_row operands.AccumulatorOpcode addressing.Nothing k = no_number k
exchange_row operands.TwoRegisters (addressing.Modrm f) k = register_alone f.place && no_number k
exchange_row operands.RmReg (addressing.Modrm f) k = memory_alone f.place && no_number k
exchange_row _ _ k = false

pub ordered : (P : Operand → Operand → Type 0) → ((m n : ℕ) → m ≤ n → m < 8 → n < 8 → P (operand.Register m) (operand.Register n))
    → (rm : Operand) (reg : ℕ) → IsRegister rm → IsSafe (in_order rm reg).0 → IsSafe (in_order rm reg).1
    → P (in_order rm reg).0 (in_order rm reg).1
ordered P all (operand.Register n) reg r a b = all (min n reg) (max n reg) (omega arith) a b
ordered P all _ reg r a b = absurd r

pub exchange_is : (P : Shape) → ((m n : ℕ) → m ≤ n → m < 8 → n < 8 → P (operand.Register m) (operand.Register n) 0)
    → ((x : _) (n : ℕ) → IsOperand (operand.Memory x) → n < 8 → P (operand.Memory x) (operand.Register n) 0)
    → (os : Operands) (addr : Addressing) (k : Immediate) (p : Parts) → exchange_row os addr k ≡ true → Facts os addr k p → Has P os p
exchange_is P two mem operands.AccumulatorOpcode addressing.Nothing k p t h =
    zero_has P _ _ p.imm (zero_is k p.imm p.sel t h.number) (two 0 (p.code % 8) (omega arith) h.a_is h.b_is)
exchange_is P two mem operands.TwoRegisters (addressing.Modrm f) k p t h =
    let both = and_parts (register_alone f.place) (no_number k) t in
    zero_has P _ _ p.imm (zero_is k p.imm p.sel both.1 h.number)
    (ordered (λ a b. P a b 0) two p.rm p.reg (modrm_register f p.reg p.rm both.0 h.place) h.a_is h.b_is)
exchange_is P two mem operands.RmReg (addressing.Modrm f) k p t h =
    let both = and_parts (memory_alone f.place) (no_number k) t in
    zero_has P _ _ p.imm (zero_is k p.imm p.sel both.1 h.number)
    (of_memory (λ a. P a (operand.Register p.reg) 0) (λ x i. mem x p.reg i h.b_is) p.rm (modrm_memory f p.reg p.rm both.0 h.place) h.a_is)
exchange_is P two mem _ _ k p t h = absurd cc

-- ---- segment and control registers

abbrev pub special_row : Operands → Operands → Addressing → Immediate → Bool
special_row operands.RmSegment operands.RmSegment (addressing.Modrm f) k = no_number k
special_row operands.SegmentRm operands.SegmentRm (addressing.Modrm f) k = no_number k
special_row operands.RmControl operands.RmControl (addressing.Modrm f) k = control_slash f.slash && no_number k
special_row operands.ControlRm operands.ControlRm (addressing.Modrm f) k = control_slash f.slash && no_number k
special_row _ _ _ k = false

pub read_segment_is : (P : Shape) → ((a : Operand) (g : _) → IsOperand a → PlaceKind a → P a (operand.Segment g) 0)
    → (os : Operands) (addr : Addressing) (k : Immediate) (p : Parts) → special_row operands.RmSegment os addr k ≡ true
    → Facts os addr k p → Has P os p
read_segment_is P all operands.RmSegment (addressing.Modrm f) k p t h =
    let place = modrm_place f p.reg p.rm h.place in
    zero_has P _ _ p.imm (zero_is k p.imm p.sel t h.number) (all p.rm (segment p.reg) (safe_place p.rm place h.a_is) place)
read_segment_is P all _ _ k p t h = absurd cc

pub load_segment_is : (P : Shape) → ((g : _) (b : Operand) → IsOperand b → PlaceKind b → P (operand.Segment g) b 0)
    → (os : Operands) (addr : Addressing) (k : Immediate) (p : Parts) → special_row operands.SegmentRm os addr k ≡ true
    → Facts os addr k p → Has P os p
load_segment_is P all operands.SegmentRm (addressing.Modrm f) k p t h =
    let place = modrm_place f p.reg p.rm h.place in
    zero_has P _ _ p.imm (zero_is k p.imm p.sel t h.number) (all (segment p.reg) p.rm (safe_place p.rm place h.b_is) place)
load_segment_is P all _ _ k p t h = absurd cc

pub read_control_is : (P : Shape) → ((a : Operand) (c : ℕ) → IsOperand a → PlaceKind a → is_control c ≡ true → P a (operand.Control c) 0)
    → (os : Operands) (addr : Addressing) (k : Immediate) (p : Parts) → special_row operands.RmControl os addr k ≡ true
    → Facts os addr k p → Has P os p
read_control_is P all operands.RmControl (addressing.Modrm f) k p t h =
    let place = modrm_place f p.reg p.rm h.place in
    let both = and_parts (control_slash f.slash) (no_number k) t in
    zero_has P _ _ p.imm (zero_is k p.imm p.sel both.1 h.number)
    (all p.rm p.reg (safe_place p.rm place h.a_is) place (modrm_control f p.reg p.rm both.0 h.place))
read_control_is P all _ _ k p t h = absurd cc

pub write_control_is : (P : Shape) → ((c : ℕ) (b : Operand) → is_control c ≡ true → IsOperand b → PlaceKind b → P (operand.Control c) b 0)
    → (os : Operands) (addr : Addressing) (k : Immediate) (p : Parts) → special_row operands.ControlRm os addr k ≡ true
    → Facts os addr k p → Has P os p
write_control_is P all operands.ControlRm (addressing.Modrm f) k p t h =
    let place = modrm_place f p.reg p.rm h.place in
    let both = and_parts (control_slash f.slash) (no_number k) t in
    zero_has P _ _ p.imm (zero_is k p.imm p.sel both.1 h.number)
    (all p.reg p.rm (modrm_control f p.reg p.rm both.0 h.place) (safe_place p.rm place h.b_is) place)
write_control_is P all _ _ k p t h = absurd cc

-- PUSH and POP of a segment register
abbrev pub segment_row : Operands → Immediate → Bool
segment_row operands.Extra k = no_number k
segment_row operands.Code k = no_number k
segment_row operands.Stack k = no_number k
segment_row operands.Data k = no_number k
segment_row _ k = false

pub segment_is : (P : Shape) → ((g : _) → P (operand.Segment g) operand.Absent 0)
    → (os : Operands) (addr : Addressing) (k : Immediate) (p : Parts) → segment_row os k ≡ true → Facts os addr k p → Has P os p
segment_is P all operands.Extra addr k p t h = zero_has P _ _ p.imm (zero_is k p.imm p.sel t h.number) (all _)
segment_is P all operands.Code addr k p t h = zero_has P _ _ p.imm (zero_is k p.imm p.sel t h.number) (all _)
segment_is P all operands.Stack addr k p t h = zero_has P _ _ p.imm (zero_is k p.imm p.sel t h.number) (all _)
segment_is P all operands.Data addr k p t h = zero_has P _ _ p.imm (zero_is k p.imm p.sel t h.number) (all _)
segment_is P all _ addr k p t h = absurd cc

-- ---- numbers alone, ports and nothing

abbrev pub bare_row : Operands → Bool
bare_row operands.Nothing = true
bare_row _ = false

pub bare_is : (P : Shape) (imm : ℕ) → P operand.Absent operand.Absent imm → (os : Operands) (p : Parts) → bare_row os ≡ true
    → P (operands_of os p).0 (operands_of os p).1 imm
bare_is P imm all operands.Nothing p t = all
bare_is P imm all _ p t = absurd cc

pub nothing_is : (P : Shape) → P operand.Absent operand.Absent 0 → (os : Operands) (addr : Addressing) (k : Immediate) (p : Parts)
    → (bare_row os && no_number k) ≡ true → Facts os addr k p → Has P os p
nothing_is P all os addr k p t h =
    let both = and_parts (bare_row os) (no_number k) t in
    zero_has P _ _ p.imm (zero_is k p.imm p.sel both.1 h.number) (bare_is P 0 all os p both.0)

pub byte_alone_is : (P : Shape) → ((imm : ℕ) → imm < 256 → P operand.Absent operand.Absent imm)
    → (os : Operands) (addr : Addressing) (k : Immediate) (p : Parts) → (bare_row os && a_byte k) ≡ true → Facts os addr k p → Has P os p
byte_alone_is P all os addr k p t h =
    let both = and_parts (bare_row os) (a_byte k) t in
    bare_is P p.imm (all p.imm (byte_is k p.imm p.sel both.1 h.number)) os p both.0

pub drop_alone_is : (P : Shape) → ((imm : ℕ) → imm < 65536 → P operand.Absent operand.Absent imm)
    → (os : Operands) (addr : Addressing) (k : Immediate) (p : Parts) → (bare_row os && a_drop k) ≡ true → Facts os addr k p → Has P os p
drop_alone_is P all os addr k p t h =
    let both = and_parts (bare_row os) (a_drop k) t in
    bare_is P p.imm (all p.imm (drop_is k p.imm p.sel both.1 h.number)) os p both.0

pub long_alone_is : (P : Shape) → ((imm : ℕ) → imm < 2 ^ 32 → P operand.Absent operand.Absent imm)
    → (os : Operands) (addr : Addressing) (k : Immediate) (p : Parts) → bare_row os ≡ true → Facts os addr k p → Has P os p
long_alone_is P all os addr k p t h = bare_is P p.imm (all p.imm h.small) os p t

abbrev pub push_row : Operands → Addressing → Immediate → Bool
push_row operands.Nothing a k = true
push_row os a k = one_row os a k

pub push_is : (P : Shape) → ((imm : ℕ) → imm < 2 ^ 32 → P operand.Absent operand.Absent imm)
    → ((a : Operand) → IsOperand a → PlaceKind a → P a operand.Absent 0)
    → (os : Operands) (addr : Addressing) (k : Immediate) (p : Parts) → push_row os addr k ≡ true → Facts os addr k p → Has P os p
push_is P number one operands.Nothing addr k p t h = number p.imm h.small
push_is P number one os addr k p t h = one_is P one os addr k p t h

abbrev pub port_row : Operands → Immediate → Bool
port_row operands.Nothing k = a_byte k
port_row operands.Port k = no_number k
port_row _ k = false

pub port_is : (P : Shape) → ((imm : ℕ) → imm < 256 → P operand.Absent operand.Absent imm) → P operand.Absent (operand.Register 2) 0
    → (os : Operands) (addr : Addressing) (k : Immediate) (p : Parts) → port_row os k ≡ true → Facts os addr k p → Has P os p
port_is P number port operands.Nothing addr k p t h = number p.imm (byte_is k p.imm p.sel t h.number)
port_is P number port operands.Port addr k p t h = zero_has P _ _ p.imm (zero_is k p.imm p.sel t h.number) port
port_is P number port _ addr k p t h = absurd cc

-- ---- sizes

abbrev pub is_long : Size → Bool
is_long size.Long = true
is_long _ = false

abbrev pub is_byte : Size → Bool
is_byte size.Byte = true
is_byte _ = false

abbrev pub no_word : Size → Bool
no_word size.Word = false
no_word _ = true

abbrev pub no_long : Size → Bool
no_long size.Long = false
no_long _ = true

pub long_size : (P : Size → Type 0) → P size.Long → (s : Size) → is_long s ≡ true → P s
long_size P h size.Byte t = absurd cc
long_size P h size.Word t = absurd cc
long_size P h size.Long t = h

pub byte_size : (P : Size → Type 0) → P size.Byte → (s : Size) → is_byte s ≡ true → P s
byte_size P h size.Byte t = h
byte_size P h size.Word t = absurd cc
byte_size P h size.Long t = absurd cc

pub string_size : (P : Size → Type 0) → P size.Byte → P size.Long → (s : Size) → no_word s ≡ true → P s
string_size P a b size.Byte t = a
string_size P a b size.Word t = absurd cc
string_size P a b size.Long t = b

pub small_size : (P : Size → Type 0) → P size.Byte → P size.Word → (s : Size) → no_long s ≡ true → P s
small_size P a b size.Byte t = a
small_size P a b size.Word t = b
small_size P a b size.Long t = absurd cc
