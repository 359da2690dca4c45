-- What assembling makes of the arguments that are written.
use Rattle.std.proofs.Common.{◌≡◌, ℕ, zero, suc, ◌-◌, ◌<◌, ◌^◌, Bool, true, false, Option, Some, None, refl, sym, ap, subst, ◌∙◌, inl, inr, ◌⊎◌, arith}
use Rattle.std.specs.Prelude.{ℤ, pos, negsuc, ◌==◌, ◌&&◌, ◌||◌, nat_lt, is_none, is_some, if◌then◌else◌}
use Rattle.std.specs.Option.{option_map}
use Rattle.std.proofs.lemmas.Bool.{eqb-true, ltb-false, lt-ltb, and_parts}
use Rattle.std.proofs.lemmas.Bool.Decides.{nat_tests}
use Rattle.ia32_types.specs.declared.register.Reg.{Reg}
use Rattle.ia32_types.specs.declared.register.Reg.TheVariants as reg
use Rattle.ia32_types.specs.declared.register.Seg.{Seg}
use Rattle.ia32_types.specs.declared.register.Seg.TheVariants as seg
use Rattle.ia32_types.specs.declared.insn.Address.{Address}
use Rattle.ia32_types.specs.declared.size.Size.{Size}
use Rattle.ia32_types.specs.declared.size.Size.TheVariants as size
use Rattle.asm_source.specs.declared.tree.Value.{Value}
use Rattle.asm_instruction.specs.declared.argument.Number.{Number}
use Rattle.asm_instruction.specs.declared.argument.Given.{Given}
use Rattle.asm_instruction.specs.declared.argument.Given.TheVariants as given
use Rattle.asm_instruction.specs.declared.argument.Operands.{Operands}
use Rattle.asm_instruction.specs.declared.argument.Operands.TheVariants as taken
use Rattle.asm_instruction.specs.Field.{field, fits_field}
use Rattle.asm_instruction.specs.Register.{long_registers, word_registers, byte_registers, segment_registers, control_registers}
use Rattle.asm_instruction.specs.Argument.{named_register, displacement, address_register, is_dx, address, memory_operand, given_by, single, unstarred, operands_of}
use Rattle.ia32_text.specs.declared.operands.Written.{Written}
use Rattle.ia32_text.specs.declared.operands.Written.TheVariants as written
use Rattle.ia32_text.specs.declared.operands.Operands.{Operands as WrittenOperands}
use Rattle.ia32_text.specs.declared.operands.Operands.TheVariants as operands
use Rattle.ia32_text.specs.Numbers.{signed_long}
use Rattle.ia32_text.specs.Registers.{long_name, word_name, byte_name, register_name, segment_name, control_name}
use Rattle.ia32_text.specs.Arguments.{reg_name, displacement_of, form_of, arguments_of}

-- ---- registers

pub each_8 : (P : ℕ → Type 0) → P 0 → P 1 → P 2 → P 3 → P 4 → P 5 → P 6 → P 7 → (n : ℕ) → n < 8 → P n
each_8 P a b c d e f g h zero l = a
each_8 P a b c d e f g h (suc zero) l = b
each_8 P a b c d e f g h (suc (suc zero)) l = c
each_8 P a b c d e f g h (suc (suc (suc zero))) l = d
each_8 P a b c d e f g h (suc (suc (suc (suc zero)))) l = e
each_8 P a b c d e f g h (suc (suc (suc (suc (suc zero))))) l = f
each_8 P a b c d e f g h (suc (suc (suc (suc (suc (suc zero)))))) l = g
each_8 P a b c d e f g h (suc (suc (suc (suc (suc (suc (suc zero))))))) l = h
each_8 P a b c d e f g h (suc (suc (suc (suc (suc (suc (suc (suc n)))))))) l = absurd (omega arith)

register_read : (s : Size) (n : ℕ) → n < 8 → named_register (register_name s n) ≡ Some (given.Register s n)
unfolding named_register long_registers word_registers byte_registers segment_registers control_registers long_name word_name byte_name
register_read size.Long n l =
    each_8 (λ n. named_register (long_name n) ≡ Some (given.Register size.Long n)) refl refl refl refl refl refl refl refl n l
register_read size.Word n l =
    each_8 (λ n. named_register (word_name n) ≡ Some (given.Register size.Word n)) refl refl refl refl refl refl refl refl n l
register_read size.Byte n l =
    each_8 (λ n. named_register (byte_name n) ≡ Some (given.Register size.Byte n)) refl refl refl refl refl refl refl refl n l

segment_read : (g : Seg) → named_register (segment_name g) ≡ Some (given.Segment g)
unfolding named_register long_registers word_registers byte_registers segment_registers control_registers segment_name
segment_read seg.Es = refl
segment_read seg.Cs = refl
segment_read seg.Ss = refl
segment_read seg.Ds = refl

abbrev pub is_control : ℕ → Bool
is_control n = n == 0 || n == 2 || n == 3 || n == 4

four_are : (n : ℕ) → is_control n ≡ true → (n ≡ 0) ⊎ (n ≡ 2) ⊎ (n ≡ 3) ⊎ (n ≡ 4)
four_are n h = grind (arith, nat_tests)

pub four : (P : ℕ → Type 0) → P 0 → P 2 → P 3 → P 4 → (n : ℕ) → is_control n ≡ true → P n
four P a b c d n h = elim (four_are n h) [
  | inl e ↦ subst P (sym e) a
  | inr f ↦ elim f [
    | inl e ↦ subst P (sym e) b
    | inr g ↦ elim g [
      | inl e ↦ subst P (sym e) c
      | inr e ↦ subst P (sym e) d
    ]
  ]
]

control_read : (n : ℕ) → is_control n ≡ true → named_register (control_name n) ≡ Some (given.Control n)
unfolding named_register long_registers word_registers byte_registers segment_registers control_registers control_name
control_read n h = four (λ n. named_register (control_name n) ≡ Some (given.Control n)) refl refl refl refl n h

-- ---- memory

base_read : (b : Option Reg) → address_register (option_map reg_name b) ≡ Some b
unfolding long_registers long_name
base_read None = refl
base_read (Some reg.Eax) = refl
base_read (Some reg.Ecx) = refl
base_read (Some reg.Edx) = refl
base_read (Some reg.Ebx) = refl
base_read (Some reg.Esp) = refl
base_read (Some reg.Ebp) = refl
base_read (Some reg.Esi) = refl
base_read (Some reg.Edi) = refl

not_dx : (b : Option Reg) → is_dx (option_map reg_name b) ≡ false
unfolding long_name
not_dx None = refl
not_dx (Some reg.Eax) = refl
not_dx (Some reg.Ecx) = refl
not_dx (Some reg.Edx) = refl
not_dx (Some reg.Ebx) = refl
not_dx (Some reg.Esp) = refl
not_dx (Some reg.Ebp) = refl
not_dx (Some reg.Esi) = refl
not_dx (Some reg.Edi) = refl

pub field_plain : (n : ℕ) → n < 2 ^ 32 → field size.Long (pos n) ≡ n
field_plain n l = omega arith

field_negative : (n : ℕ) → n < 2 ^ 31 → field size.Long (negsuc n) ≡ 2 ^ 32 - 1 - n
field_negative n l = omega arith

abbrev pub plain_at : ℤ → ℕ → Number
plain_at z k = record { value = z; named = false; argument = k }

-- the displacement that is written names no symbol, and has the address's bits
pub record Displaces (o : Option Value) (k disp : ℕ) : Type 0 where
  pub plain : (displacement o k).named ≡ false
  pub counted : (displacement o k).argument ≡ k
  pub bits : field size.Long (displacement o k).value ≡ disp
  pub fits : fits_field size.Long (displacement o k).value ≡ true

signed_bits : (n : ℕ) (b : Bool) → nat_lt n (2 ^ 31) ≡ b → n < 2 ^ 32 → field size.Long (if b then pos n else negsuc (2 ^ 32 - 1 - n)) ≡ n
signed_bits n true e l = omega arith
signed_bits n false e l = omega arith

pub plain_fits : (n : ℕ) → n < 2 ^ 32 → fits_field size.Long (pos n) ≡ true
plain_fits n l = lt-ltb n (2 ^ 32) l

negative_fits : (n : ℕ) → n < 2 ^ 31 → fits_field size.Long (negsuc n) ≡ true
negative_fits n l = grind (arith, nat_tests)

signed_fits : (n : ℕ) (b : Bool) → nat_lt n (2 ^ 31) ≡ b → n < 2 ^ 32
    → fits_field size.Long (if b then pos n else negsuc (2 ^ 32 - 1 - n)) ≡ true
signed_fits n true e l = plain_fits n l
signed_fits n false e l = negative_fits (2 ^ 32 - 1 - n) (omega (arith, ltb-false n (2 ^ 31) e))

plain_displaces : (k disp : ℕ) → disp < 2 ^ 32 → Displaces (Some (record { name = None; number = pos disp })) k disp
plain_displaces k disp l = record { plain = refl; counted = refl; bits = field_plain disp l; fits = plain_fits disp l }

signed_displaces : (k disp : ℕ) → disp < 2 ^ 32 → Displaces (Some (record { name = None; number = signed_long disp })) k disp
signed_displaces k disp l = record {
  plain = refl;
  counted = refl;
  bits = signed_bits disp (nat_lt disp (2 ^ 31)) refl l;
  fits = signed_fits disp (nat_lt disp (2 ^ 31)) refl l;
}

none_displaces : (k disp : ℕ) → disp ≡ 0 → Displaces None k disp
none_displaces k disp e = record { plain = refl; counted = refl; bits = sym e; fits = refl }

chosen_displaces : (k disp : ℕ) (b c : Bool) → (c ≡ true → disp ≡ 0) → disp < 2 ^ 32
    → Displaces (if b then Some (record { name = None; number = pos disp }) else if c then None else Some
    (record { name = None; number = signed_long disp })) k disp
chosen_displaces k disp true c z l = plain_displaces k disp l
chosen_displaces k disp false true z l = none_displaces k disp (z refl)
chosen_displaces k disp false false z l = signed_displaces k disp l

pub address_displaces : (a : Address) (k : ℕ) → a.disp < 2 ^ 32 → Displaces (displacement_of a) k a.disp
address_displaces a k l =
    chosen_displaces k a.disp (is_none a.base && is_none a.index) (a.disp == 0 && is_some a.base)
    (λ h. eqb-true a.disp 0 (and_parts (a.disp == 0) (is_some a.base) h).0) l

-- what is given by memory
pub record GivesMemory (a : Address) (k : ℕ) (n : Number) : Type 0 where
  pub plain : n.named ≡ false
  pub counted : n.argument ≡ k
  pub fits : fits_field size.Long n.value ≡ true

abbrev pub memory_given : Address → Number → Given
memory_given a n = given.Memory (record { address = a; displacement = n })

memory_is : (a : Address) (n : Number) → field size.Long n.value ≡ a.disp → address a.base a.index a.scale n ≡ memory_given a n
memory_is a n e =
    ap (λ d. given.Memory (record { address = record { base = a.base; index = a.index; scale = a.scale; disp = d }; displacement = n })) e

memory_operand_is : (a : Address) (n : Number) → field size.Long n.value ≡ a.disp
    → memory_operand n (option_map reg_name a.base) (option_map reg_name a.index) a.scale ≡ Some (memory_given a n)
unfolding memory_operand
memory_operand_is a n e = rw (base_read a.base, base_read a.index) (ap (λ (g : Given). Some g) (memory_is a n e))

not_port : (v : Option Value) (b : Bool) (c : Bool) (x y : Option Given) → b ≡ false → (if is_none v && b && c then x else y) ≡ y
not_port None b c x y e = rw e refl
not_port (Some v) b c x y e = refl

memory_read : (a : Address) (k : ℕ) → a.disp < 2 ^ 32
    → given_by (form_of (written.Memory a)) k ≡ Some (memory_given a (displacement (displacement_of a) k))
unfolding given_by
memory_read a k l =
    not_port (displacement_of a) (is_dx (option_map reg_name a.base)) (is_none (option_map reg_name a.index))
    (Some given.Port) _ (not_dx a.base)
    ∙ memory_operand_is a (displacement (displacement_of a) k) (address_displaces a k l).bits

-- ---- operands

-- an operand that an instruction has
abbrev pub IsWritten : Written → Type 0
IsWritten (written.Register s n) = n < 8
IsWritten (written.Segment g) = Unit {0}
IsWritten (written.Control n) = is_control n ≡ true
IsWritten (written.Memory a) = a.disp < 2 ^ 32
IsWritten (written.Immediate n) = Unit {0}
IsWritten written.Port = Unit {0}
IsWritten (written.Label n) = ⊥

-- what the argument of this number gives
abbrev pub given_of : Written → ℕ → Given
given_of (written.Register s n) k = given.Register s n
given_of (written.Segment g) k = given.Segment g
given_of (written.Control n) k = given.Control n
given_of (written.Memory a) k = memory_given a (displacement (displacement_of a) k)
given_of (written.Immediate n) k = given.Immediate (plain_at (pos n) k)
given_of written.Port k = given.Port
given_of (written.Label n) k = given.Port

pub read_back : (w : Written) (k : ℕ) → IsWritten w → given_by (form_of w) k ≡ Some (given_of w k)
unfolding given_by
read_back (written.Register s n) k h = register_read s n h
read_back (written.Segment g) k h = segment_read g
read_back (written.Control n) k h = control_read n h
read_back (written.Memory a) k h = memory_read a k h
read_back (written.Immediate n) k h = refl
read_back written.Port k h = refl
read_back (written.Label n) k h = absurd h

abbrev pub AreWritten : WrittenOperands → Type 0
AreWritten operands.Nothing = Unit {0}
AreWritten (operands.One x) = IsWritten x
AreWritten (operands.Starred x) = IsWritten x
AreWritten (operands.Two x y) = IsWritten x × IsWritten y
AreWritten (operands.Three x y z) = IsWritten x × IsWritten y × IsWritten z

abbrev pub taken_of : WrittenOperands → Operands
taken_of operands.Nothing = taken.Nothing
taken_of (operands.One x) = taken.One (given_of x 0)
taken_of (operands.Starred x) = taken.Starred (given_of x 0)
taken_of (operands.Two x y) = taken.Two (given_of x 0) (given_of y 1)
taken_of (operands.Three x y z) = taken.Three (given_of x 0) (given_of y 1) (given_of z 2)

-- the operands are read back from their arguments
pub operands_back : (o : WrittenOperands) → AreWritten o → operands_of (arguments_of o) ≡ Some (taken_of o)
unfolding operands_of arguments_of single unstarred
operands_back operands.Nothing h = refl
operands_back (operands.One x) h = rw (read_back x 0 h) refl
operands_back (operands.Starred x) h = rw (read_back x 0 h) refl
operands_back (operands.Two x y) h = rw (read_back x 0 h.0, read_back y 1 h.1) refl
operands_back (operands.Three x y z) h = rw (read_back x 0 h.0, read_back y 1 h.1, read_back z 2 h.2) refl
