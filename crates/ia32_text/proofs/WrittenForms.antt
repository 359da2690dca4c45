-- What is written of an instruction's operands can be read.
use Rattle.std.proofs.Common.{◌≡◌, ℕ, ◌-◌, ◌<◌, ◌^◌, ◌++◌, Bool, true, false, List, Option, Some, None, refl, arith}
use Rattle.std.specs.Prelude.{pos, negsuc, codes, ◌==◌, ◌&&◌, nat_lt, is_none, is_some, if◌then◌else◌}
use Rattle.std.specs.List.{list_all}
use Rattle.std.specs.Option.{option_map}
use Rattle.std.proofs.lemmas.Bool.{and_parts, and_from, ltb-false}
use Rattle.ia32_types.specs.declared.addresses.TheConstants.{TEXT_ADDRESS}
use Rattle.ia32_types.specs.declared.register.Reg.{Reg}
use Rattle.ia32_types.specs.declared.register.Reg.TheVariants as reg
use Rattle.ia32_types.specs.declared.register.Seg.{Seg}
use Rattle.ia32_types.specs.declared.register.Seg.TheVariants as seg
use Rattle.ia32_types.specs.declared.insn.Address.{Address}
use Rattle.ia32_types.specs.declared.size.Size.{Size}
use Rattle.ia32_types.specs.declared.size.Size.TheVariants as size
use Rattle.ia32_encode.specs.declared.choose.Wide.{Wide}
use Rattle.asm_lex.specs.Bytes.{class_of, is_letter, is_word}
use Rattle.asm_source.specs.declared.tree.Value.{Value}
use Rattle.asm_argument.specs.Shapes.{registers, is_register, is_scale}
use Rattle.run_trace.specs.Text.{hex8}
use Rattle.ia32_text.specs.declared.operands.Written.{Written}
use Rattle.ia32_text.specs.declared.operands.Written.TheVariants as written
use Rattle.ia32_text.specs.declared.style.Target.TheVariants as to
use Rattle.ia32_text.specs.Numbers.{signed_long}
use Rattle.ia32_text.specs.Registers.{long_name, word_name, byte_name, register_name, segment_name, control_name}
use Rattle.ia32_text.specs.Arguments.{number, label_of, by_label, reg_name, displacement_with, immediate_with, form_with}
use Rattle.ia32_text.proofs.Reading.{each_8, four, is_control}
use Rattle.ia32_text.proofs.Numerals.{hex_8_words}
use Rattle.ia32_text.proofs.Pieces.{is_short, is_name}
use Rattle.ia32_text.proofs.Readable.{all_words, FitsNumber, FitsConstant, IsReadableValue, IsReadableRegister, IsReadablePlace}
use Rattle.ia32_text.proofs.Readable.{IsReadableMemory, IsReadable}

-- ---- registers

abbrev is_readable : List ℕ → Bool
is_readable r = is_register r && is_name r

readable_is : (r : List ℕ) → is_readable r ≡ true → IsReadableRegister r
readable_is r e = and_parts (is_register r) (is_name r) e

named_8 : (s : Size) (n : ℕ) → n < 8 → is_readable (register_name s n) ≡ true
unfolding is_register registers long_name word_name byte_name class_of is_word is_letter
named_8 size.Long = each_8 (λ n. is_readable (long_name n) ≡ true) refl refl refl refl refl refl refl refl
named_8 size.Word = each_8 (λ n. is_readable (word_name n) ≡ true) refl refl refl refl refl refl refl refl
named_8 size.Byte = each_8 (λ n. is_readable (byte_name n) ≡ true) refl refl refl refl refl refl refl refl

named_segment : (g : Seg) → is_readable (segment_name g) ≡ true
unfolding is_register registers segment_name class_of is_word is_letter
named_segment seg.Es = refl
named_segment seg.Cs = refl
named_segment seg.Ss = refl
named_segment seg.Ds = refl

named_control : (n : ℕ) → is_control n ≡ true → is_readable (control_name n) ≡ true
unfolding is_register registers control_name class_of is_word is_letter
named_control = four (λ n. is_readable (control_name n) ≡ true) refl refl refl refl

named_reg : (r : Reg) → is_readable (reg_name r) ≡ true
unfolding is_register registers long_name class_of is_word is_letter
named_reg reg.Eax = refl
named_reg reg.Ecx = refl
named_reg reg.Edx = refl
named_reg reg.Ebx = refl
named_reg reg.Esp = refl
named_reg reg.Ebp = refl
named_reg reg.Esi = refl
named_reg reg.Edi = refl

dx_named : is_readable (codes "dx") ≡ true
unfolding is_register registers class_of is_word is_letter
dx_named = refl

reg_readable : (r : Reg) → IsReadableRegister (reg_name r)
reg_readable r = readable_is (reg_name r) (named_reg r)

-- ---- values

signed_fits : (b : Bool) (n : ℕ) → nat_lt n (2 ^ 31) ≡ b → n < 2 ^ 32 → FitsNumber (if b then pos n else negsuc (2 ^ 32 - 1 - n))
signed_fits true n e l = l
signed_fits false n e l = omega (arith, ltb-false n (2 ^ 31) e)

distance_fits : (b : Bool) (n : ℕ) → nat_lt n TEXT_ADDRESS ≡ b → n < 2 ^ 32
    → FitsConstant (if b then negsuc (TEXT_ADDRESS - 1 - n) else pos (n - TEXT_ADDRESS))
distance_fits true n e l = omega arith
distance_fits false n e l = omega arith

label_by : (xs : List ℕ) → list_all is_word xs ≡ true → is_short (codes "L" ++ xs) ≡ true → is_name (codes "L" ++ xs) ≡ true
unfolding class_of is_word is_letter
label_by xs w s = and_from _ _ w s

label_named : (n : ℕ) → n < 2 ^ 32 → is_name (label_of n) ≡ true
label_named n l = label_by (hex8 n) (all_words (hex8 n) (hex_8_words n l)) refl

pub by_label_readable : (n : ℕ) → n < 2 ^ 32 → IsReadableValue (by_label n)
by_label_readable n l = (label_named TEXT_ADDRESS (omega arith), distance_fits (nat_lt n TEXT_ADDRESS) n refl l)

-- the displacement can be read, where one is written
abbrev IsReadableMaybe : Option Value → Type 0
IsReadableMaybe None = Unit {0}
IsReadableMaybe (Some v) = IsReadableValue v

displaced_by : (b c : Bool) (n : ℕ) → n < 2 ^ 32
    → IsReadableMaybe (if b then Some (number (pos n)) else if c then None else Some (number (signed_long n)))
displaced_by true c n l = l
displaced_by false true n l = tt
displaced_by false false n l = signed_fits (nat_lt n (2 ^ 31)) n refl l

displaced : (named : Bool) (a : Address) → a.disp < 2 ^ 32 → IsReadableMaybe (displacement_with named a)
displaced true a l = by_label_readable a.disp l
displaced false a l = displaced_by (is_none a.base && is_none a.index) (a.disp == 0 && is_some a.base) a.disp l

immediate_readable : (named : Bool) (n : ℕ) → n < 2 ^ 32 → IsReadableValue (immediate_with named n)
immediate_readable true n l = by_label_readable n l
immediate_readable false n l = l

-- ---- addresses

-- the scale is one that can be spelled
abbrev pub IsScaled : Option Reg → ℕ → Type 0
IsScaled None s = s ≡ 1
IsScaled (Some i) s = is_scale s ≡ true

place_readable : (b i : Option Reg) (s : ℕ) → IsScaled i s → IsReadablePlace (option_map reg_name b) (option_map reg_name i) s
place_readable None None s h = h
place_readable (Some b) None s h = (reg_readable b, h)
place_readable None (Some i) s h = (reg_readable i, h)
place_readable (Some b) (Some i) s h = (reg_readable b, reg_readable i, h)

-- a place without a value has a base or an index
memory_by : (v : Option Value) (b i : Option Reg) (s : ℕ) → IsReadableMaybe v → IsScaled i s
    → ((is_none b && is_none i) ≡ true → is_some v ≡ true)
    → IsReadableMemory v (option_map reg_name b) (option_map reg_name i) s
memory_by (Some v) b i s h k p = (h, place_readable b i s k)
memory_by None None None s h k p = absurd (let x = p refl in cc)
memory_by None None (Some i) s h k p = place_readable None (Some i) s k
memory_by None (Some b) i s h k p = place_readable (Some b) i s k

there_by : (b c : Bool) (x y : Value) → b ≡ true → is_some (if b then Some x else if c then None else Some y) ≡ true
there_by true c x y e = refl
there_by false c x y e = absurd cc

value_there : (named : Bool) (a : Address) → (is_none a.base && is_none a.index) ≡ true → is_some (displacement_with named a) ≡ true
value_there true a e = refl
value_there false a e = there_by (is_none a.base && is_none a.index) (a.disp == 0 && is_some a.base) _ _ e

-- ---- operands

-- an operand that an instruction has
abbrev pub IsSpelled : Written → Type 0
IsSpelled (written.Register s n) = n < 8
IsSpelled (written.Segment g) = Unit {0}
IsSpelled (written.Control n) = is_control n ≡ true
IsSpelled (written.Memory a) = (a.disp < 2 ^ 32) × IsScaled a.index a.scale
IsSpelled (written.Immediate n) = n < 2 ^ 32
IsSpelled written.Port = Unit {0}
IsSpelled (written.Label n) = n < 2 ^ 32

-- where a direct branch names its target by a label, what is written of such an operand can be read
pub written_readable : (wide : Wide) (w : Written) → IsSpelled w → IsReadable (form_with (record { target = to.Label; named = wide }) w)
written_readable wide (written.Register s n) h = readable_is (register_name s n) (named_8 s n h)
written_readable wide (written.Segment g) h = readable_is (segment_name g) (named_segment g)
written_readable wide (written.Control n) h = readable_is (control_name n) (named_control n h)
written_readable wide (written.Memory a) h =
    memory_by (displacement_with wide.disp a) a.base a.index a.scale (displaced wide.disp a h.0) h.1 (value_there wide.disp a)
written_readable wide (written.Immediate n) h = immediate_readable wide.imm n h
written_readable wide written.Port h = (readable_is (codes "dx") dx_named, refl)
written_readable wide (written.Label n) h = ((label_named n h, omega arith), refl)
