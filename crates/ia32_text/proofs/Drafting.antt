-- What the families of instructions make of written operands.
use Rattle.std.proofs.Common.{◌≡◌, ℕ, ◌<◌, ◌^◌, Bool, true, false, Option, Some, None, refl, sym, ap, subst, ◌∙◌, arith}
use Rattle.std.specs.Prelude.{pos}
use Rattle.std.specs.Option.{option_or}
use Rattle.std.proofs.lemmas.Bool.{and_from, lt-ltb}
use Rattle.ia32_types.specs.declared.insn.Insn.{Insn}
use Rattle.ia32_types.specs.declared.insn.Op.{Op}
use Rattle.ia32_types.specs.declared.insn.Operand.{Operand}
use Rattle.ia32_types.specs.declared.insn.Operand.TheVariants as operand
use Rattle.ia32_types.specs.declared.size.Size.{Size}
use Rattle.ia32_types.specs.declared.size.Size.TheVariants as size
use Rattle.ia32_types.specs.Size.{span}
use Rattle.asm_instruction.specs.declared.argument.Number.{Number}
use Rattle.asm_instruction.specs.declared.argument.Given.{Given}
use Rattle.asm_instruction.specs.declared.draft.Draft.{Draft}
use Rattle.asm_instruction.specs.declared.draft.NumberedOperand.{NumberedOperand}
use Rattle.asm_instruction.specs.Field.{field, fits_field}
use Rattle.asm_instruction.specs.Sizes.{agreed}
use Rattle.asm_instruction.specs.Argument.{displacement}
use Rattle.asm_instruction.specs.Draft.{of_operand, nothing, register_operand, memory, paired, fits_displacement, instruction, with_number, unary}
use Rattle.asm_instruction.specs.Arithmetic.{of_pair, of_two, of_one, to_register}
use Rattle.ia32_text.specs.declared.operands.Written.TheVariants as written
use Rattle.ia32_text.specs.Arguments.{displacement_of}
use Rattle.ia32_text.specs.Operands.{as_written}
use Rattle.ia32_text.proofs.Reading.{is_control, plain_at, address_displaces, given_of, IsWritten}

abbrev pub made : Op → Size → Operand → Operand → ℕ → ℕ → Bool → Insn
made o s a b imm sel rep = record { op = o; size = s; a = a; b = b; imm = imm; sel = sel; rep = rep }

-- ---- operands

abbrev pub IsOperand : Operand → Type 0
IsOperand operand.Absent = Unit {0}
IsOperand (operand.Register n) = n < 8
IsOperand (operand.Memory a) = a.disp < 2 ^ 32
IsOperand (operand.Segment g) = Unit {0}
IsOperand (operand.Control n) = is_control n ≡ true

pub is_written : (s : Size) (imm : ℕ) (a : Operand) → IsOperand a → IsWritten (as_written s imm a)
is_written s imm operand.Absent h = tt
is_written s imm (operand.Register n) h = h
is_written s imm (operand.Memory a) h = h
is_written s imm (operand.Segment g) h = tt
is_written s imm (operand.Control n) h = h

-- the operand with the number of its displacement, as the argument of number k gives it
abbrev pub numbered : Operand → ℕ → NumberedOperand
numbered operand.Absent k = nothing
numbered (operand.Register n) k = register_operand n
numbered (operand.Memory a) k = memory (record { address = a; displacement = displacement (displacement_of a) k })
numbered (operand.Segment g) k = of_operand (operand.Segment g)
numbered (operand.Control n) k = of_operand (operand.Control n)

numbered_operand : (a : Operand) (k : ℕ) → (numbered a k).operand ≡ a
numbered_operand operand.Absent k = refl
numbered_operand (operand.Register n) k = refl
numbered_operand (operand.Memory a) k = refl
numbered_operand (operand.Segment g) k = refl
numbered_operand (operand.Control n) k = refl

numbered_fits : (a : Operand) (k : ℕ) → IsOperand a → fits_displacement (numbered a k).displacement ≡ true
numbered_fits operand.Absent k h = refl
numbered_fits (operand.Register n) k h = refl
numbered_fits (operand.Memory a) k h = (address_displaces a k h).fits
numbered_fits (operand.Segment g) k h = refl
numbered_fits (operand.Control n) k h = refl

either_fits : (x y : Option Number) → fits_displacement x ≡ true → fits_displacement y ≡ true → fits_displacement (option_or x y) ≡ true
either_fits None y p q = q
either_fits (Some n) y p q = p

-- ---- drafts

-- the draft is that of the instruction, and its numbers fit
pub record Drafts (i : Insn) (d : Draft) : Type 0 where
  pub same : d.insn ≡ i
  pub fits : d.fits ≡ true

pub record DraftsTo (i : Insn) (x : Option Draft) : Type 0 where
  pub draft : Draft
  pub is : x ≡ Some draft
  pub drafts : Drafts i draft

pub drafts_to : (i : Insn) (x : Option Draft) (d : Draft) → x ≡ Some d → Drafts i d → DraftsTo i x
drafts_to i x d e h = record { draft = d; is = e; drafts = h }

pub pair_drafts : (o : Op) (s : Size) (a b : Operand) (k j : ℕ) → IsOperand a → IsOperand b
    → Drafts (made o s a b 0 0 false) (instruction o s (numbered a k) (numbered b j))
unfolding instruction
pair_drafts o s a b k j p q = record {
  same = ap (λ x. made o s x (numbered b j).operand 0 0 false) (numbered_operand a k)
      ∙ ap (λ x. made o s a x 0 0 false) (numbered_operand b j);
  fits = either_fits (numbered a k).displacement (numbered b j).displacement (numbered_fits a k p) (numbered_fits b j q);
}

field_small : (t : Size) (n : ℕ) → n < span t → field t (pos n) ≡ n
field_small size.Byte n l = omega arith
field_small size.Word n l = omega arith
field_small size.Long n l = omega arith

small_fits : (t : Size) (n : ℕ) → n < span t → fits_field t (pos n) ≡ true
small_fits size.Byte n l = lt-ltb n _ l
small_fits size.Word n l = lt-ltb n _ l
small_fits size.Long n l = lt-ltb n _ l

-- with a number in a field of this size
pub number_drafts : (i : Insn) (d : Draft) (t : Size) (n k : ℕ) → Drafts i d → n < span t
    → Drafts (record i { imm = n }) (with_number d t (plain_at (pos n) k))
unfolding with_number
number_drafts i d t n k h l = record {
  same = ap (λ (x : Insn). record x { imm = field t (pos n) }) h.same ∙ ap (λ m. record i { imm = m }) (field_small t n l);
  fits = and_from d.fits (fits_field t (pos n)) h.fits (small_fits t n l);
}

-- ---- sizes

pub agreed_one : (s : Size) → agreed (Some s) None None ≡ Some s
unfolding agreed
agreed_one size.Byte = refl
agreed_one size.Word = refl
agreed_one size.Long = refl

pub agreed_none : agreed None (Some size.Long) None ≡ Some size.Long
unfolding agreed
agreed_none = refl

pub agreed_first : (s : Size) → agreed (Some s) (Some s) None ≡ Some s
unfolding agreed
agreed_first size.Byte = refl
agreed_first size.Word = refl
agreed_first size.Long = refl

pub agreed_last : (s : Size) → agreed (Some s) None (Some s) ≡ Some s
unfolding agreed
agreed_last size.Byte = refl
agreed_last size.Word = refl
agreed_last size.Long = refl

pub agreed_all : (s : Size) → agreed (Some s) (Some s) (Some s) ≡ Some s
unfolding agreed
agreed_all size.Byte = refl
agreed_all size.Word = refl
agreed_all size.Long = refl

-- ---- a number or a register or memory into a register or memory

abbrev pub TwoKinds : Operand → Operand → Type 0
TwoKinds (operand.Register n) operand.Absent = Unit {0}
TwoKinds (operand.Memory a) operand.Absent = Unit {0}
TwoKinds (operand.Register n) (operand.Register m) = Unit {0}
TwoKinds (operand.Memory a) (operand.Register m) = Unit {0}
TwoKinds (operand.Register n) (operand.Memory a) = Unit {0}
TwoKinds _ _ = ⊥

abbrev pub TwoNumber : Size → Operand → ℕ → Type 0
TwoNumber s operand.Absent imm = imm < span s
TwoNumber s _ imm = imm ≡ 0

pub record IsTwo (s : Size) (a b : Operand) (imm : ℕ) : Type 0 where
  pub a_is : IsOperand a
  pub b_is : IsOperand b
  pub kinds : TwoKinds a b
  pub number : TwoNumber s b imm

abbrev pub first_given : Size → ℕ → Operand → Given
first_given s imm b = given_of (as_written s imm b) 0

abbrev pub second_given : Size → ℕ → Operand → Given
second_given s imm a = given_of (as_written s imm a) 1

zero_drafts : (o : Op) (s : Size) (a b : Operand) (imm : ℕ) (d : Draft) → imm ≡ 0 → Drafts (made o s a b 0 0 false) d
    → Drafts (made o s a b imm 0 false) d
zero_drafts o s a b imm d e h = subst (λ n. Drafts (made o s a b n 0 false) d) (sym e) h

pub two_drafts : (o : Op) (s : Size) (a b : Operand) (imm : ℕ) → IsTwo s a b imm
    → DraftsTo (made o s a b imm 0 false) (of_two (λ s p. Some (of_pair o s p)) (Some s) (first_given s imm b) (second_given s imm a))
unfolding of_two paired
two_drafts o s (operand.Register n) operand.Absent imm h =
    drafts_to _ _ (with_number (unary o s (register_operand n)) s (plain_at (pos imm) 0)) (rw (agreed_last s) refl)
    (number_drafts _ _ s imm 0 (pair_drafts o s (operand.Register n) operand.Absent 1 0 h.a_is tt) h.number)
two_drafts o s (operand.Memory x) operand.Absent imm h =
    drafts_to _ _ (with_number (unary o s (numbered (operand.Memory x) 1)) s (plain_at (pos imm) 0)) (rw (agreed_one s) refl)
    (number_drafts _ _ s imm 0 (pair_drafts o s (operand.Memory x) operand.Absent 1 0 h.a_is tt) h.number)
two_drafts o s (operand.Register n) (operand.Register m) imm h =
    drafts_to _ _ (instruction o s (register_operand n) (register_operand m)) (rw (agreed_all s) refl)
    (zero_drafts o s _ _ imm _ h.number (pair_drafts o s (operand.Register n) (operand.Register m) 1 0 h.a_is h.b_is))
two_drafts o s (operand.Memory x) (operand.Register m) imm h =
    drafts_to _ _ (instruction o s (numbered (operand.Memory x) 1) (register_operand m)) (rw (agreed_first s) refl)
    (zero_drafts o s _ _ imm _ h.number (pair_drafts o s (operand.Memory x) (operand.Register m) 1 0 h.a_is h.b_is))
two_drafts o s (operand.Register n) (operand.Memory x) imm h =
    drafts_to _ _ (instruction o s (register_operand n) (numbered (operand.Memory x) 0)) (rw (agreed_last s) refl)
    (zero_drafts o s _ _ imm _ h.number (pair_drafts o s (operand.Register n) (operand.Memory x) 1 0 h.a_is h.b_is))
two_drafts o s a b imm h = absurd h.kinds

-- ---- one register or memory

abbrev pub PlaceKind : Operand → Type 0
PlaceKind (operand.Register n) = Unit {0}
PlaceKind (operand.Memory a) = Unit {0}
PlaceKind _ = ⊥

pub one_drafts : (o : Op) (s t : Size) (own suffix : Option Size) (a : Operand) (imm k : ℕ) → agreed suffix (Some t) own ≡ Some s
    → agreed suffix None own ≡ Some s
    → IsOperand a → PlaceKind a → DraftsTo (made o s a operand.Absent 0 0 false) (of_one own o suffix (given_of (as_written t imm a) k))
unfolding of_one
one_drafts o s t own suffix (operand.Register n) imm k e f h p =
    drafts_to _ _ (unary o s (register_operand n)) (rw e refl) (pair_drafts o s (operand.Register n) operand.Absent k 0 h tt)
one_drafts o s t own suffix (operand.Memory x) imm k e f h p =
    drafts_to _ _ (unary o s (numbered (operand.Memory x) k)) (rw f refl) (pair_drafts o s (operand.Memory x) operand.Absent k 0 h tt)
one_drafts o s t own suffix _ imm k e f h p = absurd p

-- ---- from a register or memory to a register; k is the number of the source's argument

pub to_register_drafts : (o : Op) (s : Size) (n : ℕ) (b : Operand) (imm k j : ℕ) → n < 8 → IsOperand b → PlaceKind b
    → DraftsTo (made o s (operand.Register n) b 0 0 false)
    (to_register o (Some s) (given_of (as_written s imm b) k) (given_of (written.Register s n) j))
unfolding to_register
to_register_drafts o s n (operand.Register m) imm k j l h p =
    drafts_to _ _ (instruction o s (register_operand n) (register_operand m)) (rw (agreed_all s) refl)
    (pair_drafts o s (operand.Register n) (operand.Register m) j k l h)
to_register_drafts o s n (operand.Memory x) imm k j l h p =
    drafts_to _ _ (instruction o s (register_operand n) (numbered (operand.Memory x) k)) (rw (agreed_last s) refl)
    (pair_drafts o s (operand.Register n) (operand.Memory x) j k l h)
to_register_drafts o s n _ imm k j l h p = absurd p
