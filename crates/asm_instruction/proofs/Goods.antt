-- Each draft has numbers within their bounds, and is relative exactly where it is a direct branch to a symbol: arithmetic.
use Rattle.std.proofs.Common.{◌≡◌, ℕ, ◌^◌, ◌<◌, Bool, true, false, List, Option, Some, None, refl, ap, ◌∙◌, arith}
use Rattle.std.specs.Prelude.{ℤ, ◌==◌, ◌&&◌, not, nat_lt, if◌then◌else◌}
use Rattle.std.specs.Option.{option_or}
use Rattle.std.proofs.lemmas.Bool.{both_ways, not-true, and_parts}
use Rattle.ia32_types.specs.declared.insn.Op.{Op}
use Rattle.ia32_types.specs.declared.insn.Op.TheVariants as op
use Rattle.ia32_types.specs.declared.size.Size.{Size}
use Rattle.ia32_types.specs.declared.size.Size.TheVariants as size
use Rattle.ia32_types.specs.Branches.{is_direct_branch}
use Rattle.ia32_encode.specs.Good.{IsOperandBounded, IsBounded}
use Rattle.asm_source.specs.declared.tree.Argument.{Argument}
use Rattle.asm_instruction.specs.declared.argument.Number.{Number}
use Rattle.asm_instruction.specs.declared.argument.Memory.{Memory}
use Rattle.asm_instruction.specs.declared.argument.Given.{Given}
use Rattle.asm_instruction.specs.declared.argument.Given.TheVariants as given
use Rattle.asm_instruction.specs.declared.argument.Operands.{Operands}
use Rattle.asm_instruction.specs.declared.argument.Operands.TheVariants as operands
use Rattle.asm_instruction.specs.declared.arithmetic.Arithmetic.{Arithmetic}
use Rattle.asm_instruction.specs.declared.arithmetic.Arithmetic.TheVariants as arithmetic
use Rattle.asm_instruction.specs.declared.moves.Moves.TheVariants as moves
use Rattle.asm_instruction.specs.declared.control.Control.TheVariants as control
use Rattle.asm_instruction.specs.declared.system.System.TheVariants as system
use Rattle.asm_instruction.specs.declared.draft.Draft.{Draft}
use Rattle.asm_instruction.specs.declared.draft.NumberedOperand.{NumberedOperand}
use Rattle.asm_instruction.specs.declared.draft.Pair.{Pair}
use Rattle.asm_instruction.specs.declared.draft.Pair.TheVariants as pair
use Rattle.asm_instruction.specs.declared.mnemonic.Family.{Family}
use Rattle.asm_instruction.specs.declared.mnemonic.Family.TheVariants as family
use Rattle.asm_instruction.specs.Names.{◌>>=◌}
use Rattle.asm_instruction.specs.Field.{field}
use Rattle.asm_instruction.specs.Argument.{names_symbol}
use Rattle.asm_instruction.specs.Sizes.{agreed}
use Rattle.asm_instruction.specs.Draft.{nothing, register_operand, register_or_memory, said, paired, instruction, with_number}
use Rattle.asm_instruction.specs.Arithmetic.{of_pair, memory_first, of_two, two, of_one, one, to_register, arithmetic_draft}
use Rattle.asm_instruction.specs.Shift.{by_register, shift_draft}
use Rattle.asm_instruction.specs.Control.{distance}
use Rattle.asm_instruction.specs.Right.{constant_in}

-- ---- steps that may fail

abbrev pub When : {A : Type 0} → (A → Type 0) → Option A → Type 0
When Q None = Unit {0}
When Q (Some a) = Q a

pub bind_from : {A B : Type 0} (Q : A → Type 0) (R : B → Type 0) (o : Option A) (f : A → Option B) → When Q o
    → ((a : A) → Q a → When R (f a)) → When R (o >>= f)
bind_from Q R None f h k = tt
bind_from Q R (Some a) f h k = k a h

pub bind_any : {A B : Type 0} (R : B → Type 0) (o : Option A) (f : A → Option B) → ((a : A) → When R (f a)) → When R (o >>= f)
bind_any R None f k = tt
bind_any R (Some a) f k = k a

pub either : {A : Type 0} (R : A → Type 0) (a b : Option A) → When R a → When R b → When R (option_or a b)
either R (Some a) b p q = p
either R None b p q = q

pub choice : {A : Type 0} (R : A → Type 0) (b : Bool) (x y : Option A) → When R x → When R y → When R (if b then x else y)
choice R true x y p q = p
choice R false x y p q = q

pub field_below : (s : Size) (z : ℤ) → field s z < 2 ^ 32
field_below size.Byte z = omega arith
field_below size.Word z = omega arith
field_below size.Long z = omega arith

pub word_below : (z : ℤ) → field size.Word z < 2 ^ 16
word_below z = omega arith

pub distance_below : (n : ℕ) → distance n < 2 ^ 32
distance_below n = omega arith

-- ---- what is known of operands

abbrev pub PlaceGood : NumberedOperand → Type 0
PlaceGood p = IsOperandBounded p.operand

abbrev pub PairGood : Pair → Type 0
PairGood (pair.Immediate n p) = PlaceGood p
PairGood (pair.FromRegister n p) = PlaceGood p
PairGood (pair.FromMemory p n) = PlaceGood p

pub record MemoryGood (args : List Argument) (m : Memory) : Type 0 where
  pub below : m.address.disp < 2 ^ 32
  pub named : m.displacement.named ≡ true → names_symbol args (Some m.displacement.argument) ≡ true
  pub constant : m.address.disp ≡ field size.Long (constant_in args m.displacement.argument)

abbrev pub GivenGood : List Argument → Given → Type 0
GivenGood args (given.Memory m) = MemoryGood args m
GivenGood args _ = Unit {0}

abbrev pub OperandsGood : List Argument → Operands → Type 0
OperandsGood args operands.Nothing = Unit {0}
OperandsGood args (operands.One g) = GivenGood args g
OperandsGood args (operands.Starred g) = GivenGood args g
OperandsGood args (operands.Two g h) = GivenGood args g × GivenGood args h
OperandsGood args (operands.Three g h i) = GivenGood args g × GivenGood args h × GivenGood args i

-- of a direct branch
pub record IsDistanceOf (args : List Argument) (d : Draft) : Type 0 where
  pub argument : ℕ
  pub is : d.imm ≡ Some argument
  pub named : names_symbol args (Some argument) ≡ true
  pub relative : d.relative ≡ true
  pub constant : d.insn.imm ≡ distance (field size.Long (constant_in args argument))

pub record DraftGood (args : List Argument) (d : Draft) : Type 0 where
  pub bounded : IsBounded d.insn
  pub direct : is_direct_branch d.insn.op ≡ true → IsDistanceOf args d
  pub relative : d.relative ≡ true → is_direct_branch d.insn.op ≡ true

-- ---- what is known of the names

abbrev pub no_direct : Op → Bool
no_direct o = not (is_direct_branch o)

abbrev pub family_good : Family → Bool
family_good (family.Arithmetic (arithmetic.Two o)) = no_direct o
family_good (family.Arithmetic (arithmetic.One o)) = no_direct o
family_good (family.Shift o) = no_direct o
family_good (family.Moves (moves.Extend o s)) = no_direct o
family_good (family.Control (control.Branch x y)) = is_direct_branch x && no_direct y
family_good (family.Control (control.Conditional c)) = nat_lt c 16
family_good (family.Control (control.Set c)) = nat_lt c 16
family_good (family.Strings o s) = no_direct o
family_good (family.Plain o) = no_direct o
family_good (family.System (system.Memory o)) = no_direct o
family_good _ = true

pub not_direct : (o : Op) → no_direct o ≡ true → is_direct_branch o ≡ false
not_direct o h = not-true (is_direct_branch o) h

pub branch_direct : (x y : Op) → (is_direct_branch x && no_direct y) ≡ true → is_direct_branch x ≡ true
branch_direct x y h = (and_parts (is_direct_branch x) (no_direct y) h).0

pub branch_indirect : (x y : Op) → (is_direct_branch x && no_direct y) ≡ true → is_direct_branch y ≡ false
branch_indirect x y h = not-true (is_direct_branch y) (and_parts (is_direct_branch x) (no_direct y) h).1

module _ (args : List Argument) where
  abbrev pub Good : Option Draft → Type 0
  Good o = When (DraftGood args) o

  pub instruction_good : (o : Op) (s : Size) (a b : NumberedOperand) → is_direct_branch o ≡ false → PlaceGood a → PlaceGood b
      → DraftGood args (instruction o s a b)
  unfolding instruction
  instruction_good o s a b e p q = record {
    bounded = record { a = p; b = q; imm = omega arith; sel = omega arith };
    direct = λ t. absurd (both_ways (is_direct_branch o) e t);
    relative = λ t. absurd cc;
  }

  pub instruction_op : (o : Op) (s : Size) (a b : NumberedOperand) → (instruction o s a b).insn.op ≡ o
  unfolding instruction
  instruction_op o s a b = refl

  pub numbered_good : (d : Draft) (s : Size) (n : Number) → is_direct_branch d.insn.op ≡ false → DraftGood args d
      → DraftGood args (with_number d s n)
  unfolding with_number
  numbered_good d s n e g = record {
    bounded = record { a = g.bounded.a; b = g.bounded.b; imm = field_below s n.value; sel = g.bounded.sel };
    direct = λ t. absurd (both_ways (is_direct_branch d.insn.op) e t);
    relative = g.relative;
  }

  -- an instruction with a number
  pub instruction_numbered : (o : Op) (s t : Size) (a b : NumberedOperand) (n : Number) → is_direct_branch o ≡ false → PlaceGood a
      → PlaceGood b → DraftGood args (with_number (instruction o s a b) t n)
  instruction_numbered o s t a b n e p q =
      numbered_good (instruction o s a b) t n (ap is_direct_branch (instruction_op o s a b) ∙ e) (instruction_good o s a b e p q)

  pub rom_good : (g : Given) → GivenGood args g → When PlaceGood (register_or_memory g)
  rom_good (given.Register s n) h = tt
  rom_good (given.Memory m) h = h.below
  rom_good (given.Segment s) h = tt
  rom_good (given.Control n) h = tt
  rom_good (given.Immediate n) h = tt
  rom_good given.Port h = tt

  pub paired_good : (s d : Given) → GivenGood args s → GivenGood args d → When PairGood (paired s d)
  unfolding paired
  paired_good (given.Immediate n) d p q =
      bind_from PlaceGood PairGood (register_or_memory d) (λ x. Some (pair.Immediate n x)) (rom_good d q) (λ x h. h)
  paired_good (given.Register s n) d p q =
      bind_from PlaceGood PairGood (register_or_memory d) (λ x. Some (pair.FromRegister n x)) (rom_good d q) (λ x h. h)
  paired_good (given.Memory m) (given.Register s n) p q = p.below
  paired_good (given.Memory m) (given.Memory k) p q = tt
  paired_good (given.Memory m) (given.Segment s) p q = tt
  paired_good (given.Memory m) (given.Control n) p q = tt
  paired_good (given.Memory m) (given.Immediate n) p q = tt
  paired_good (given.Memory m) given.Port p q = tt
  paired_good (given.Segment s) d p q = tt
  paired_good (given.Control n) d p q = tt
  paired_good given.Port d p q = tt

  pub of_pair_good : (o : Op) (s : Size) (p : Pair) → is_direct_branch o ≡ false → PairGood p → DraftGood args (of_pair o s p)
  of_pair_good o s (pair.Immediate n x) e h = instruction_numbered o s s x nothing n e h tt
  of_pair_good o s (pair.FromRegister n x) e h = instruction_good o s x (register_operand n) e h tt
  of_pair_good o s (pair.FromMemory x n) e h = instruction_good o s (register_operand n) x e tt h

  pub memory_first_good : (o : Op) (s : Size) (p : Pair) → is_direct_branch o ≡ false → PairGood p → DraftGood args (memory_first o s p)
  memory_first_good o s (pair.FromMemory x n) e h = instruction_good o s x (register_operand n) e h tt
  memory_first_good o s (pair.Immediate n x) e h = of_pair_good o s (pair.Immediate n x) e h
  memory_first_good o s (pair.FromRegister n x) e h = of_pair_good o s (pair.FromRegister n x) e h

  pub two_good : (o : Op) (f : Option Size) (s d : Given) → is_direct_branch o ≡ false → GivenGood args s → GivenGood args d
      → Good (two o f s d)
  unfolding of_two
  two_good o f s d e p q = bind_from PairGood (DraftGood args) (paired s d) _ (paired_good s d p q)
      (λ x h. bind_any (DraftGood args) (agreed f (said s) (said d)) _ (λ z. of_pair_good o z x e h))

  pub tested_good : (f : Option Size) (s d : Given) → GivenGood args s → GivenGood args d
      → Good (of_two (λ z p. Some (memory_first op.Test z p)) f s d)
  unfolding of_two
  tested_good f s d p q = bind_from PairGood (DraftGood args) (paired s d) _ (paired_good s d p q)
      (λ x h. bind_any (DraftGood args) (agreed f (said s) (said d)) _ (λ z. memory_first_good op.Test z x refl h))

  pub of_one_good : (own : Option Size) (o : Op) (f : Option Size) (g : Given) → is_direct_branch o ≡ false → GivenGood args g
      → Good (of_one own o f g)
  unfolding of_one
  of_one_good own o f g e p = bind_from PlaceGood (DraftGood args) (register_or_memory g) _ (rom_good g p)
      (λ x h. bind_any (DraftGood args) (agreed f (said g) own) _ (λ z. instruction_good o z x nothing e h tt))

  pub one_good : (o : Op) (f : Option Size) (g : Given) → is_direct_branch o ≡ false → GivenGood args g → Good (one o f g)
  one_good o f g e p = of_one_good None o f g e p

  pub to_register_good : (o : Op) (f : Option Size) (s d : Given) → is_direct_branch o ≡ false → GivenGood args s
      → Good (to_register o f s d)
  unfolding to_register
  to_register_good o f s (given.Register t n) e p =
      bind_from PlaceGood (DraftGood args) (register_or_memory s) _ (rom_good s p)
      (λ x h. bind_any (DraftGood args) (agreed f (said s) (Some t)) _ (λ z. instruction_good o z (register_operand n) x e tt h))
  to_register_good o f s _ e p = tt

  -- good, and no direct branch
  abbrev pub Plain : Draft → Type 0
  Plain d = DraftGood args d × (is_direct_branch d.insn.op ≡ false)

  pub to_register_plain : (o : Op) (f : Option Size) (s d : Given) → is_direct_branch o ≡ false → GivenGood args s
      → When Plain (to_register o f s d)
  unfolding to_register
  to_register_plain o f s (given.Register t n) e p =
      bind_from PlaceGood Plain (register_or_memory s) _ (rom_good s p)
      (λ x h. bind_any Plain (agreed f (said s) (Some t)) _
      (λ z. (instruction_good o z (register_operand n) x e tt h, ap is_direct_branch (instruction_op o z (register_operand n) x) ∙ e)))
  to_register_plain o f s _ e p = tt

  pub multiplied_good : (n : Number) (f : Option Size) (s d : Given) → GivenGood args s
      → Good (to_register op.ImulBy f s d >>= λ x. Some (with_number x size.Long n))
  multiplied_good n f s d p = bind_from Plain (DraftGood args) (to_register op.ImulBy f s d) _ (to_register_plain op.ImulBy f s d refl p)
      (λ x h. numbered_good x size.Long n h.1 h.0)

  pub product_good : (f : Option Size) (os : Operands) → OperandsGood args os → Good (arithmetic_draft arithmetic.Multiply f os)
  unfolding arithmetic_draft
  product_good f operands.Nothing h = tt
  product_good f (operands.One g) h = one_good op.Imul f g refl h
  product_good f (operands.Starred g) h = tt
  product_good f (operands.Two s d) h = to_register_good op.Imul f s d refl h.0
  product_good f (operands.Three (given.Immediate n) s d) h = multiplied_good n f s d h.1
  product_good f (operands.Three (given.Register z n) s d) h = tt
  product_good f (operands.Three (given.Segment z) s d) h = tt
  product_good f (operands.Three (given.Control n) s d) h = tt
  product_good f (operands.Three (given.Memory m) s d) h = tt
  product_good f (operands.Three given.Port s d) h = tt

  pub arithmetic_good : (k : Arithmetic) (f : Option Size) (os : Operands) → family_good (family.Arithmetic k) ≡ true → OperandsGood args os
      → Good (arithmetic_draft k f os)
  unfolding arithmetic_draft
  arithmetic_good (arithmetic.Two o) f operands.Nothing e h = tt
  arithmetic_good (arithmetic.Two o) f (operands.One g) e h = tt
  arithmetic_good (arithmetic.Two o) f (operands.Starred g) e h = tt
  arithmetic_good (arithmetic.Two o) f (operands.Two s d) e h = two_good o f s d (not_direct o e) h.0 h.1
  arithmetic_good (arithmetic.Two o) f (operands.Three s d g) e h = tt
  arithmetic_good arithmetic.Test f operands.Nothing e h = tt
  arithmetic_good arithmetic.Test f (operands.One g) e h = tt
  arithmetic_good arithmetic.Test f (operands.Starred g) e h = tt
  arithmetic_good arithmetic.Test f (operands.Two s d) e h = tested_good f s d h.0 h.1
  arithmetic_good arithmetic.Test f (operands.Three s d g) e h = tt
  arithmetic_good (arithmetic.One o) f operands.Nothing e h = tt
  arithmetic_good (arithmetic.One o) f (operands.One g) e h = one_good o f g (not_direct o e) h
  arithmetic_good (arithmetic.One o) f (operands.Starred g) e h = tt
  arithmetic_good (arithmetic.One o) f (operands.Two s d) e h = tt
  arithmetic_good (arithmetic.One o) f (operands.Three s d g) e h = tt
  arithmetic_good arithmetic.Multiply f os e h = product_good f os h

  pub one_plain : (o : Op) (f : Option Size) (g : Given) → is_direct_branch o ≡ false → GivenGood args g → When Plain (one o f g)
  unfolding of_one
  one_plain o f g e p =
      bind_from PlaceGood Plain (register_or_memory g) _ (rom_good g p)
      (λ x h. bind_any Plain (agreed f (said g) None) _
      (λ z. (instruction_good o z x nothing e h tt, ap is_direct_branch (instruction_op o z x nothing) ∙ e)))

  pub counted_good : (d : Draft) → is_direct_branch d.insn.op ≡ false → DraftGood args d
      → DraftGood args (record d { insn = record d.insn { imm = 1 } })
  counted_good d e g = record {
    bounded = record { a = g.bounded.a; b = g.bounded.b; imm = omega arith; sel = g.bounded.sel };
    direct = λ t. absurd (both_ways (is_direct_branch d.insn.op) e t);
    relative = g.relative;
  }

  pub by_one_good : (o : Op) (f : Option Size) (g : Given) → is_direct_branch o ≡ false → GivenGood args g
      → Good (one o f g >>= λ x. Some (record x { insn = record x.insn { imm = 1 } }))
  by_one_good o f g e p = bind_from Plain (DraftGood args) (one o f g) _ (one_plain o f g e p) (λ x h. counted_good x h.1 h.0)

  pub by_number_good : (o : Op) (f : Option Size) (n : Number) (g : Given) → is_direct_branch o ≡ false → GivenGood args g
      → Good (one o f g >>= λ x. Some (with_number x size.Byte n))
  by_number_good o f n g e p =
      bind_from Plain (DraftGood args) (one o f g) _ (one_plain o f g e p) (λ x h. numbered_good x size.Byte n h.1 h.0)

  pub by_register_good : (o : Op) (f : Option Size) (g : Given) → is_direct_branch o ≡ false → GivenGood args g → Good (by_register o f g)
  unfolding by_register
  by_register_good o f g e p = bind_from PlaceGood (DraftGood args) (register_or_memory g) _ (rom_good g p)
      (λ x h. bind_any (DraftGood args) (agreed f (said g) None) _ (λ z. instruction_good o z x (register_operand 1) e h tt))

  pub shift_good : (o : Op) (f : Option Size) (os : Operands) → is_direct_branch o ≡ false → OperandsGood args os
      → Good (shift_draft o f os)
  unfolding shift_draft
  shift_good o f operands.Nothing e h = tt
  shift_good o f (operands.One g) e h = by_one_good o f g e h
  shift_good o f (operands.Starred g) e h = tt
  shift_good o f (operands.Two (given.Immediate n) d) e h = by_number_good o f n d e h.1
  shift_good o f (operands.Two (given.Register size.Byte n) d) e h =
      choice (DraftGood args) (n == 1) (by_register o f d) None (by_register_good o f d e h.1) tt
  shift_good o f (operands.Two (given.Register size.Word n) d) e h = tt
  shift_good o f (operands.Two (given.Register size.Long n) d) e h = tt
  shift_good o f (operands.Two (given.Memory m) d) e h = tt
  shift_good o f (operands.Two (given.Segment m) d) e h = tt
  shift_good o f (operands.Two (given.Control m) d) e h = tt
  shift_good o f (operands.Two given.Port d) e h = tt
  shift_good o f (operands.Three s d g) e h = tt
