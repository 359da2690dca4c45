-- Numbers fit their fields: those of a list, and those of a draft exactly where those of its operands do.
use Rattle.std.proofs.Common.{◌≡◌, ◌++◌, Bool, true, false, List, [], ◌∷◌, Option, Some, None, refl, sym, ap, ◌∙◌, arith}
use Rattle.std.specs.Prelude.{ℤ, ◌&&◌, All}
use Rattle.std.specs.Option.{option_or}
use Rattle.std.specs.List.{Contains}
use Rattle.std.proofs.lemmas.List.Elements.{All-nil, All-cons, All-contains, Contains-append_right}
use Rattle.std.proofs.lemmas.Bool.{and_parts}
use Rattle.ia32_types.specs.declared.insn.Op.{Op}
use Rattle.ia32_types.specs.declared.size.Size.{Size}
use Rattle.ia32_types.specs.declared.size.Size.TheVariants as size
use Rattle.asm_instruction.specs.declared.argument.Number.{Number}
use Rattle.asm_instruction.specs.declared.argument.Given.{Given}
use Rattle.asm_instruction.specs.declared.argument.Given.TheVariants as given
use Rattle.asm_instruction.specs.declared.argument.Operands.{Operands}
use Rattle.asm_instruction.specs.declared.draft.Draft.{Draft}
use Rattle.asm_instruction.specs.declared.draft.NumberedOperand.{NumberedOperand}
use Rattle.asm_instruction.specs.declared.draft.Pair.{Pair}
use Rattle.asm_instruction.specs.declared.draft.Pair.TheVariants as pair
use Rattle.asm_instruction.specs.declared.mnemonic.Family.{Family}
use Rattle.asm_instruction.specs.Field.{fits_field}
use Rattle.asm_instruction.specs.Draft.{nothing, register_or_memory, paired, displaced, fits_displacement, instruction, with_number, unary}
use Rattle.asm_instruction.specs.Arithmetic.{of_pair, memory_first}
use Rattle.asm_instruction.specs.Refusals.{numbers_in, numbers}
use Rattle.asm_instruction.proofs.Goods.{When, bind_from}

abbrev pub Numbers : Type 0
Numbers = List (Size × ℤ)

abbrev pub all_fit : List (Size × ℤ) → Bool
all_fit [] = true
all_fit (x ∷ xs) = fits_field x.0 x.1 && all_fit xs

pub and_true : (b : Bool) → b ≡ (b && true)
and_true true = refl
and_true false = refl

and_three : (a b c : Bool) → ((a && b) && c) ≡ (a && (b && c))
and_three true b c = refl
and_three false b c = refl

all_append : (xs ys : Numbers) → all_fit (xs ++ ys) ≡ (all_fit xs && all_fit ys)
all_append [] ys = refl
all_append (x ∷ xs) ys =
    ap (λ (b : Bool). fits_field x.0 x.1 && b) (all_append xs ys) ∙ sym (and_three (fits_field x.0 x.1) (all_fit xs) (all_fit ys))

one_more : (xs : Numbers) (s : Size) (z : ℤ) → (all_fit xs && fits_field s z) ≡ all_fit (xs ++ (s, z) ∷ [])
one_more xs s z = ap (λ (b : Bool). all_fit xs && b) (and_true (fits_field s z)) ∙ sym (all_append xs ((s, z) ∷ []))

pub none_more : (xs : Numbers) → all_fit xs ≡ all_fit (xs ++ [])
none_more xs = and_true (all_fit xs) ∙ sym (all_append xs [])

or_none : (o : Option Number) → option_or o None ≡ o
or_none (Some n) = refl
or_none None = refl

-- ---- what is known of drafts and of operands

abbrev pub FitTo : (Size → Numbers) → Draft → Type 0
FitTo ns d = d.fits ≡ all_fit (ns d.insn.size)

pub instruction_fit : (ns : Size → Numbers) (o : Op) (s : Size) (a b : NumberedOperand) → fits_displacement (displaced a b) ≡ all_fit (ns s)
    → FitTo ns (instruction o s a b)
unfolding instruction
instruction_fit ns o s a b h = h

pub numbered_fit : (ns : Size → Numbers) (d : Draft) (s : Size) (n : Number) → FitTo ns d
    → FitTo (λ z. ns z ++ (s, n.value) ∷ []) (with_number d s n)
unfolding with_number
numbered_fit ns d s n h = ap (λ (b : Bool). b && fits_field s n.value) h ∙ one_more (ns d.insn.size) s n.value

abbrev pub PlaceFit : Given → NumberedOperand → Type 0
PlaceFit g x = (z : Size) → fits_displacement x.displacement ≡ all_fit (numbers_in z g)

pub rom_fit : (g : Given) → When (PlaceFit g) (register_or_memory g)
rom_fit (given.Register s n) = λ z. refl
rom_fit (given.Memory m) = λ z. and_true (fits_field size.Long m.displacement.value)
rom_fit (given.Segment s) = tt
rom_fit (given.Control n) = tt
rom_fit (given.Immediate n) = tt
rom_fit given.Port = tt

pub first_fit : (g : Given) (x : NumberedOperand) (z : Size) → PlaceFit g x → fits_displacement (option_or x.displacement None)
    ≡ all_fit (numbers_in z g)
first_fit g x z h = ap fits_displacement (or_none x.displacement) ∙ h z

abbrev pub One : (Size → Size) → Given → Size → Numbers
One F g z = numbers_in (F z) g

pub unary_fit : (F : Size → Size) (g : Given) (o : Op) (s : Size) (x : NumberedOperand) → PlaceFit g x → FitTo (One F g) (unary o s x)
unary_fit F g o s x h = instruction_fit (One F g) o s x nothing (first_fit g x (F s) h)

abbrev pub Two : (Size → Size) → (Size → Size) → Given → Given → Size → Numbers
Two F G s d z = numbers_in (F z) d ++ numbers_in (G z) s

abbrev pub Same : Size → Size
Same z = z

abbrev pub Long : Size → Size
Long z = size.Long

abbrev pub Byte : Size → Size
Byte z = size.Byte

abbrev pair_fits : Size → Pair → Bool
pair_fits z (pair.Immediate n p) = fits_displacement p.displacement && fits_field z n.value
pair_fits z (pair.FromRegister n p) = fits_displacement p.displacement
pair_fits z (pair.FromMemory p n) = fits_displacement p.displacement

abbrev pub PairFit : Given → Given → Pair → Type 0
PairFit s d p = (z : Size) → pair_fits z p ≡ all_fit (Two Same Same s d z)

pub paired_fit : (s d : Given) → When (PairFit s d) (paired s d)
unfolding paired
paired_fit (given.Immediate n) d =
    bind_from (PlaceFit d) (PairFit (given.Immediate n) d) (register_or_memory d) (λ x. Some (pair.Immediate n x)) (rom_fit d)
    (λ x h. λ z. ap (λ (b : Bool). b && fits_field z n.value) (h z) ∙ one_more (numbers_in z d) z n.value)
paired_fit (given.Register s n) d =
    bind_from (PlaceFit d) (PairFit (given.Register s n) d) (register_or_memory d) (λ x. Some (pair.FromRegister n x)) (rom_fit d)
    (λ x h. λ z. h z ∙ none_more (numbers_in z d))
paired_fit (given.Memory m) (given.Register s n) = λ z. and_true (fits_field size.Long m.displacement.value)
paired_fit (given.Memory m) (given.Memory k) = tt
paired_fit (given.Memory m) (given.Segment s) = tt
paired_fit (given.Memory m) (given.Control n) = tt
paired_fit (given.Memory m) (given.Immediate n) = tt
paired_fit (given.Memory m) given.Port = tt
paired_fit (given.Segment s) d = tt
paired_fit (given.Control n) d = tt
paired_fit given.Port d = tt

pub of_pair_fit : (s d : Given) (o : Op) (z : Size) (p : Pair) → PairFit s d p → FitTo (Two Same Same s d) (of_pair o z p)
unfolding instruction with_number
of_pair_fit s d o z (pair.Immediate n x) h =
    ap (λ (b : Option Number). fits_displacement b && fits_field z n.value) (or_none x.displacement) ∙ h z
of_pair_fit s d o z (pair.FromRegister n x) h = ap fits_displacement (or_none x.displacement) ∙ h z
of_pair_fit s d o z (pair.FromMemory x n) h = h z

pub memory_first_fit : (s d : Given) (o : Op) (z : Size) (p : Pair) → PairFit s d p → FitTo (Two Same Same s d) (memory_first o z p)
unfolding instruction
memory_first_fit s d o z (pair.FromMemory x n) h = ap fits_displacement (or_none x.displacement) ∙ h z
memory_first_fit s d o z (pair.Immediate n x) h = of_pair_fit s d o z (pair.Immediate n x) h
memory_first_fit s d o z (pair.FromRegister n x) h = of_pair_fit s d o z (pair.FromRegister n x) h

-- the numbers of a draft fit exactly where those of these operands do
abbrev pub FamilyFit : Family → Operands → Draft → Type 0
FamilyFit f os d = d.fits ≡ all_fit (numbers f d.insn.size os)

abbrev pub Fit : Family → Operands → Option Draft → Type 0
Fit f os o = When (FamilyFit f os) o

-- ---- where one doesn't fit

pub one_unfit : (xs : List (Size × ℤ)) → all_fit xs ≡ false → (x : Size × ℤ) × Contains xs x × (fits_field x.0 x.1 ≡ false)
one_unfit [] h = absurd cc
one_unfit (x ∷ xs) h = by_first (fits_field x.0 x.1) refl (one_unfit xs)
  where
    by_first : (b : Bool) → fits_field x.0 x.1 ≡ b → (all_fit xs ≡ false → (y : Size × ℤ) × Contains xs y × (fits_field y.0 y.1 ≡ false))
        → (y : Size × ℤ) × Contains (x ∷ xs) y × (fits_field y.0 y.1 ≡ false)
    by_first true e more =
        let rest : all_fit xs ≡ false = sym (ap (λ (b : Bool). b && all_fit xs) e) ∙ h in
        let found = more rest in
        (found.0, Contains-append_right (x ∷ []) xs found.0 found.1, found.2)
    by_first false e more = (x, (0, omega arith, refl), e)

each_fits : (xs : Numbers) → all_fit xs ≡ true → All (λ (y : Size × ℤ). fits_field y.0 y.1 ≡ true) xs
each_fits [] h = All-nil _
each_fits (x ∷ xs) h = let p =
    and_parts (fits_field x.0 x.1) (all_fit xs) h in All-cons (λ (y : Size × ℤ). fits_field y.0 y.1 ≡ true) x xs p.0 (each_fits xs p.1)

pub unfit_all : (xs : List (Size × ℤ)) (x : Size × ℤ) → Contains xs x → fits_field x.0 x.1 ≡ false → all_fit xs ≡ false
unfit_all xs x c e = by_all (all_fit xs) refl
  where
    by_all : (b : Bool) → all_fit xs ≡ b → all_fit xs ≡ false
    by_all false q = q
    by_all true q = let fits : fits_field x.0 x.1 ≡ true =
        All-contains (λ (y : Size × ℤ). fits_field y.0 y.1 ≡ true) xs x (each_fits xs q) c in absurd cc
