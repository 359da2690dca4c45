-- The first row that can have an instruction: rows that can't suit are passed by.
use Rattle.std.proofs.Common.{◌≡◌, ℕ, Bool, true, false, List, [], ◌∷◌, Option, Some, None, refl, sym, ap, subst, ◌∙◌, inl, inr, ◌⊎◌, arith}
use Rattle.std.specs.Prelude.{◌&&◌, nat_le, if◌then◌else◌}
use Rattle.std.specs.Cmp.Derive.{both_true}
use Rattle.std.proofs.lemmas.Bool.{eq-eqb, false≢true}
use Rattle.std.proofs.lemmas.Bool.Decides.{nat_tests}
use denote.Enum.Bare.{true_same}
use Rattle.ia32_types.specs.contracts.insn.Op.{the_type}
use Rattle.ia32_types.specs.declared.insn.Insn.{Insn}
use Rattle.ia32_types.specs.declared.insn.Op.{Op}
use Rattle.ia32_types.specs.declared.size.Size.{Size}
use Rattle.ia32_types.specs.Size.{width}
use Rattle.ia32_rows.specs.declared.row.Row.{Row}
use Rattle.ia32_rows.specs.Rows.{rows}
use Rattle.ia32_rows.specs.Spelling.{insn_of}
use Rattle.ia32_encode.specs.declared.choose.Wide.{Wide}
use Rattle.ia32_encode.specs.Same.{same_op, same_size}
use Rattle.ia32_encode.specs.Chosen.{chosen, chosen_from}
use Rattle.ia32_encode.specs.Good.{Suits}
use Rattle.ia32_encode.specs.Parts.{parts_for}
use Rattle.ia32_encode.specs.Text.{laid_out}
use Rattle.ia32_encode.proofs.Function.{suits_true, fails}

-- a test that each row which suits the instruction passes
abbrev pub Needs : (Row → Bool) → Wide → Insn → Type 0
Needs can w i = (r : Row) → Suits r w i → can r ≡ true

-- the first row of a table that passes a test
abbrev pub first_that : (Row → Bool) → List Row → Option Row
first_that can [] = None
first_that can (r ∷ table) = if can r then Some r else first_that can table

found_here : (b : Bool) (x r : Row) (rest : Option Row) → (if b then Some x else rest) ≡ Some r → (x ≡ r) ⊎ ((b ≡ false) × (rest ≡ Some r))
found_here true x r rest e = inl cc
found_here false x r rest e = inr (refl, e)

found_nowhere : (b : Bool) (x : Row) (rest : Option Row) → (if b then Some x else rest) ≡ None → (b ≡ false) × (rest ≡ None)
found_nowhere true x rest e = absurd cc
found_nowhere false x rest e = (refl, e)

passed_by : (can : Row → Bool) (w : Wide) (i : Insn) → Needs can w i → (x : Row) (table : List Row) → can x ≡ false
    → chosen_from (x ∷ table) w i ≡ chosen_from table w i
unfolding chosen_from
passed_by can w i needs x table f = rw (fails x w i (λ s. false≢true (sym f ∙ needs x s))) refl

suited_first : (r : Row) (after : List Row) (w : Wide) (i : Insn) → Suits r w i
    → chosen_from (r ∷ after) w i ≡ Some (laid_out r.form (parts_for r w.disp i))
unfolding chosen_from
suited_first r after w i s = rw (suits_true r w i s) refl

chosen_in : (can : Row → Bool) (w : Wide) (i : Insn) → Needs can w i → (table : List Row) (r : Row) → first_that can table ≡ Some r
    → Suits r w i → chosen_from table w i ≡ Some (laid_out r.form (parts_for r w.disp i))
chosen_in can w i needs [] r e s = absurd cc
chosen_in can w i needs (x ∷ table) r e s =
    elim (found_here (can x) x r (first_that can table) e) [
      | inl same ↦ subst (λ (y : Row). chosen_from (y ∷ table) w i ≡ Some (laid_out r.form (parts_for r w.disp i))) (sym same)
          (suited_first r table w i s)
      | inr behind ↦ passed_by can w i needs x table behind.0 ∙ chosen_in can w i needs table r behind.1 s
    ]

-- what is chosen is by the first row that can suit, if it does
pub first_of : (can : Row → Bool) (w : Wide) (i : Insn) → Needs can w i → (r : Row) → first_that can rows ≡ Some r → Suits r w i
    → chosen w i ≡ Some (laid_out r.form (parts_for r w.disp i))
unfolding chosen
first_of can w i needs r e s = chosen_in can w i needs rows r e s

none_in : (can : Row → Bool) (w : Wide) (i : Insn) → Needs can w i → (table : List Row) → first_that can table ≡ None
    → chosen_from table w i ≡ None
unfolding chosen_from
none_in can w i needs [] e = refl
none_in can w i needs (x ∷ table) e =
    let none = found_nowhere (can x) x (first_that can table) e in
    passed_by can w i needs x table none.0 ∙ none_in can w i needs table none.1

pub none_of : (can : Row → Bool) (w : Wide) (i : Insn) → Needs can w i → first_that can rows ≡ None → chosen w i ≡ None
unfolding chosen
none_of can w i needs e = none_in can w i needs rows e

-- rows of this instruction and size
abbrev pub is_of : Op → Size → Row → Bool
is_of o s r = same_op r.op o && same_size r.size s

pub needs_same : (w : Wide) (i : Insn) → Needs (is_of i.op i.size) w i
unfolding insn_of
needs_same w i r s = both_true (true_same the_type r.op i.op (ap (λ (j : Insn). j.op) s.means))
    (eq-eqb (width r.size) (width i.size) (ap (λ (j : Insn). width j.size) s.means))

pub code_itself : (n : ℕ) → (nat_le n n && nat_le n n) ≡ true
code_itself n = grind (arith, nat_tests)
