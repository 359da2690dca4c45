-- What is known of each answer of the function.
use Rattle.std.proofs.Common.{◌≡◌, ℕ, Bool, true, false, List, Option, Some, None, Ok, Err, refl, sym, ap, subst, ◌∙◌}
use Rattle.std.specs.Prelude.{is_some, if◌then◌else◌}
use Rattle.ia32_encode.specs.declared.bytes.ArrayBytes.{ArrayBytes}
use Rattle.ia32_encode.specs.declared.choose.Wide.{Wide}
use Rattle.ia32_encode.specs.Chosen.{chosen}
use Rattle.ia32_encode.proofs.Taking.{chosen_good}
use Rattle.asm_source.specs.declared.tree.Argument.{Argument}
use Rattle.asm_instruction.specs.declared.draft.Draft.{Draft}
use Rattle.asm_instruction.specs.declared.mnemonic.Mnemonic.{Mnemonic}
use Rattle.asm_instruction.specs.declared.assembled.Assembled.{Assembled}
use Rattle.asm_instruction.specs.declared.assembled.Named.{Named}
use Rattle.asm_instruction.specs.declared.assembled.Refusal.TheVariants as refusal
use Rattle.asm_instruction.specs.Names.{found}
use Rattle.asm_instruction.specs.Argument.{operands_of, names_symbol}
use Rattle.asm_instruction.specs.Mnemonic.{known_name, drafted}
use Rattle.asm_instruction.specs.Refused.{refused_names}
use Rattle.asm_instruction.specs.Assembled.{named_field, widths, whole, with_spelling, spelled, drafted_of, by_draft, by_mnemonic, by_name, assembled}
use Rattle.asm_instruction.specs.Right.{IsRight, IsBranchRight, IsFromChosen}
use Rattle.asm_instruction.proofs.Goods.{When, bind_from, OperandsGood, DraftGood}
use Rattle.asm_instruction.proofs.Drafts.{drafted_good}
use Rattle.asm_instruction.proofs.Naming.{operands_good, MnemonicGood, known_good}
use Rattle.asm_instruction.proofs.Whole.{whole_right, widths_named}

-- where an answer comes from
record Spelled (args : List Argument) (a : Assembled) : Type 0 where
  draft : Draft
  good : DraftGood args draft
  spelling : ArrayBytes
  is_chosen : chosen (widths draft args) draft.insn ≡ Some spelling
  is : a ≡ whole draft (widths draft args) spelling

fitting_is : (b : Bool) (x a : Assembled) → (if b then Ok x else Err refusal.ValueRange) ≡ Ok a → a ≡ x
fitting_is true x a e = cc
fitting_is false x a e = absurd cc

pub spelling_is : (d : Draft) (w : Wide) (o : Option ArrayBytes) (a : Assembled) → with_spelling d w o ≡ Ok a → (s : ArrayBytes)
    × (o ≡ Some s) × (a ≡ whole d w s)
spelling_is d w None a e = absurd cc
spelling_is d w (Some s) a e = (s, refl, fitting_is d.fits (whole d w s) a e)

draft_is : (args : List Argument) (o : Option Draft) (a : Assembled) → When (DraftGood args) o → by_draft args o ≡ Ok a → Spelled args a
unfolding spelled
draft_is args None a h e = absurd cc
draft_is args (Some d) a h e =
    let s = spelling_is d (widths d args) (chosen (widths d args) d.insn) a e in
    record { draft = d; good = h; spelling = s.0; is_chosen = s.1; is = s.2 }

pub drafted_of_good : (args : List Argument) (rep : Bool) (m : Mnemonic) → MnemonicGood m → When (DraftGood args) (drafted_of rep m args)
unfolding drafted_of
drafted_of_good args rep m e = bind_from (OperandsGood args) (DraftGood args) (operands_of args) (λ os. drafted rep m os)
    (operands_good args) (λ os h. drafted_good args rep m os e h)

name_is : (rep : Bool) (args : List Argument) (o : Option Mnemonic) (a : Assembled) → When MnemonicGood o
    → by_name rep args o ≡ Ok a → Spelled args a
unfolding by_mnemonic
name_is rep args None a h e = absurd cc
name_is rep args (Some m) a h e = draft_is args (drafted_of rep m args) a (drafted_of_good args rep m h) e

refused_is : (b : Bool) (rep : Bool) (name : List ℕ) (args : List Argument) (a : Assembled)
    → (if b then Err refusal.RefusedInstruction else by_name rep args (known_name name)) ≡ Ok a → Spelled args a
refused_is true rep name args a e = absurd cc
refused_is false rep name args a e = name_is rep args (known_name name) a (known_good name) e

assembled_is : (rep : Bool) (name : List ℕ) (args : List Argument) (a : Assembled) → assembled rep name args ≡ Ok a → Spelled args a
unfolding assembled
assembled_is rep name args a e = refused_is (is_some (found refused_names name)) rep name args a e

-- Each answer is spelled and read back, short, and its fields name symbols.
pub answer_right : (rep : Bool) (name : List ℕ) (args : List Argument) (a : Assembled) → assembled rep name args ≡ Ok a → IsRight args a
answer_right rep name args a e =
    let s = assembled_is rep name args a e in
    let g = chosen_good (widths s.draft args) s.draft.insn s.spelling s.is_chosen s.good.bounded in
    whole_right s.draft args (widths s.draft args) s.spelling a refl s.is g.spells g.read_back g.placed

-- ---- direct branches

abbrev named_at : ℕ → ℕ → Bool → Named
named_at at k r = record { at = at; argument = k; relative = r }

field_named : (named : Bool) (k : Option ℕ) (at : ℕ) (r : Bool) (j : ℕ) → named ≡ true → k ≡ Some j
    → named_field named k at r ≡ Some (named_at at j r)
field_named named k at r j h e = rw (h, e) refl

some_same : (x y : Named) → Some x ≡ Some y → x ≡ y
some_same x y e = cc

field_relative : (named : Bool) (k : Option ℕ) (at : ℕ) (r : Bool) (f : Named) → named_field named k at r ≡ Some f → f.relative ≡ r
field_relative named None at r f e = absurd cc
field_relative false (Some k) at r f e = absurd cc
field_relative true (Some k) at r f e = ap (λ (n : Named). n.relative) (sym (some_same (named_at at k r) f e))

whole_branch : (d : Draft) (args : List Argument) (s : ArrayBytes) → DraftGood args d → IsBranchRight args (whole d (widths d args) s)
unfolding widths whole
whole_branch d args s g = record {
  direct = λ t.
      let q = g.direct t in
      record {
        field_there = named_at s.imm_at q.argument d.relative;
        is = field_named (names_symbol args d.imm) d.imm s.imm_at d.relative q.argument (ap (names_symbol args) q.is ∙ q.named) q.is;
        relative = q.relative;
        constant = q.constant;
      };
  only = λ f e t. g.relative (sym (field_relative (names_symbol args d.imm) d.imm s.imm_at d.relative f e) ∙ t);
}

pub answer_branch : (rep : Bool) (name : List ℕ) (args : List Argument) (a : Assembled) → assembled rep name args ≡ Ok a
    → IsBranchRight args a
answer_branch rep name args a e =
    let s = assembled_is rep name args a e in
    subst (IsBranchRight args) (sym s.is) (whole_branch s.draft args s.spelling s.good)

-- ---- the places of the fields

field_at : (named : Bool) (k : Option ℕ) (at : ℕ) (r : Bool) (f : Named) → named_field named k at r ≡ Some f → f.at ≡ at
field_at named None at r f e = absurd cc
field_at false (Some k) at r f e = absurd cc
field_at true (Some k) at r f e = ap (λ (n : Named). n.at) (sym (some_same (named_at at k r) f e))

whole_chosen : (d : Draft) (args : List Argument) (s : ArrayBytes) → DraftGood args d → chosen (widths d args) d.insn ≡ Some s
    → IsFromChosen (whole d (widths d args) s)
unfolding whole
whole_chosen d args s g e = record {
  chosen_there = subst (λ w. chosen w d.insn ≡ Some s) (widths_named d args (widths d args) s refl) e;
  bounded = g.bounded;
  disp_at = λ f h. field_at (widths d args).disp d.disp s.disp_at false f h;
  imm_at = λ f h. field_at (widths d args).imm d.imm s.imm_at d.relative f h;
}

pub answer_chosen : (rep : Bool) (name : List ℕ) (args : List Argument) (a : Assembled) → assembled rep name args ≡ Ok a → IsFromChosen a
answer_chosen rep name args a e =
    let s = assembled_is rep name args a e in
    subst IsFromChosen (sym s.is) (whole_chosen s.draft args s.spelling s.good s.is_chosen)
