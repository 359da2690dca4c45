-- From what a statement means to what is assembled.
use Rattle.std.proofs.Common.{◌≡◌, ℕ, zero, suc, Bool, true, false, List, Option, Some, None, Ok, refl, sym, ap, ◌∙◌}
use Rattle.std.specs.Prelude.{◌==◌, ◌&&◌, is_none, is_some, if◌then◌else◌}
use Rattle.ia32_types.specs.declared.insn.Insn.{Insn}
use Rattle.ia32_types.specs.declared.site.Refused.{Refused}
use Rattle.ia32_rows.specs.Spells.{Spells}
use Rattle.ia32_encode.specs.declared.bytes.ArrayBytes.{ArrayBytes}
use Rattle.ia32_encode.specs.declared.choose.Wide.{Wide}
use Rattle.ia32_encode.specs.Chosen.{chosen}
use Rattle.ia32_encode.specs.Short.{plain}
use Rattle.ia32_encode.proofs.Laid.{none_spells}
use Rattle.ia32_encode.proofs.Taking.{none_suit}
use Rattle.asm_source.specs.declared.tree.Value.{Value}
use Rattle.asm_source.specs.declared.tree.Argument.{Argument}
use Rattle.asm_source.specs.Names.{name_of as value_name, symbol_in}
use Rattle.asm_instruction.specs.declared.argument.Operands.{Operands}
use Rattle.asm_instruction.specs.declared.draft.Draft.{Draft}
use Rattle.asm_instruction.specs.declared.mnemonic.Mnemonic.{Mnemonic}
use Rattle.asm_instruction.specs.declared.assembled.Assembled.{Assembled}
use Rattle.asm_instruction.specs.Names.{found}
use Rattle.asm_instruction.specs.Argument.{operands_of as taken_by, names_symbol}
use Rattle.asm_instruction.specs.Mnemonic.{known_name, drafted}
use Rattle.asm_instruction.specs.Refused.{refused_names}
use Rattle.asm_instruction.specs.Assembled.{widths, whole, spelled, drafted_of, by_mnemonic, assembled}
use Rattle.asm_instruction.proofs.KnownNames.{refused_unknown, found_refused}
use Rattle.ia32_text.specs.declared.operands.Written.{Written}
use Rattle.ia32_text.specs.declared.operands.Written.TheVariants as written
use Rattle.ia32_text.specs.declared.operands.Operands.{Operands as WrittenOperands}
use Rattle.ia32_text.specs.declared.operands.Operands.TheVariants as operands
use Rattle.ia32_text.specs.Arguments.{form_of, arguments_of}
use Rattle.ia32_text.proofs.Reading.{IsWritten, AreWritten, taken_of, operands_back}

-- ---- a spelled instruction has a chosen spelling

none_chosen : (bytes : List ℕ) (i : Insn) → Spells bytes i → chosen plain i ≡ None → ⊥
none_chosen bytes i s e =
    none_spells plain i (none_suit plain i e) bytes
    (record { row = s.row; listed = s.listed; parts = s.parts; by_row = s.by_row; disp = λ t. absurd cc; imm = λ t. absurd cc })

there : (o : Option ArrayBytes) → (o ≡ None → ⊥) → (a : ArrayBytes) × (o ≡ Some a)
there None h = absurd (h refl)
there (Some a) h = (a, refl)

pub spelled_chosen : (bytes : List ℕ) (i : Insn) → Spells bytes i → (a : ArrayBytes) × (chosen plain i ≡ Some a)
spelled_chosen bytes i s = there (chosen plain i) (none_chosen bytes i s)

-- ---- no argument names a symbol

if_unnamed : (b c : Bool) (x y : Value) → x.name ≡ None → y.name ≡ None
    → value_name (if b then Some x else if c then None else Some y) ≡ None
if_unnamed true c x y p q = p
if_unnamed false true x y p q = refl
if_unnamed false false x y p q = q

form_unnamed : (w : Written) → IsWritten w → symbol_in (form_of w) ≡ None
form_unnamed (written.Register s n) h = refl
form_unnamed (written.Segment g) h = refl
form_unnamed (written.Control n) h = refl
form_unnamed (written.Memory a) h = if_unnamed (is_none a.base && is_none a.index) (a.disp == 0 && is_some a.base) _ _ refl refl
form_unnamed (written.Immediate n) h = refl
form_unnamed written.Port h = refl
form_unnamed (written.Label n) h = absurd h

unnamed : (o : WrittenOperands) → AreWritten o → (k : Option ℕ) → names_symbol (arguments_of o) k ≡ false
unfolding names_symbol arguments_of
unnamed operands.Nothing h None = refl
unnamed operands.Nothing h (Some k) = refl
unnamed (operands.One x) h None = refl
unnamed (operands.One x) h (Some zero) = ap is_some (form_unnamed x h)
unnamed (operands.One x) h (Some (suc k)) = refl
unnamed (operands.Starred x) h None = refl
unnamed (operands.Starred x) h (Some zero) = ap is_some (form_unnamed x h)
unnamed (operands.Starred x) h (Some (suc k)) = refl
unnamed (operands.Two x y) h None = refl
unnamed (operands.Two x y) h (Some zero) = ap is_some (form_unnamed x h.0)
unnamed (operands.Two x y) h (Some (suc zero)) = ap is_some (form_unnamed y h.1)
unnamed (operands.Two x y) h (Some (suc (suc k))) = refl
unnamed (operands.Three x y z) h None = refl
unnamed (operands.Three x y z) h (Some zero) = ap is_some (form_unnamed x h.0)
unnamed (operands.Three x y z) h (Some (suc zero)) = ap is_some (form_unnamed y h.1)
unnamed (operands.Three x y z) h (Some (suc (suc zero))) = ap is_some (form_unnamed z h.2)
unnamed (operands.Three x y z) h (Some (suc (suc (suc k)))) = refl

plain_widths : (o : WrittenOperands) → AreWritten o → (d : Draft) → widths d (arguments_of o) ≡ plain
unfolding widths
plain_widths o h d = rw (unnamed o h d.disp, unnamed o h d.imm) refl

-- ---- the answer

not_refused_as : (name : List ℕ) (m : Mnemonic) → known_name name ≡ Some m → (o : Option Refused)
    → found refused_names name ≡ o → is_some o ≡ false
not_refused_as name m e None h = refl
not_refused_as name m e (Some r) h = absurd (let n : None ≡ Some m = sym (refused_unknown name (found_refused name r h)) ∙ e in cc)

not_refused : (name : List ℕ) (m : Mnemonic) → known_name name ≡ Some m → is_some (found refused_names name) ≡ false
not_refused name m e = not_refused_as name m e (found refused_names name) refl

-- a name and operands mean this instruction, and each number fits
pub record Means (i : Insn) (name : List ℕ) (o : WrittenOperands) : Type 0 where
  pub mnemonic : Mnemonic
  pub named : known_name name ≡ Some mnemonic
  pub written : AreWritten o
  pub draft : Draft
  pub drafted_as : drafted i.rep mnemonic (taken_of o) ≡ Some draft
  pub same : draft.insn ≡ i
  pub fits : draft.fits ≡ true

-- what is assembled is the instruction
pub record Assembles (i : Insn) (name : List ℕ) (args : List Argument) : Type 0 where
  pub answer : Assembled
  pub assembled_as : assembled i.rep name args ≡ Ok answer
  pub same : answer.insn ≡ i
  pub spelling_is : chosen plain i ≡ Some answer.spelling

spells_as : (d : Draft) (args : List Argument) (a : ArrayBytes) → widths d args ≡ plain → chosen plain d.insn ≡ Some a → d.fits ≡ true
    → spelled d args ≡ Ok (whole d plain a)
unfolding spelled
spells_as d args a w e f = rw (w, e, f) refl

drafts_as : (i : Insn) (m : Mnemonic) (args : List Argument) (os : Operands) (d : Draft) → taken_by args ≡ Some os
    → drafted i.rep m os ≡ Some d → drafted_of i.rep m args ≡ Some d
unfolding drafted_of
drafts_as i m args os d e f = rw e f

pub assembles_as : (rep : Bool) (name : List ℕ) (m : Mnemonic) (args : List Argument) (d : Draft) (a : Assembled) → known_name name ≡ Some m
    → drafted_of rep m args ≡ Some d
    → spelled d args ≡ Ok a → assembled rep name args ≡ Ok a
unfolding assembled by_mnemonic
assembles_as rep name m args d a e f g = rw (not_refused name m e, e, f) g

whole_insn : (d : Draft) (w : Wide) (a : ArrayBytes) → (whole d w a).insn ≡ d.insn
unfolding whole
whole_insn d w a = refl

whole_spelling : (d : Draft) (w : Wide) (a : ArrayBytes) → (whole d w a).spelling ≡ a
unfolding whole
whole_spelling d w a = refl

pub assembles : (i : Insn) (name : List ℕ) (o : WrittenOperands) (a : ArrayBytes) → chosen plain i ≡ Some a → Means i name o
    → Assembles i name (arguments_of o)
assembles i name o a e m =
    let args = arguments_of o in
    let w = plain_widths o m.written m.draft in
    let c : chosen plain m.draft.insn ≡ Some a = ap (chosen plain) m.same ∙ e in
    let d = drafts_as i m.mnemonic args (taken_of o) m.draft (operands_back o m.written) m.drafted_as in
    record {
      answer = whole m.draft plain a;
      assembled_as =
          assembles_as i.rep name m.mnemonic args m.draft (whole m.draft plain a) m.named d (spells_as m.draft args a w c m.fits);
      same = whole_insn m.draft plain a ∙ m.same;
      spelling_is = e ∙ ap (λ (x : ArrayBytes). Some x) (sym (whole_spelling m.draft plain a));
    }
