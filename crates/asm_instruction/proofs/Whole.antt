-- What is known of an answer: from what the encoder says of the spelling, and from which arguments name symbols.
use Rattle.std.proofs.Common.{◌≡◌, ℕ, ◌+◌, ◌≤◌, Bool, true, false, List, Option, Some, None, Result, Ok, Err, refl, sym, ap, subst, ◌∙◌}
use Rattle.std.specs.Prelude.{IsTrue, IfOk, is_some, slice_get, take, if◌then◌else◌}
use Rattle.ia32_encode.specs.declared.bytes.ArrayBytes.{ArrayBytes}
use Rattle.ia32_encode.specs.declared.choose.Wide.{Wide}
use Rattle.ia32_encode.specs.Good.{SpellsWide, IsReadBack, IsPlaced}
use Rattle.asm_source.specs.declared.tree.Argument.{Argument}
use Rattle.asm_source.specs.Names.{symbol_in}
use Rattle.asm_instruction.specs.declared.draft.Draft.{Draft}
use Rattle.asm_instruction.specs.declared.mnemonic.Mnemonic.{Mnemonic}
use Rattle.asm_instruction.specs.declared.assembled.Assembled.{Assembled}
use Rattle.asm_instruction.specs.declared.assembled.Refusal.{Refusal}
use Rattle.asm_instruction.specs.declared.assembled.Refusal.TheVariants as refusal
use Rattle.asm_instruction.specs.Names.{◌>>=◌}
use Rattle.asm_instruction.specs.Argument.{names_symbol}
use Rattle.asm_instruction.specs.Assembled.{named_field, widths, whole, with_spelling, spelled, drafted_of, by_draft, by_mnemonic}
use Rattle.asm_instruction.specs.Right.{HasBoundedLength, SpellsItsInstruction, IsField, HasFields, Before, AreInOrder, IsRight, named_in}

pub symbol_there : (o : Option (List ℕ)) → is_some o ≡ true → (n : List ℕ) × (o ≡ Some n)
symbol_there (Some n) h = (n, refl)
symbol_there None h = absurd cc

abbrev argument_named : Option Argument → Bool
argument_named o = is_some (o >>= λ a. symbol_in a.form)

argument_there : (o : Option Argument) → argument_named o ≡ true → (a : Argument) × (n : List ℕ) × (o ≡ Some a)
    × (symbol_in a.form ≡ Some n)
argument_there (Some a) h = let s = symbol_there (symbol_in a.form) h in (a, s.0, refl, s.1)
argument_there None h = absurd cc

named_there : (args : List Argument) (k : ℕ) → names_symbol args (Some k) ≡ true → argument_named (slice_get args k) ≡ true
unfolding names_symbol
named_there args k h = h

none_named : (args : List Argument) → names_symbol args None ≡ false
unfolding names_symbol
none_named args = refl

field_some : (args : List Argument) (k : Option ℕ) (named : Bool) (at : ℕ) (r : Bool) → named ≡ names_symbol args k
    → is_some (named_field named k at r) ≡ named
field_some args None named at r h = sym (h ∙ none_named args)
field_some args (Some k) true at r h = refl
field_some args (Some k) false at r h = refl

field_is : (args : List Argument) (k : Option ℕ) (named : Bool) (at : ℕ) (r : Bool) (len : ℕ) → named ≡ names_symbol args k
    → (IsTrue named → at + 4 ≤ len) → IsField len args (named_field named k at r)
field_is args None named at r len h le = tt
field_is args (Some k) false at r len h le = tt
field_is args (Some k) true at r len h le = let a =
    argument_there (slice_get args k) (named_there args k (sym h)) in (le refl, a.0, a.1, a.2, a.3)

fields_before : (m n : Bool) (k j : Option ℕ) (d i : ℕ) (q r : Bool) → (IsTrue m → IsTrue n → d + 4 ≤ i)
    → Before (named_field m k d q) (named_field n j i r)
fields_before m n None None d i q r h = tt
fields_before m true None (Some j) d i q r h = tt
fields_before m false None (Some j) d i q r h = tt
fields_before true n (Some k) None d i q r h = tt
fields_before false n (Some k) None d i q r h = tt
fields_before true true (Some k) (Some j) d i q r h = h refl refl
fields_before true false (Some k) (Some j) d i q r h = tt
fields_before false true (Some k) (Some j) d i q r h = tt
fields_before false false (Some k) (Some j) d i q r h = tt

abbrev wide_of : Bool → Bool → Wide
wide_of d i = record { disp = d; imm = i }

-- The fields that are there are those that name symbols.
pub widths_named : (d : Draft) (args : List Argument) (wide : Wide) (s : ArrayBytes) → wide ≡ widths d args
    → wide ≡ named_in (whole d wide s)
unfolding widths whole
widths_named d args wide s e =
    let disp : wide.disp ≡ names_symbol args d.disp = ap (λ (w : Wide). w.disp) e in
    let imm : wide.imm ≡ names_symbol args d.imm = ap (λ (w : Wide). w.imm) e in
    ap (λ b. wide_of b wide.imm) (sym (field_some args d.disp wide.disp s.disp_at false disp))
    ∙ ap (wide_of (is_some (named_field wide.disp d.disp s.disp_at false))) (sym (field_some args d.imm wide.imm s.imm_at d.relative imm))

-- The answer has what the encoder says of its spelling.
pub whole_right : (d : Draft) (args : List Argument) (wide : Wide) (s : ArrayBytes) (a : Assembled) → wide ≡ widths d args
    → a ≡ whole d wide s
    → SpellsWide wide (take s.len s.bytes) d.insn → IsReadBack (take s.len s.bytes) d.insn s.len → IsPlaced wide s → IsRight args a
unfolding widths whole
whole_right d args wide s a e f spells back placed =
    let disp : wide.disp ≡ names_symbol args d.disp = ap (λ (w : Wide). w.disp) e in
    let imm : wide.imm ≡ names_symbol args d.imm = ap (λ (w : Wide). w.imm) e in
    let same : wide ≡ named_in (whole d wide s) = widths_named d args wide s e in
    subst (IsRight args) (sym f) (record {
      spelled = record { spells = subst (λ w. SpellsWide w (take s.len s.bytes) d.insn) same spells; read_back = back };
      short = record { some = placed.some; most = placed.most };
      fields = record {
        disp = field_is args d.disp wide.disp s.disp_at false s.len disp placed.disp;
        imm = field_is args d.imm wide.imm s.imm_at d.relative s.len imm placed.imm;
      };
      order = fields_before wide.disp wide.imm d.disp d.imm s.disp_at s.imm_at false d.relative placed.order;
    })

-- ---- the parts of what is known

pub right_spelled : (args : List Argument) (r : Result Assembled Refusal) → IfOk r (IsRight args) → IfOk r SpellsItsInstruction
right_spelled args (Ok a) h = h.spelled
right_spelled args (Err e) h = tt

pub right_short : (args : List Argument) (r : Result Assembled Refusal) → IfOk r (IsRight args) → IfOk r HasBoundedLength
right_short args (Ok a) h = h.short
right_short args (Err e) h = tt

pub right_fields : (args : List Argument) (r : Result Assembled Refusal) → IfOk r (IsRight args) → IfOk r (HasFields args)
right_fields args (Ok a) h = h.fields
right_fields args (Err e) h = tt

pub right_order : (args : List Argument) (r : Result Assembled Refusal) → IfOk r (IsRight args) → IfOk r AreInOrder
right_order args (Ok a) h = h.order
right_order args (Err e) h = tt

-- ---- the first two causes

-- not a cause of the name
abbrev pub Later : Result Assembled Refusal → Type 0
Later r = (r ≡ Err refusal.RefusedInstruction → ⊥) × (r ≡ Err refusal.UnknownInstruction → ⊥)

fitting_later : (b : Bool) (a : Assembled) → Later (if b then Ok a else Err refusal.ValueRange)
fitting_later true a = (λ e. cc, λ e. cc)
fitting_later false a = (λ e. cc, λ e. cc)

spelling_later : (d : Draft) (wide : Wide) (o : Option ArrayBytes) → Later (with_spelling d wide o)
spelling_later d wide None = (λ e. cc, λ e. cc)
spelling_later d wide (Some s) = fitting_later d.fits (whole d wide s)

draft_later : (args : List Argument) (o : Option Draft) → Later (by_draft args o)
unfolding spelled
draft_later args None = (λ e. cc, λ e. cc)
draft_later args (Some d) = spelling_later d (widths d args) _

pub mnemonic_later : (rep : Bool) (m : Mnemonic) (args : List Argument) → Later (by_mnemonic rep m args)
unfolding by_mnemonic
mnemonic_later rep m args = draft_later args (drafted_of rep m args)
