-- One argument: what the terminals so far say, and how it may go on.
use Rattle.std.proofs.Common.{◌≡◌, ℕ, Bool, true, false, cond, List, [], ◌∷◌, ◌++◌, Option, Some, None, Result, Ok, Err, refl, sym, ap, subst, ◌∙◌, append_assoc}
use Rattle.std.proofs.lemmas.List.{append-nil}
use Rattle.std.specs.Prelude.{ℤ, pos, not}
use Rattle.asm_lex.specs.declared.fault.SourceCause.{SourceCause}
use Rattle.asm_lex.specs.declared.fault.SourceCause.TheVariants as cause
use Rattle.asm_argument.specs.declared.terminal.Terminal.{Terminal}
use Rattle.asm_argument.specs.declared.terminal.Terminal.TheVariants as terminal
use Rattle.asm_argument.specs.declared.shape.Shape.{Shape}
use Rattle.asm_argument.specs.declared.shape.Shape.TheVariants as shape
use Rattle.asm_argument.specs.declared.operand.ValuePlace.{ValuePlace}
use Rattle.asm_argument.specs.declared.operand.ValuePlace.TheVariants as place
use Rattle.asm_argument.specs.declared.operand.Partial.{Partial}
use Rattle.asm_argument.specs.declared.operand.Partial.TheVariants as partial
use Rattle.asm_source.specs.declared.tree.Value.{Value}
use Rattle.asm_source.specs.declared.tree.Form.{Form}
use Rattle.asm_source.specs.declared.tree.Form.TheVariants as form
use Rattle.asm_argument.specs.Grammar.{IsConstant, IsValue, IsAddress, IsForm}
use Rattle.asm_argument.specs.Operand.{begun, counted, allowed, lowered, registered, first, open_paren, address_step, next_terminal, finished}
use Rattle.asm_argument.specs.Shapes.{takes_names, takes_sums, takes_minus, takes_numbers, takes_text, takes_absent, fits, signed, named, plain, is_operand, is_low, is_register, is_scale}
pub use Rattle.asm_argument.proofs.Forming.{ok, next_default, operand_run, Reads, absent_begun, form_reads}
use Rattle.asm_argument.proofs.Forming.{operand_takes, operand_fits}

-- ---- what has been read so far

pub registered_ok : (b : Bool) (p q : Partial) → registered b p ≡ ok q → (b ≡ true) × (p ≡ q)
registered_ok true p q h = (refl, cc)
registered_ok false p q h = absurd cc

pub allowed_ok : (b : Bool) (p q : Partial) → allowed b p ≡ ok q → (b ≡ true) × (p ≡ q)
allowed_ok true p q h = (refl, cc)
allowed_ok false p q h = absurd cc

pub counted_ok : (may fit : Bool) (p q : Partial) → counted may fit p ≡ ok q → (may ≡ true) × (fit ≡ true) × (p ≡ q)
counted_ok true true p q h = (refl, refl, cc)
counted_ok true false p q h = absurd cc
counted_ok false fit p q h = absurd cc

pub lowered_ok : (n : ℕ) (fit : Bool) (p q : Partial) → lowered n fit p ≡ ok q → (is_low n ≡ true) × (fit ≡ true) × (p ≡ q)
lowered_ok n fit p q h = by_test (is_low n) refl h
  where
    by_test : (t : Bool) → is_low n ≡ t → ◌≡◌ {A = Result Partial SourceCause} (cond t (counted true fit p) (Err cause.BadNumber)) (Ok q)
        → (is_low n ≡ true) × (fit ≡ true) × (p ≡ q)
    by_test true e h = let g = counted_ok true fit p q h in (e, g.1, g.2)
    by_test false e h = absurd cc

pub scale_ok : (n : ℕ) (p q : Partial) → ◌≡◌ {A = Result Partial SourceCause} (cond (is_scale n) (Ok p) (Err cause.BadScale)) (Ok q)
    → (is_scale n ≡ true) × (p ≡ q)
scale_ok n p q h = by_test (is_scale n) refl h
  where
    by_test : (t : Bool) → is_scale n ≡ t → ◌≡◌ {A = Result Partial SourceCause} (cond t (Ok p) (Err cause.BadScale)) (Ok q)
        → (is_scale n ≡ true) × (p ≡ q)
    by_test true e h = (e, cc)
    by_test false e h = absurd cc

pub ok_is : (p q : Partial) → ok p ≡ ok q → p ≡ q
ok_is p q h = cc

pub data OptValue : Shape → List Terminal → Option Value → Type 0 where
  none : {sh : Shape} → OptValue sh [] None
  some : {sh : Shape} {vs : List Terminal} {v : Value} → IsValue sh vs v → OptValue sh vs (Some v)

-- the value in front of the parentheses
abbrev value_of : Partial → Option Value
value_of (partial.Open v) = v
value_of (partial.BasePercent v) = v
value_of (partial.Base v b) = v
value_of (partial.IndexComma v b) = v
value_of (partial.IndexPercent v b) = v
value_of (partial.Index v b i) = v
value_of (partial.Scale v b i) = v
value_of (partial.Scaled v b i s) = v
value_of _ = None

-- the terminals of a base with its comma
abbrev pub base_part : Option (List ℕ) → List Terminal
base_part None = terminal.Open ∷ terminal.Comma ∷ []
base_part (Some b) = terminal.Open ∷ terminal.Percent ∷ terminal.Name b ∷ terminal.Comma ∷ []

abbrev pub IsBase : Option (List ℕ) → Type 0
IsBase None = Unit {0}
IsBase (Some b) = is_register b ≡ true

-- what has been read since the parenthesis opened
abbrev pub Inside : Option Value → Partial → List Terminal → Type 0
Inside ov (partial.Open v) ps = (v ≡ ov) × (ps ≡ terminal.Open ∷ [])
Inside ov (partial.BasePercent v) ps = (v ≡ ov) × (ps ≡ terminal.Open ∷ terminal.Percent ∷ [])
Inside ov (partial.Base v b) ps = (v ≡ ov) × (ps ≡ terminal.Open ∷ terminal.Percent ∷ terminal.Name b ∷ []) × (is_register b ≡ true)
Inside ov (partial.IndexComma v b) ps = (v ≡ ov) × (ps ≡ base_part b) × IsBase b
Inside ov (partial.IndexPercent v b) ps = (v ≡ ov) × (ps ≡ base_part b ++ terminal.Percent ∷ []) × IsBase b
Inside ov (partial.Index v b i) ps =
    (v ≡ ov) × (ps ≡ base_part b ++ terminal.Percent ∷ terminal.Name i ∷ []) × IsBase b × (is_register i ≡ true)
Inside ov (partial.Scale v b i) ps =
    (v ≡ ov) × (ps ≡ base_part b ++ terminal.Percent ∷ terminal.Name i ∷ terminal.Comma ∷ []) × IsBase b × (is_register i ≡ true)
Inside ov (partial.Scaled v b i s) ps = (v ≡ ov)
    × (ps ≡ base_part b ++ terminal.Percent ∷ terminal.Name i ∷ terminal.Comma ∷ terminal.Number s ∷ []) × IsBase b × (is_register i ≡ true)
    × (is_scale s ≡ true)
Inside ov (partial.Whole f) ps = (b : Option (List ℕ)) × (i : Option (List ℕ)) × (s : ℕ) × (f ≡ form.Memory ov b i s) × IsAddress ps b i s
Inside ov _ ps = ⊥

-- one terminal more at the end
ending : (ps qs : List Terminal) (s : Terminal) → ps ≡ qs → ps ++ s ∷ [] ≡ qs ++ s ∷ []
ending ps qs s e = ap (λ (x : List Terminal). x ++ s ∷ []) e

inside_step : (ov : Option Value) (p : Partial) (s : Terminal) (q : Partial) (ps : List Terminal) → Inside ov p ps → address_step p s ≡ ok q
    → Inside ov q (ps ++ s ∷ [])
inside_step ov (partial.Open v) terminal.Percent q ps h e =
    subst (λ (x : Partial). Inside ov x (ps ++ terminal.Percent ∷ [])) (ok_is (partial.BasePercent v) q e) (h.0, ending _ _ _ h.1)
inside_step ov (partial.Open v) terminal.Comma q ps h e =
    subst (λ (x : Partial). Inside ov x (ps ++ terminal.Comma ∷ [])) (ok_is (partial.IndexComma v None) q e) (h.0, ending _ _ _ h.1, tt)
inside_step ov (partial.Open v) _ q ps h e = absurd cc
inside_step ov (partial.BasePercent v) (terminal.Name r) q ps h e =
    let g = registered_ok (is_register r) (partial.Base v r) q e in
    subst (λ (x : Partial). Inside ov x (ps ++ terminal.Name r ∷ [])) g.1 (h.0, ending _ _ _ h.1, g.0)
inside_step ov (partial.BasePercent v) _ q ps h e = absurd cc
inside_step ov (partial.Base v b) terminal.Close q ps h e =
    subst (λ (x : Partial). Inside ov x (ps ++ terminal.Close ∷ [])) (ok_is (partial.Whole (form.Memory v (Some b) None 1)) q e) (
      Some b,
      None,
      1,
      ap (λ (y : Option Value). form.Memory y (Some b) None 1) h.0,
      subst (λ (y : List Terminal). IsAddress y (Some b) None 1) (sym (ending _ _ terminal.Close h.1)) (IsAddress.base h.2),
    )
inside_step ov (partial.Base v b) terminal.Comma q ps h e = subst (λ (x : Partial). Inside ov x (ps ++ terminal.Comma ∷ []))
    (ok_is (partial.IndexComma v (Some b)) q e) (h.0, ending _ _ _ h.1, h.2)
inside_step ov (partial.Base v b) _ q ps h e = absurd cc
inside_step ov (partial.IndexComma v b) terminal.Percent q ps h e =
    subst (λ (x : Partial). Inside ov x (ps ++ terminal.Percent ∷ [])) (ok_is (partial.IndexPercent v b) q e) (h.0, ending _ _ _ h.1, h.2)
inside_step ov (partial.IndexComma v b) _ q ps h e = absurd cc
inside_step ov (partial.IndexPercent v b) (terminal.Name r) q ps h e =
    let g = registered_ok (is_register r) (partial.Index v b r) q e in
    subst (λ (x : Partial). Inside ov x (ps ++ terminal.Name r ∷ [])) g.1 (
      h.0,
      ending _ _ _ h.1 ∙ append_assoc (base_part b) (terminal.Percent ∷ []) (terminal.Name r ∷ []),
      h.2,
      g.0,
    )
inside_step ov (partial.IndexPercent v b) _ q ps h e = absurd cc
inside_step ov (partial.Index v None i) terminal.Close q ps h e =
    subst (λ (x : Partial). Inside ov x (ps ++ terminal.Close ∷ [])) (ok_is (partial.Whole (form.Memory v None (Some i) 1)) q e) (
      None,
      Some i,
      1,
      ap (λ (y : Option Value). form.Memory y None (Some i) 1) h.0,
      subst (λ (y : List Terminal). IsAddress y None (Some i) 1) (sym (ending _ _ terminal.Close h.1)) (IsAddress.index h.3),
    )
inside_step ov (partial.Index v (Some b) i) terminal.Close q ps h e =
    subst (λ (x : Partial). Inside ov x (ps ++ terminal.Close ∷ [])) (ok_is (partial.Whole (form.Memory v (Some b) (Some i) 1)) q e) (
      Some b,
      Some i,
      1,
      ap (λ (y : Option Value). form.Memory y (Some b) (Some i) 1) h.0,
      subst (λ (y : List Terminal). IsAddress y (Some b) (Some i) 1) (sym (ending _ _ terminal.Close h.1)) (IsAddress.base_index h.2 h.3),
    )
inside_step ov (partial.Index v b i) terminal.Comma q ps h e = subst (λ (x : Partial). Inside ov x (ps ++ terminal.Comma ∷ []))
    (ok_is (partial.Scale v b i) q e) (
      h.0,
      ending _ _ _ h.1 ∙ append_assoc (base_part b) (terminal.Percent ∷ terminal.Name i ∷ []) (terminal.Comma ∷ []),
      h.2,
      h.3,
    )
inside_step ov (partial.Index v b i) _ q ps h e = absurd cc
inside_step ov (partial.Scale v b i) (terminal.Number n) q ps h e =
    let g = scale_ok n (partial.Scaled v b i n) q e in
    subst (λ (x : Partial). Inside ov x (ps ++ terminal.Number n ∷ [])) g.1 (
      h.0,
      ending _ _ _ h.1 ∙ append_assoc (base_part b) (terminal.Percent ∷ terminal.Name i ∷ terminal.Comma ∷ []) (terminal.Number n ∷ []),
      h.2,
      h.3,
      g.0,
    )
inside_step ov (partial.Scale v b i) _ q ps h e = absurd cc
inside_step ov (partial.Scaled v None i n) terminal.Close q ps h e =
    subst (λ (x : Partial). Inside ov x (ps ++ terminal.Close ∷ [])) (ok_is (partial.Whole (form.Memory v None (Some i) n)) q e) (
      None,
      Some i,
      n,
      ap (λ (y : Option Value). form.Memory y None (Some i) n) h.0,
      subst (λ (y : List Terminal). IsAddress y None (Some i) n) (sym (ending _ _ terminal.Close h.1)) (IsAddress.scaled h.3 h.4),
    )
inside_step ov (partial.Scaled v (Some b) i n) terminal.Close q ps h e =
    subst (λ (x : Partial). Inside ov x (ps ++ terminal.Close ∷ [])) (ok_is (partial.Whole (form.Memory v (Some b) (Some i) n)) q e) (
      Some b,
      Some i,
      n,
      ap (λ (y : Option Value). form.Memory y (Some b) (Some i) n) h.0,
      subst (λ (y : List Terminal). IsAddress y (Some b) (Some i) n) (sym (ending _ _ terminal.Close h.1))
          (IsAddress.base_scaled h.2 h.3 h.4),
    )
inside_step ov (partial.Scaled v b i n) _ q ps h e = absurd cc
inside_step ov (partial.Whole f) _ q ps h e = absurd cc
inside_step ov partial.Absent _ q ps h e = absurd h
inside_step ov partial.Nothing _ q ps h e = absurd h
inside_step ov partial.Percent _ q ps h e = absurd h
inside_step ov partial.Dollar _ q ps h e = absurd h
inside_step ov (partial.Minus a) _ q ps h e = absurd h
inside_step ov (partial.Name a n) _ q ps h e = absurd h
inside_step ov (partial.Sign a n b) _ q ps h e = absurd h
inside_step ov (partial.SignMinus a n b) _ q ps h e = absurd h
inside_step ov (partial.Number a v) _ q ps h e = absurd h

abbrev pub lead : ValuePlace → List Terminal
lead place.Immediate = terminal.Dollar ∷ []
lead place.Memory = []

abbrev pub InPlace : Shape → ValuePlace → Type 0
InPlace sh place.Immediate = is_operand sh ≡ true
InPlace sh place.Memory = Unit {0}

abbrev pub sign : Bool → Terminal
sign true = terminal.Minus
sign false = terminal.Plus

pub record WithAddress (sh : Shape) (p : Partial) (ss : List Terminal) : Type 0 where
  pub operand : is_operand sh ≡ true
  pub front : Option Value
  pub values : List Terminal
  pub parts : List Terminal
  pub is_value : OptValue sh values front
  pub inside : Inside front p parts
  pub whole : ss ≡ values ++ parts

-- these terminals lead to this state
abbrev pub Spelled : Shape → Partial → List Terminal → Type 0
Spelled sh partial.Nothing ss = ss ≡ []
Spelled sh partial.Absent ss = (ss ≡ []) × (takes_absent sh ≡ true)
Spelled sh partial.Percent ss = (is_operand sh ≡ true) × (ss ≡ terminal.Percent ∷ [])
Spelled sh partial.Dollar ss = (is_operand sh ≡ true) × (ss ≡ terminal.Dollar ∷ [])
Spelled sh (partial.Minus p) ss = InPlace sh p × (takes_minus sh ≡ true) × (ss ≡ lead p ++ terminal.Minus ∷ [])
Spelled sh (partial.Name p n) ss = InPlace sh p × (takes_names sh ≡ true) × (ss ≡ lead p ++ terminal.Name n ∷ [])
Spelled sh (partial.Sign p n neg) ss =
    InPlace sh p × (takes_names sh ≡ true) × (ss ≡ lead p ++ terminal.Name n ∷ sign neg ∷ []) × (takes_sums sh ≡ true)
Spelled sh (partial.SignMinus p n neg) ss =
    InPlace sh p × (takes_names sh ≡ true) × (ss ≡ lead p ++ terminal.Name n ∷ sign neg ∷ terminal.Minus ∷ []) × (takes_sums sh ≡ true)
Spelled sh (partial.Number p v) ss = InPlace sh p × (vs : List Terminal) × IsValue sh vs v × (ss ≡ lead p ++ vs)
Spelled sh (partial.Whole f) ss = IsForm sh ss f
Spelled sh (partial.Open v) ss = WithAddress sh (partial.Open v) ss
Spelled sh (partial.BasePercent v) ss = WithAddress sh (partial.BasePercent v) ss
Spelled sh (partial.Base v b) ss = WithAddress sh (partial.Base v b) ss
Spelled sh (partial.IndexComma v b) ss = WithAddress sh (partial.IndexComma v b) ss
Spelled sh (partial.IndexPercent v b) ss = WithAddress sh (partial.IndexPercent v b) ss
Spelled sh (partial.Index v b i) ss = WithAddress sh (partial.Index v b i) ss
Spelled sh (partial.Scale v b i) ss = WithAddress sh (partial.Scale v b i) ss
Spelled sh (partial.Scaled v b i s) ss = WithAddress sh (partial.Scaled v b i s) ss

-- what has been read inside or after the parentheses
from_inside : (sh : Shape) (q : Partial) (ss : List Terminal) → WithAddress sh q ss → Spelled sh q ss
from_inside sh (partial.Whole f) ss w = from_value w.values w.parts w.front w.is_value w.whole w.inside
  where
    from_value : (vs ps : List Terminal) (ov : Option Value) → OptValue sh vs ov → ss ≡ vs ++ ps
        → Inside ov (partial.Whole f) ps → IsForm sh ss f
    from_value vs ps ov OptValue.none e (b, i, s, g, a) = rw (g, e) (IsForm.address w.operand a)
    from_value vs ps ov (OptValue.some v) e (b, i, s, g, a) = rw g (IsForm.value_address vs ps w.operand e v a)
from_inside sh (partial.Open v) ss w = w
from_inside sh (partial.BasePercent v) ss w = w
from_inside sh (partial.Base v b) ss w = w
from_inside sh (partial.IndexComma v b) ss w = w
from_inside sh (partial.IndexPercent v b) ss w = w
from_inside sh (partial.Index v b i) ss w = w
from_inside sh (partial.Scale v b i) ss w = w
from_inside sh (partial.Scaled v b i s) ss w = w
from_inside sh partial.Absent ss w = absurd w.inside
from_inside sh partial.Nothing ss w = absurd w.inside
from_inside sh partial.Percent ss w = absurd w.inside
from_inside sh partial.Dollar ss w = absurd w.inside
from_inside sh (partial.Minus a) ss w = absurd w.inside
from_inside sh (partial.Name a n) ss w = absurd w.inside
from_inside sh (partial.Sign a n b) ss w = absurd w.inside
from_inside sh (partial.SignMinus a n b) ss w = absurd w.inside
from_inside sh (partial.Number a v) ss w = absurd w.inside

address_more : (sh : Shape) (p : Partial) (s : Terminal) (q : Partial) (ss : List Terminal) → WithAddress sh p ss → address_step p s ≡ ok q
    → Spelled sh q (ss ++ s ∷ [])
address_more sh p s q ss w e = from_inside sh q (ss ++ s ∷ []) (record {
  operand = w.operand;
  front = w.front;
  values = w.values;
  parts = w.parts ++ s ∷ [];
  is_value = w.is_value;
  inside = inside_step w.front p s q w.parts w.inside e;
  whole = ending _ _ s w.whole ∙ append_assoc w.values w.parts (s ∷ []);
})

-- a parenthesis after a value
opens : (sh : Shape) (p : ValuePlace) (v : Value) (vs ss : List Terminal) (q : Partial) → IsValue sh vs v → ss ≡ lead p ++ vs
    → open_paren sh p v ≡ ok q → Spelled sh q (ss ++ terminal.Open ∷ [])
opens sh place.Memory v vs ss q val e h =
    let g = allowed_ok (is_operand sh) (partial.Open (Some v)) q h in
    subst (λ (x : Partial). Spelled sh x (ss ++ terminal.Open ∷ [])) g.1
    (record {
      operand = g.0;
      front = Some v;
      values = vs;
      parts = terminal.Open ∷ [];
      is_value = OptValue.some val;
      inside = (refl, refl);
      whole = ending _ _ terminal.Open e;
    })
opens sh place.Immediate v vs ss q val e h = absurd cc

first_terminal : (sh : Shape) (s : Terminal) (q : Partial) → first sh s ≡ ok q → Spelled sh q (s ∷ [])
first_terminal sh terminal.Percent q h = let g =
    allowed_ok (is_operand sh) partial.Percent q h in subst (λ (x : Partial). Spelled sh x (terminal.Percent ∷ [])) g.1 (g.0, refl)
first_terminal sh terminal.Dollar q h = let g =
    allowed_ok (is_operand sh) partial.Dollar q h in subst (λ (x : Partial). Spelled sh x (terminal.Dollar ∷ [])) g.1 (g.0, refl)
first_terminal sh terminal.Open q h =
    let g = allowed_ok (is_operand sh) (partial.Open None) q h in
    subst (λ (x : Partial). Spelled sh x (terminal.Open ∷ [])) g.1
    (record {
      operand = g.0;
      front = None;
      values = [];
      parts = terminal.Open ∷ [];
      is_value = OptValue.none;
      inside = (refl, refl);
      whole = refl;
    })
first_terminal sh terminal.Minus q h = let g = allowed_ok (takes_minus sh) (partial.Minus place.Memory) q h in
    subst (λ (x : Partial). Spelled sh x (terminal.Minus ∷ [])) g.1 (tt, g.0, refl)
first_terminal sh (terminal.Number n) q h =
    let g = counted_ok (takes_numbers sh) (fits sh false n) (partial.Number place.Memory (plain (pos n))) q h in
    subst (λ (x : Partial). Spelled sh x (terminal.Number n ∷ [])) g.2 (tt, terminal.Number n ∷ [], IsValue.number g.0 g.1, refl)
first_terminal sh (terminal.Name n) q h = let g = allowed_ok (takes_names sh) (partial.Name place.Memory n) q h in
    subst (λ (x : Partial). Spelled sh x (terminal.Name n ∷ [])) g.1 (tt, g.0, refl)
first_terminal sh (terminal.Text t) q h = let g = allowed_ok (takes_text sh) (partial.Whole (form.Text t)) q h in
    subst (λ (x : Partial). Spelled sh x (terminal.Text t ∷ [])) g.1 (IsForm.text g.0)
first_terminal sh _ q h = absurd cc

offset_value : (sh : Shape) (p : ValuePlace) (n : List ℕ) (neg : Bool) (cs ss : List Terminal) (z : ℤ) → takes_names sh ≡ true
    → takes_sums sh ≡ true → IsConstant neg cs z → ss ≡ lead p ++ terminal.Name n ∷ sign neg ∷ cs
    → (vs : List Terminal) × IsValue sh vs (named n z) × (ss ≡ lead p ++ vs)
offset_value sh p n true cs ss z a b c e = (terminal.Name n ∷ terminal.Minus ∷ cs, IsValue.difference a b c, e)
offset_value sh p n false cs ss z a b c e = (terminal.Name n ∷ terminal.Plus ∷ cs, IsValue.sum a b c, e)

pub more : (sh : Shape) (p : Partial) (s : Terminal) (q : Partial) (ss : List Terminal) → Spelled sh p ss → next_terminal sh p s ≡ ok q
    → Spelled sh q (ss ++ s ∷ [])
more sh partial.Nothing s q ss h e = rw h (first_terminal sh s q e)
more sh partial.Absent s q ss h e = rw h.0 (first_terminal sh s q e)
more sh partial.Percent (terminal.Name r) q ss h e =
    let g = registered_ok (is_register r) (partial.Whole (form.Register r)) q e in
    subst (λ (x : Partial). Spelled sh x (ss ++ terminal.Name r ∷ [])) g.1 (rw h.1 (IsForm.register h.0 g.0))
more sh partial.Percent _ q ss h e = absurd cc
more sh partial.Dollar terminal.Minus q ss h e = subst (λ (x : Partial). Spelled sh x (ss ++ terminal.Minus ∷ []))
    (ok_is (partial.Minus place.Immediate) q e) (h.0, (operand_takes sh h.0).1, ending _ _ _ h.1)
more sh partial.Dollar (terminal.Number n) q ss h e =
    subst (λ (x : Partial). Spelled sh x (ss ++ terminal.Number n ∷ [])) (ok_is (partial.Number place.Immediate (plain (pos n))) q e) (
      h.0,
      terminal.Number n ∷ [],
      IsValue.number (operand_takes sh h.0).0 (operand_fits sh false n h.0),
      ending _ _ _ h.1,
    )
more sh partial.Dollar (terminal.Name n) q ss h e = subst (λ (x : Partial). Spelled sh x (ss ++ terminal.Name n ∷ []))
    (ok_is (partial.Name place.Immediate n) q e) (h.0, (operand_takes sh h.0).2, ending _ _ _ h.1)
more sh partial.Dollar _ q ss h e = absurd cc
more sh (partial.Minus p) (terminal.Number n) q ss h e =
    let g = lowered_ok n (fits sh true n) (partial.Number p (plain (signed true n))) q e in
    subst (λ (x : Partial). Spelled sh x (ss ++ terminal.Number n ∷ [])) g.2 (
      h.0,
      terminal.Minus ∷ terminal.Number n ∷ [],
      IsValue.negative h.1 g.0 g.1,
      ending _ _ _ h.2 ∙ append_assoc (lead p) (terminal.Minus ∷ []) (terminal.Number n ∷ []),
    )
more sh (partial.Minus p) _ q ss h e = absurd cc
more sh (partial.Name p n) terminal.Plus q ss h e =
    let g = allowed_ok (takes_sums sh) (partial.Sign p n false) q e in
    subst (λ (x : Partial). Spelled sh x (ss ++ terminal.Plus ∷ [])) g.1 (
      h.0,
      h.1,
      ending _ _ _ h.2 ∙ append_assoc (lead p) (terminal.Name n ∷ []) (terminal.Plus ∷ []),
      g.0,
    )
more sh (partial.Name p n) terminal.Minus q ss h e =
    let g = allowed_ok (takes_sums sh) (partial.Sign p n true) q e in
    subst (λ (x : Partial). Spelled sh x (ss ++ terminal.Minus ∷ [])) g.1 (
      h.0,
      h.1,
      ending _ _ _ h.2 ∙ append_assoc (lead p) (terminal.Name n ∷ []) (terminal.Minus ∷ []),
      g.0,
    )
more sh (partial.Name p n) terminal.Open q ss h e = opens sh p (named n (pos 0)) (terminal.Name n ∷ []) ss q (IsValue.name h.1) h.2 e
more sh (partial.Name p n) _ q ss h e = absurd cc
more sh (partial.Sign p n neg) terminal.Minus q ss h e =
    subst (λ (x : Partial). Spelled sh x (ss ++ terminal.Minus ∷ [])) (ok_is (partial.SignMinus p n neg) q e) (
      h.0,
      h.1,
      ending _ _ _ h.2 ∙ append_assoc (lead p) (terminal.Name n ∷ sign neg ∷ []) (terminal.Minus ∷ []),
      h.3,
    )
more sh (partial.Sign p n neg) (terminal.Number k) q ss h e =
    let v = offset_value sh p n neg (terminal.Number k ∷ []) (ss ++ terminal.Number k ∷ []) (signed neg k) h.1 h.3 IsConstant.bare
    (ending _ _ _ h.2 ∙ append_assoc (lead p) (terminal.Name n ∷ sign neg ∷ []) (terminal.Number k ∷ [])) in
    subst (λ (x : Partial). Spelled sh x (ss ++ terminal.Number k ∷ [])) (ok_is (partial.Number p (named n (signed neg k))) q e)
    (h.0, v.0, v.1, v.2)
more sh (partial.Sign p n neg) _ q ss h e = absurd cc
more sh (partial.SignMinus p n neg) (terminal.Number k) q ss h e =
    let g = lowered_ok k true (partial.Number p (named n (signed (not neg) k))) q e in
    let v = offset_value sh p n neg (terminal.Minus ∷ terminal.Number k ∷ []) (ss ++ terminal.Number k ∷ []) (signed (not neg) k) h.1 h.3
    (IsConstant.minus g.0) (ending _ _ _ h.2 ∙ append_assoc (lead p) (terminal.Name n ∷ sign neg ∷ terminal.Minus ∷ [])
    (terminal.Number k ∷ [])) in
    subst (λ (x : Partial). Spelled sh x (ss ++ terminal.Number k ∷ [])) g.2 (h.0, v.0, v.1, v.2)
more sh (partial.SignMinus p n neg) _ q ss h e = absurd cc
more sh (partial.Number p v) terminal.Open q ss h e = opens sh p v h.1 ss q h.2 h.3 e
more sh (partial.Number p v) _ q ss h e = absurd cc
more sh (partial.Whole f) _ q ss h e = absurd cc
more sh (partial.Open v) s q ss h e = address_more sh (partial.Open v) s q ss h e
more sh (partial.BasePercent v) s q ss h e = address_more sh (partial.BasePercent v) s q ss h e
more sh (partial.Base v b) s q ss h e = address_more sh (partial.Base v b) s q ss h e
more sh (partial.IndexComma v b) s q ss h e = address_more sh (partial.IndexComma v b) s q ss h e
more sh (partial.IndexPercent v b) s q ss h e = address_more sh (partial.IndexPercent v b) s q ss h e
more sh (partial.Index v b i) s q ss h e = address_more sh (partial.Index v b i) s q ss h e
more sh (partial.Scale v b i) s q ss h e = address_more sh (partial.Scale v b i) s q ss h e
more sh (partial.Scaled v b i n) s q ss h e = address_more sh (partial.Scaled v b i n) s q ss h e

-- what may end is a form
pub spelled_form : (sh : Shape) (p : Partial) (f : Form) (ss : List Terminal) → Spelled sh p ss → finished p ≡ Some f → IsForm sh ss f
spelled_form sh (partial.Name place.Immediate n) f ss h e =
    let g : form.Immediate (named n (pos 0)) ≡ f = cc in subst (IsForm sh ss) g (rw h.2 (IsForm.immediate h.0 (IsValue.name h.1)))
spelled_form sh (partial.Name place.Memory n) f ss h e =
    let g : form.Memory (Some (named n (pos 0))) None None 1 ≡ f = cc in subst (IsForm sh ss) g (rw h.2 (IsForm.value (IsValue.name h.1)))
spelled_form sh (partial.Number place.Immediate v) f ss h e =
    let g : form.Immediate v ≡ f = cc in subst (IsForm sh ss) g (rw h.3 (IsForm.immediate h.0 h.2))
spelled_form sh (partial.Number place.Memory v) f ss h e =
    let g : form.Memory (Some v) None None 1 ≡ f = cc in subst (IsForm sh ss) g (rw h.3 (IsForm.value h.2))
spelled_form sh (partial.Whole x) f ss h e = let g : x ≡ f = cc in subst (IsForm sh ss) g h
spelled_form sh partial.Absent f ss h e = let g : form.Absent ≡ f = cc in subst (IsForm sh ss) g (rw h.0 (IsForm.absent h.1))
spelled_form sh _ f ss h e = absurd cc

pub run_spelled : (sh : Shape) (ss rs : List Terminal) (p q : Partial) → Spelled sh p rs → operand_run sh p ss ≡ ok q
    → Spelled sh q (rs ++ ss)
run_spelled sh [] rs p q h e = let g : p ≡ q = cc in subst (λ (x : Partial). Spelled sh x (rs ++ [])) g (rw (append-nil rs) h)
run_spelled sh (s ∷ ss) rs p q h e = by_step (next_terminal sh p s) refl e (λ n g k. run_spelled sh ss (rs ++ s ∷ []) n q g k)
  where
    by_step : (r : Result Partial SourceCause) → next_terminal sh p s ≡ r
        → ◌≡◌ {A = Result Partial SourceCause} (elim r [ Ok n ↦ operand_run sh n ss | Err c ↦ Err c ]) (Ok q)
        → ((n : Partial) → Spelled sh n (rs ++ s ∷ []) → operand_run sh n ss ≡ ok q → Spelled sh q ((rs ++ s ∷ []) ++ ss))
        → Spelled sh q (rs ++ s ∷ ss)
    by_step (Ok n) f g ih = rw (← append_assoc rs (s ∷ []) ss) (ih n (more sh p s n rs h f) g)
    by_step (Err c) f g ih = absurd cc

-- an argument of which nothing has been read
pub begun_spelled : (sh : Shape) → Spelled sh (begun sh) []
begun_spelled shape.Fill = (refl, refl)
begun_spelled _ = refl

-- What is read is an argument of the shape.
pub reads_form : (sh : Shape) (ss : List Terminal) (f : Form) → Reads sh ss f → IsForm sh ss f
reads_form sh ss f r = spelled_form sh r.last f ss (run_spelled sh ss [] (begun sh) r.last (begun_spelled sh) r.runs) r.ends
