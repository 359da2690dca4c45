-- How the terminals of an argument end, by what has been read of it.
use Rattle.std.proofs.Common.{◌≡◌, ℕ, Bool, true, false, List, [], ◌∷◌, ◌++◌, Option, Some, None, refl, sym, ap, subst, ◌∙◌}
use Rattle.asm_argument.specs.declared.terminal.Terminal.{Terminal}
use Rattle.asm_argument.specs.declared.terminal.Terminal.TheVariants as terminal
use Rattle.asm_argument.specs.declared.shape.Shape.{Shape}
use Rattle.asm_argument.specs.declared.operand.ValuePlace.{ValuePlace}
use Rattle.asm_argument.specs.declared.operand.ValuePlace.TheVariants as place
use Rattle.asm_argument.specs.declared.operand.Partial.{Partial}
use Rattle.asm_argument.specs.declared.operand.Partial.TheVariants as partial
use Rattle.asm_source.specs.declared.tree.Value.{Value}
use Rattle.asm_source.specs.declared.tree.Form.{Form}
use Rattle.asm_argument.specs.Grammar.{IsConstant, IsValue, IsAddress, IsForm}
use Rattle.asm_parse.specs.Refusals.{last_of, is_percent, is_minus, is_sign, is_for_terminal, ends_index}
use Rattle.asm_argument.proofs.Operands.{OptValue, base_part, lead, sign, WithAddress, Spelled}
use Rattle.asm_parse.proofs.Said.{stars}

-- ---- what has been read

abbrev pub percents : Partial → Bool
percents partial.Percent = true
percents (partial.BasePercent v) = true
percents (partial.IndexPercent v b) = true
percents _ = false

abbrev pub indexed : Partial → Bool
indexed (partial.Scale v b i) = true
indexed _ = false

abbrev pub minuses : Partial → Bool
minuses (partial.Minus p) = true
minuses (partial.Sign p n true) = true
minuses (partial.SignMinus p n neg) = true
minuses _ = false

abbrev pub signs : Partial → Bool
signs (partial.Minus p) = true
signs (partial.Sign p n neg) = true
signs (partial.SignMinus p n neg) = true
signs _ = false

abbrev pub frees : Partial → Bool
frees partial.Nothing = true
frees partial.Dollar = true
frees _ = false

-- ---- what stands in front changes nothing

pub record Clear (f : List Terminal) : Type 0 where
  pub last : (p : Terminal) (ps : List Terminal) → last_of (f ++ (p ∷ ps)) ≡ last_of (p ∷ ps)
  pub index : (p : Terminal) (ps : List Terminal) → ends_index (f ++ (p ∷ ps)) ≡ ends_index (p ∷ ps)

clear_nil : Clear []
clear_nil = record { last = λ p ps. refl; index = λ p ps. refl }

clear_stars : (b : Bool) → Clear (stars b)
clear_stars true = record { last = λ p ps. refl; index = λ p ps. refl }
clear_stars false = clear_nil

clear_lead : (p : ValuePlace) → Clear (lead p)
clear_lead place.Immediate = record { last = λ p ps. refl; index = λ p ps. refl }
clear_lead place.Memory = clear_nil

clear_value : {sh : Shape} {vs : List Terminal} {v : Value} → IsValue sh vs v → Clear vs
clear_value (IsValue.number t u) = record { last = λ p ps. refl; index = λ p ps. refl }
clear_value (IsValue.negative t u x) = record { last = λ p ps. refl; index = λ p ps. refl }
clear_value (IsValue.name t) = record { last = λ p ps. refl; index = λ p ps. refl }
clear_value (IsValue.sum t u IsConstant.bare) = record { last = λ p ps. refl; index = λ p ps. refl }
clear_value (IsValue.sum t u (IsConstant.minus x)) = record { last = λ p ps. refl; index = λ p ps. refl }
clear_value (IsValue.difference t u IsConstant.bare) = record { last = λ p ps. refl; index = λ p ps. refl }
clear_value (IsValue.difference t u (IsConstant.minus x)) = record { last = λ p ps. refl; index = λ p ps. refl }

clear_option : {sh : Shape} {vs : List Terminal} {v : Option Value} → OptValue sh vs v → Clear vs
clear_option OptValue.none = clear_nil
clear_option (OptValue.some v) = clear_value v

-- ---- the ends

pub record Tail (ss : List Terminal) (percent index minus sign free : Bool) : Type 0 where
  pub percent_is : is_percent (last_of ss) ≡ percent
  pub index_is : ends_index ss ≡ index
  pub minus_is : is_minus (last_of ss) ≡ minus
  pub sign_is : is_sign (last_of ss) ≡ sign
  pub free_is : is_for_terminal (last_of ss) ≡ free

behind : (f : List Terminal) (p : Terminal) (ps : List Terminal) (a b c d e : Bool) → Clear f → Tail (p ∷ ps) a b c d e
    → Tail (f ++ (p ∷ ps)) a b c d e
behind f p ps a b c d e k t = record {
  percent_is = ap is_percent (k.last p ps) ∙ t.percent_is;
  index_is = k.index p ps ∙ t.index_is;
  minus_is = ap is_minus (k.last p ps) ∙ t.minus_is;
  sign_is = ap is_sign (k.last p ps) ∙ t.sign_is;
  free_is = ap is_for_terminal (k.last p ps) ∙ t.free_is;
}

-- a list that isn't empty, and how it ends
record Ends (ss : List Terminal) (a b c d e : Bool) : Type 0 where
  first : Terminal
  rest : List Terminal
  whole : ss ≡ first ∷ rest
  tail : Tail (first ∷ rest) a b c d e

after : (f ss : List Terminal) (a b c d e : Bool) → Clear f → Ends ss a b c d e → Tail (f ++ ss) a b c d e
after f ss a b c d e k n = subst (λ (x : List Terminal). Tail (f ++ x) a b c d e) (sym n.whole) (behind f n.first n.rest a b c d e k n.tail)

-- what it says of a list that is at hand
at_hand : {p : Terminal} {ps : List Terminal}
    → Ends (p ∷ ps) (is_percent (last_of (p ∷ ps))) (ends_index (p ∷ ps)) (is_minus (last_of (p ∷ ps))) (is_sign (last_of (p ∷ ps)))
    (is_for_terminal (last_of (p ∷ ps)))
at_hand = record {
  first = _;
  rest = _;
  whole = refl;
  tail = record { percent_is = refl; index_is = refl; minus_is = refl; sign_is = refl; free_is = refl };
}

value_ends : {sh : Shape} {vs : List Terminal} {v : Value} → IsValue sh vs v → Ends vs false false false false false
value_ends (IsValue.number t u) = at_hand
value_ends (IsValue.negative t u x) = at_hand
value_ends (IsValue.name t) = at_hand
value_ends (IsValue.sum t u IsConstant.bare) = at_hand
value_ends (IsValue.sum t u (IsConstant.minus x)) = at_hand
value_ends (IsValue.difference t u IsConstant.bare) = at_hand
value_ends (IsValue.difference t u (IsConstant.minus x)) = at_hand

address_ends : {ss : List Terminal} {b i : Option (List ℕ)} {s : ℕ} → IsAddress ss b i s → Ends ss false false false false false
address_ends (IsAddress.base r) = at_hand
address_ends (IsAddress.index r) = at_hand
address_ends (IsAddress.scaled r t) = at_hand
address_ends (IsAddress.base_index r t) = at_hand
address_ends (IsAddress.base_scaled r t u) = at_hand

-- the same after what is clear
ends_longer : (f ss : List Terminal) (a b c d e : Bool) → Clear f → Ends ss a b c d e → Ends (f ++ ss) a b c d e
ends_longer [] ss a b c d e k n = n
ends_longer (x ∷ f) ss a b c d e k n = record { first = x; rest = f ++ ss; whole = refl; tail = after (x ∷ f) ss a b c d e k n }

same_ends : (ss ts : List Terminal) (a b c d e : Bool) → ss ≡ ts → Ends ts a b c d e → Ends ss a b c d e
same_ends ss ts a b c d e h n = subst (λ (x : List Terminal). Ends x a b c d e) (sym h) n

form_ends : (sh : Shape) (ss : List Terminal) (f : Form) → (ss ≡ [] → ⊥) → IsForm sh ss f → Ends ss false false false false false
form_ends sh ss f never (IsForm.absent h) = absurd (never refl)
form_ends sh ss f never (IsForm.text h) = at_hand
form_ends sh ss f never (IsForm.register h r) = at_hand
form_ends sh ss f never (IsForm.immediate {ss = vs} h v) =
    ends_longer (terminal.Dollar ∷ []) vs false false false false false (clear_lead place.Immediate) (value_ends v)
form_ends sh ss f never (IsForm.value v) = value_ends v
form_ends sh ss f never (IsForm.address h a) = address_ends a
form_ends sh ss f never (IsForm.value_address vs ps h e v a) = same_ends ss (vs ++ ps) false false false false false e
    (ends_longer vs ps false false false false false (clear_value v) (address_ends a))

-- ---- what has been read of an argument

lead_ends : (p : ValuePlace) (ss : List Terminal) (a b c d e : Bool) → Ends ss a b c d e → Ends (lead p ++ ss) a b c d e
lead_ends p ss a b c d e n = ends_longer (lead p) ss a b c d e (clear_lead p) n

sign_ends : (n : List ℕ) (neg : Bool) → Ends (terminal.Name n ∷ sign neg ∷ []) false false neg true false
sign_ends n true = at_hand
sign_ends n false = at_hand

sign_minus_ends : (n : List ℕ) (neg : Bool) → Ends (terminal.Name n ∷ sign neg ∷ terminal.Minus ∷ []) false false true true false
sign_minus_ends n true = at_hand
sign_minus_ends n false = at_hand

percent_part : (b : Option (List ℕ)) → Ends (base_part b ++ terminal.Percent ∷ []) true false false false false
percent_part None = at_hand
percent_part (Some b) = at_hand

base_ends : (b : Option (List ℕ)) → Ends (base_part b) false false false false false
base_ends None = at_hand
base_ends (Some b) = at_hand

index_part : (b : Option (List ℕ)) (i : List ℕ) → Ends (base_part b ++ terminal.Percent ∷ terminal.Name i ∷ []) false
    false false false false
index_part None i = at_hand
index_part (Some b) i = at_hand

scale_part : (b : Option (List ℕ)) (i : List ℕ) → Ends (base_part b ++ terminal.Percent ∷ terminal.Name i ∷ terminal.Comma ∷ []) false
    true false false false
scale_part None i = at_hand
scale_part (Some b) i = at_hand

scaled_part : (b : Option (List ℕ)) (i : List ℕ) (s : ℕ)
    → Ends (base_part b ++ terminal.Percent ∷ terminal.Name i ∷ terminal.Comma ∷ terminal.Number s ∷ []) false false false false false
scaled_part None i s = at_hand
scaled_part (Some b) i s = at_hand

abbrev EndsAs : Partial → List Terminal → Type 0
EndsAs p ss = Ends ss (percents p) (indexed p) (minuses p) (signs p) (frees p)

in_address : (sh : Shape) (p : Partial) (ss ps : List Terminal) (w : WithAddress sh p ss) → w.parts ≡ ps → EndsAs p ps → EndsAs p ss
in_address sh p ss ps w e n = same_ends ss (w.values ++ ps) _ _ _ _ _ (w.whole ∙ ap (λ (x : List Terminal). w.values ++ x) e)
    (ends_longer w.values ps _ _ _ _ _ (clear_option w.is_value) n)

spelled_ends : (sh : Shape) (p : Partial) (ss : List Terminal) → (ss ≡ [] → ⊥) → Spelled sh p ss → EndsAs p ss
spelled_ends sh partial.Nothing ss never h = absurd (never h)
spelled_ends sh partial.Absent ss never h = absurd (never h.0)
spelled_ends sh partial.Percent ss never h =
    same_ends ss _ _ _ _ _ _ h.1 at_hand
spelled_ends sh partial.Dollar ss never h =
    same_ends ss _ _ _ _ _ _ h.1 at_hand
spelled_ends sh (partial.Minus p) ss never h =
    same_ends ss _ _ _ _ _ _ h.2
    (lead_ends p _ _ _ _ _ _ at_hand)
spelled_ends sh (partial.Name p n) ss never h =
    same_ends ss _ _ _ _ _ _ h.2
    (lead_ends p _ _ _ _ _ _ at_hand)
spelled_ends sh (partial.Sign p n true) ss never h = same_ends ss _ _ _ _ _ _ h.2 (lead_ends p _ _ _ _ _ _ (sign_ends n true))
spelled_ends sh (partial.Sign p n false) ss never h = same_ends ss _ _ _ _ _ _ h.2 (lead_ends p _ _ _ _ _ _ (sign_ends n false))
spelled_ends sh (partial.SignMinus p n neg) ss never h = same_ends ss _ _ _ _ _ _ h.2 (lead_ends p _ _ _ _ _ _ (sign_minus_ends n neg))
spelled_ends sh (partial.Number p v) ss never h = same_ends ss _ _ _ _ _ _ h.3 (lead_ends p _ _ _ _ _ _ (value_ends h.2))
spelled_ends sh (partial.Whole f) ss never h = form_ends sh ss f never h
spelled_ends sh (partial.Open v) ss never h = in_address sh (partial.Open v) ss _ h h.inside.1 at_hand
spelled_ends sh (partial.BasePercent v) ss never h = in_address sh (partial.BasePercent v) ss _ h h.inside.1 at_hand
spelled_ends sh (partial.Base v b) ss never h = in_address sh (partial.Base v b) ss _ h h.inside.1 at_hand
spelled_ends sh (partial.IndexComma v b) ss never h = in_address sh (partial.IndexComma v b) ss _ h h.inside.1 (base_ends b)
spelled_ends sh (partial.IndexPercent v b) ss never h = in_address sh (partial.IndexPercent v b) ss _ h h.inside.1 (percent_part b)
spelled_ends sh (partial.Index v b i) ss never h = in_address sh (partial.Index v b i) ss _ h h.inside.1 (index_part b i)
spelled_ends sh (partial.Scale v b i) ss never h = in_address sh (partial.Scale v b i) ss _ h h.inside.1 (scale_part b i)
spelled_ends sh (partial.Scaled v b i n) ss never h = in_address sh (partial.Scaled v b i n) ss _ h h.inside.1 (scaled_part b i n)

-- What has been read says how the terminals end, with or without a star.
pub spelled_tail : (sh : Shape) (p : Partial) (star : Bool) (ss : List Terminal) → (ss ≡ [] → ⊥) → Spelled sh p ss
    → Tail (stars star ++ ss) (percents p) (indexed p) (minuses p) (signs p) (frees p)
spelled_tail sh p star ss never h = after (stars star) ss _ _ _ _ _ (clear_stars star) (spelled_ends sh p ss never h)
