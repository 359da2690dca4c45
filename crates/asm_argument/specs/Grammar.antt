-- What an argument may be, by cases.
use Rattle.std.specs.Prelude.{◌≡◌, ℕ, ℤ, pos, Bool, true, false, not, List, [], ◌∷◌, ◌++◌, Option, Some, None}
use Rattle.asm_argument.specs.declared.terminal.Terminal.{Terminal}
use Rattle.asm_argument.specs.declared.terminal.Terminal.TheVariants as terminal
use Rattle.asm_argument.specs.declared.shape.Shape.{Shape}
use Rattle.asm_source.specs.declared.tree.Value.{Value}
use Rattle.asm_source.specs.declared.tree.Form.{Form}
use Rattle.asm_source.specs.declared.tree.Form.TheVariants as form
use Rattle.asm_argument.specs.Shapes.{signed, named, plain, is_operand, takes_names, takes_sums, takes_minus, takes_numbers, takes_text, takes_absent, fits, is_low, is_register, is_scale}

-- A number after a sign, true for a minus. It may have a minus of its own.
pub data IsConstant : Bool → List Terminal → ℤ → Type 0 where
  bare : {negative : Bool} {n : ℕ} → IsConstant negative (terminal.Number n ∷ []) (signed negative n)
  minus : {negative : Bool} {n : ℕ} → is_low n ≡ true → IsConstant negative (terminal.Minus ∷ terminal.Number n ∷ [])
      (signed (not negative) n)

-- A value of those that may stand in such a place.
pub data IsValue : Shape → List Terminal → Value → Type 0 where
  number : {sh : Shape} {n : ℕ} → takes_numbers sh ≡ true → fits sh false n ≡ true → IsValue sh (terminal.Number n ∷ []) (plain (pos n))
  negative : {sh : Shape} {n : ℕ} → takes_minus sh ≡ true → is_low n ≡ true → fits sh true n ≡ true
      → IsValue sh (terminal.Minus ∷ terminal.Number n ∷ []) (plain (signed true n))
  name : {sh : Shape} {n : List ℕ} → takes_names sh ≡ true → IsValue sh (terminal.Name n ∷ []) (named n (pos 0))
  sum : {sh : Shape} {n : List ℕ} {ss : List Terminal} {z : ℤ} → takes_names sh ≡ true → takes_sums sh ≡ true → IsConstant false ss z
      → IsValue sh (terminal.Name n ∷ terminal.Plus ∷ ss) (named n z)
  difference : {sh : Shape} {n : List ℕ} {ss : List Terminal} {z : ℤ} → takes_names sh ≡ true → takes_sums sh ≡ true → IsConstant true ss z
      → IsValue sh (terminal.Name n ∷ terminal.Minus ∷ ss) (named n z)

-- what stands in parentheses: base, index and scale
pub data IsAddress : List Terminal → Option (List ℕ) → Option (List ℕ) → ℕ → Type 0 where
  base : {b : List ℕ} → is_register b ≡ true
      → IsAddress (terminal.Open ∷ terminal.Percent ∷ terminal.Name b ∷ terminal.Close ∷ []) (Some b) None 1
  index : {i : List ℕ} → is_register i ≡ true
      → IsAddress (terminal.Open ∷ terminal.Comma ∷ terminal.Percent ∷ terminal.Name i ∷ terminal.Close ∷ []) None (Some i) 1
  scaled : {i : List ℕ} {s : ℕ} → is_register i ≡ true → is_scale s ≡ true
      → IsAddress (terminal.Open ∷ terminal.Comma ∷ terminal.Percent ∷ terminal.Name i ∷ terminal.Comma ∷ terminal.Number
      s ∷ terminal.Close ∷ []) None (Some i) s
  base_index : {b i : List ℕ} → is_register b ≡ true → is_register i ≡ true
      → IsAddress (terminal.Open ∷ terminal.Percent ∷ terminal.Name b ∷ terminal.Comma ∷ terminal.Percent ∷ terminal.Name
      i ∷ terminal.Close ∷ []) (Some b) (Some i) 1
  base_scaled : {b i : List ℕ} {s : ℕ} → is_register b ≡ true → is_register i ≡ true → is_scale s ≡ true
      → IsAddress (terminal.Open ∷ terminal.Percent ∷ terminal.Name b ∷ terminal.Comma ∷ terminal.Percent ∷ terminal.Name
      i ∷ terminal.Comma ∷ terminal.Number s ∷ terminal.Close ∷ []) (Some b) (Some i) s

-- These terminals are an argument of this shape.
pub data IsForm : Shape → List Terminal → Form → Type 0 where
  absent : {sh : Shape} → takes_absent sh ≡ true → IsForm sh [] form.Absent
  text : {sh : Shape} {t : List ℕ} → takes_text sh ≡ true → IsForm sh (terminal.Text t ∷ []) (form.Text t)
  register : {sh : Shape} {r : List ℕ} → is_operand sh ≡ true → is_register r ≡ true
      → IsForm sh (terminal.Percent ∷ terminal.Name r ∷ []) (form.Register r)
  immediate : {sh : Shape} {ss : List Terminal} {v : Value} → is_operand sh ≡ true → IsValue sh ss v
      → IsForm sh (terminal.Dollar ∷ ss) (form.Immediate v)
  value : {sh : Shape} {ss : List Terminal} {v : Value} → IsValue sh ss v → IsForm sh ss (form.Memory (Some v) None None 1)
  address : {sh : Shape} {ss : List Terminal} {b i : Option (List ℕ)} {s : ℕ} → is_operand sh ≡ true → IsAddress ss b i s
      → IsForm sh ss (form.Memory None b i s)
  value_address : {sh : Shape} {ss : List Terminal} {v : Value} {b i : Option (List ℕ)} {s : ℕ} (vs ps : List Terminal)
      → is_operand sh ≡ true → ss ≡ vs ++ ps → IsValue sh vs v → IsAddress ps b i s
      → IsForm sh ss (form.Memory (Some v) b i s)
