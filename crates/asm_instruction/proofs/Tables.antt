-- What tables that stand one after another have for a name.
use Rattle.std.proofs.Common.{◌≡◌, ℕ, ◌++◌, Bool, true, false, List, [], ◌∷◌, Option, Some, None, refl, ap, ◌∙◌}
use Rattle.std.specs.Prelude.{if◌then◌else◌}
use Rattle.std.specs.Option.{option_or}
use Rattle.std.specs.Str.{bytes_eq}
use Rattle.asm_instruction.specs.Names.{Table, found}
use Rattle.asm_instruction.specs.Arithmetic.{arithmetic_names}
use Rattle.asm_instruction.specs.Shift.{shift_names}
use Rattle.asm_instruction.specs.Moves.{move_names, extend_names}
use Rattle.asm_instruction.specs.Stack.{stack_names, frame_names}
use Rattle.asm_instruction.specs.Control.{branch_names, control_names}
use Rattle.asm_instruction.specs.Strings.{string_names}
use Rattle.asm_instruction.specs.Flags.{plain_names}
use Rattle.asm_instruction.specs.System.{system_names, page_names}
use Rattle.asm_instruction.specs.Mnemonic.{exact_names, sized_names}

first_or : {A : Type 0} (b : Bool) (a : A) (x y z : Option A) → z ≡ option_or x y
    → (if b then Some a else z) ≡ option_or (if b then Some a else x) y
first_or true a x y z e = refl
first_or false a x y z e = e

pub found_append : {A : Type 0} (xs ys : Table A) (name : List ℕ) → found (xs ++ ys) name ≡ option_or (found xs name) (found ys name)
found_append [] ys name = refl
found_append (x ∷ xs) ys name =
    first_or (bytes_eq name x.0) x.1 (found xs name) (found ys name) (found (xs ++ ys) name) (found_append xs ys name)

-- one table more
behind : {A : Type 0} (xs ys : Table A) (name : List ℕ) (o : Option A) → found xs name ≡ o
    → found (xs ++ ys) name ≡ option_or o (found ys name)
behind xs ys name o e = found_append xs ys name ∙ ap (λ x. option_or x (found ys name)) e

pub exact_found : (name : List ℕ) → found exact_names name
    ≡ option_or (option_or (option_or (option_or (option_or (found plain_names name) (found frame_names name)) (found extend_names name))
    (found string_names name))
    (found page_names name)) (found control_names name)
unfolding exact_names
exact_found name =
    behind (plain_names ++ frame_names ++ extend_names ++ string_names ++ page_names) control_names name _
    (behind (plain_names ++ frame_names ++ extend_names ++ string_names) page_names name _
    (behind (plain_names ++ frame_names ++ extend_names) string_names name _
    (behind (plain_names ++ frame_names) extend_names name _
    (found_append plain_names frame_names name))))

pub sized_found : (name : List ℕ) → found sized_names name
    ≡ option_or (option_or (option_or (option_or (option_or (found arithmetic_names name) (found shift_names name)) (found move_names name))
    (found stack_names name))
    (found branch_names name)) (found system_names name)
unfolding sized_names
sized_found name =
    behind (arithmetic_names ++ shift_names ++ move_names ++ stack_names ++ branch_names) system_names name _
    (behind (arithmetic_names ++ shift_names ++ move_names ++ stack_names) branch_names name _
    (behind (arithmetic_names ++ shift_names ++ move_names) stack_names name _
    (behind (arithmetic_names ++ shift_names) move_names name _
    (found_append arithmetic_names shift_names name))))
