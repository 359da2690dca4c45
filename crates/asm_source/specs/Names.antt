-- Different names, and the symbols that arguments and items name.
use Rattle.std.specs.Prelude.{ℕ, Bool, List, [], ◌∷◌, ◌++◌, Option, Some, None, if◌then◌else◌, fold}
use Rattle.std.specs.List.{list_any, position_or_len, flat_map}
use Rattle.std.specs.Str.{bytes_eq}
use Rattle.asm_source.specs.declared.tree.Value.{Value}
use Rattle.asm_source.specs.declared.tree.Form.{Form}
use Rattle.asm_source.specs.declared.tree.Form.TheVariants as form
use Rattle.std.specs.Option.{option_to_list}
use Rattle.asm_source.specs.declared.tree.Argument.{Argument}
use Rattle.asm_source.specs.declared.tree.Body.{Body}
use Rattle.asm_source.specs.declared.tree.Body.TheVariants as body
use Rattle.asm_source.specs.declared.tree.SourceItem.{SourceItem}

abbrev pub holds : List (List ℕ) → List ℕ → Bool
holds names name = list_any (λ n. bytes_eq name n) names

-- a name at the end of those before it, where it is not among them
abbrev pub added : List (List ℕ) → List ℕ → List (List ℕ)
added names name = if holds names name then names else names ++ name ∷ []

-- the number of a name: its place among them, or how many there are where it is none of them
abbrev pub name_number : List (List ℕ) → List ℕ → ℕ
name_number names name = position_or_len (λ n. bytes_eq name n) names

abbrev pub name_of : Option Value → Option (List ℕ)
name_of None = None
name_of (Some v) = v.name

-- the symbol's name in an argument
abbrev pub symbol_in : Form → Option (List ℕ)
symbol_in (form.Immediate v) = v.name
symbol_in (form.Memory v b i s) = name_of v
symbol_in _ = None

abbrev pub argument_names : List Argument → List (List ℕ)
argument_names args = flat_map (λ (a : Argument). option_to_list (symbol_in a.form)) args

-- the symbols that an item names, in its order
abbrev pub body_names : Body → List (List ℕ)
body_names (body.Label n) = n ∷ []
body_names (body.Directive n args) = argument_names args
body_names (body.Instruction rep n args) = argument_names args

-- the different symbols of a source, in the order in which they are first seen
unfoldable pub names_in : List SourceItem → List (List ℕ)
names_in items = fold added [] (flat_map (λ (i : SourceItem). body_names i.body) items)
