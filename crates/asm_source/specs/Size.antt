-- How much a source says: the bytes of its names and strings, and the number of its items and arguments.
use Rattle.std.specs.Prelude.{ℕ, ◌+◌, List, [], ◌∷◌, length, Option, Some, None}
use Rattle.asm_source.specs.declared.tree.Value.{Value}
use Rattle.asm_source.specs.declared.tree.Form.{Form}
use Rattle.asm_source.specs.declared.tree.Form.TheVariants as form
use Rattle.asm_source.specs.declared.tree.Argument.{Argument}
use Rattle.asm_source.specs.declared.tree.Body.{Body}
use Rattle.asm_source.specs.declared.tree.Body.TheVariants as body
use Rattle.asm_source.specs.declared.tree.SourceItem.{SourceItem}

abbrev pub name_size : Option (List ℕ) → ℕ
name_size None = 0
name_size (Some n) = length n

abbrev pub value_size : Option Value → ℕ
value_size None = 0
value_size (Some v) = name_size v.name

abbrev pub form_size : Form → ℕ
form_size form.Absent = 0
form_size (form.Register r) = length r
form_size (form.Immediate v) = name_size v.name
form_size (form.Memory v b i s) = value_size v + (name_size b + name_size i)
form_size (form.Text t) = length t

abbrev pub arguments_size : List Argument → ℕ
arguments_size [] = 0
arguments_size (a ∷ args) = form_size a.form + arguments_size args

abbrev pub body_size : Body → ℕ
body_size (body.Label n) = length n
body_size (body.Directive n args) = length n + arguments_size args
body_size (body.Instruction rep n args) = length n + arguments_size args

abbrev pub body_count : Body → ℕ
body_count (body.Label n) = 1
body_count (body.Directive n args) = 1 + length args
body_count (body.Instruction rep n args) = 1 + length args

-- the bytes of all names and strings
abbrev pub items_size : List SourceItem → ℕ
items_size [] = 0
items_size (i ∷ items) = body_size i.body + items_size items

-- the number of items and arguments
abbrev pub items_count : List SourceItem → ℕ
items_count [] = 0
items_count (i ∷ items) = body_count i.body + items_count items
