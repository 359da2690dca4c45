-- What the arguments of directives are.
use Rattle.std.specs.Prelude.{ℕ, ◌^◌, ℤ, pos, negsuc, List, [], Option, Some, None, slice_get, ◌==◌, ◌||◌, nat_lt, if◌then◌else◌}
use Rattle.asm_source.specs.declared.tree.Form.{Form}
use Rattle.asm_source.specs.declared.tree.Form.TheVariants as form
use Rattle.asm_source.specs.declared.tree.Argument.{Argument}
use Rattle.asm_source.specs.Names.{symbol_in}

-- the number of a value, or the constant beside its name
abbrev pub number_in : Form → ℤ
number_in (form.Immediate v) = v.number
number_in (form.Memory (Some v) b i s) = v.number
number_in _ = pos 0

abbrev pub text_in : Form → List ℕ
text_in (form.Text t) = t
text_in _ = []

abbrev pub count_of : ℤ → ℕ
count_of (pos n) = n
count_of (negsuc n) = 0

-- an argument that isn't there is absent
abbrev pub form_of : Option Argument → Form
form_of None = form.Absent
form_of (Some a) = a.form

-- a count, an alignment or a string in this place; 0 or the empty string where there is none
abbrev pub count_at : List Argument → ℕ → ℕ
count_at args i = count_of (number_in (form_of (slice_get args i)))

abbrev pub text_at : List Argument → ℕ → List ℕ
text_at args i = text_in (form_of (slice_get args i))

abbrev pub symbol_at : List Argument → ℕ → Option (List ℕ)
symbol_at args i = symbol_in (form_of (slice_get args i))

abbrev pub limit_of : Form → Option ℕ
limit_of form.Absent = None
limit_of f = Some (count_of (number_in f))

-- a count that may be left out
abbrev pub limit_at : List Argument → ℕ → Option ℕ
limit_at args i = limit_of (form_of (slice_get args i))

-- Alignments are 1 to 4,096.
abbrev pub alignment : ℕ → ℕ
alignment n = if n == 0 || nat_lt 4096 n then 1 else n

abbrev pub power : ℕ → ℕ
power k = if nat_lt 12 k then 1 else 2 ^ k
