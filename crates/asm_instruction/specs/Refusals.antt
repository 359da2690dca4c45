-- When a statement is no instruction: the condition of each refusal.
use Rattle.std.specs.Prelude.{codes, ◌≡◌, ℕ, ℤ, false, Bool, List, [], ◌∷◌, ◌++◌, Some, None}
use Rattle.std.specs.List.{Contains}
use Rattle.ia32_types.specs.declared.site.Refused.{Refused}
use Rattle.ia32_types.specs.declared.size.Size.{Size}
use Rattle.ia32_types.specs.declared.size.Size.TheVariants as size
use Rattle.ia32_encode.specs.Good.{SpellsWide}
use Rattle.asm_source.specs.declared.tree.Argument.{Argument}
use Rattle.asm_instruction.specs.declared.argument.Given.{Given}
use Rattle.asm_instruction.specs.declared.argument.Given.TheVariants as given
use Rattle.asm_instruction.specs.declared.argument.Operands.{Operands}
use Rattle.asm_instruction.specs.declared.argument.Operands.TheVariants as operands
use Rattle.asm_instruction.specs.declared.arithmetic.Arithmetic.TheVariants as arithmetic
use Rattle.asm_instruction.specs.declared.control.Control.TheVariants as control
use Rattle.asm_instruction.specs.declared.draft.Draft.{Draft}
use Rattle.asm_instruction.specs.declared.mnemonic.Family.{Family}
use Rattle.asm_instruction.specs.declared.mnemonic.Family.TheVariants as family
use Rattle.asm_instruction.specs.declared.mnemonic.Mnemonic.{Mnemonic}
use Rattle.asm_instruction.specs.Names.{Table}
use Rattle.asm_instruction.specs.Field.{fits_field}
use Rattle.asm_instruction.specs.Argument.{operands_of}
use Rattle.asm_instruction.specs.Condition.{conditions}
use Rattle.asm_instruction.specs.Mnemonic.{exact_names, sized_names}
use Rattle.asm_instruction.specs.Refused.{refused_names}
use Rattle.asm_instruction.specs.Assembled.{widths, drafted_of}

-- ---- the names

unfoldable pub suffixes : Table Size
suffixes = (codes "b", size.Byte) ∷ (codes "w", size.Word) ∷ (codes "l", size.Long) ∷ []

-- The name of an instruction, and what it means: one that stands as it is, j or set and a condition, or one with a suffix or none.
pub data IsName (name : List ℕ) : Mnemonic → Type 0 where
  exact : {f : Family} → Contains exact_names (name, f) → IsName name (record { family = f; suffix = None })
  jump : {c : ℕ} (test : List ℕ) → name ≡ codes "j" ++ test → Contains conditions (test, c)
      → IsName name (record { family = family.Control (control.Conditional c); suffix = None })
  set : {c : ℕ} (test : List ℕ) → name ≡ codes "set" ++ test → Contains conditions (test, c)
      → IsName name (record { family = family.Control (control.Set c); suffix = None })
  sized : {f : Family} → Contains sized_names (name, f) → IsName name (record { family = f; suffix = None })
  suffixed : {f : Family} {s : Size} (front letter : List ℕ) → name ≡ front ++ letter → Contains sized_names (front, f)
      → Contains suffixes (letter, s) → IsName name (record { family = f; suffix = Some s })

-- The name is one of those that are refused.
abbrev pub IsRefused : List ℕ → Type 0
IsRefused name = (r : Refused) × Contains refused_names (name, r)

-- The name is no instruction's, and none that is refused.
pub record IsUnknown (name : List ℕ) : Type 0 where
  pub not_refused : IsRefused name → ⊥
  pub not_named : (m : Mnemonic) → IsName name m → ⊥

-- ---- the operands

-- The statement means this instruction, whose numbers have the low bits of what is written.
pub record Means (rep : Bool) (name : List ℕ) (args : List Argument) (d : Draft) : Type 0 where
  pub mnemonic : Mnemonic
  pub named : IsName name mnemonic
  pub drafted : drafted_of rep mnemonic args ≡ Some d

-- The name is an instruction's, but no row has such operands: the operands mean none, or no bytes spell what they mean with four
-- bytes for what names a symbol.
pub record IsWithoutRow (rep : Bool) (name : List ℕ) (args : List Argument) : Type 0 where
  pub mnemonic : Mnemonic
  pub named : IsName name mnemonic
  pub none : (d : Draft) (bytes : List ℕ) → Means rep name args d → SpellsWide (widths d args) bytes d.insn → ⊥

-- ---- the numbers

-- The size of an immediate's field: that of the operands, but a byte for a count, a port and the number of an interrupt, 16 bits for
-- what RET drops, and 32 for what IMUL multiplies by, what PUSH pushes and where a far jump goes.
unfoldable pub field_of : Family → Size → Size
field_of (family.Shift o) s = size.Byte
field_of (family.System k) s = size.Byte
field_of (family.Control control.Interrupt) s = size.Byte
field_of (family.Control control.Return) s = size.Word
field_of (family.Control control.FarJump) s = size.Long
field_of (family.Arithmetic arithmetic.Multiply) s = size.Long
field_of (family.Stack k) s = size.Long
field_of _ s = s

-- A far jump's selector, which stands first, has 16 bits.
unfoldable pub first_field_of : Family → Size → Size
first_field_of (family.Control control.FarJump) s = size.Word
first_field_of f s = field_of f s

-- The number of an operand and the size of its field, which is this one for an immediate, and 32 bits for a displacement.
abbrev pub numbers_in : Size → Given → List (Size × ℤ)
numbers_in s (given.Immediate n) = (s, n.value) ∷ []
numbers_in s (given.Memory m) = (size.Long, m.displacement.value) ∷ []
numbers_in s _ = []

-- the numbers of an instruction of this family with operands of this size, from its last operand to its first
unfoldable pub numbers : Family → Size → Operands → List (Size × ℤ)
numbers f s operands.Nothing = []
numbers f s (operands.One g) = numbers_in (field_of f s) g
numbers f s (operands.Starred g) = numbers_in (field_of f s) g
numbers f s (operands.Two a b) = numbers_in (field_of f s) b ++ numbers_in (first_field_of f s) a
numbers f s (operands.Three a b c) = numbers_in (field_of f s) c ++ numbers_in (field_of f s) b ++ numbers_in (field_of f s) a

-- The statement means an instruction, and one of the numbers in its operands doesn't fit its field.
pub record HasUnfitNumber (rep : Bool) (name : List ℕ) (args : List Argument) : Type 0 where
  pub draft : Draft
  pub means : Means rep name args draft
  pub given : Operands
  pub written : operands_of args ≡ Some given
  pub field : Size
  pub number : ℤ
  pub stands : Contains (numbers means.mnemonic.family draft.insn.size given) (field, number)
  pub unfit : fits_field field number ≡ false
