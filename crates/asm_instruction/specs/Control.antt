-- Jumps, calls, returns, interrupts and conditions.
use Rattle.std.specs.Prelude.{codes, ℕ, ◌+◌, ◌-◌, ◌%◌, ◌^◌, ◌&&◌, Bool, true, List, [], ◌∷◌, Option, Some, None, is_none, if◌then◌else◌, ◌==◌}
use Rattle.ia32_types.specs.declared.insn.Op.{Op}
use Rattle.ia32_types.specs.declared.insn.Op.TheVariants as op
use Rattle.ia32_types.specs.declared.size.Size.{Size}
use Rattle.ia32_types.specs.declared.size.Size.TheVariants as size
use Rattle.asm_instruction.specs.declared.argument.Number.{Number}
use Rattle.asm_instruction.specs.declared.argument.Memory.{Memory}
use Rattle.asm_instruction.specs.declared.argument.Given.{Given}
use Rattle.asm_instruction.specs.declared.argument.Given.TheVariants as given
use Rattle.asm_instruction.specs.declared.argument.Operands.{Operands}
use Rattle.asm_instruction.specs.declared.argument.Operands.TheVariants as operands
use Rattle.asm_instruction.specs.declared.control.Control.{Control}
use Rattle.asm_instruction.specs.declared.control.Control.TheVariants as kind
use Rattle.asm_instruction.specs.declared.draft.Draft.{Draft}
use Rattle.asm_instruction.specs.declared.mnemonic.Family.{Family}
use Rattle.asm_instruction.specs.declared.mnemonic.Family.TheVariants as family
use Rattle.asm_instruction.specs.Names.{Table, found, ◌>>=◌}
use Rattle.asm_instruction.specs.Condition.{conditions}
use Rattle.asm_instruction.specs.Field.{field, fits_field}
use Rattle.asm_instruction.specs.Sizes.{agreed}
use Rattle.asm_instruction.specs.Draft.{alone, with_number}
use Rattle.asm_instruction.specs.Arithmetic.{of_one, one}

-- with a suffix, or none
unfoldable pub branch_names : Table Family
branch_names =
    (codes "jmp", family.Control (kind.Branch op.Jmp op.JumpTo)) ∷ (codes "call", family.Control (kind.Branch op.Call op.CallTo)) ∷
    (codes "ret", family.Control kind.Return) ∷ []

-- as they are
unfoldable pub control_names : Table Family
control_names =
    (codes "int", family.Control kind.Interrupt) ∷ (codes "int3", family.Plain op.Int3) ∷ (codes "ud2", family.Plain op.Ud2) ∷
    (codes "iret", family.Plain op.Iret) ∷ (codes "ljmp", family.Control kind.FarJump) ∷ []

abbrev pub jump_name : List ℕ → Option Family
jump_name rest = found conditions rest >>= λ c. Some (family.Control (kind.Conditional c))

abbrev pub set_name : List ℕ → Option Family
set_name rest = found conditions rest >>= λ c. Some (family.Control (kind.Set c))

abbrev pub behind_set : List ℕ → Option Family
behind_set (s ∷ e ∷ t ∷ rest) = if (s == 115) && (e == 101) && (t == 116) then set_name rest else None
behind_set _ = None

-- j, or set, and a condition
unfoldable pub conditional_name : List ℕ → Option Family
conditional_name [] = None
conditional_name (c ∷ rest) = if c == 106 then jump_name rest else behind_set (c ∷ rest)

-- ---- branches

-- the distance is from the end of its field: to the symbol and its constant, less 4
abbrev pub distance : ℕ → ℕ
distance n = (n + (2 ^ 32 - 4)) % 2 ^ 32

unfoldable pub to_symbol : Op → ℕ → Memory → Draft
to_symbol o c m = record (alone o) {
  insn = record (alone o).insn { imm = distance m.address.disp; sel = c };
  imm = Some m.displacement.argument;
  relative = true;
  fits = fits_field size.Long m.displacement.value;
}

-- a symbol, with or without a constant
abbrev pub is_symbol : Memory → Bool
is_symbol m = m.displacement.named && is_none m.address.base && is_none m.address.index

unfoldable pub direct : Op → ℕ → Option Size → Given → Option Draft
direct o c suffix (given.Memory m) = if is_symbol m then (agreed suffix (Some size.Long) None >>= λ s. Some (to_symbol o c m)) else None
direct o c suffix _ = None

-- ---- the others

abbrev pub return_of : Operands → Option Draft
return_of operands.Nothing = Some (alone op.Return)
return_of (operands.One (given.Immediate n)) = Some (with_number (alone op.Return) size.Word n)
return_of _ = None

abbrev pub with_selector : Draft → Number → Draft
with_selector d n = record d { insn = record d.insn { sel = field size.Word n.value }; fits = d.fits && fits_field size.Word n.value }

-- a selector names no symbol
unfoldable pub far : Number → Number → Option Draft
far selector offset = if selector.named then None else Some (with_selector (with_number (alone op.FarJump) size.Long offset) selector)

-- SETcc
unfoldable pub set : ℕ → Given → Option Draft
set c g = one op.Setcc (Some size.Byte) g >>= λ d. Some (record d { insn = record d.insn { sel = c } })

unfoldable pub control_draft : Control → Option Size → Operands → Option Draft
control_draft (kind.Branch o i) suffix (operands.One g) = direct o 0 suffix g
control_draft (kind.Branch o i) suffix (operands.Starred g) = of_one (Some size.Long) i suffix g
control_draft (kind.Conditional c) suffix (operands.One g) = direct op.Jcc c suffix g
control_draft (kind.Set c) suffix (operands.One g) = set c g
control_draft kind.Interrupt suffix (operands.One (given.Immediate n)) = Some (with_number (alone op.Int) size.Byte n)
control_draft kind.Return suffix os = agreed suffix (Some size.Long) None >>= λ s. return_of os
control_draft kind.FarJump suffix (operands.Two (given.Immediate selector) (given.Immediate offset)) = far selector offset
control_draft _ suffix _ = None
