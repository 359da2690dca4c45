-- String instructions.
use Rattle.std.specs.Prelude.{codes, Bool, [], ◌∷◌, Option, Some, None}
use Rattle.ia32_types.specs.declared.insn.Op.{Op}
use Rattle.ia32_types.specs.declared.insn.Op.TheVariants as op
use Rattle.ia32_types.specs.declared.size.Size.{Size}
use Rattle.ia32_types.specs.declared.size.Size.TheVariants as size
use Rattle.asm_instruction.specs.declared.argument.Operands.{Operands}
use Rattle.asm_instruction.specs.declared.argument.Operands.TheVariants as operands
use Rattle.asm_instruction.specs.declared.draft.Draft.{Draft}
use Rattle.asm_instruction.specs.declared.mnemonic.Family.{Family}
use Rattle.asm_instruction.specs.declared.mnemonic.Family.TheVariants as family
use Rattle.asm_instruction.specs.Names.{Table}
use Rattle.asm_instruction.specs.Draft.{alone}

-- as they are
unfoldable pub string_names : Table Family
string_names =
    (codes "movsb", family.Strings op.Movs size.Byte) ∷ (codes "movsl", family.Strings op.Movs size.Long) ∷
    (codes "stosb", family.Strings op.Stos size.Byte) ∷ (codes "stosl", family.Strings op.Stos size.Long) ∷
    (codes "lodsb", family.Strings op.Lods size.Byte) ∷ (codes "lodsl", family.Strings op.Lods size.Long) ∷ []

-- of this size, with or without the repeat prefix
unfoldable pub string_draft : Bool → Op → Size → Operands → Option Draft
string_draft rep o s operands.Nothing = Some (record (alone o) { insn = record (alone o).insn { size = s; rep = rep } })
string_draft rep o s _ = None
