-- Instructions without operands, most of which change flags.
use Rattle.std.specs.Prelude.{codes, [], ◌∷◌, Option, Some, None}
use Rattle.ia32_types.specs.declared.insn.Op.{Op}
use Rattle.ia32_types.specs.declared.insn.Op.TheVariants as op
use Rattle.ia32_types.specs.declared.size.Size.{Size}
use Rattle.ia32_types.specs.declared.size.Size.TheVariants as size
use Rattle.asm_instruction.specs.declared.argument.Operands.{Operands}
use Rattle.asm_instruction.specs.declared.argument.Operands.TheVariants as operands
use Rattle.asm_instruction.specs.declared.draft.Draft.{Draft}
use Rattle.asm_instruction.specs.declared.mnemonic.Family.{Family}
use Rattle.asm_instruction.specs.declared.mnemonic.Family.TheVariants as family
use Rattle.asm_instruction.specs.Names.{Table, ◌>>=◌}
use Rattle.asm_instruction.specs.Sizes.{agreed}
use Rattle.asm_instruction.specs.Draft.{alone}

-- as they are
unfoldable pub plain_names : Table Family
plain_names =
    (codes "clc", family.Plain op.Clc) ∷ (codes "stc", family.Plain op.Stc) ∷ (codes "cld", family.Plain op.Cld) ∷ (
      codes "std",
      family.Plain op.Std,
    ) ∷
    (codes "cli", family.Plain op.Cli) ∷ (codes "sti", family.Plain op.Sti) ∷ (codes "cwtl", family.Plain op.Cwde) ∷ (
      codes "cltd",
      family.Plain op.Cdq,
    ) ∷
    (codes "nop", family.Plain op.Nop) ∷ (codes "hlt", family.Plain op.Hlt) ∷ []

-- where it takes a suffix, only 32 bits exist
unfoldable pub plain_draft : Op → Option Size → Operands → Option Draft
plain_draft o suffix operands.Nothing = agreed suffix (Some size.Long) None >>= λ s. Some (alone o)
plain_draft o suffix _ = None
