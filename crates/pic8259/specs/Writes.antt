-- What a write to one controller did.
use Rattle.std.specs.Prelude.{◌≡◌, Option, Some, None}
use Rattle.ia32_types.specs.declared.stop.Did.{Did}
use Rattle.ia32_types.specs.declared.stop.Did.TheVariants.{Done, Stop}
use Rattle.pic8259.specs.declared.chip.Chip.{Chip}

-- the chip by a rule, or where there is none a stop that changes nothing
abbrev pub ChipWritten : Chip → Option Chip → Did → Chip → Type 0
ChipWritten old None did new = (did ≡ Stop) × (new ≡ old)
ChipWritten old (Some chip) did new = (did ≡ Done) × (new ≡ chip)
