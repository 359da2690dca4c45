-- The size of an instruction's operands: its suffix and its registers say it, and agree.
use Rattle.std.specs.Prelude.{Bool, true, ◌==◌, ◌&&◌, Option, Some, None, if◌then◌else◌}
use Rattle.std.specs.Option.{option_or}
use Rattle.ia32_types.specs.declared.size.Size.{Size}
use Rattle.ia32_types.specs.Size.{width}
use Rattle.asm_instruction.specs.Names.{◌>>=◌}

abbrev pub goes_with : Option Size → Size → Bool
goes_with None size = true
goes_with (Some other) size = width other == width size

-- the size that one of the three says, if none says another
unfoldable pub agreed : Option Size → Option Size → Option Size → Option Size
agreed a b c = option_or a (option_or b c) >>= λ size. if goes_with a size && goes_with b size && goes_with c size then Some size else None
