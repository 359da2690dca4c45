-- How many bytes an operand has.
use Rattle.std.specs.Prelude.{ℕ, ◌/◌}
use Rattle.ia32_types.specs.declared.size.Size.{Size}
use Rattle.ia32_types.specs.Size.{width}

abbrev pub size_in_bytes : Size → ℕ
size_in_bytes s = width s / 8
