-- Numbers in fields of data.
use Rattle.std.specs.Prelude.{ℕ, ℤ, List, take}
use Rattle.std.specs.Int.{w32, to_le_bytes}
use Rattle.ia32_types.specs.declared.size.Size.{Size}
use Rattle.ia32_types.specs.Bytes.{size_in_bytes}
use Rattle.asm_instruction.specs.Field.{field}

-- the bits of the number in the field, the lowest byte first
abbrev pub value_bytes : Size → ℤ → List ℕ
value_bytes s z = take (size_in_bytes s) (to_le_bytes w32 (field s z))
