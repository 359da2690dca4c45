-- A field of data has at most four bytes.
use Rattle.std.proofs.Common.{◌/◌, ◌≤◌, arith}
use Rattle.ia32_types.specs.declared.size.Size.{Size}
use Rattle.ia32_types.specs.declared.size.Size.TheVariants.{Byte, Word, Long}
use Rattle.ia32_types.specs.Size.{width}

pub few_bytes : (s : Size) → width s / 8 ≤ 4
few_bytes Byte = omega arith
few_bytes Word = omega arith
few_bytes Long = omega arith
