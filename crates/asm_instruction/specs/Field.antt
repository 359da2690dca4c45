-- The numbers that a field of an instruction takes.
use Rattle.std.specs.Prelude.{ℕ, ℤ, pos, neg_ℤ, int_le, int_lt, ◌%◌, ◌&&◌, Bool}
use Rattle.std.specs.Int.{w64, cast_unsigned}
use Rattle.ia32_types.specs.declared.size.Size.{Size}
use Rattle.ia32_types.specs.Size.{span, top}

-- a field of n bits takes the numbers from -2^(n-1) to 2^n - 1
abbrev pub fits_field : Size → ℤ → Bool
fits_field s z = int_le (neg_ℤ (pos (top s))) z && int_lt z (pos (span s))

-- its bits are the low ones of the number in two's complement
abbrev pub field : Size → ℤ → ℕ
field s z = cast_unsigned w64 z % span s
