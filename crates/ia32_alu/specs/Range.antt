-- What CF and OF say of a sum and of a difference.
use Rattle.std.specs.Prelude.{◌≡◌, ℕ, ◌+◌, pos, ◌+ℤ◌, ◌-ℤ◌, false, not, nat_lt}
use Rattle.ia32_types.specs.declared.flags.Flags.{Flags}
use Rattle.ia32_types.specs.declared.size.Size.{Size}
use Rattle.ia32_types.specs.Size.{span}
use Rattle.ia32_types.specs.Bits.{bit, signed, fits}
use Rattle.ia32_types.specs.declared.flags.TheConstants.{CARRY_AT, OVERFLOW_AT}

-- CF is set exactly where a + b + c is out of the unsigned range, and OF exactly where the signed
-- sum is out of the signed range; where a flag is clear the result r is that sum
pub record TellsSum (s : Size) (a b c r : ℕ) (f : Flags) : Type 0 where
  pub carry : bit f.bits CARRY_AT ≡ not (nat_lt (a + b + c) (span s))
  pub unsigned_sum : bit f.bits CARRY_AT ≡ false → r ≡ a + b + c
  pub overflow : bit f.bits OVERFLOW_AT ≡ not (fits s (signed s a +ℤ signed s b +ℤ pos c))
  pub signed_sum : bit f.bits OVERFLOW_AT ≡ false → signed s r ≡ signed s a +ℤ signed s b +ℤ pos c

-- the same of a - b - c, which is out of the unsigned range where it is below 0
pub record TellsDifference (s : Size) (a b c r : ℕ) (f : Flags) : Type 0 where
  pub carry : bit f.bits CARRY_AT ≡ nat_lt a (b + c)
  pub unsigned_difference : bit f.bits CARRY_AT ≡ false → r + (b + c) ≡ a
  pub overflow : bit f.bits OVERFLOW_AT ≡ not (fits s (signed s a -ℤ signed s b -ℤ pos c))
  pub signed_difference : bit f.bits OVERFLOW_AT ≡ false → signed s r ≡ signed s a -ℤ signed s b -ℤ pos c
