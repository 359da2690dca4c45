-- Numbers written into memory, byte by byte, where `place` gives the place of each address.
use Rattle.std.specs.Prelude.{ℕ, ◌+◌, ◌/◌, ◌%◌, List}
use Rattle.guest_ram.specs.Bytes.{with_byte}
use Rattle.ia32_types.specs.declared.size.Size.{Size}
use Rattle.ia32_types.specs.declared.size.Size.TheVariants.{Byte, Word, Long}

-- the lowest byte first
abbrev pub number_stored : (ℕ → ℕ) → List ℕ → ℕ → Size → ℕ → List ℕ
number_stored place m at Byte v = with_byte m (place at) (v % 256)
number_stored place m at Word v = with_byte (with_byte m (place at) (v % 256)) (place (at + 1)) (v / 256 % 256)
number_stored place m at Long v =
    with_byte (with_byte (with_byte (with_byte m (place at) (v % 256)) (place (at + 1)) (v / 256 % 256)) (place (at + 2)) (v / 65536 % 256))
    (place (at + 3)) (v / 16777216)
