-- Numbers in words.
use Rattle.std.specs.Prelude.{ℕ, ◌+◌, ◌-◌, ◌*◌, ◌&&◌, ◌==◌, nat_le, List, [], ◌∷◌, length, slice_index, Option, Some, None, if◌then◌else◌}
use Rattle.std.specs.List.{list_all}
use Rattle.std.specs.Char.{is_ascii_digit}

-- the number that decimal digits say, after those that said n
abbrev pub decimal_after : ℕ → List ℕ → ℕ
decimal_after n [] = n
decimal_after n (b ∷ rest) = decimal_after (10 * n + (b - 48)) rest

-- a decimal number up to a limit, leading zeros allowed
unfoldable pub number_upto : ℕ → List ℕ → Option ℕ
number_upto limit word =
    if list_all is_ascii_digit word && nat_le (decimal_after 0 word) limit then Some (decimal_after 0 word) else None

abbrev pub at_least : ℕ → Option ℕ → Option ℕ
at_least least None = None
at_least least (Some n) = if nat_le least n then Some n else None

-- a number of a range in decimal digits, with no sign, and no leading zero except the number 0 itself
unfoldable pub number_said : ℕ → ℕ → List ℕ → Option ℕ
number_said least most [] = None
number_said least most (b ∷ []) = at_least least (number_upto most (b ∷ []))
number_said least most (b ∷ c ∷ word) = if b == 48 then None else at_least least (number_upto most (b ∷ c ∷ word))

-- a hexadecimal digit of either case
abbrev pub hex_value : ℕ → Option ℕ
hex_value b =
    if nat_le 48 b && nat_le b 57 then Some (b - 48)
    else if nat_le 65 b && nat_le b 70 then Some (b - 55)
    else if nat_le 97 b && nat_le b 102 then Some (b - 87)
    else None

abbrev pub both_digits : Option ℕ → Option ℕ → Option ℕ
both_digits (Some high) (Some low) = Some (16 * high + low)
both_digits _ _ = None

-- two hexadecimal digits
unfoldable pub hex_byte : List ℕ → Option ℕ
hex_byte word =
    if length word == 2 then both_digits (hex_value (slice_index word 0)) (hex_value (slice_index word 1)) else None
