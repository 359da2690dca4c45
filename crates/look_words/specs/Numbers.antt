-- Numbers in words.
use Rattle.std.specs.Prelude.{ℕ, ◌+◌, ◌*◌, ◌-◌, ◌^◌, ◌==◌, ◌&&◌, nat_lt, nat_le, Bool, List, [], ◌∷◌, length, Option, Some, None, option_and_then, option_map, if◌then◌else◌}
use Rattle.text_lines.specs.Numbers.{hex_value, number_said}

-- ---- a linear address

abbrev pub add_digit : ℕ → Option ℕ → Option ℕ
add_digit n None = None
add_digit n (Some digit) = if nat_lt n 0x10000000 then Some (16 * n + digit) else None

-- the number below 2^32 that hexadecimal digits of either case say, after those that said n
abbrev pub hex_said : ℕ → List ℕ → Option ℕ
hex_said n [] = Some n
hex_said n (b ∷ rest) = option_and_then (λ more. hex_said more rest) (add_digit n (hex_value b))

-- without a `0x` at its front
abbrev pub after_prefix : List ℕ → List ℕ
after_prefix [] = []
after_prefix (a ∷ []) = a ∷ []
after_prefix (a ∷ b ∷ rest) = if (a == 48) && (b == 120) then rest else a ∷ b ∷ rest

abbrev pub digits_said : List ℕ → Option ℕ
digits_said [] = None
digits_said (b ∷ rest) = hex_said 0 (b ∷ rest)

-- hexadecimal digits, with `0x` before them or without it
abbrev pub address_said : List ℕ → Option ℕ
address_said word = digits_said (after_prefix word)

-- how many bytes, at most so many
abbrev pub len_said : ℕ → List ℕ → Option ℕ
len_said most word = number_said 1 most word

-- ---- one or several

abbrev pub is_count : List (List ℕ) → Bool
is_count words = nat_le 1 (length words) && nat_le (length words) 64

abbrev pub first_of : ℕ → Option (List ℕ) → Option (List ℕ)
first_of n rest = option_map (λ ns. n ∷ ns) rest

-- numbers of steps, each larger than the one before it
abbrev pub rising_from : ℕ → List (List ℕ) → Option (List ℕ)
rising_from least [] = Some []
rising_from least (word ∷ words) = option_and_then (λ n. first_of n (rising_from (n + 1) words)) (number_said least (2 ^ 40) word)

abbrev pub all_addresses : List (List ℕ) → Option (List ℕ)
all_addresses [] = Some []
all_addresses (word ∷ words) = option_and_then (λ a. first_of a (all_addresses words)) (address_said word)

-- 1 to 64 of them
unfoldable pub steps_said : List (List ℕ) → Option (List ℕ)
steps_said words = if is_count words then rising_from 0 words else None

unfoldable pub addresses_said : List (List ℕ) → Option (List ℕ)
addresses_said words = if is_count words then all_addresses words else None
