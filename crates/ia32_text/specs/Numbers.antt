-- Numbers in hexadecimal, with lower-case digits and without leading zeros.
use Rattle.std.specs.Prelude.{ℕ, ◌+◌, ◌-◌, ◌/◌, ◌%◌, ◌^◌, ℤ, pos, negsuc, List, [], ◌∷◌, ◌++◌, codes, nat_lt, if◌then◌else◌}
use Rattle.std.specs.List.{flat_map}
use Rattle.ia32_types.specs.declared.addresses.TheConstants.{TEXT_ADDRESS}
use Rattle.run_trace.specs.Text.{hex_digit, hex2, hex4}

-- at most two, four and eight of them, of which the first is 0 in the number 0 alone
abbrev pub short2 : ℕ → List ℕ
short2 n = if nat_lt n 16 then hex_digit n ∷ [] else hex2 n

abbrev pub short4 : ℕ → List ℕ
short4 n = if nat_lt n 256 then short2 n else (short2 (n / 256) ++ hex2 (n % 256))

abbrev pub short8 : ℕ → List ℕ
short8 n = if nat_lt n 65536 then short4 n else (short4 (n / 65536) ++ hex4 (n % 65536))

-- a number of at most 32 bits, and less than 0 with its sign
unfoldable pub number_text : ℤ → List ℕ
number_text (pos n) = codes "0x" ++ short8 n
number_text (negsuc n) = codes "-0x" ++ short8 (n + 1)

-- the signed number that 32 bits stand for
abbrev pub signed_long : ℕ → ℤ
signed_long n = if nat_lt n (2 ^ 31) then pos n else negsuc (2 ^ 32 - 1 - n)

-- a number of 32 bits as a distance from the first byte of the text
abbrev pub from_text : ℕ → ℤ
from_text n = if nat_lt n TEXT_ADDRESS then negsuc (TEXT_ADDRESS - 1 - n) else pos (n - TEXT_ADDRESS)

-- each byte by both its digits, after a blank
unfoldable pub bytes_text : List ℕ → List ℕ
bytes_text bytes = flat_map (λ b. codes " " ++ hex2 b) bytes
