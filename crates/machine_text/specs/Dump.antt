-- Bytes of memory as text, in the form of `hexdump -C`.
use Rattle.std.specs.Prelude.{ℕ, ◌+◌, ◌-◌, ◌*◌, ◌/◌, ◌%◌, ◌^◌, ◌==◌, nat_lt, nat_le, ◌&&◌, List, [], ◌∷◌, ◌++◌, codes, Option, Some, None, min, if◌then◌else◌}
use Rattle.run_trace.specs.Text.{hex2, hex8}
use Rattle.machine_text.specs.Below.{below}
use Rattle.linear_view.specs.View.{View}
use Rattle.machine_text.specs.Mapped.{byte_now}

-- both digits, or dashes where nothing maps the byte
abbrev pub digits : Option ℕ → List ℕ
digits None = codes " --"
digits (Some b) = codes " " ++ hex2 b

-- the character, where it is one of ASCII that is printed
abbrev pub letter : Option ℕ → List ℕ
letter None = codes " "
letter (Some b) = (if nat_le 32 b && nat_le b 126 then b else 46) ∷ []

-- addresses go on at 0 after the last
abbrev pub address : ℕ → ℕ → ℕ
address at i = (at + i) % 2 ^ 32

-- before the ninth byte
abbrev pub gap : ℕ → List ℕ
gap i = if i == 8 then codes " " else []

-- a byte of a line, or blanks past the line's end
abbrev pub cell : View → ℕ → ℕ → ℕ → List ℕ
cell v at n i = gap i ++ (if nat_lt i n then digits (byte_now v (address at i)) else codes "   ")

-- a line of n bytes, 16 at most
unfoldable pub dump_line : View → ℕ → ℕ → List ℕ
dump_line v at n =
    hex8 at ++ codes " " ++ below (λ i. cell v at n i) 16 ++ codes "  |" ++ below (λ i. letter (byte_now v (address at i))) n ++ codes "|\n"

-- the bytes of the k-th line
abbrev pub rest_of : ℕ → ℕ → ℕ
rest_of len k = min 16 (len - 16 * k)

-- as many lines as the bytes need
unfoldable pub memory_text : View → ℕ → ℕ → List ℕ
memory_text v at len = below (λ k. dump_line v (address at (16 * k)) (rest_of len k)) ((len + 15) / 16)
