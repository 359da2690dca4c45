-- A token as the grammar sees it.
use Rattle.std.specs.Prelude.{ℕ, ◌+◌, ◌-◌, ◌*◌, ◌^◌, ◌==◌, nat_lt, nat_le, List, [], ◌∷◌, if◌then◌else◌}
use Rattle.asm_lex.specs.declared.token.TokenKind.{TokenKind}
use Rattle.asm_lex.specs.declared.token.TokenKind.TheVariants as kind
use Rattle.asm_argument.specs.declared.terminal.Terminal.{Terminal}
use Rattle.asm_argument.specs.declared.terminal.Terminal.TheVariants as terminal
use Rattle.asm_argument.specs.declared.escapes.Escape.TheVariants as escape
use Rattle.asm_argument.specs.Escapes.{string_text}

abbrev pub digit_of : ℕ → ℕ
digit_of b = if nat_le b 57 then b - 48 else if nat_le b 70 then b - 55 else b - 87

abbrev pub digits_value : ℕ → ℕ → List ℕ → ℕ
digits_value base so_far [] = so_far
digits_value base so_far (b ∷ bs) = digits_value base (so_far * base + digit_of b) bs

-- what a number after its first byte says
abbrev pub tail_value : ℕ → List ℕ → ℕ
tail_value first [] = digit_of first
tail_value first (b ∷ bs) =
    if first == 39 then b
    else if first == 48 then (if b == 120 then digits_value 16 0 bs else digits_value 8 0 (b ∷ bs))
    else digits_value 10 (digit_of first) (b ∷ bs)

abbrev pub number_value : List ℕ → ℕ
number_value [] = 0
number_value (b ∷ bs) = tail_value b bs

abbrev pub mark_terminal : ℕ → Terminal
mark_terminal m =
    if m == 36 then terminal.Dollar
    else if m == 37 then terminal.Percent
    else if m == 40 then terminal.Open
    else if m == 41 then terminal.Close
    else if m == 42 then terminal.Star
    else if m == 43 then terminal.Plus
    else if m == 44 then terminal.Comma
    else if m == 45 then terminal.Minus
    else if m == 58 then terminal.Colon
    else terminal.At

abbrev pub number_terminal : ℕ → Terminal
number_terminal n = if nat_lt n (2 ^ 32) then terminal.Number n else terminal.Big

-- a token as the grammar sees it
abbrev pub terminal_of : TokenKind → List ℕ → Terminal
terminal_of kind.Name bytes = terminal.Name bytes
terminal_of kind.Number bytes = number_terminal (number_value bytes)
terminal_of kind.Text bytes = terminal.Text (string_text escape.Open bytes)
terminal_of (kind.Mark m) bytes = mark_terminal m
terminal_of kind.End bytes = terminal.End
