-- The pieces of a line, the words that they are, and what they are to the grammar.
use Rattle.std.proofs.Common.{◌≡◌, ℕ, suc, ◌+◌, ◌*◌, ◌≤◌, ◌++◌, Bool, true, false, List, [], ◌∷◌, length, length-append, arith, refl, sym}
use Rattle.std.proofs.Common.{ap, subst}
use Rattle.std.specs.Prelude.{not, nat_le, ◌&&◌, ◌==◌}
use Rattle.std.specs.List.{list_all}
use Rattle.std.proofs.lemmas.Bool.{and_parts, not-true, leb-true}
use Rattle.asm_lex.specs.declared.bytes.Class.{Class}
use Rattle.asm_lex.specs.declared.bytes.Class.TheVariants as class
use Rattle.asm_lex.specs.declared.token.TokenKind.TheVariants as kind
use Rattle.asm_lex.specs.Bytes.{class_of, is_letter, is_word}
use Rattle.asm_lex.specs.Words.{Word}
use Rattle.asm_lex.specs.Source.{Begins, is_numeral, IsGap, IsToken, lines_after, Lexed}
use Rattle.asm_lex.proofs.Again.{line_stays, words_line}
use Rattle.asm_argument.specs.declared.terminal.Terminal.{Terminal}
use Rattle.asm_argument.specs.declared.terminal.Terminal.TheVariants as terminal
use Rattle.asm_argument.specs.Terminals.{number_value, mark_terminal, number_terminal}
use Rattle.asm_parse.specs.Statements.{terminals}

-- a blank, a mark, a name or a number
pub data Piece : Type 0 where
  blank : Piece
  mark : ℕ → Piece
  name : List ℕ → Piece
  number : List ℕ → Piece

abbrev pub bytes_of : Piece → List ℕ
bytes_of Piece.blank = 32 ∷ []
bytes_of (Piece.mark m) = m ∷ []
bytes_of (Piece.name n) = n
bytes_of (Piece.number n) = n

-- pieces as text, with this text after them
abbrev pub put : List Piece → List ℕ → List ℕ
put [] rest = rest
put (p ∷ ps) rest = bytes_of p ++ put ps rest

-- ---- pieces that are told apart

abbrev is_letter_class : Class → Bool
is_letter_class class.Letter = true
is_letter_class _ = false

abbrev is_digit_class : Class → Bool
is_digit_class class.Digit = true
is_digit_class _ = false

abbrev is_mark_class : Class → Bool
is_mark_class class.Mark = true
is_mark_class _ = false

letter_class : (c : Class) → is_letter_class c ≡ true → c ≡ class.Letter
letter_class class.Letter e = refl
letter_class _ e = absurd cc

digit_class : (c : Class) → is_digit_class c ≡ true → c ≡ class.Digit
digit_class class.Digit e = refl
digit_class _ e = absurd cc

mark_class : (c : Class) → is_mark_class c ≡ true → c ≡ class.Mark
mark_class class.Mark e = refl
mark_class _ e = absurd cc

-- no name and no number has more than 16 bytes
abbrev pub is_short : List ℕ → Bool
is_short bs = nat_le (length bs) 16

abbrev pub is_name : List ℕ → Bool
is_name [] = false
is_name (b ∷ bs) = is_letter_class (class_of b) && (list_all is_word (b ∷ bs) && is_short (b ∷ bs))

abbrev pub is_number : List ℕ → Bool
is_number [] = false
is_number (b ∷ bs) = is_digit_class (class_of b) && (list_all is_word (b ∷ bs) && is_short (b ∷ bs) && is_numeral (b ∷ bs))

abbrev pub is_plain_mark : ℕ → Bool
is_plain_mark m = is_mark_class (class_of m) && not (m == 10)

-- no name and no number goes on with what follows
abbrev pub breaks : List Piece → Bool
breaks [] = true
breaks (Piece.blank ∷ ps) = true
breaks (Piece.mark m ∷ ps) = not (is_word m)
breaks _ = false

abbrev pub AreApart : List Piece → Type 0
AreApart [] = Unit {0}
AreApart (Piece.blank ∷ ps) = AreApart ps
AreApart (Piece.mark m ∷ ps) = (is_plain_mark m ≡ true) × AreApart ps
AreApart (Piece.name n ∷ ps) = (is_name n ≡ true) × (breaks ps ≡ true) × AreApart ps
AreApart (Piece.number n ∷ ps) = (is_number n ≡ true) × (breaks ps ≡ true) × AreApart ps

-- ---- the words that they are

abbrev pub end_at : ℕ → List Piece → ℕ
end_at at [] = at
end_at at (p ∷ ps) = end_at (at + length (bytes_of p)) ps

abbrev pub with_word : ℕ → ℕ → Piece → List Word → List Word
with_word at line Piece.blank ws = ws
with_word at line (Piece.mark m) ws = record { kind = kind.Mark m; at = at; line = line; bytes = m ∷ [] } ∷ ws
with_word at line (Piece.name n) ws = record { kind = kind.Name; at = at; line = line; bytes = n } ∷ ws
with_word at line (Piece.number n) ws = record { kind = kind.Number; at = at; line = line; bytes = n } ∷ ws

-- from this place on, with these words after them
abbrev pub words : ℕ → ℕ → List Piece → List Word → List Word
words at line [] ws = ws
words at line (p ∷ ps) ws = with_word at line p (words (at + length (bytes_of p)) line ps ws)

abbrev pub is_none_of_a_word : ℕ → Bool
is_none_of_a_word b = not (is_word b)

begins : (ps : List Piece) (rest : List ℕ) → breaks ps ≡ true → Begins is_none_of_a_word rest → Begins is_none_of_a_word (put ps rest)
unfolding is_word is_letter
begins [] rest e b = b
begins (Piece.blank ∷ ps) rest e b = refl
begins (Piece.mark m ∷ ps) rest e b = e
begins (Piece.name n ∷ ps) rest e b = absurd cc
begins (Piece.number n ∷ ps) rest e b = absurd cc

blank_class : class_of 32 ≡ class.Blank
unfolding class_of
blank_class = refl

-- a piece in one line, and what is read after it
piece_then : (at line : ℕ) (piece rest : List ℕ) (ws : List Word) → lines_after line piece ≡ line → Lexed (at + length piece) line rest ws
    → Lexed (at + length piece) (lines_after line piece) rest ws
piece_then at line piece rest ws e l = subst (λ k. Lexed (at + length piece) k rest ws) (sym e) l

blank_then : (at line : ℕ) (rest : List ℕ) (ws : List Word) → Lexed (at + length (bytes_of Piece.blank)) line rest ws
    → Lexed at line (32 ∷ rest) ws
blank_then at line rest ws l =
    Lexed.gap (32 ∷ []) rest refl (IsGap.blank blank_class) (piece_then at line (32 ∷ []) rest ws (line_stays line 32 refl) l)

mark_then : (m at line : ℕ) (rest : List ℕ) (ws : List Word) → is_plain_mark m ≡ true → Lexed (at + length (m ∷ [])) line rest ws
    → Lexed at line (m ∷ rest) (with_word at line (Piece.mark m) ws)
mark_then m at line rest ws e l =
    let p = and_parts (is_mark_class (class_of m)) (not (m == 10)) e in
    Lexed.token (kind.Mark m) (m ∷ []) rest refl (IsToken.mark (mark_class (class_of m) p.0))
    (piece_then at line (m ∷ []) rest ws (line_stays line m (not-true (m == 10) p.1)) l)

name_then : (n : List ℕ) (at line : ℕ) (rest : List ℕ) (ws : List Word) → is_name n ≡ true → Begins is_none_of_a_word rest
    → Lexed (at + length n) line rest ws → Lexed at line (n ++ rest) (with_word at line (Piece.name n) ws)
name_then [] at line rest ws e b l = absurd cc
name_then (x ∷ xs) at line rest ws e b l =
    let p = and_parts (is_letter_class (class_of x)) (list_all is_word (x ∷ xs) && is_short (x ∷ xs)) e in
    let w = (and_parts (list_all is_word (x ∷ xs)) (is_short (x ∷ xs)) p.1).0 in
    let q = and_parts (is_word x) (list_all is_word xs) w in
    Lexed.token kind.Name (x ∷ xs) rest refl (IsToken.name (letter_class (class_of x) p.0) q.1 b)
    (piece_then at line (x ∷ xs) rest ws (words_line line (x ∷ xs) w) l)

number_then : (n : List ℕ) (at line : ℕ) (rest : List ℕ) (ws : List Word) → is_number n ≡ true → Begins is_none_of_a_word rest
    → Lexed (at + length n) line rest ws → Lexed at line (n ++ rest) (with_word at line (Piece.number n) ws)
number_then [] at line rest ws e b l = absurd cc
number_then (x ∷ xs) at line rest ws e b l =
    let p = and_parts (is_digit_class (class_of x)) (list_all is_word (x ∷ xs) && is_short (x ∷ xs) && is_numeral (x ∷ xs)) e in
    let r = and_parts (list_all is_word (x ∷ xs) && is_short (x ∷ xs)) (is_numeral (x ∷ xs)) p.1 in
    let w = (and_parts (list_all is_word (x ∷ xs)) (is_short (x ∷ xs)) r.0).0 in
    let q = and_parts (is_word x) (list_all is_word xs) w in
    Lexed.token kind.Number (x ∷ xs) rest refl (IsToken.number (digit_class (class_of x) p.0) q.1 r.1 b)
    (piece_then at line (x ∷ xs) rest ws (words_line line (x ∷ xs) w) l)

-- Pieces that are told apart are these words.
pub lexed : (ps : List Piece) (at line : ℕ) (rest : List ℕ) (ws : List Word) → AreApart ps → Begins is_none_of_a_word rest
    → Lexed (end_at at ps) line rest ws → Lexed at line (put ps rest) (words at line ps ws)
lexed [] at line rest ws g b l = l
lexed (Piece.blank ∷ ps) at line rest ws g b l =
    blank_then at line (put ps rest) _ (lexed ps (at + length (bytes_of Piece.blank)) line rest ws g b l)
lexed (Piece.mark m ∷ ps) at line rest ws g b l =
    mark_then m at line (put ps rest) _ g.0 (lexed ps (at + length (m ∷ [])) line rest ws g.1 b l)
lexed (Piece.name n ∷ ps) at line rest ws g b l =
    name_then n at line (put ps rest) _ g.0 (begins ps rest g.1 b) (lexed ps (at + length n) line rest ws g.2 b l)
lexed (Piece.number n ∷ ps) at line rest ws g b l =
    number_then n at line (put ps rest) _ g.0 (begins ps rest g.1 b) (lexed ps (at + length n) line rest ws g.2 b l)

-- ---- how long they are

name_length : (n : List ℕ) → is_name n ≡ true → length n ≤ 16
name_length [] e = absurd cc
name_length (x ∷ xs) e =
    let p = and_parts (is_letter_class (class_of x)) (list_all is_word (x ∷ xs) && is_short (x ∷ xs)) e in
    leb-true (length (x ∷ xs)) 16 (and_parts (list_all is_word (x ∷ xs)) (is_short (x ∷ xs)) p.1).1

number_length : (n : List ℕ) → is_number n ≡ true → length n ≤ 16
number_length [] e = absurd cc
number_length (x ∷ xs) e =
    let p = and_parts (is_digit_class (class_of x)) (list_all is_word (x ∷ xs) && is_short (x ∷ xs) && is_numeral (x ∷ xs)) e in
    let r = and_parts (list_all is_word (x ∷ xs) && is_short (x ∷ xs)) (is_numeral (x ∷ xs)) p.1 in
    leb-true (length (x ∷ xs)) 16 (and_parts (list_all is_word (x ∷ xs)) (is_short (x ∷ xs)) r.0).1

longer : (n m k : ℕ) → n ≤ 16 → m ≤ 16 * k → n + m ≤ 16 * suc k
longer n m k a b = omega (arith, a, b)

piece_longer : (piece : List ℕ) (ps : List Piece) → length piece ≤ 16 → length (put ps []) ≤ 16 * length ps
    → length (piece ++ put ps []) ≤ 16 * suc (length ps)
piece_longer piece ps a b = rw (length-append piece (put ps [])) (longer (length piece) (length (put ps [])) (length ps) a b)

pub put_length : (ps : List Piece) → AreApart ps → length (put ps []) ≤ 16 * length ps
put_length [] g = omega arith
put_length (Piece.blank ∷ ps) g = piece_longer (bytes_of Piece.blank) ps (omega arith) (put_length ps g)
put_length (Piece.mark m ∷ ps) g = piece_longer (m ∷ []) ps (omega arith) (put_length ps g.1)
put_length (Piece.name n ∷ ps) g = piece_longer n ps (name_length n g.0) (put_length ps g.2)
put_length (Piece.number n ∷ ps) g = piece_longer n ps (number_length n g.0) (put_length ps g.2)

-- ---- what they are to the grammar

abbrev pub with_terminal : Piece → List Terminal → List Terminal
with_terminal Piece.blank ts = ts
with_terminal (Piece.mark m) ts = mark_terminal m ∷ ts
with_terminal (Piece.name n) ts = terminal.Name n ∷ ts
with_terminal (Piece.number n) ts = number_terminal (number_value n) ∷ ts

-- with these terminals after them
abbrev pub terminals_of : List Piece → List Terminal → List Terminal
terminals_of [] ts = ts
terminals_of (p ∷ ps) ts = with_terminal p (terminals_of ps ts)

pub words_are : (ps : List Piece) (at line : ℕ) (ws : List Word) → terminals (words at line ps ws) ≡ terminals_of ps (terminals ws)
words_are [] at line ws = refl
words_are (Piece.blank ∷ ps) at line ws = words_are ps (at + length (bytes_of Piece.blank)) line ws
words_are (Piece.mark m ∷ ps) at line ws = ap (λ ts. mark_terminal m ∷ ts) (words_are ps (at + length (m ∷ [])) line ws)
words_are (Piece.name n ∷ ps) at line ws = ap (λ ts. terminal.Name n ∷ ts) (words_are ps (at + length n) line ws)
words_are (Piece.number n ∷ ps) at line ws = ap (λ ts. number_terminal (number_value n) ∷ ts) (words_are ps (at + length n) line ws)
