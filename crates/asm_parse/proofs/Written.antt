-- Tokens with a blank after each, and the words that they are.
use Rattle.std.proofs.Common.{◌≡◌, ℕ, ◌+◌, true, List, [], ◌∷◌, ◌++◌, length, refl, ap}
use Rattle.std.specs.List.{list_all}
use Rattle.asm_lex.specs.declared.bytes.Class.TheVariants as class
use Rattle.asm_lex.specs.declared.token.TokenKind.{TokenKind}
use Rattle.asm_lex.specs.declared.token.TokenKind.TheVariants as kind
use Rattle.asm_lex.specs.Bytes.{class_of, is_mark, is_letter, is_word}
use Rattle.asm_lex.specs.Words.{Word}
use Rattle.asm_lex.specs.Source.{IsGap, IsToken, lines_after, Lexed}
use Rattle.asm_argument.specs.declared.terminal.Terminal.{Terminal}
use Rattle.asm_argument.specs.Terminals.{terminal_of}
use Rattle.asm_parse.specs.Statements.{terminals}

pub record Piece : Type 0 where
  pub kind : TokenKind
  pub bytes : List ℕ

abbrev pub written : List Piece → List ℕ
written [] = []
written (p ∷ ps) = p.bytes ++ (32 ∷ written ps)

abbrev pub words_at : ℕ → ℕ → List Piece → List Word
words_at at line [] = []
words_at at line (p ∷ ps) = record { kind = p.kind; at = at; line = line; bytes = p.bytes } ∷ words_at
    (at + length p.bytes + length {A = ℕ} (32 ∷ [])) (lines_after (lines_after line p.bytes) (32 ∷ [])) ps

abbrev pub terminals_of : List Piece → List Terminal
terminals_of [] = []
terminals_of (p ∷ ps) = terminal_of p.kind p.bytes ∷ terminals_of ps

abbrev pub ArePieces : List Piece → Type 0
ArePieces [] = Unit {0}
ArePieces (p ∷ ps) = ((rest : List ℕ) → IsToken p.kind p.bytes (32 ∷ rest)) × ArePieces ps

pub pieces-append : (ps qs : List Piece) → ArePieces ps → ArePieces qs → ArePieces (ps ++ qs)
pieces-append [] qs h k = k
pieces-append (p ∷ ps) qs h k = (h.0, pieces-append ps qs h.1 k)

pub terminals_of-append : (ps qs : List Piece) → terminals_of (ps ++ qs) ≡ terminals_of ps ++ terminals_of qs
terminals_of-append [] qs = refl
terminals_of-append (p ∷ ps) qs = ap (λ (x : List Terminal). terminal_of p.kind p.bytes ∷ x) (terminals_of-append ps qs)

pub terminals-words_at : (ps : List Piece) (at line : ℕ) → terminals (words_at at line ps) ≡ terminals_of ps
terminals-words_at [] at line = refl
terminals-words_at (p ∷ ps) at line = ap (λ (x : List Terminal). terminal_of p.kind p.bytes ∷ x) (terminals-words_at ps _ _)

blank_is : class_of 32 ≡ class.Blank
unfolding class_of is_mark
blank_is = refl

pub written_lexed : (ps : List Piece) → ArePieces ps → (at line : ℕ) → Lexed at line (written ps) (words_at at line ps)
written_lexed [] h at line = Lexed.none
written_lexed (p ∷ ps) h at line = Lexed.token p.kind p.bytes (32 ∷ written ps) refl (h.0 (written ps))
    (Lexed.gap (32 ∷ []) (written ps) refl (IsGap.blank blank_is) (written_lexed ps h.1 _ _))

-- ---- tokens

-- the bytes of a name
abbrev pub IsName : List ℕ → Type 0
IsName [] = ⊥
IsName (b ∷ bs) = (class_of b ≡ class.Letter) × (list_all is_word bs ≡ true)

pub name_piece : (n : List ℕ) → IsName n → (rest : List ℕ) → IsToken kind.Name n (32 ∷ rest)
unfolding is_word is_letter
name_piece [] h rest = absurd h
name_piece (b ∷ bs) h rest = IsToken.name h.0 h.1 refl

pub one_piece : (rest : List ℕ) → IsToken kind.Number (49 ∷ []) (32 ∷ rest)
unfolding class_of is_mark is_word is_letter
one_piece rest = IsToken.number refl refl refl refl

pub zero_piece : (rest : List ℕ) → IsToken kind.Number (48 ∷ []) (32 ∷ rest)
unfolding class_of is_mark is_word is_letter
zero_piece rest = IsToken.number refl refl refl refl

pub text_piece : (rest : List ℕ) → IsToken kind.Text (34 ∷ 34 ∷ []) (32 ∷ rest)
unfolding class_of is_mark
text_piece rest = IsToken.string refl refl

pub end_piece : (rest : List ℕ) → IsToken kind.End (10 ∷ []) (32 ∷ rest)
unfolding class_of is_mark
end_piece rest = IsToken.end refl

pub percent_piece : (rest : List ℕ) → IsToken (kind.Mark 37) (37 ∷ []) (32 ∷ rest)
unfolding class_of is_mark is_letter
percent_piece rest = IsToken.mark refl

pub close_piece : (rest : List ℕ) → IsToken (kind.Mark 41) (41 ∷ []) (32 ∷ rest)
unfolding class_of is_mark is_letter
close_piece rest = IsToken.mark refl

pub comma_piece : (rest : List ℕ) → IsToken (kind.Mark 44) (44 ∷ []) (32 ∷ rest)
unfolding class_of is_mark is_letter
comma_piece rest = IsToken.mark refl

pub colon_piece : (rest : List ℕ) → IsToken (kind.Mark 58) (58 ∷ []) (32 ∷ rest)
unfolding class_of is_mark is_letter
colon_piece rest = IsToken.mark refl

-- a name as short as can be, and that of a register
abbrev pub letter : List ℕ
letter = 97 ∷ []

pub letter_name : IsName letter
unfolding class_of is_mark is_letter
letter_name = (refl, refl)

abbrev pub low : List ℕ
low = 97 ∷ 108 ∷ []

pub low_name : IsName low
unfolding class_of is_mark is_letter is_word
low_name = (refl, refl)

abbrev pub text_section : List ℕ
text_section = 46 ∷ 116 ∷ 101 ∷ 120 ∷ 116 ∷ []

pub section_name_is : IsName text_section
unfolding class_of is_mark is_letter is_word
section_name_is = (refl, refl)

abbrev pub the_name : List ℕ → Piece
the_name n = record { kind = kind.Name; bytes = n }

abbrev pub the_one : Piece
the_one = record { kind = kind.Number; bytes = 49 ∷ [] }

abbrev pub the_zero : Piece
the_zero = record { kind = kind.Number; bytes = 48 ∷ [] }

abbrev pub the_text : Piece
the_text = record { kind = kind.Text; bytes = 34 ∷ 34 ∷ [] }

abbrev pub the_end : Piece
the_end = record { kind = kind.End; bytes = 10 ∷ [] }

abbrev pub the_mark : ℕ → Piece
the_mark m = record { kind = kind.Mark m; bytes = m ∷ [] }
