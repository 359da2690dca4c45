-- The words of a source as the bytes close them, one by one.
use Rattle.std.specs.Prelude.{ℕ, ◌+◌, List, [], ◌∷◌, ◌++◌, take, drop, length, Option, Some, None}
use Rattle.asm_lex.specs.declared.token.Token.{Token}
use Rattle.asm_lex.specs.declared.machine.Mode.{Mode}
use Rattle.asm_lex.specs.declared.machine.Next.{Next}
use Rattle.asm_lex.specs.declared.machine.Next.TheVariants.{Goes, Stops}
use Rattle.asm_lex.specs.Machine.{stepped}
use Rattle.asm_lex.specs.Words.{Word, line_after}

abbrev pub token_of : Word → Token
token_of w = record { kind = w.kind; at = w.at; len = length w.bytes }

-- words, and what they leave open or the first fault after them
pub record Scan : Type 0 where
  pub words : List Word
  pub ending : Next

abbrev pub word_of : List ℕ → ℕ → Token → Word
word_of seen line t = record { kind = t.kind; at = t.at; line = line; bytes = take t.len (drop t.at seen) }

-- a word that may be there, and what follows
abbrev pub with_token : List ℕ → ℕ → Option Token → Scan → Scan
with_token seen line None s = s
with_token seen line (Some t) s = record { words = word_of seen line t ∷ s.words; ending = s.ending }

-- `seen` are the bytes before, and `at` is their number
abbrev pub scan : Mode → List ℕ → ℕ → ℕ → List ℕ → Scan
scan m seen at line [] = record { words = []; ending = Goes m }
scan m seen at line (b ∷ bs) =
    let s = stepped m at line b in
    let behind = seen ++ b ∷ [] in
    with_token behind line s.first (with_token behind line s.second (elim s.next [
      | Goes n ↦ scan n behind (at + 1) (line_after line b) bs
      | Stops l c ↦ record { words = []; ending = Stops l c }
    ]))
