-- The lines of a text, and the first that no text can go on from.
use Rattle.std.specs.Prelude.{◌≡◌, ℕ, zero, suc, ◌<◌, ◌==◌, List, [], ◌∷◌, ◌++◌, Result, Ok, Err, if◌then◌else◌}
use Rattle.std.specs.Global.{Vec}
use Rattle.asm_lex.specs.declared.fault.SourceCause.TheVariants as cause
use Rattle.asm_lex.specs.declared.fault.SourceFault.{SourceFault}
use Rattle.asm_lex.specs.declared.fault.SourceFault.TheVariants as fault
use Rattle.asm_lex.specs.declared.token.Token.{Token}
use Rattle.asm_lex.specs.Words.{Word}
use Rattle.asm_lex.specs.Source.{LexedSource}

-- the first lines of a text, each with its newline
abbrev pub first_lines : ℕ → List ℕ → List ℕ
first_lines zero text = []
first_lines (suc n) [] = 10 ∷ []
first_lines (suc n) (b ∷ bs) = b ∷ first_lines (if b == 10 then n else suc n) bs

abbrev pub HasTokens : List ℕ → Type 0
HasTokens text = (ws : List Word) × LexedSource text ws

-- No text that begins with the lines up to this one has tokens, and with the lines before it one begins that has.
abbrev pub IsFirstDead : List ℕ → ℕ → Type 0
IsFirstDead text line = ((more : List ℕ) → HasTokens (first_lines line text ++ more) → ⊥)
    × ((n : ℕ) → n < line → (more : List ℕ) × HasTokens (first_lines n text ++ more))

-- the line of a refusal, but of a comment that doesn't end
abbrev pub RefusedAt : List ℕ → Result (Vec Token) SourceFault → Type 0
RefusedAt text (Ok v) = Unit {0}
RefusedAt text (Err fault.Memory) = Unit {0}
RefusedAt text (Err (fault.At l c)) = (c ≡ cause.OpenComment → ⊥) → IsFirstDead text l
