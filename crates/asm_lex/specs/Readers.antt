-- The result of a reader that takes a source's tokens as its bytes close and end them.
use Rattle.std.specs.Prelude.{◌≡◌, ℕ, ◌+◌, ◌≤◌, List, [], ◌∷◌, ◌++◌, length, Option, Some, None, Result, Ok, Err}
use Rattle.std.specs.Option.{option_to_list}
use Rattle.std.specs.Global.{Vec}
use Rattle.asm_lex.specs.declared.fault.SourceFault.{SourceFault}
use Rattle.asm_lex.specs.declared.fault.SourceFault.TheVariants as fault
use Rattle.asm_lex.specs.declared.token.Token.{Token}
use Rattle.asm_lex.specs.declared.machine.Mode.{Mode}
use Rattle.asm_lex.specs.declared.machine.Next.TheVariants.{Goes, Stops}
use Rattle.asm_lex.specs.declared.machine.Stepped.{Stepped}
use Rattle.asm_lex.specs.Machine.{stepped}
use Rattle.asm_lex.specs.Words.{line_after}

-- a token that may be there lies among these bytes
abbrev pub Fits : List ℕ → Option Token → Type 0
Fits seen None = Unit {0}
Fits seen (Some t) = t.at + t.len ≤ length seen

-- the result of one byte, by the reader, the bytes up to and including it, its line, and what it does
abbrev pub Takes : Type 0 → Type 1
Takes R = R → List ℕ → ℕ → Stepped → Result (R × Mode) SourceFault → Type 0

-- Byte by byte, up to the first fault: `seen` are the bytes before, `at` is their number, and `line` is that of the next.
abbrev pub ReadsTo : {R : Type 0} → Takes R → R → Mode → List ℕ → ℕ → ℕ → List ℕ → Result (R × Mode) SourceFault → Type 0
ReadsTo takes r m seen at line [] result = result ≡ Ok (r, m)
ReadsTo {R} takes r m seen at line (b ∷ bs) result =
    (x : Result (R × Mode) SourceFault) × takes r (seen ++ b ∷ []) line (stepped m at line b) x × (elim x [
      | Ok y ↦ ReadsTo takes y.0 y.1 (seen ++ b ∷ []) (at + 1) (line_after line b) bs result
      | Err f ↦ result ≡ Err f
    ])

-- a list takes the tokens of a byte after those that it has, unless memory runs out
abbrev pub Lists : Vec Token → Stepped → Result (Vec Token × Mode) SourceFault → Type 0
Lists v s (Ok x) = (x.0.items ≡ v.items ++ (option_to_list s.first ++ option_to_list s.second)) × (s.next ≡ Goes x.1)
Lists v s (Err (fault.At l c)) = s.next ≡ Stops l c
Lists v s (Err fault.Memory) = Unit {0}
