-- What a terminal says has no more bytes than its token.
use Rattle.std.proofs.Common.{◌≡◌, ℕ, ◌+◌, ◌≤◌, Bool, true, false, cond, List, [], ◌∷◌, ◌++◌, length, Some, None, refl, ap, arith}
use Rattle.std.proofs.lemmas.List.{length-append}
use Rattle.std.specs.Prelude.{◌==◌, nat_lt, ◌^◌}
use Rattle.std.specs.Option.{option_to_list}
use Rattle.asm_lex.specs.declared.token.TokenKind.{TokenKind}
use Rattle.asm_lex.specs.Words.{Word}
use Rattle.asm_lex.specs.Source.{IsToken, Lexed}
use Rattle.asm_argument.specs.declared.terminal.Terminal.{Terminal}
use Rattle.asm_argument.specs.declared.terminal.Terminal.TheVariants as terminal
use Rattle.asm_argument.specs.declared.escapes.Escape.{Escape}
use Rattle.asm_argument.specs.declared.escapes.Escape.TheVariants as escape
use Rattle.asm_argument.specs.declared.escapes.Unescaped.{Unescaped}
use Rattle.asm_lex.specs.Bytes.{is_octal}
use Rattle.asm_argument.specs.Escapes.{plain_step, escape_step, string_text}
use Rattle.asm_argument.specs.Terminals.{number_value, mark_terminal, number_terminal, terminal_of}
use Rattle.asm_parse.specs.Statements.{terminals}

-- the bytes that a terminal stands for, or one
abbrev pub cost : Terminal → ℕ
cost (terminal.Name n) = length n
cost (terminal.Text t) = length t
cost _ = 1

abbrev pub costs : List Terminal → ℕ
costs [] = 0
costs (s ∷ ss) = cost s + costs ss

pub costs-append : (ss ts : List Terminal) → costs (ss ++ ts) ≡ costs ss + costs ts
costs-append [] ts = omega arith
costs-append (s ∷ ss) ts = omega (arith, costs-append ss ts)

-- ---- strings

-- the bytes that are still to come of an escape
abbrev owed : Escape → ℕ
owed (escape.One v) = 1
owed (escape.Two v) = 1
owed _ = 0

abbrev Gives : ℕ → Unescaped → Type 0
Gives o g = length (option_to_list g.first ++ option_to_list g.second) + owed g.next ≤ o + 1

gives_either : (o : ℕ) (t : Bool) (a b : Unescaped) → Gives o a → Gives o b → Gives o (cond t a b)
gives_either o true a b p q = p
gives_either o false a b p q = q

plain_none : (b : ℕ) → Gives 0 (plain_step None b)
plain_none b = gives_either 0 (b == 92) _ _ (omega arith) (gives_either 0 (b == 34) _ _ (omega arith) (omega arith))

plain_some : (v b : ℕ) → Gives 1 (plain_step (Some v) b)
plain_some v b = gives_either 1 (b == 92) _ _ (omega arith) (gives_either 1 (b == 34) _ _ (omega arith) (omega arith))

step_gives : (e : Escape) (b : ℕ) → Gives (owed e) (escape_step e b)
step_gives escape.Open b = omega arith
step_gives escape.Plain b = plain_none b
step_gives escape.Slash b = gives_either 0 (is_octal b) _ _ (omega arith) (omega arith)
step_gives (escape.One v) b = gives_either 1 (is_octal b) _ _ (omega arith) (plain_some v b)
step_gives (escape.Two v) b = gives_either 1 (is_octal b) _ _ (omega arith) (plain_some v b)
step_gives escape.Closed b = omega arith

string_shorter : (e : Escape) (bs : List ℕ) → length (string_text e bs) ≤ owed e + length bs
string_shorter e [] = omega arith
string_shorter e (b ∷ bs) =
    let g = escape_step e b in
    omega (
      arith,
      step_gives e b,
      string_shorter (escape_step e b).next bs,
      length-append (option_to_list (escape_step e b).first ++ option_to_list (escape_step e b).second)
          (string_text (escape_step e b).next bs),
    )

-- ---- tokens

one_either : (t : Bool) (a b : Terminal) → cost a ≡ 1 → cost b ≡ 1 → cost (cond t a b) ≡ 1
one_either true a b p q = p
one_either false a b p q = q

mark_cost : (m : ℕ) → cost (mark_terminal m) ≡ 1
mark_cost m =
    one_either (m == 36) _ _ refl
    (one_either (m == 37) _ _ refl (one_either (m == 40) _ _ refl (one_either (m == 41) _ _ refl (one_either (m == 42) _ _ refl
    (one_either (m == 43) _ _ refl (one_either (m == 44) _ _ refl (one_either (m == 45) _ _ refl (one_either (m == 58) _ _ refl refl))))))))

number_cost : (n : ℕ) → cost (number_terminal n) ≡ 1
number_cost n = one_either (nat_lt n (2 ^ 32)) _ _ refl refl

record Pays (k : TokenKind) (bytes : List ℕ) : Type 0 where
  some : 1 ≤ length bytes
  pays : cost (terminal_of k bytes) ≤ length bytes

token_pays : (k : TokenKind) (piece rest : List ℕ) → IsToken k piece rest → Pays k piece
token_pays k piece rest (IsToken.end h) = record { some = omega arith; pays = omega arith }
token_pays k piece rest (IsToken.mark {b} h) = record { some = omega arith; pays = omega (arith, mark_cost b) }
token_pays k piece rest (IsToken.name {b} {bs} h g f) = record { some = omega arith; pays = omega arith }
token_pays k piece rest (IsToken.number {b} {bs} h g f e) =
    record { some = omega arith; pays = omega (arith, number_cost (number_value (b ∷ bs))) }
token_pays k piece rest (IsToken.character {b} {c} h g) =
    record { some = omega arith; pays = omega (arith, number_cost (number_value (b ∷ c ∷ []))) }
token_pays k piece rest (IsToken.string {b} {bs} h g) =
    record { some = omega arith; pays = omega (arith, string_shorter escape.Open (b ∷ bs)) }

-- the bytes of words
abbrev pub weight : List Word → ℕ
weight [] = 0
weight (w ∷ ws) = length w.bytes + weight ws

-- each word stands for no more than its bytes
abbrev pub ArePaid : List Word → Type 0
ArePaid [] = Unit {0}
ArePaid (w ∷ ws) = (cost (terminal_of w.kind w.bytes) ≤ length w.bytes) × ArePaid ws

pub paid_costs : (ws : List Word) → ArePaid ws → costs (terminals ws) ≤ weight ws
paid_costs [] h = omega arith
paid_costs (w ∷ ws) h = omega (arith, h.0, paid_costs ws h.1)

pub record Paid (text : List ℕ) (ws : List Word) : Type 0 where
  pub count : length ws ≤ length text
  pub bytes : weight ws ≤ length text
  pub each : ArePaid ws

-- Words have no more bytes than the text, and are no more.
pub lexed_pays : {at line : ℕ} {text : List ℕ} {ws : List Word} → Lexed at line text ws → Paid text ws
lexed_pays Lexed.none = record { count = omega arith; bytes = omega arith; each = tt }
lexed_pays (Lexed.gap piece rest e gap l) =
    let p = lexed_pays l in
    record {
      count = omega (arith, ap length e, length-append piece rest, p.count);
      bytes = omega (arith, ap length e, length-append piece rest, p.bytes);
      each = p.each;
    }
lexed_pays (Lexed.token k piece rest e is l) =
    let p = lexed_pays l in
    let t = token_pays k piece rest is in
    record {
      count = omega (arith, ap length e, length-append piece rest, p.count, t.some);
      bytes = omega (arith, ap length e, length-append piece rest, p.bytes);
      each = (t.pays, p.each);
    }
