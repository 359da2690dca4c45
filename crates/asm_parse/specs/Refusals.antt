-- Why a source is refused, in the grammar's own words: apart from how it is read.
use Rattle.std.specs.Prelude.{◌≡◌, ℕ, ◌+◌, ◌==◌, Bool, true, false, not, ◌&&◌, ◌||◌, is_none, List, [], ◌∷◌, ◌++◌, length, Option, Some, None, if◌then◌else◌}
use Rattle.std.specs.List.{list_all}
use Rattle.std.specs.Option.{option_map_or}
use Rattle.asm_lex.specs.declared.bytes.Class.TheVariants as class
use Rattle.asm_lex.specs.declared.token.TokenKind.{TokenKind}
use Rattle.asm_lex.specs.declared.fault.SourceCause.{SourceCause}
use Rattle.asm_lex.specs.declared.fault.SourceCause.TheVariants as cause
use Rattle.asm_lex.specs.Bytes.{class_of}
use Rattle.asm_lex.specs.Words.{Word}
use Rattle.asm_lex.specs.Source.{IsGap, IsToken, lines_after}
use Rattle.asm_lex.specs.Refusals.{is_unclosed, IsWrong}
use Rattle.asm_argument.specs.declared.terminal.Terminal.{Terminal}
use Rattle.asm_argument.specs.declared.terminal.Terminal.TheVariants as terminal
use Rattle.asm_argument.specs.declared.shape.Shape.{Shape}
use Rattle.asm_source.specs.declared.tree.Argument.{Argument}
use Rattle.asm_statement.specs.declared.directive.Directive.{Directive}
use Rattle.asm_statement.specs.declared.directive.Directive.TheVariants as kind
use Rattle.asm_statement.specs.declared.directive.Head.{Head}
use Rattle.asm_statement.specs.declared.directive.Head.TheVariants as head
use Rattle.asm_statement.specs.ScopeView.{ScopeView}
use Rattle.asm_source.specs.Names.{holds}
use Rattle.asm_statement.specs.Scope.{fresh}
use Rattle.asm_argument.specs.Shapes.{takes_names, is_low, is_register}
use Rattle.asm_statement.specs.Directives.{shape_at, defines, is_instruction, is_dotted, directive_of, is_section}
use Rattle.asm_statement.specs.Openings.{misplaced}
use Rattle.asm_statement.specs.Items.{is_passed, is_rep}
use Rattle.asm_parse.specs.Statements.{IsArgument, Separated, has_list, is_inner, Statement, terminals, Statements}
use Rattle.asm_argument.specs.Terminals.{terminal_of}

-- ---- the words of a text, of which the last may be followed by what is no token

-- After the words comes the text's end, a byte with which no token goes on, with its line and cause, or a comment that began in
-- this line and doesn't end.
pub data Ending : Type 0 where
  whole : Ending
  broken : ℕ → SourceCause → Ending
  comment : ℕ → Ending

-- These are the words of the text from this place and line on, up to this end.
pub data Worded : ℕ → ℕ → List ℕ → List Word → Ending → Type 0 where
  none : {at line : ℕ} → Worded at line [] [] Ending.whole
  gap : {at line : ℕ} {text : List ℕ} {ws : List Word} {e : Ending} (piece rest : List ℕ) → text ≡ piece ++ rest → IsGap piece rest
      → Worded (at + length piece) (lines_after line piece) rest ws e → Worded at line text ws e
  token : {at line : ℕ} {text : List ℕ} {ws : List Word} {e : Ending} (k : TokenKind) (piece rest : List ℕ) → text ≡ piece ++ rest
      → IsToken k piece rest
      → Worded (at + length piece) (lines_after line piece) rest ws e
      → Worded at line text (record { kind = k; at = at; line = line; bytes = piece } ∷ ws) e
  broken : {at line next : ℕ} {text : List ℕ} {c : SourceCause} (piece rest : List ℕ) → text ≡ piece ++ next ∷ rest → IsWrong piece next c
      → Worded at line text [] (Ending.broken (lines_after line piece) c)
  comment : {at line b d : ℕ} {bs : List ℕ} → class_of b ≡ class.Slash → (d == 42) ≡ true → is_unclosed false bs ≡ true
      → Worded at line (b ∷ d ∷ bs) [] (Ending.comment line)

-- ---- the first word that is refused

-- Some source begins with these words.
abbrev pub IsBeginning : List Word → Type 0
IsBeginning ws = (more : List Word) × (sc : ScopeView) × Statements fresh (ws ++ more) sc

-- No source begins with these words.
abbrev pub IsNoBeginning : List Word → Type 0
IsNoBeginning ws = (more : List Word) (sc : ScopeView) → Statements fresh (ws ++ more) sc → ⊥

-- ---- where a word stands in its statement

-- What stands in front of the arguments of a directive or an instruction.
pub data Leads (sc : ScopeView) : Head → List Terminal → Type 0 where
  instruction : {n : List ℕ} → is_passed sc n ≡ false → is_dotted n ≡ false → is_rep n ≡ false
      → Leads sc (head.Instruction false n) (terminal.Name n ∷ [])
  repeated : {r n : List ℕ} → is_passed sc r ≡ false → is_dotted r ≡ false → is_rep r ≡ true
      → Leads sc (head.Instruction true n) (terminal.Name r ∷ terminal.Name n ∷ [])
  directive : {n : List ℕ} {k : Directive} → is_passed sc n ≡ false → is_dotted n ≡ true → directive_of n ≡ Some k → has_list k ≡ true
      → Leads sc (head.Directive k n) (terminal.Name n ∷ [])

-- Nothing, or what an argument of this shape begins with.
pub data Opens : Option Shape → List Terminal → Type 0 where
  nothing : {o : Option Shape} → Opens o []
  some : {sh : Shape} {ss : List Terminal} (more : List Terminal) (a : Argument) → IsArgument sh (ss ++ more) a → Opens (Some sh) ss

-- At the statement's beginning; after its first name; after the name of a section; where any token may stand up to the statement's end;
-- or after these terminals of an argument, these whole arguments in front of it, and what is said then.
pub data StatementPlace : Type 0 where
  first : StatementPlace
  named : List ℕ → StatementPlace
  section : StatementPlace
  skipped : StatementPlace
  argument : Head → List Argument → ScopeView → List Terminal → StatementPlace

-- The terminals of a statement so far, more than one where arguments are read, lead to this place.
pub data LeadsTo (sc : ScopeView) : List Terminal → StatementPlace → Type 0 where
  first : LeadsTo sc [] StatementPlace.first
  named : {n : List ℕ} → LeadsTo sc (terminal.Name n ∷ []) (StatementPlace.named n)
  section : {n m : List ℕ} (ss : List Terminal) → is_passed sc n ≡ false → is_dotted n ≡ true → directive_of n ≡ Some kind.Section
      → is_section m ≡ true → list_all is_inner ss ≡ true → LeadsTo sc (terminal.Name n ∷ terminal.Name m ∷ ss) StatementPlace.section
  skipped : {line : ℕ} {ss : List Terminal}
      → ((rest : List Terminal) → list_all is_inner rest ≡ true → Statement sc line (ss ++ (rest ++ terminal.End ∷ [])) sc)
      → LeadsTo sc ss StatementPlace.skipped
  argument : {h : Head} {sc2 : ScopeView} {done : List Argument} (s t : Terminal) (ss lead front arg : List Terminal) → s ∷ t ∷ ss ≡ lead
      ++ (front ++ arg) → Leads sc h lead → Separated h sc front done sc2 → Opens (shape_at h (length done)) arg
      → LeadsTo sc (s ∷ t ∷ ss) (StatementPlace.argument h done sc2 arg)

-- These words are whole statements, which say this, and others of a statement that lead to this place.
pub record Reaches (ws : List Word) (sc : ScopeView) (p : StatementPlace) : Type 0 where
  pub before : List Word
  pub begun : List Word
  pub whole : ws ≡ before ++ begun
  pub statements : Statements fresh before sc
  pub stands : LeadsTo sc (terminals begun) p

-- ---- the causes

abbrev pub last_of : List Terminal → Option Terminal
last_of [] = None
last_of (s ∷ []) = Some s
last_of (s ∷ t ∷ ss) = last_of (t ∷ ss)

-- `%`: a register has to follow
abbrev pub is_percent : Option Terminal → Bool
is_percent (Some terminal.Percent) = true
is_percent _ = false

-- `-`: a number has to follow that isn't above 2^31
abbrev pub is_minus : Option Terminal → Bool
is_minus (Some terminal.Minus) = true
is_minus _ = false

abbrev pub is_sign : Option Terminal → Bool
is_sign (Some terminal.Minus) = true
is_sign (Some terminal.Plus) = true
is_sign _ = false

-- where an operand's terminal may stand: first, or after `$` or `*`
abbrev pub is_for_terminal : Option Terminal → Bool
is_for_terminal None = true
is_for_terminal (Some terminal.Dollar) = true
is_for_terminal (Some terminal.Star) = true
is_for_terminal _ = false

-- `,%index,`: a scale has to follow
abbrev pub is_index : List Terminal → Bool
is_index (terminal.Comma ∷ terminal.Percent ∷ terminal.Name i ∷ terminal.Comma ∷ []) = true
is_index _ = false

abbrev pub ends_index : List Terminal → Bool
ends_index [] = false
ends_index (s ∷ ss) = is_index (s ∷ ss) || ends_index ss

-- a token that may not stand there, where no other cause is
abbrev pub other_cause : Terminal → SourceCause
other_cause terminal.Big = cause.BadNumber
other_cause s = cause.BadOperand

-- a name that may not be said: it is defined already, or one too many
abbrev pub name_cause : ScopeView → Bool → List ℕ → SourceCause
name_cause sc def n = if def && holds sc.defined n then cause.DoubledLabel else cause.TooManySymbols

-- in an operand of an instruction
abbrev pub operand_cause : List Terminal → Terminal → SourceCause
operand_cause arg terminal.Big = cause.BadNumber
operand_cause arg (terminal.Number n) =
    if is_percent (last_of arg) then cause.BadRegister
    else if ends_index arg then cause.BadScale
    else if is_minus (last_of arg) then cause.BadNumber
    else cause.BadOperand
operand_cause arg (terminal.Name n) =
    if is_percent (last_of arg) then cause.BadRegister
    else if is_for_terminal (last_of arg) then cause.TooManySymbols
    else cause.BadOperand
operand_cause arg s = if is_percent (last_of arg) then cause.BadRegister else cause.BadOperand

-- in an argument of a directive
abbrev pub value_cause : Head → List Argument → ScopeView → List Terminal → Terminal → SourceCause
value_cause h done sc [] (terminal.Name n) =
    if option_map_or takes_names (shape_at h (length done)) false then name_cause sc (defines h (length done)) n else cause.BadArgument
value_cause h done sc [] s = misplaced s
value_cause h done sc (t ∷ ts) terminal.Big = cause.BadNumber
value_cause h done sc (t ∷ ts) (terminal.Number n) =
    if is_minus (last_of (t ∷ ts)) then (if is_low n then cause.BadArgument else cause.BadNumber) else cause.BadOperand
value_cause h done sc (t ∷ ts) terminal.Comma = if is_sign (last_of (t ∷ ts)) then cause.BadOperand else cause.BadArgument
value_cause h done sc (t ∷ ts) terminal.End = if is_sign (last_of (t ∷ ts)) then cause.BadOperand else cause.BadArgument
value_cause h done sc (t ∷ ts) s = cause.BadOperand

-- after the name of a directive
abbrev pub directive_cause : Option Directive → ScopeView → List ℕ → Terminal → SourceCause
directive_cause None sc n s = cause.UnknownDirective
directive_cause (Some kind.Section) sc n s = misplaced s
directive_cause (Some k) sc n s = value_cause (head.Directive k n) [] sc [] s

-- after the first name of a statement
abbrev pub named_cause : ScopeView → List ℕ → Terminal → SourceCause
named_cause sc n terminal.Colon = name_cause sc true n
named_cause sc n s =
    if is_dotted n then directive_cause (directive_of n) sc n s
    else if is_rep n then other_cause s
    else operand_cause [] s

-- the cause of a word that is refused in this place
abbrev pub cause_at : ScopeView → StatementPlace → Terminal → SourceCause
cause_at sc (StatementPlace.named n) s = named_cause sc n s
cause_at sc (StatementPlace.argument h done sc2 arg) s = if is_instruction h then operand_cause arg s else value_cause h done sc2 arg s
cause_at sc _ s = other_cause s

-- Where a `%` may not stand its own cause comes first: no register stands after it.
abbrev pub percent_cause : SourceCause → List Terminal → SourceCause
percent_cause cause.BadOperand (terminal.Name n ∷ rest) = if is_register n then cause.BadOperand else cause.BadRegister
percent_cause cause.BadArgument (terminal.Name n ∷ rest) = if is_register n then cause.BadArgument else cause.BadRegister
percent_cause cause.BadOperand rest = cause.BadRegister
percent_cause cause.BadArgument rest = cause.BadRegister
percent_cause c rest = c

abbrev pub behind_cause : ScopeView → StatementPlace → Terminal → List Terminal → SourceCause
behind_cause sc p terminal.Percent rest = percent_cause (cause_at sc p terminal.Percent) rest
behind_cause sc p s rest = cause_at sc p s

-- The cause of a word in this place that is refused, with these terminals after it. A name with which no statement begins is by the
-- terminal after it no label or no directive.
abbrev pub refused_cause : ScopeView → StatementPlace → Terminal → List Terminal → SourceCause
refused_cause sc StatementPlace.first (terminal.Name n) [] =
    if is_none (directive_of n) then cause.UnknownDirective else cause.TooManySymbols
refused_cause sc StatementPlace.first (terminal.Name n) (s ∷ rest) = behind_cause sc (StatementPlace.named n) s rest
refused_cause sc p s rest = behind_cause sc p s rest

-- Where a byte can't go on with any token, what stands before may have an earlier cause: no register after a `%`, or an unknown directive.
abbrev pub byte_cause : ScopeView → StatementPlace → SourceCause → SourceCause
byte_cause sc (StatementPlace.named n) c = if is_dotted n && not sc.skipping && is_none (directive_of n) then cause.UnknownDirective else c
byte_cause sc (StatementPlace.argument h done sc2 arg) c = if is_percent (last_of arg) then cause.BadRegister else c
byte_cause sc p c = c

-- ---- a refusal

-- The text is refused in this line for this cause: at the first word with which no source goes on,
-- or where all words can go on, at the byte or comment that ends them.
pub data Refused (text : List ℕ) : ℕ → SourceCause → Type 0 where
  word : {sc : ScopeView} {p : StatementPlace} {e : Ending} (ws rest : List Word) (w : Word)
      → Worded 0 1 (text ++ 10 ∷ []) (ws ++ w ∷ rest) e → IsBeginning ws → IsNoBeginning (ws ++ w ∷ []) → Reaches ws sc p
      → Refused text w.line (refused_cause sc p (terminal_of w.kind w.bytes) (terminals rest))
  byte : {sc : ScopeView} {p : StatementPlace} {line : ℕ} {c : SourceCause} (ws : List Word)
      → Worded 0 1 (text ++ 10 ∷ []) ws (Ending.broken line c) → IsBeginning ws → Reaches ws sc p
      → Refused text line (byte_cause sc p c)
  comment : {line : ℕ} (ws : List Word) → Worded 0 1 (text ++ 10 ∷ []) ws (Ending.comment line) → IsBeginning ws
      → Refused text line cause.OpenComment
