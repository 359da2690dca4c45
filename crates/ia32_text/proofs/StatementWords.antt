-- The words of a statement's text are that statement to the grammar.
use Rattle.std.proofs.Common.{◌≡◌, ℕ, ◌+◌, ◌*◌, ◌≤◌, arith, ◌++◌, Bool, true, false, List, [], ◌∷◌, Option, Some, None, refl, sym, ap}
use Rattle.std.proofs.Common.{subst, ◌∙◌}
use Rattle.std.proofs.Common.{append_assoc, append-nil, length}
use Rattle.std.specs.Prelude.{codes, not}
use Rattle.asm_lex.specs.declared.bytes.Class.TheVariants as class
use Rattle.asm_lex.specs.declared.token.TokenKind.TheVariants as kind
use Rattle.asm_lex.specs.Bytes.{class_of, is_letter, is_word, is_mark}
use Rattle.asm_lex.specs.Words.{Word, line_after}
use Rattle.asm_lex.specs.Source.{Begins, IsToken, Lexed}
use Rattle.asm_source.specs.declared.tree.Form.{Form}
use Rattle.asm_source.specs.declared.tree.Argument.{Argument}
use Rattle.asm_source.specs.Names.{symbol_in}
use Rattle.asm_argument.specs.declared.terminal.Terminal.{Terminal}
use Rattle.asm_argument.specs.declared.terminal.Terminal.TheVariants as terminal
use Rattle.asm_argument.specs.declared.shape.Shape.TheVariants as shape
use Rattle.asm_statement.specs.declared.directive.Head.TheVariants as head
use Rattle.asm_statement.specs.ScopeView.{ScopeView}
use Rattle.asm_statement.specs.Scope.{has_room, pushed}
use Rattle.asm_statement.specs.Items.{item_of, is_rep, is_passed}
use Rattle.asm_statement.specs.Directives.{is_dotted}
use Rattle.asm_parse.specs.Statements.{IsSeen, Sees, IsArgument, IsNext, Separated, HasArguments, Statement as IsGrammatical, terminals}
use Rattle.asm_parse.specs.Statements.{IsStatement}
use Rattle.ia32_text.specs.Listing.{seen, seen_in, said}
use Rattle.ia32_text.specs.Statement.{Statement}
use Rattle.ia32_text.specs.Text.{text_of}
use Rattle.ia32_text.proofs.Pieces.{Piece, put, put_length, is_name, breaks, AreApart, end_at, words, lexed, terminals_of, words_are}
use Rattle.ia32_text.proofs.FormPieces.{form_pieces, star_pieces, more_pieces, arguments_pieces, rep_pieces, statement_pieces}
use Rattle.ia32_text.proofs.FormPieces.{statement_put, statement_count}
use Rattle.ia32_text.proofs.Readable.{IsReadable, form_apart, form_terminals, form_seen, form_read}

-- ---- arguments

-- a name that may be there has room among those of the source
abbrev pub HasRoom : ScopeView → Option (List ℕ) → Type 0
HasRoom sc None = Unit {0}
HasRoom sc (Some n) = has_room sc n ≡ true

abbrev pub HaveRoom : ScopeView → List Argument → Type 0
HaveRoom sc [] = Unit {0}
HaveRoom sc (a ∷ arguments) = HasRoom sc (symbol_in a.form) × HaveRoom (seen sc (symbol_in a.form)) arguments

abbrev pub AreReadable : List Argument → Type 0
AreReadable [] = Unit {0}
AreReadable (a ∷ arguments) = IsReadable a.form × AreReadable arguments

-- ---- told apart

starred_apart : (star : Bool) (f : Form) (k : List Piece) → IsReadable f → breaks k ≡ true → AreApart k
    → AreApart (star_pieces star (form_pieces f k))
unfolding class_of is_letter is_mark
starred_apart true f k h b g = (refl, form_apart f k h b g)
starred_apart false f k h b g = form_apart f k h b g

more_breaks : (arguments : List Argument) → breaks (more_pieces arguments) ≡ true
unfolding is_word is_letter
more_breaks [] = refl
more_breaks (a ∷ arguments) = refl

more_apart : (arguments : List Argument) → AreReadable arguments → AreApart (more_pieces arguments)
unfolding class_of is_letter is_mark
more_apart [] h = tt
more_apart (a ∷ arguments) h =
    (refl, starred_apart a.star a.form (more_pieces arguments) h.0 (more_breaks arguments) (more_apart arguments h.1))

arguments_apart : (arguments : List Argument) → AreReadable arguments → AreApart (arguments_pieces arguments)
arguments_apart [] h = tt
arguments_apart (a ∷ arguments) h =
    starred_apart a.star a.form (more_pieces arguments) h.0 (more_breaks arguments) (more_apart arguments h.1)

arguments_break : (arguments : List Argument) → breaks (arguments_pieces arguments) ≡ true
arguments_break [] = refl
arguments_break (a ∷ arguments) = refl

rep_named : is_name (codes "rep") ≡ true
unfolding class_of is_word is_letter
rep_named = refl

repeated_apart : (rep : Bool) (name : List ℕ) (arguments : List Argument) → is_name name ≡ true → AreReadable arguments
    → AreApart (rep_pieces rep (Piece.name name ∷ arguments_pieces arguments))
repeated_apart true name arguments e h = (rep_named, refl, (e, arguments_break arguments, arguments_apart arguments h))
repeated_apart false name arguments e h = (e, arguments_break arguments, arguments_apart arguments h)

-- ---- terminals

abbrev star_terminals : Bool → List Terminal → List Terminal
star_terminals true ts = terminal.Star ∷ ts
star_terminals false ts = ts

abbrev argument_terminals : Argument → List Terminal
argument_terminals a = star_terminals a.star (form_terminals a.form)

abbrev more_terminals : List Argument → List Terminal
more_terminals [] = []
more_terminals (a ∷ arguments) = terminal.Comma ∷ (argument_terminals a ++ more_terminals arguments)

abbrev arguments_terminals : List Argument → List Terminal
arguments_terminals [] = []
arguments_terminals (a ∷ arguments) = argument_terminals a ++ more_terminals arguments

starred_seen : (star : Bool) (f : Form) (k : List Piece) (ts : List Terminal) → IsReadable f
    → terminals_of (star_pieces star (form_pieces f k)) ts ≡ star_terminals star (form_terminals f) ++ terminals_of k ts
starred_seen true f k ts h = ap (λ x. terminal.Star ∷ x) (form_seen f k ts h)
starred_seen false f k ts h = form_seen f k ts h

more_seen : (arguments : List Argument) (ts : List Terminal) → AreReadable arguments
    → terminals_of (more_pieces arguments) ts ≡ more_terminals arguments ++ ts
more_seen [] ts h = refl
more_seen (a ∷ arguments) ts h =
    ap (λ x. terminal.Comma ∷ x)
    (starred_seen a.star a.form (more_pieces arguments) ts h.0 ∙ ap (λ x. argument_terminals a ++ x) (more_seen arguments ts h.1)
    ∙ sym (append_assoc (argument_terminals a) (more_terminals arguments) ts))

arguments_seen : (arguments : List Argument) (ts : List Terminal) → AreReadable arguments
    → terminals_of (arguments_pieces arguments) ts ≡ arguments_terminals arguments ++ ts
arguments_seen [] ts h = refl
arguments_seen (a ∷ arguments) ts h =
    starred_seen a.star a.form (more_pieces arguments) ts h.0 ∙ ap (λ x. argument_terminals a ++ x) (more_seen arguments ts h.1)
    ∙ sym (append_assoc (argument_terminals a) (more_terminals arguments) ts)

-- ---- the grammar reads the arguments

starred_read : (star : Bool) (f : Form) → IsReadable f
    → IsArgument shape.Operand (star_terminals star (form_terminals f)) (record { star = star; form = f })
starred_read true f h = IsArgument.starred refl (form_read f h)
starred_read false f h = IsArgument.plain (form_read f h)

sees : (sc : ScopeView) (o : Option (List ℕ)) → HasRoom sc o → Sees sc false o (seen sc o)
sees sc None h = refl
sees sc (Some n) h = IsSeen.used h

next_read : (rep : Bool) (name : List ℕ) (sc : ScopeView) (before : List Argument) (a : Argument) → IsReadable a.form
    → HasRoom sc (symbol_in a.form)
    → IsNext (head.Instruction rep name) sc before (argument_terminals a) a (seen sc (symbol_in a.form))
next_read rep name sc before a h r =
    record { shape = shape.Operand; may = refl; is = starred_read a.star a.form h; sees = sees sc (symbol_in a.form) r }

-- the next argument and those after it, behind arguments with a comma after each
rest_read : (rep : Bool) (name : List ℕ) (sc sc1 : ScopeView) (ss : List Terminal)
    (before : List Argument) (a : Argument) (arguments : List Argument)
    → Separated (head.Instruction rep name) sc ss before sc1 → AreReadable (a ∷ arguments) → HaveRoom sc1 (a ∷ arguments)
    → HasArguments (head.Instruction rep name) sc (ss ++ arguments_terminals (a ∷ arguments)) (before ++ a ∷ arguments)
    (seen_in sc1 (a ∷ arguments))
rest_read rep name sc sc1 ss before a [] s h r =
    subst (λ ts. HasArguments (head.Instruction rep name) sc (ss ++ ts) (before ++ a ∷ []) (seen sc1 (symbol_in a.form)))
    (sym (append-nil (argument_terminals a)))
    (HasArguments.some s (next_read rep name sc1 before a h.0 r.0))
rest_read rep name sc sc1 ss before a (b ∷ arguments) s h r =
    let h2 = head.Instruction rep name in
    let front = argument_terminals a in
    let behind = arguments_terminals (b ∷ arguments) in
    let with_comma = Separated.more s (next_read rep name sc1 before a h.0 r.0) in
    let all =
    rest_read rep name sc (seen sc1 (symbol_in a.form)) (ss ++ (front ++ terminal.Comma ∷ []))
    (before ++ a ∷ []) b arguments with_comma h.1 r.1 in
    let said = seen_in sc1 (a ∷ b ∷ arguments) in
    let same : (ss ++ (front ++ terminal.Comma ∷ [])) ++ behind ≡ ss ++ (front ++ (terminal.Comma ∷ behind)) =
    append_assoc ss (front ++ terminal.Comma ∷ []) behind ∙ ap (λ x. ss ++ x) (append_assoc front (terminal.Comma ∷ []) behind) in
    subst (λ ts. HasArguments h2 sc ts (before ++ a ∷ b ∷ arguments) said) same
    (subst (λ xs. HasArguments h2 sc ((ss ++ (front ++ terminal.Comma ∷ [])) ++ behind) xs said)
    (append_assoc before (a ∷ []) (b ∷ arguments)) all)

arguments_read : (rep : Bool) (name : List ℕ) (sc : ScopeView) (arguments : List Argument) → AreReadable arguments → HaveRoom sc arguments
    → HasArguments (head.Instruction rep name) sc (arguments_terminals arguments) arguments (seen_in sc arguments)
arguments_read rep name sc [] h r = HasArguments.none
arguments_read rep name sc (a ∷ arguments) h r = rest_read rep name sc sc [] [] a arguments Separated.none h r

-- ---- the statement

-- a name that stands for an instruction
pub record IsInstructionName (name : List ℕ) : Type 0 where
  pub text : is_name name ≡ true
  pub undotted : is_dotted name ≡ false
  pub no_rep : is_rep name ≡ false

-- what a statement is whose text can be read
pub record IsReadableStatement (s : Statement) : Type 0 where
  pub named : IsInstructionName s.name
  pub arguments : AreReadable s.arguments

not_passed : (sc : ScopeView) (name : List ℕ) → sc.skipping ≡ false → is_passed sc name ≡ false
not_passed sc name e = rw e refl

abbrev end_terminals : List Terminal
end_terminals = terminal.End ∷ []

rep_is : is_rep (codes "rep") ≡ true
unfolding is_rep
rep_is = refl

grammatical : (rep : Bool) (name : List ℕ) (arguments : List Argument) (sc : ScopeView) (line : ℕ) → IsInstructionName name
    → AreReadable arguments → sc.skipping ≡ false → HaveRoom sc arguments
    → IsGrammatical sc line (terminals_of (rep_pieces rep (Piece.name name ∷ arguments_pieces arguments)) end_terminals)
    (pushed (seen_in sc arguments) (item_of line (head.Instruction rep name) arguments))
grammatical true name arguments sc line n h k r =
    subst (λ ts. IsGrammatical sc line (terminal.Name (codes "rep") ∷ terminal.Name name ∷ ts)
    (pushed (seen_in sc arguments) (item_of line (head.Instruction true name) arguments)))
    (sym (arguments_seen arguments end_terminals h))
    (IsGrammatical.repeated (not_passed sc (codes "rep") k) refl rep_is (arguments_read true name sc arguments h r))
grammatical false name arguments sc line n h k r =
    subst (λ ts. IsGrammatical sc line (terminal.Name name ∷ ts)
    (pushed (seen_in sc arguments) (item_of line (head.Instruction false name) arguments)))
    (sym (arguments_seen arguments end_terminals h))
    (IsGrammatical.instruction (not_passed sc name k) n.undotted n.no_rep (arguments_read false name sc arguments h r))

-- ---- the words of a line

abbrev pub newline_text : List ℕ
newline_text = 10 ∷ []

-- the word that a line's newline is
abbrev pub newline : ℕ → ℕ → Word
newline at line = record { kind = kind.End; at = at; line = line; bytes = newline_text }

-- the words of a statement's line from this place on
abbrev pub line_words : ℕ → ℕ → Statement → List Word
line_words at line s = words at line (statement_pieces s) (newline (end_at at (statement_pieces s)) line ∷ [])

-- where the next line begins
abbrev pub next_at : ℕ → Statement → ℕ
next_at at s = end_at at (statement_pieces s) + length newline_text

words_then : (ps : List Piece) (at line : ℕ) (xs ys : List Word) → words at line ps (xs ++ ys) ≡ words at line ps xs ++ ys
words_then [] at line xs ys = refl
words_then (Piece.blank ∷ ps) at line xs ys = words_then ps _ line xs ys
words_then (Piece.mark m ∷ ps) at line xs ys =
    ap (λ ws. record { kind = kind.Mark m; at = at; line = line; bytes = m ∷ [] } ∷ ws) (words_then ps _ line xs ys)
words_then (Piece.name n ∷ ps) at line xs ys =
    ap (λ ws. record { kind = kind.Name; at = at; line = line; bytes = n } ∷ ws) (words_then ps _ line xs ys)
words_then (Piece.number n ∷ ps) at line xs ys =
    ap (λ ws. record { kind = kind.Number; at = at; line = line; bytes = n } ∷ ws) (words_then ps _ line xs ys)

newline_class : class_of 10 ≡ class.Ends
unfolding class_of
newline_class = refl

newline_line : (line : ℕ) → line_after line 10 ≡ line + 1
unfolding line_after
newline_line line = refl

newline_breaks : (rest : List ℕ) → Begins (λ b. not (is_word b)) (10 ∷ rest)
unfolding is_word is_letter
newline_breaks rest = refl

pub newline_then : (at line : ℕ) (rest : List ℕ) (ws : List Word) → Lexed (at + length newline_text) (line + 1) rest ws
    → Lexed at line (10 ∷ rest) (newline at line ∷ ws)
newline_then at line rest ws l =
    Lexed.token kind.End (10 ∷ []) rest refl (IsToken.end newline_class)
    (subst (λ k. Lexed (at + length newline_text) k rest ws) (sym (newline_line line)) l)

-- A statement's text with a newline behind it has these words.
pub line_lexed : (s : Statement) (at line : ℕ) (rest : List ℕ) (ws : List Word) → IsReadableStatement s
    → Lexed (next_at at s) (line + 1) rest ws
    → Lexed at line (text_of s ++ (10 ∷ rest)) (line_words at line s ++ ws)
line_lexed s at line rest ws h l =
    let ps = statement_pieces s in
    let apart = repeated_apart s.rep s.name s.arguments h.named.text h.arguments in
    let end = end_at at ps in
    let l1 = lexed ps at line (10 ∷ rest) (newline end line ∷ ws) apart (newline_breaks rest) (newline_then end line rest ws l) in
    subst (λ t. Lexed at line t (line_words at line s ++ ws)) (statement_put s (10 ∷ rest))
    (subst (λ xs. Lexed at line (put ps (10 ∷ rest)) xs) (words_then ps at line (newline end line ∷ []) ws) l1)

-- A text has at most 16 bytes for each of its pieces.
pub text_length : (s : Statement) → IsReadableStatement s → length (text_of s) ≤ 16 * (14 * length s.arguments + 3)
text_length s h =
    let short = put_length (statement_pieces s) (repeated_apart s.rep s.name s.arguments h.named.text h.arguments) in
    let same = ap (λ (t : List ℕ). length t) (statement_put s [] ∙ append-nil (text_of s)) in
    let few = statement_count s in
    omega (arith, short, same, few)

-- Words that begin with one of this line are a statement where their terminals are.
begun_with : (sc sc2 : ScopeView) (rep : Bool) (name : List ℕ) (arguments : List Argument) (at line : ℕ) (ws : List Word)
    → IsGrammatical sc line (terminals (words at line (rep_pieces rep (Piece.name name ∷ arguments_pieces arguments)) ws)) sc2
    → IsStatement sc (words at line (rep_pieces rep (Piece.name name ∷ arguments_pieces arguments)) ws) sc2
begun_with sc sc2 true name arguments at line ws g = IsStatement.plain _ _ g
begun_with sc sc2 false name arguments at line ws g = IsStatement.plain _ _ g

-- These words are the statement, for any source before it that is read there and has room for its symbols.
pub line_read : (s : Statement) (at line : ℕ) (sc : ScopeView) → IsReadableStatement s → sc.skipping ≡ false → HaveRoom sc s.arguments
    → IsStatement sc (line_words at line s) (said sc line s)
line_read s at line sc h k r =
    let ps = statement_pieces s in
    let ws = newline (end_at at ps) line ∷ [] in
    begun_with sc (said sc line s) s.rep s.name s.arguments at line ws
    (subst (λ ts. IsGrammatical sc line ts (said sc line s)) (sym (words_are ps at line ws))
    (grammatical s.rep s.name s.arguments sc line h.named h.arguments k r))
