-- Texts of instructions are read back as lines of a source.
use Rattle.std.proofs.Common.{◌≡◌, ℕ, ◌+◌, ◌≤◌, ◌++◌, Bool, true, false, List, [], ◌∷◌, Option, Some, None, length, refl, sym, ap, subst}
use Rattle.std.proofs.Common.{◌∙◌, add_assoc, append_assoc, append-nil, length-append, arith}
use Rattle.std.specs.Prelude.{nat_lt, ◌||◌, if◌then◌else◌, fold}
use Rattle.std.specs.List.{AllByRecursion, flat_map}
use Rattle.std.specs.Option.{option_to_list}
use Rattle.std.proofs.lemmas.Bool.{lt-ltb}
use Rattle.std.proofs.lemmas.List.Sums.{fold-append}
use Rattle.ia32_types.specs.declared.insn.Insn.{Insn}
use Rattle.ia32_rows.specs.Spells.{Spells}
use Rattle.ia32_encode.specs.declared.choose.Wide.{Wide}
use Rattle.asm_lex.specs.declared.lexing.TheConstants.{LIMIT}
use Rattle.asm_lex.specs.Words.{Word}
use Rattle.asm_lex.specs.Source.{Lexed}
use Rattle.asm_source.specs.declared.names.TheConstants.{SYMBOL_LIMIT}
use Rattle.asm_source.specs.declared.tree.Argument.{Argument}
use Rattle.asm_source.specs.declared.tree.SourceItem.{SourceItem}
use Rattle.asm_source.specs.Names.{holds, added, symbol_in, argument_names, body_names, names_in}
use Rattle.asm_statement.specs.ScopeView.{ScopeView}
use Rattle.asm_statement.specs.Scope.{fresh}
use Rattle.asm_parse.specs.Statements.{Statement as IsGrammatical, IsStatement, Statements}
use Rattle.asm_parse.specs.Source.{Says, SourceAs}
use Rattle.ia32_text.specs.declared.operands.Operands.{Operands}
use Rattle.ia32_text.specs.declared.operands.Operands.TheVariants as operands
use Rattle.ia32_text.specs.declared.style.Style.{Style}
use Rattle.ia32_text.specs.Arguments.{arguments_with}
use Rattle.ia32_text.specs.Operands.{operands_of}
use Rattle.ia32_text.specs.Statement.{Statement, statement_with}
use Rattle.ia32_text.specs.Text.{text_of, instruction_text}
use Rattle.ia32_text.specs.Listing.{by_labels, IsSpelledStatement, item_in, seen, seen_in, said, IsLine, listing, items_from}
use Rattle.ia32_text.proofs.Pieces.{Piece, bytes_of, put, end_at}
use Rattle.ia32_text.proofs.FormPieces.{statement_pieces, statement_put}
use Rattle.ia32_text.proofs.WrittenForms.{written_readable}
use Rattle.ia32_text.proofs.StatementWords.{HasRoom, HaveRoom, AreReadable, IsReadableStatement, newline, line_words, next_at, newline_then}
use Rattle.ia32_text.proofs.StatementWords.{line_lexed, text_length, line_read}
use Rattle.ia32_text.proofs.InstructionNames.{instruction_named}
use Rattle.ia32_text.proofs.SpelledOperands.{AreSpelled, spelled_operands}

-- ---- the statement of a spelled instruction can be read

arguments_readable : (named : Wide) (o : Operands) → AreSpelled o → AreReadable (arguments_with (by_labels named) o)
arguments_readable named operands.Nothing h = tt
arguments_readable named (operands.One x) h = (written_readable named x h, tt)
arguments_readable named (operands.Starred x) h = (written_readable named x h, tt)
arguments_readable named (operands.Two x y) h = (written_readable named x h.0, (written_readable named y h.1, tt))
arguments_readable named (operands.Three x y z) h =
    (written_readable named x h.0, (written_readable named y h.1, (written_readable named z h.2, tt)))

with_readable : (named : Wide) (i : Insn) (at len : ℕ) → AreSpelled (operands_of i at len)
    → IsReadableStatement (statement_with (by_labels named) i at len)
unfolding statement_with
with_readable named i at len h = record { named = instruction_named i; arguments = arguments_readable named (operands_of i at len) h }

statement_readable : (s : Statement) → IsSpelledStatement s → IsReadableStatement s
statement_readable s h =
    subst IsReadableStatement (sym h.same) (with_readable h.named h.insn h.at h.len (spelled_operands h.bytes h.insn h.at h.len h.spells))

-- ---- room for symbols

added_by : (b : Bool) (names : List (List ℕ)) (n : List ℕ) → length names ≤ length (if b then names else names ++ n ∷ [])
added_by true names n = omega arith
added_by false names n = rw (length-append names (n ∷ [])) (omega arith)

seen_more : (sc : ScopeView) (o : Option (List ℕ)) → length sc.names ≤ length (seen sc o).names
seen_more sc None = omega arith
seen_more sc (Some n) = added_by (holds sc.names n) sc.names n

seen_in_more : (sc : ScopeView) (arguments : List Argument) → length sc.names ≤ length (seen_in sc arguments).names
seen_in_more sc [] = omega arith
seen_in_more sc (a ∷ arguments) =
    let one = seen_more sc (symbol_in a.form) in
    let more = seen_in_more (seen sc (symbol_in a.form)) arguments in
    omega (arith, one, more)

room_by : (b : Bool) (names : List (List ℕ)) (n : List ℕ) → length (if b then names else names ++ n ∷ []) ≤ SYMBOL_LIMIT
    → (b || nat_lt (length names) SYMBOL_LIMIT) ≡ true
room_by true names n l = refl
room_by false names n l = lt-ltb (length names) SYMBOL_LIMIT (let e = length-append names (n ∷ []) in omega (arith, e, l))

has_room_in : (sc : ScopeView) (o : Option (List ℕ)) → length (seen sc o).names ≤ SYMBOL_LIMIT → HasRoom sc o
has_room_in sc None l = tt
has_room_in sc (Some n) l = room_by (holds sc.names n) sc.names n l

have_room : (sc : ScopeView) (arguments : List Argument) → length (seen_in sc arguments).names ≤ SYMBOL_LIMIT → HaveRoom sc arguments
have_room sc [] l = tt
have_room sc (a ∷ arguments) l =
    let more = seen_in_more (seen sc (symbol_in a.form)) arguments in
    (has_room_in sc (symbol_in a.form) (omega (arith, more, l)), have_room (seen sc (symbol_in a.form)) arguments l)

-- ---- a line

end_is : (ps : List Piece) (at : ℕ) → end_at at ps ≡ at + length (put ps [])
end_is [] at = omega arith
end_is (p ∷ ps) at =
    end_is ps (at + length (bytes_of p)) ∙ add_assoc at (length (bytes_of p)) (length (put ps []))
    ∙ ap (λ n. at + n) (sym (length-append (bytes_of p) (put ps [])))

next_is : (at : ℕ) (s : Statement) → next_at at s ≡ at + length (text_of s) + 1
next_is at s =
    ap (λ n. n + 1) (end_is (statement_pieces s) at ∙ ap (λ (t : List ℕ). at + length t) (statement_put s [] ∙ append-nil (text_of s)))

readable_line : (s : Statement) (place line : ℕ) → IsReadableStatement s → IsLine s place line
readable_line s place line h = record {
  words = line_words place line s;
  lexed = λ rest more l. line_lexed s place line rest more h (subst (λ n. Lexed n (line + 1) rest more) (sym (next_is place s)) l);
  read = λ sc k l. line_read s place line sc h k (have_room sc s.arguments l);
}

-- The text of a spelled instruction is its statement's line, wherever it stands.
pub line_of : (s : Statement) (place line : ℕ) → IsSpelledStatement s → IsLine s place line
line_of s place line h = readable_line s place line (statement_readable s h)

-- ---- a source

-- what is said after statements
abbrev all_said : ScopeView → ℕ → List Statement → ScopeView
all_said sc line [] = sc
all_said sc line (s ∷ statements) = all_said (said sc line s) (line + 1) statements

all_said_more : (statements : List Statement) (sc : ScopeView) (line : ℕ) → length sc.names ≤ length (all_said sc line statements).names
all_said_more [] sc line = omega arith
all_said_more (s ∷ statements) sc line =
    let one = seen_in_more sc s.arguments in
    let more = all_said_more statements (said sc line s) (line + 1) in
    omega (arith, one, more)

seen_items : (sc : ScopeView) (o : Option (List ℕ)) → (seen sc o).items ≡ sc.items
seen_items sc None = refl
seen_items sc (Some n) = refl

seen_in_items : (arguments : List Argument) (sc : ScopeView) → (seen_in sc arguments).items ≡ sc.items
seen_in_items [] sc = refl
seen_in_items (a ∷ arguments) sc = seen_in_items arguments (seen sc (symbol_in a.form)) ∙ seen_items sc (symbol_in a.form)

seen_skipping : (sc : ScopeView) (o : Option (List ℕ)) → (seen sc o).skipping ≡ sc.skipping
seen_skipping sc None = refl
seen_skipping sc (Some n) = refl

seen_in_skipping : (arguments : List Argument) (sc : ScopeView) → (seen_in sc arguments).skipping ≡ sc.skipping
seen_in_skipping [] sc = refl
seen_in_skipping (a ∷ arguments) sc = seen_in_skipping arguments (seen sc (symbol_in a.form)) ∙ seen_skipping sc (symbol_in a.form)

seen_names : (sc : ScopeView) (o : Option (List ℕ)) → (seen sc o).names ≡ fold added sc.names (option_to_list o)
seen_names sc None = refl
seen_names sc (Some n) = refl

seen_in_names : (arguments : List Argument) (sc : ScopeView) → (seen_in sc arguments).names ≡ fold added sc.names (argument_names arguments)
seen_in_names [] sc = refl
seen_in_names (a ∷ arguments) sc =
    seen_in_names arguments (seen sc (symbol_in a.form))
    ∙ ap (λ (names : List (List ℕ)). fold added names (argument_names arguments)) (seen_names sc (symbol_in a.form))
    ∙ sym (fold-append added sc.names (option_to_list (symbol_in a.form)) (argument_names arguments))

-- the items that are said are those of the lines
all_items : (statements : List Statement) (sc : ScopeView) (line : ℕ)
    → (all_said sc line statements).items ≡ sc.items ++ items_from line statements
all_items [] sc line = sym (append-nil sc.items)
all_items (s ∷ statements) sc line =
    all_items statements (said sc line s) (line + 1)
    ∙ ap (λ items. (items ++ item_in line s ∷ []) ++ items_from (line + 1) statements) (seen_in_items s.arguments sc)
    ∙ append_assoc sc.items (item_in line s ∷ []) (items_from (line + 1) statements)

abbrev symbols : List SourceItem → List (List ℕ)
symbols items = flat_map (λ (i : SourceItem). body_names i.body) items

all_names : (statements : List Statement) (sc : ScopeView) (line : ℕ)
    → (all_said sc line statements).names ≡ fold added sc.names (symbols (items_from line statements))
all_names [] sc line = refl
all_names (s ∷ statements) sc line =
    let behind = symbols (items_from (line + 1) statements) in
    all_names statements (said sc line s) (line + 1)
    ∙ ap (λ (names : List (List ℕ)). fold added names behind) (seen_in_names s.arguments sc)
    ∙ sym (fold-append added sc.names (argument_names s.arguments) behind)

-- the words of a source that ends with an empty line
abbrev all_words : ℕ → ℕ → List Statement → List Word
all_words at line [] = newline at line ∷ []
all_words at line (s ∷ statements) = line_words at line s ++ all_words (next_at at s) (line + 1) statements

all_lexed : (statements : List Statement) (at line : ℕ) → AllByRecursion IsSpelledStatement statements
    → Lexed at line (listing statements ++ (10 ∷ [])) (all_words at line statements)
all_lexed [] at line h = newline_then at line [] [] Lexed.none
all_lexed (s ∷ statements) at line h =
    let rest = listing statements ++ (10 ∷ []) in
    let more = all_words (next_at at s) (line + 1) statements in
    subst (λ t. Lexed at line t (line_words at line s ++ more)) (sym (append_assoc (text_of s) (10 ∷ listing statements) (10 ∷ [])))
    (line_lexed s at line rest more (statement_readable s h.0) (all_lexed statements (next_at at s) (line + 1) h.1))

all_read : (statements : List Statement) (at line : ℕ) (sc : ScopeView) → AllByRecursion IsSpelledStatement statements → sc.skipping ≡ false
    → length (all_said sc line statements).names ≤ SYMBOL_LIMIT
    → Statements sc (all_words at line statements) (all_said sc line statements)
all_read [] at line sc h k l = Statements.more (newline at line ∷ []) [] refl (IsStatement.plain _ _ IsGrammatical.empty) Statements.none
all_read (s ∷ statements) at line sc h k l =
    let more = all_said_more statements (said sc line s) (line + 1) in
    Statements.more (line_words at line s) (all_words (next_at at s) (line + 1) statements) refl
    (line_read s at line sc (statement_readable s h.0) k (have_room sc s.arguments (omega (arith, more, l))))
    (all_read statements (next_at at s) (line + 1) (said sc line s) h.1 (seen_in_skipping s.arguments sc ∙ k) l)

names_fit : (statements : List Statement) → length (names_in (items_from 1 statements)) ≤ SYMBOL_LIMIT
    → length (all_said fresh 1 statements).names ≤ SYMBOL_LIMIT
unfolding names_in
names_fit statements l = rw (all_names statements fresh 1) l

-- A source whose lines are texts of spelled instructions says exactly their statements.
pub listing_says : (statements : List Statement) → AllByRecursion IsSpelledStatement statements
    → length (names_in (items_from 1 statements)) ≤ SYMBOL_LIMIT → Says (listing statements) (items_from 1 statements)
listing_says statements h l = (
  all_words 0 1 statements,
  all_said fresh 1 statements,
  all_lexed statements 0 1 h,
  all_read statements 0 1 fresh h refl (names_fit statements l),
  all_items statements fresh 1,
)

-- ---- a text alone

seen_few : (sc : ScopeView) (o : Option (List ℕ)) → length (seen sc o).names ≤ length sc.names + 1
seen_few sc None = omega arith
seen_few sc (Some n) = few_by (holds sc.names n) sc.names where
  few_by : (b : Bool) (names : List (List ℕ)) → length (if b then names else names ++ n ∷ []) ≤ length names + 1
  few_by true names = omega arith
  few_by false names = rw (length-append names (n ∷ [])) (omega arith)

seen_in_few : (arguments : List Argument) (sc : ScopeView) → length (seen_in sc arguments).names ≤ length sc.names + length arguments
seen_in_few [] sc = omega arith
seen_in_few (a ∷ arguments) sc =
    let one = seen_few sc (symbol_in a.form) in
    let more = seen_in_few arguments (seen sc (symbol_in a.form)) in
    omega (arith, one, more)

few_arguments : (style : Style) (o : Operands) → length (arguments_with style o) ≤ 3
few_arguments style operands.Nothing = omega arith
few_arguments style (operands.One x) = omega arith
few_arguments style (operands.Starred x) = omega arith
few_arguments style (operands.Two x y) = omega arith
few_arguments style (operands.Three x y z) = omega arith

few_of : (style : Style) (i : Insn) (at len : ℕ) → length (statement_with style i at len).arguments ≤ 3
unfolding statement_with
few_of style i at len = few_arguments style (operands_of i at len)

few_names : (s : Statement) → length s.arguments ≤ 3 → length (said fresh 1 s).names ≤ SYMBOL_LIMIT
few_names s l = let few = seen_in_few s.arguments fresh in omega (arith, few, l)

line_says : (s : Statement) → IsLine s 0 1 → length s.arguments ≤ 3 → Says (text_of s) (item_in 1 s ∷ [])
line_says s h l = (
  h.words,
  said fresh 1 s,
  subst (λ ws. Lexed 0 1 (text_of s ++ (10 ∷ [])) ws) (append-nil h.words) (h.lexed [] [] Lexed.none),
  Statements.more h.words [] (sym (append-nil h.words)) (h.read fresh refl (few_names s l)) Statements.none,
  ap (λ items. items ++ item_in 1 s ∷ []) (seen_in_items s.arguments fresh),
)

short_enough : (s : Statement) → IsReadableStatement s → length s.arguments ≤ 3 → length (text_of s) ≤ LIMIT
short_enough s h l = let few = text_length s h in omega (arith, few, l)

alone : (s : Statement) → IsSpelledStatement s → length s.arguments ≤ 3 → SourceAs (text_of s) (item_in 1 s ∷ [])
alone s h l = (short_enough s (statement_readable s h) l, line_says s (line_of s 0 1 h) l)

-- The text of a spelled instruction is a source of its statement alone.
pub text_alone : (bytes : List ℕ) (i : Insn) (named : Wide) (at len : ℕ) → Spells bytes i
    → SourceAs (instruction_text (by_labels named) i at len) (item_in 1 (statement_with (by_labels named) i at len) ∷ [])
unfolding instruction_text
text_alone bytes i named at len s =
    alone (statement_with (by_labels named) i at len)
    (record { bytes = bytes; insn = i; named = named; at = at; len = len; spells = s; same = refl }) (few_of (by_labels named) i at len)
