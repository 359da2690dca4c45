-- The items of a source name at most 65,536 symbols, none with a zero byte.
use Rattle.std.proofs.Common.{◌≡◌, ℕ, zero, suc, ◌≤◌, Bool, true, false, cond, List, [], ◌∷◌, ◌++◌, length, Option, Some, None, refl, sym, ap, subst, ◌∙◌, arith}
use Rattle.std.proofs.lemmas.List.{append-nil}
use Rattle.std.proofs.lemmas.List.Sums.{fold-append}
use Rattle.std.proofs.lemmas.List.Elements.{All-nil, All-cons, All-push}
use Rattle.std.proofs.lemmas.Grind.{flat_map-append}
use Rattle.std.proofs.lemmas.Bool.{and_parts}
use Rattle.std.specs.Prelude.{◌==◌, ◌^◌, nat_lt, fold, All, IfOk, Result, Ok, Err}
use Rattle.std.specs.Option.{option_to_list}
use Rattle.std.specs.List.{flat_map, list_all}
use Rattle.asm_lex.specs.declared.lexing.TheConstants.{LIMIT}
use Rattle.asm_lex.specs.declared.fault.SourceFault.{SourceFault}
use Rattle.asm_lex.specs.declared.bytes.Class.TheVariants as class
use Rattle.asm_lex.specs.declared.token.TokenKind.{TokenKind}
use Rattle.asm_lex.specs.Bytes.{class_of, is_mark, is_source, is_letter, is_word}
use Rattle.asm_lex.specs.Words.{Word}
use Rattle.asm_lex.specs.Source.{IsToken, Lexed}
use Rattle.asm_argument.specs.declared.terminal.Terminal.{Terminal}
use Rattle.asm_argument.specs.declared.terminal.Terminal.TheVariants as terminal
use Rattle.asm_argument.specs.declared.shape.Shape.{Shape}
use Rattle.asm_source.specs.declared.tree.Value.{Value}
use Rattle.asm_source.specs.declared.tree.Form.{Form}
use Rattle.asm_source.specs.declared.tree.Form.TheVariants as form
use Rattle.asm_source.specs.declared.tree.Argument.{Argument}
use Rattle.asm_source.specs.declared.tree.Body.TheVariants as body
use Rattle.asm_source.specs.declared.tree.SourceItem.{SourceItem}
use Rattle.asm_statement.specs.declared.directive.Head.{Head}
use Rattle.asm_statement.specs.declared.directive.Head.TheVariants as head
use Rattle.asm_statement.specs.declared.directive.Directive.TheVariants as directive
use Rattle.asm_statement.specs.ScopeView.{ScopeView}
use Rattle.asm_source.specs.Names.{holds, added, symbol_in, argument_names, body_names, names_in}
use Rattle.asm_statement.specs.Scope.{fresh, pushed}
use Rattle.asm_argument.specs.Grammar.{IsValue, IsForm}
use Rattle.asm_argument.specs.Terminals.{number_value, mark_terminal, number_terminal, terminal_of}
use Rattle.asm_statement.specs.Items.{item_of, resumed}
use Rattle.asm_statement.specs.Directives.{defines}
use Rattle.asm_parse.specs.Statements.{IsSeen, Sees, IsArgument, IsNext, Separated, HasArguments, Statement, terminals, text_of, IsStatement, Statements}
use Rattle.asm_source.specs.Readable.{IsReadable}
use Rattle.asm_parse.specs.Source.{Says, SourceAs}
use Rattle.asm_statement.specs.Running.{Parses, read}
use Rattle.asm_parse.proofs.Sources.{parsed_is}
use Rattle.asm_parse.proofs.Sizes.{source_pays}
use Rattle.asm_parse.proofs.Words.{terminals-append}
use Rattle.asm_parse.proofs.Scopes.{added_few}
use Rattle.asm_parse.proofs.ScopeItems.{resumed_items}

-- ---- bytes and tokens

-- no zero byte
abbrev Plain : List ℕ → Type 0
Plain n = All (λ b. 1 ≤ b) n

abbrev PlainName : Option (List ℕ) → Type 0
PlainName None = Unit {0}
PlainName (Some n) = Plain n

abbrev PlainTerminal : Terminal → Type 0
PlainTerminal (terminal.Name n) = Plain n
PlainTerminal _ = Unit {0}

abbrev PlainTerminals : List Terminal → Type 0
PlainTerminals [] = Unit {0}
PlainTerminals (s ∷ ss) = PlainTerminal s × PlainTerminals ss

front_plain : (ss ts : List Terminal) → PlainTerminals (ss ++ ts) → PlainTerminals ss
front_plain [] ts h = tt
front_plain (s ∷ ss) ts h = (h.0, front_plain ss ts h.1)

back_plain : (ss ts : List Terminal) → PlainTerminals (ss ++ ts) → PlainTerminals ts
back_plain [] ts h = h
back_plain (s ∷ ss) ts h = back_plain ss ts h.1

word_some : (b : ℕ) → is_word b ≡ true → 1 ≤ b
unfolding is_word is_letter
word_some zero h = absurd cc
word_some (suc b) h = omega arith

letter_some : (b : ℕ) → class_of b ≡ class.Letter → 1 ≤ b
unfolding class_of is_mark is_source is_letter
letter_some zero h = absurd cc
letter_some (suc b) h = omega arith

words_plain : (bs : List ℕ) → list_all is_word bs ≡ true → Plain bs
words_plain [] h = All-nil (λ (x : ℕ). 1 ≤ x)
words_plain (b ∷ bs) h = let p =
    and_parts (is_word b) (list_all is_word bs) h in All-cons (λ (x : ℕ). 1 ≤ x) b bs (word_some b p.0) (words_plain bs p.1)

plain_either : (t : Bool) (a b : Terminal) → PlainTerminal a → PlainTerminal b → PlainTerminal (cond t a b)
plain_either true a b p q = p
plain_either false a b p q = q

mark_plain : (m : ℕ) → PlainTerminal (mark_terminal m)
mark_plain m =
    plain_either (m == 36) _ _ tt
    (plain_either (m == 37) _ _ tt (plain_either (m == 40) _ _ tt (plain_either (m == 41) _ _ tt (plain_either (m == 42) _ _ tt
    (plain_either (m == 43) _ _ tt (plain_either (m == 44) _ _ tt (plain_either (m == 45) _ _ tt (plain_either (m == 58) _ _ tt tt))))))))

number_plain : (n : ℕ) → PlainTerminal (number_terminal n)
number_plain n = plain_either (nat_lt n (2 ^ 32)) _ _ tt tt

token_plain : (k : TokenKind) (piece rest : List ℕ) → IsToken k piece rest → PlainTerminal (terminal_of k piece)
token_plain k piece rest (IsToken.end h) = tt
token_plain k piece rest (IsToken.mark {b} h) = mark_plain b
token_plain k piece rest (IsToken.name {b} {bs} h g f) = All-cons (λ (x : ℕ). 1 ≤ x) b bs (letter_some b h) (words_plain bs g)
token_plain k piece rest (IsToken.number {b} {bs} h g f e) = number_plain (number_value (b ∷ bs))
token_plain k piece rest (IsToken.character {b} {c} h g) = number_plain (number_value (b ∷ c ∷ []))
token_plain k piece rest (IsToken.string {b} {bs} h g) = tt

lexed_plain : {at line : ℕ} {text : List ℕ} {ws : List Word} → Lexed at line text ws → PlainTerminals (terminals ws)
lexed_plain Lexed.none = tt
lexed_plain (Lexed.gap piece rest e gap l) = lexed_plain l
lexed_plain (Lexed.token k piece rest e is l) = (token_plain k piece rest is, lexed_plain l)

-- ---- one argument

value_plain : {sh : Shape} {ss : List Terminal} {v : Value} → IsValue sh ss v → PlainTerminals ss → PlainName v.name
value_plain (IsValue.number t f) h = tt
value_plain (IsValue.negative t l f) h = tt
value_plain (IsValue.name t) h = h.0
value_plain (IsValue.sum t u c) h = h.0
value_plain (IsValue.difference t u c) h = h.0

form_plain : {sh : Shape} {ss : List Terminal} {f : Form} → IsForm sh ss f → PlainTerminals ss → PlainName (symbol_in f)
form_plain (IsForm.absent h) p = tt
form_plain (IsForm.text h) p = tt
form_plain (IsForm.register h g) p = tt
form_plain (IsForm.immediate h v) p = value_plain v p.1
form_plain (IsForm.value v) p = value_plain v p
form_plain (IsForm.address h a) p = tt
form_plain (IsForm.value_address vs ps h e v a) p = value_plain v (front_plain vs ps (subst PlainTerminals e p))

argument_plain : {sh : Shape} {ss : List Terminal} {a : Argument} → IsArgument sh ss a → PlainTerminals ss → PlainName (symbol_in a.form)
argument_plain (IsArgument.plain f) p = form_plain f p
argument_plain (IsArgument.starred h f) p = form_plain f p.1

-- ---- names

record Fit (sc : ScopeView) : Type 0 where
  few : length sc.names ≤ 65536
  named : All (λ (n : List ℕ). Plain n) sc.names

added_named : (names : List (List ℕ)) (n : List ℕ) → Plain n → All (λ (m : List ℕ). Plain m) names
    → All (λ (m : List ℕ). Plain m) (added names n)
added_named names n plain named = by_test (holds names n)
  where
    by_test : (t : Bool) → All (λ (m : List ℕ). Plain m) (cond t names (names ++ n ∷ []))
    by_test true = named
    by_test false = All-push (λ (m : List ℕ). Plain m) names n named plain

-- A scope that has grown by these names, and by no item.
record Grown (sc sc2 : ScopeView) (ns : List (List ℕ)) : Type 0 where
  fit : Fit sc2
  names : sc2.names ≡ fold added sc.names ns
  items : sc2.items ≡ sc.items

seen_grown : {sc sc2 : ScopeView} {d : Bool} {n : List ℕ} → IsSeen sc d n sc2 → Plain n → Fit sc → Grown sc sc2 (n ∷ [])
seen_grown {sc} {n} (IsSeen.used room) plain fit = record {
  fit = record { few = added_few sc.names n room fit.few; named = added_named sc.names n plain fit.named };
  names = refl;
  items = refl;
}
seen_grown {sc} {n} (IsSeen.defined new room) plain fit = record {
  fit = record { few = added_few sc.names n room fit.few; named = added_named sc.names n plain fit.named };
  names = refl;
  items = refl;
}

none_grown : (sc sc2 : ScopeView) → sc ≡ sc2 → Fit sc → Grown sc sc2 []
none_grown sc sc2 e fit = record {
  fit = subst Fit e fit;
  names = ap (λ (x : ScopeView). x.names) (sym e);
  items = ap (λ (x : ScopeView). x.items) (sym e);
}

sees_grown : (sc sc2 : ScopeView) (d : Bool) (o : Option (List ℕ)) → Sees sc d o sc2 → PlainName o → Fit sc
    → Grown sc sc2 (option_to_list o)
sees_grown sc sc2 d None h plain fit = none_grown sc sc2 h fit
sees_grown sc sc2 d (Some n) h plain fit = seen_grown h plain fit

both_grown : (sc sc1 sc2 : ScopeView) (ns ms : List (List ℕ)) → Grown sc sc1 ns → Grown sc1 sc2 ms → Grown sc sc2 (ns ++ ms)
both_grown sc sc1 sc2 ns ms a b = record {
  fit = b.fit;
  names = b.names ∙ (ap (λ (x : List (List ℕ)). fold added x ms) a.names ∙ sym (fold-append added sc.names ns ms));
  items = b.items ∙ a.items;
}

names-end : (before : List Argument) (a : Argument) → argument_names (before ++ a ∷ []) ≡ argument_names before
    ++ option_to_list (symbol_in a.form)
names-end before a =
    flat_map-append (λ (x : Argument). option_to_list (symbol_in x.form)) before (a ∷ [])
    ∙ ap (λ (x : List (List ℕ)). argument_names before ++ x) (append-nil (option_to_list (symbol_in a.form)))

end_grown : (sc sc1 sc2 : ScopeView) (before : List Argument) (a : Argument) → Grown sc sc1 (argument_names before)
    → Grown sc1 sc2 (option_to_list (symbol_in a.form)) → Grown sc sc2 (argument_names (before ++ a ∷ []))
end_grown sc sc1 sc2 before a g h =
    subst (Grown sc sc2) (sym (names-end before a)) (both_grown sc sc1 sc2 (argument_names before) (option_to_list (symbol_in a.form)) g h)

next_grown : {h : Head} {sc sc2 : ScopeView} {before : List Argument} {ts : List Terminal} {a : Argument} → IsNext h sc before ts a sc2
    → PlainTerminals ts → Fit sc → Grown sc sc2 (option_to_list (symbol_in a.form))
next_grown {h} {sc} {sc2} {before} {a} next plain fit =
    sees_grown sc sc2 (defines h (length before)) (symbol_in a.form) next.sees (argument_plain next.is plain) fit

separated_grown : {h : Head} {sc sc2 : ScopeView} {ss : List Terminal} {args : List Argument} → Separated h sc ss args sc2
    → PlainTerminals ss → Fit sc → Grown sc sc2 (argument_names args)
separated_grown {sc} Separated.none plain fit = none_grown sc sc refl fit
separated_grown {h} {sc} {sc2} (Separated.more {ss} {ts} {before} {a} {sc1} sep next) plain fit =
    let g = separated_grown sep (front_plain ss (ts ++ terminal.Comma ∷ []) plain) fit in
    end_grown sc sc1 sc2 before a g
    (next_grown next (front_plain ts (terminal.Comma ∷ []) (back_plain ss (ts ++ terminal.Comma ∷ []) plain)) g.fit)

arguments_grown : {h : Head} {sc sc2 : ScopeView} {ss : List Terminal} {args : List Argument} → HasArguments h sc ss args sc2
    → PlainTerminals ss → Fit sc → Grown sc sc2 (argument_names args)
arguments_grown {sc} HasArguments.none plain fit = none_grown sc sc refl fit
arguments_grown {h} {sc} {sc2} (HasArguments.some {ss} {ts} {before} {a} {sc1} sep next) plain fit =
    let g = separated_grown sep (front_plain ss ts plain) fit in
    end_grown sc sc1 sc2 before a g (next_grown next (back_plain ss ts plain) g.fit)

-- ---- statements

-- The names of a scope are those of its items.
record Tracks (sc : ScopeView) : Type 0 where
  fit : Fit sc
  names : names_in sc.items ≡ sc.names

names_in-end : (items : List SourceItem) (i : SourceItem) → names_in (items ++ i ∷ []) ≡ fold added (names_in items) (body_names i.body)
unfolding names_in
names_in-end items i =
    ap (fold added []) (flat_map-append (λ (x : SourceItem). body_names x.body) items (i ∷ [])
    ∙ ap (λ (x : List (List ℕ)). flat_map (λ (y : SourceItem). body_names y.body) items ++ x) (append-nil (body_names i.body)))
    ∙ fold-append added [] (flat_map (λ (x : SourceItem). body_names x.body) items) (body_names i.body)

-- an item whose names a scope has grown by
tracks_on : (sc sc1 sc2 : ScopeView) (i : SourceItem) → Tracks sc → Grown sc sc1 (body_names i.body) → sc2.names ≡ sc1.names
    → sc2.items ≡ sc1.items ++ i ∷ [] → Tracks sc2
tracks_on sc sc1 sc2 i t g same new = record {
  fit = record {
    few = subst (λ (x : List (List ℕ)). length x ≤ 65536) (sym same) g.fit.few;
    named = subst (λ (x : List (List ℕ)). All (λ (n : List ℕ). Plain n) x) (sym same) g.fit.named;
  };
  names =
      ap names_in (new ∙ ap (λ (x : List SourceItem). x ++ i ∷ []) g.items)
      ∙ (names_in-end sc.items i ∙ (ap (λ (x : List (List ℕ)). fold added x (body_names i.body)) t.names ∙ (sym g.names ∙ sym same)));
}

resumed_names : (sc : ScopeView) (h : Head) → (resumed sc h).names ≡ sc.names
resumed_names sc (head.Instruction r n) = refl
resumed_names sc (head.Directive directive.Plain n) = refl
resumed_names sc (head.Directive _ n) = refl

statement_tracks : {sc sc2 : ScopeView} {line : ℕ} {ss : List Terminal} → Statement sc line ss sc2 → PlainTerminals ss
    → Tracks sc → Tracks sc2
statement_tracks Statement.empty plain t = t
statement_tracks {sc} {line} (Statement.label {sc2} {n} sk seen) plain t =
    tracks_on sc sc2 _ (record { line = line; body = body.Label n }) t (seen_grown seen plain.0 t.fit) refl refl
statement_tracks {sc} {line} (Statement.instruction {sc2} {n} {ss} {args} passed dotted rep has) plain t =
    tracks_on sc sc2 _ (item_of line (head.Instruction false n) args) t
    (arguments_grown has (front_plain ss (terminal.End ∷ []) plain.1) t.fit) refl refl
statement_tracks {sc} {line} (Statement.repeated {sc2} {r} {n} {ss} {args} passed dotted rep has) plain t =
    tracks_on sc sc2 _ (item_of line (head.Instruction true n) args) t
    (arguments_grown has (front_plain ss (terminal.End ∷ []) plain.1.1) t.fit) refl refl
statement_tracks {sc} {line} (Statement.directive {sc2} {n} {k} {ss} {args} passed dotted dir list has count) plain t =
    tracks_on sc sc2 _ (item_of line (head.Directive k n) args) t (arguments_grown has (front_plain ss (terminal.End ∷ []) plain.1) t.fit)
    (resumed_names (pushed sc2 (item_of line (head.Directive k n) args)) (head.Directive k n))
    (resumed_items (pushed sc2 (item_of line (head.Directive k n) args)) (head.Directive k n))
statement_tracks (Statement.skipped_directive ss passed dotted dir u h) plain t = t
statement_tracks (Statement.skipped_label sk) plain t = t
statement_tracks (Statement.skipped ss passed u h) plain t = t
statement_tracks (Statement.nameless ss sk k h) plain t = t

piece_tracks : {sc sc2 : ScopeView} {ws : List Word} → IsStatement sc ws sc2 → PlainTerminals (terminals ws) → Tracks sc → Tracks sc2
piece_tracks (IsStatement.plain w ws st) plain t = statement_tracks st plain t
piece_tracks {sc} (IsStatement.section {n} {m} w v parts rest ss wn passed dotted dir vm is touch end flags) plain t =
    tracks_on sc sc _ (record {
      line = w.line;
      body = body.Directive n (record { star = false; form = form.Text (m ++ text_of parts) } ∷ []);
    }) t (none_grown sc sc refl t.fit) refl refl

statements_track : {sc sc2 : ScopeView} {ws : List Word} → Statements sc ws sc2 → PlainTerminals (terminals ws) → Tracks sc → Tracks sc2
statements_track Statements.none plain t = t
statements_track {ws} (Statements.more piece rest e st tail) plain t =
    let whole : PlainTerminals (terminals piece ++ terminals rest) =
    subst PlainTerminals (ap terminals e ∙ terminals-append piece rest) plain in
    statements_track tail (back_plain (terminals piece) (terminals rest) whole)
    (piece_tracks st (front_plain (terminals piece) (terminals rest) whole) t)

fresh_tracks : Tracks fresh
unfolding names_in
fresh_tracks = record { fit = record { few = omega arith; named = All-nil (λ (n : List ℕ). Plain n) }; names = refl }

-- ---- a source

source_readable : (text : List ℕ) (items : List SourceItem) → length text ≤ LIMIT → Says text items → IsReadable items
source_readable text items small says = by_words says
  where
    by_words : Says text items → IsReadable items
    by_words (ws, sc, lexed, statements, is) =
        let t = statements_track statements (lexed_plain lexed) fresh_tracks in
        let e : names_in items ≡ sc.names = ap names_in (sym is) ∙ t.names in
        let p = source_pays text items says in
        record {
          size = omega (arith, p.0);
          count = omega (arith, p.1);
          few = subst (λ (x : List (List ℕ)). length x ≤ 65536) (sym e) t.fit.few;
          named = subst (λ (x : List (List ℕ)). All (λ (n : List ℕ). Plain n) x) (sym e) t.fit.named;
        }

pub source_items : (text : List ℕ) (items : List SourceItem) → SourceAs text items → IsReadable items
source_items text items (small, says) = source_readable text items small says

pub parsed_readable : (text : List ℕ) (x : Result (List SourceItem) SourceFault) → length text ≤ LIMIT
    → Parses x (read text) → IfOk x IsReadable
parsed_readable text (Ok x) small p = let s = parsed_is text (Ok x) small p in source_readable text x small s.1
parsed_readable text (Err e) small p = tt
