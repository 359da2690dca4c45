-- What has been read of a statement can go on to its end.
use Rattle.std.proofs.Common.{◌≡◌, ℕ, zero, suc, ◌+◌, ◌≤◌, Bool, true, false, cond, List, [], ◌∷◌, ◌++◌, length, Option, Some, None, Ok, refl, sym, ap, subst, ◌∙◌, inl, inr, arith}
use Rattle.std.proofs.lemmas.List.{length-append}
use Rattle.std.proofs.lemmas.Bool.{ltb-true, le-ltb, ne_eqb, not-false}
use Rattle.std.specs.Prelude.{pos, ◌==◌, ◌||◌, not, nat_lt}
use Rattle.asm_lex.specs.declared.token.TokenKind.TheVariants as kind
use Rattle.asm_lex.specs.Words.{Word}
use Rattle.asm_lex.specs.Source.{lines_after}
use Rattle.asm_argument.specs.declared.terminal.Terminal.TheVariants as terminal
use Rattle.asm_argument.specs.declared.shape.Shape.{Shape}
use Rattle.asm_argument.specs.declared.shape.Shape.TheVariants as shape
use Rattle.asm_argument.specs.declared.operand.ValuePlace.TheVariants as place
use Rattle.asm_argument.specs.declared.operand.Partial.{Partial}
use Rattle.asm_argument.specs.declared.operand.Partial.TheVariants as partial
use Rattle.asm_source.specs.declared.tree.Form.TheVariants as form
use Rattle.asm_source.specs.declared.tree.Argument.{Argument}
use Rattle.asm_statement.specs.declared.directive.Directive.{Directive}
use Rattle.asm_statement.specs.declared.directive.Directive.TheVariants as directive
use Rattle.asm_statement.specs.declared.directive.Head.{Head}
use Rattle.asm_statement.specs.declared.directive.Head.TheVariants as head
use Rattle.asm_statement.specs.declared.state.Open.{Open}
use Rattle.asm_statement.specs.declared.state.StatementState.{StatementState}
use Rattle.asm_statement.specs.declared.state.StatementState.TheVariants as state
use Rattle.asm_statement.specs.ScopeView.{ScopeView}
use Rattle.asm_source.specs.Names.{holds}
use Rattle.asm_statement.specs.Definers.{is_defining, is_spent}
use Rattle.asm_statement.specs.Scope.{has_room, pushed, noted, defined_too}
use Rattle.asm_argument.specs.Operand.{finished, is_nothing}
use Rattle.asm_argument.specs.Shapes.{is_operand, takes_numbers, fits, named, plain}
use Rattle.asm_argument.specs.Grammar.{IsValue, IsForm}
use Rattle.asm_argument.specs.declared.escapes.Escape.TheVariants as escape
use Rattle.asm_argument.specs.Escapes.{string_text}
use Rattle.asm_argument.specs.Terminals.{terminal_of}
use Rattle.asm_statement.specs.Statement.{is_taken, doom}
use Rattle.asm_statement.specs.Items.{item_of, resumed, sectioned, is_passed, is_rep}
use Rattle.asm_statement.specs.Directives.{shape_at, least, defines, is_section, is_dotted, directive_of, is_known, is_change}
use Rattle.asm_parse.specs.Statements.{IsSeen, IsArgument, IsNext, Separated, HasArguments, has_list, Statement}
use Rattle.asm_parse.proofs.Words.{read_words}
use Rattle.asm_parse.proofs.Names.{named_in}
use Rattle.asm_parse.proofs.Scopes.{GoodIn}
use Rattle.asm_parse.proofs.Quiet.{IsOpen, StateIs}
use Rattle.asm_parse.proofs.Stated.{inners, inners_append, inners_words, word_is, open_at, instruction_operand, Gains, form_runs, comma_runs, end_runs, statement_runs, named_section, rest_runs}
use Rattle.asm_parse.proofs.Written.{Piece, words_at, terminals_of, ArePieces, pieces-append, terminals_of-append, terminals-words_at, IsName, name_piece, one_piece, text_piece, end_piece, comma_piece, colon_piece, letter, letter_name, text_section, section_name_is, the_name, the_one, the_text, the_end, the_mark}
use Rattle.asm_parse.proofs.Finishing.{Finish, finish}
use Rattle.asm_parse.proofs.Unsaid.{Sayable, sayable, Definable, definable}

-- ---- a statement

pub record Completed (sc : ScopeView) (st : StatementState) : Type 0 where
  pub pieces : List Piece
  pub are : ArePieces pieces
  pub last : ScopeView
  pub runs : (at line : ℕ) → read_words sc st (words_at at line pieces) ≡ Ok (last, state.Start)

by_terminals : (sc last : ScopeView) (st : StatementState) (ps : List Piece) → ArePieces ps
    → inners sc st (terminals_of ps) ≡ Ok (last, state.Start) → Completed sc st
by_terminals sc last st ps are h = record {
  pieces = ps;
  are = are;
  last = last;
  runs =
      λ at line. inners_words (words_at at line ps) sc st (last, state.Start) refl (ap (inners sc st) (terminals-words_at ps at line) ∙ h);
}

gains_none : (d : Bool) (sc : ScopeView) (a b : Option (List ℕ)) → b ≡ a → Gains d sc a b sc
gains_none d sc a b e = subst (λ (x : Option (List ℕ)). Gains d sc a x sc) (sym e) (by_name a)
  where
    by_name : (a : Option (List ℕ)) → Gains d sc a a sc
    by_name None = refl
    by_name (Some n) = refl

-- only a directive's first argument is a name
later_shape : (h : Head) (i : ℕ) (sh : Shape) → (i == 0) ≡ false → shape_at h i ≡ Some sh → sh ≡ shape.Name → ⊥
later_shape (head.Instruction r n) i sh z may e = let g : ◌≡◌ {A = Option Shape} (Some shape.Operand) (Some shape.Name) =
    may ∙ ap (λ (x : Shape). Some x) e in absurd cc
later_shape (head.Directive k n) i sh z may e = by_kind k (may ∙ ap (λ (x : Shape). Some x) e)
  where
    at_first : (a : Shape) (r : Option Shape) → (r ≡ Some shape.Name → ⊥) → cond (i == 0) (Some a) r ≡ Some shape.Name → ⊥
    at_first a r never g = never (sym (ap (λ (t : Bool). cond t (Some a) r) z) ∙ g)

    at_test : (t : Bool) (a : Shape) (r : Option Shape) → (a ≡ shape.Name → ⊥) → (r ≡ Some shape.Name → ⊥)
        → cond t (Some a) r ≡ Some shape.Name → ⊥
    at_test true a r never none g = never cc
    at_test false a r never none g = none g

    none_name : ◌≡◌ {A = Option Shape} None (Some shape.Name) → ⊥
    none_name g = absurd cc

    by_kind : (k : Directive) → shape_at (head.Directive k n) i ≡ Some shape.Name → ⊥
    by_kind directive.Bytes g = absurd cc
    by_kind directive.Longs g = absurd cc
    by_kind directive.Strings g = absurd cc
    by_kind directive.Global g = at_first shape.Name None none_name g
    by_kind directive.Zero g = at_first shape.Count None none_name g
    by_kind directive.Aligned g = at_first shape.Alignment None none_name g
    by_kind directive.Powered g =
        at_first shape.Power _ (at_test (i == 1) shape.Fill _ (λ f. absurd cc)
        (at_test (i == 2) shape.Count None (λ f. absurd cc) none_name)) g
    by_kind directive.Common g =
        at_first shape.Name _ (at_test (i == 1) shape.Count _ (λ f. absurd cc)
        (at_test (i == 2) shape.Alignment None (λ f. absurd cc) none_name)) g
    by_kind directive.LocalCommon g = at_first shape.Name _ (at_test (i == 1) shape.Count None (λ f. absurd cc) none_name) g
    by_kind _ g = absurd cc

not_zero : (i : ℕ) → 1 ≤ i → (i == 0) ≡ false
not_zero zero h = absurd (omega arith)
not_zero (suc i) h = ne_eqb (suc i) 0 (λ e. absurd (omega arith))

not_name : (o : Open) (w : IsOpen o) → is_nothing o.so_far ≡ true → w.shape ≡ shape.Name → ⊥
not_name o w e is = elim (w.first e) [
  | inl instruction ↦ operand_not_name w.shape (instruction_operand o.head (length o.arguments) w.shape instruction w.may) is
  | inr le ↦ later_shape o.head (length o.arguments) w.shape (not_zero (length o.arguments) le) w.may is
]
  where
    operand_not_name : (sh : Shape) → is_operand sh ≡ true → sh ≡ shape.Name → ⊥
    operand_not_name sh h e = let g : is_operand shape.Name ≡ true = ap is_operand (sym e) ∙ h in absurd cc

-- two arguments are wanted
wants_two : (h : Head) (n : ℕ) → 1 ≤ n → nat_lt n (least h) ≡ true → (n ≡ 1) × (shape_at h 1 ≡ Some shape.Count) × (least h ≡ 2)
wants_two (head.Instruction r m) n le h = absurd (omega (arith, ltb-true n 0 h))
wants_two (head.Directive directive.Common m) n le h = (omega (arith, ltb-true n 2 h), refl, refl)
wants_two (head.Directive directive.LocalCommon m) n le h = (omega (arith, ltb-true n 2 h), refl, refl)
wants_two (head.Directive directive.Plain m) n le h = absurd (omega (arith, ltb-true n 0 h))
wants_two (head.Directive _ m) n le h = absurd (omega (arith, ltb-true n 1 h))

-- an argument has been read
module _ (sc : ScopeView) (line : ℕ) (h : Head) (before : List Argument) (a : Argument) (q : Partial) (fin : finished q ≡ Some a.form) where
  ended_here : nat_lt (length (before ++ a ∷ [])) (least h) ≡ false → (last : ScopeView)
      × (inners sc (state.Arguments (open_at line h before a.star q)) (terminals_of (the_end ∷ [])) ≡ Ok (last, state.Start))
  ended_here count = (resumed (pushed sc (item_of line h (before ++ a ∷ []))) h, rw (end_runs sc line h before a q fin count, inners) refl)

  ended_later : nat_lt (length (before ++ a ∷ [])) (least h) ≡ true
      → (last : ScopeView) × (inners sc (state.Arguments (open_at line h before a.star q))
      (terminals_of (the_mark 44 ∷ the_one ∷ the_end ∷ [])) ≡ Ok (last, state.Start))
  ended_later count =
      let two = wants_two h (length (before ++ a ∷ [])) (omega (arith, length-append before (a ∷ []))) count in
      let may : shape_at h (length (before ++ a ∷ [])) ≡ Some shape.Count = ap (shape_at h) two.0 ∙ two.1 in
      let b : Argument = record { star = false; form = form.Memory (Some (plain (pos 1))) None None 1 } in
      let many : nat_lt (length ((before ++ a ∷ []) ++ b ∷ [])) (least h) ≡ false =
      le-ltb _ _ (omega (arith, two.0, two.2, length-append (before ++ a ∷ []) (b ∷ []))) in
      let comma = comma_runs sc line h before a q shape.Count fin may in
      let one = form_runs line h (before ++ a ∷ []) false shape.Count may (terminal.Number 1 ∷ []) partial.Nothing
      (partial.Number place.Memory (plain (pos 1))) sc sc refl refl in
      let end = end_runs sc line h (before ++ a ∷ []) b (partial.Number place.Memory (plain (pos 1))) refl many in (
        resumed (pushed sc (item_of line h ((before ++ a ∷ []) ++ b ∷ []))) h,
        rw (comma, inners) (inners_append (terminal.Number 1 ∷ []) (terminal.End ∷ []) sc
            (state.Arguments (open_at line h (before ++ a ∷ []) false partial.Nothing)) (
              sc,
              state.Arguments (open_at line h (before ++ a ∷ []) false (partial.Number place.Memory (plain (pos 1)))),
            ) one ∙ rw (end, inners) refl),
      )

arguments_completed : (sc : ScopeView) (o : Open) → IsOpen o → Completed sc (state.Arguments o)
arguments_completed sc o w =
    let f = finish w.shape o.so_far (not_name o w) in
    let first : inners sc (state.Arguments o) (terminals_of f.pieces) ≡ Ok
    (sc, state.Arguments (open_at o.line o.head o.arguments o.star f.last)) =
    form_runs o.line o.head o.arguments o.star w.shape w.may (terminals_of f.pieces) o.so_far f.last sc sc f.runs
    (gains_none (defines o.head (length o.arguments)) sc (named_in o.so_far) (named_in f.last) f.names) in
    by_count f first (nat_lt (length (o.arguments ++ record { star = o.star; form = f.form } ∷ [])) (least o.head)) refl
  where
    joined : (ps qs : List Piece) (st : StatementState) (last : ScopeView) → inners sc (state.Arguments o) (terminals_of ps) ≡ Ok (sc, st)
        → inners sc st (terminals_of qs) ≡ Ok (last, state.Start) → inners sc (state.Arguments o) (terminals_of (ps ++ qs))
        ≡ Ok (last, state.Start)
    joined ps qs st last h k = ap (inners sc (state.Arguments o)) (terminals_of-append ps qs)
        ∙ (inners_append (terminals_of ps) (terminals_of qs) sc (state.Arguments o) (sc, st) h ∙ k)

    by_count : (f : Finish w.shape o.so_far) → inners sc (state.Arguments o) (terminals_of f.pieces) ≡ Ok
        (sc, state.Arguments (open_at o.line o.head o.arguments o.star f.last))
        → (t : Bool) → nat_lt (length (o.arguments ++ record { star = o.star; form = f.form } ∷ [])) (least o.head) ≡ t
        → Completed sc (state.Arguments o)
    by_count f first false count =
        let e = ended_here sc o.line o.head o.arguments (record { star = o.star; form = f.form }) f.last f.ends count in
        by_terminals sc e.0 (state.Arguments o) (f.pieces ++ the_end ∷ []) (pieces-append f.pieces (the_end ∷ []) f.are (end_piece, tt))
        (joined f.pieces (the_end ∷ []) _ e.0 first e.1)
    by_count f first true count =
        let e = ended_later sc o.line o.head o.arguments (record { star = o.star; form = f.form }) f.last f.ends count in
        by_terminals sc e.0 (state.Arguments o) (f.pieces ++ the_mark 44 ∷ the_one ∷ the_end ∷ [])
        (pieces-append f.pieces (the_mark 44 ∷ the_one ∷ the_end ∷ []) f.are (comma_piece, (one_piece, (end_piece, tt))))
        (joined f.pieces (the_mark 44 ∷ the_one ∷ the_end ∷ []) _ e.0 first e.1)

-- ---- after a name

text_known : is_section text_section ≡ true
unfolding is_known
text_known = refl

-- a number as a directive's argument
one_argument : (sc : ScopeView) (k : Directive) (n : List ℕ) (before : List Argument) (sh : Shape)
    → shape_at (head.Directive k n) (length before) ≡ Some sh → takes_numbers sh ≡ true → fits sh false 1 ≡ true
    → IsNext (head.Directive k n) sc before (terminal.Number 1 ∷ [])
    (record { star = false; form = form.Memory (Some (plain (pos 1))) None None 1 }) sc
one_argument sc k n before sh may takes fit =
    record { shape = sh; may = may; is = IsArgument.plain (IsForm.value (IsValue.number takes fit)); sees = refl }

module _ (sc : ScopeView) (b : ℕ) (n : List ℕ) (passed : is_passed sc n ≡ false) (dotted : is_dotted n ≡ true) where
  number_completed : (k : Directive) (sh : Shape) → directive_of n ≡ Some k → has_list k ≡ true → shape_at (head.Directive k n) 0 ≡ Some sh
      → takes_numbers sh ≡ true → fits sh false 1 ≡ true → nat_lt 1 (least (head.Directive k n)) ≡ false → Completed sc (state.Named b n)
  number_completed k sh dir list may takes fit count =
      by_terminals sc _ (state.Named b n) (the_one ∷ the_end ∷ []) (one_piece, (end_piece, tt))
      (statement_runs (Statement.directive {sc = sc} {line = b} {n = n} passed dotted dir list
      (HasArguments.some Separated.none (one_argument sc k n [] sh may takes fit)) count))

  name_completed : directive_of n ≡ Some directive.Global → Sayable sc → Completed sc (state.Named b n)
  name_completed dir w =
      let next : IsNext (head.Directive directive.Global n) sc [] (terminal.Name w.name ∷ [])
      (record { star = false; form = form.Memory (Some (named w.name (pos 0))) None None 1 }) (noted sc w.name) =
      record { shape = shape.Name; may = refl; is = IsArgument.plain (IsForm.value (IsValue.name refl)); sees = IsSeen.used w.room } in
      by_terminals sc _ (state.Named b n) (the_name w.name ∷ the_end ∷ []) (name_piece w.name w.is, (end_piece, tt))
      (statement_runs (Statement.directive {sc = sc} {line = b} {n = n} passed dotted dir refl
      (HasArguments.some Separated.none next) refl))

  text_completed : directive_of n ≡ Some directive.Strings → Completed sc (state.Named b n)
  text_completed dir =
      let next : IsNext (head.Directive directive.Strings n) sc [] (terminal_of kind.Text (34 ∷ 34 ∷ []) ∷ [])
      (record { star = false; form = form.Text (string_text escape.Open (34 ∷ 34 ∷ [])) }) sc =
      record { shape = shape.Text; may = refl; is = IsArgument.plain (IsForm.text refl); sees = refl } in
      by_terminals sc _ (state.Named b n) (the_text ∷ the_end ∷ []) (text_piece, (end_piece, tt))
      (statement_runs (Statement.directive {sc = sc} {line = b} {n = n} passed dotted dir refl
      (HasArguments.some Separated.none next) refl))

  defining_completed : (k : Directive) → directive_of n ≡ Some k → has_list k ≡ true → shape_at (head.Directive k n) 0 ≡ Some shape.Name
      → shape_at (head.Directive k n) 1 ≡ Some shape.Count → defines (head.Directive k n) 0 ≡ true
      → least (head.Directive k n) ≡ 2 → Definable sc → Completed sc (state.Named b n)
  defining_completed k dir list first second def count w =
      let sc2 = defined_too (noted sc w.name) w.name in
      let a : Argument = record { star = false; form = form.Memory (Some (named w.name (pos 0))) None None 1 } in
      let next : IsNext (head.Directive k n) sc [] (terminal.Name w.name ∷ [])
      (record { star = false; form = form.Memory (Some (named w.name (pos 0))) None None 1 }) (defined_too (noted sc w.name) w.name) =
      record {
        shape = shape.Name;
        may = first;
        is = IsArgument.plain (IsForm.value (IsValue.name refl));
        sees = rw def (IsSeen.defined w.new w.room);
      } in
      by_terminals sc _ (state.Named b n) (the_name w.name ∷ the_mark 44 ∷ the_one ∷ the_end ∷ [])
      (name_piece w.name w.is, (comma_piece, (one_piece, (end_piece, tt))))
      (statement_runs (Statement.directive {sc = sc} {line = b} {n = n} passed dotted dir list
      (HasArguments.some (Separated.more Separated.none next)
      (one_argument (defined_too (noted sc w.name) w.name) k n (a ∷ []) shape.Count second refl refl)) (rw count refl)))

  section_completed : directive_of n ≡ Some directive.Section → Completed sc (state.Named b n)
  section_completed dir = record {
    pieces = the_name text_section ∷ the_end ∷ [];
    are = (name_piece text_section section_name_is, (end_piece, tt));
    last = sectioned sc b n text_section;
    runs = runs;
  }
    where
      runs : (at line : ℕ) → read_words sc (state.Named b n) (words_at at line (the_name text_section ∷ the_end ∷ [])) ≡ Ok
          (sectioned sc b n text_section, state.Start)
      runs at line =
          let v : Word = record { kind = kind.Name; at = at; line = line; bytes = text_section } in
          let two = word_is sc (state.Named b n) v (sc, state.Sectioned b n text_section 0) refl
          (named_section sc b n text_section passed dotted dir text_known) in
          rw two (rest_runs (words_at (at + length text_section + length {A = ℕ} (32 ∷ []))
          (lines_after (lines_after line text_section) (32 ∷ [])) (the_end ∷ [])) [] sc b n text_section (at
          + length text_section) refl refl)

label_completed : (sc : ScopeView) (b : ℕ) (n : List ℕ) → is_passed sc n ≡ false → is_dotted n ≡ true → directive_of n ≡ None
    → doom sc (state.Named b n) ≡ None → Completed sc (state.Named b n)
label_completed sc b n passed dotted dir alive =
    let sk = not_skipping sc.skipping refl in
    let taken = not_taken (is_taken sc n) refl sk in
    let parts = or_both (holds sc.defined n) (not (has_room sc n)) taken in
    by_terminals sc _ (state.Named b n) (the_mark 58 ∷ []) (colon_piece, tt)
    (statement_runs (Statement.label {sc = sc} {line = b} {n = n} sk (IsSeen.defined parts.0 (not-false (has_room sc n) parts.1))))
  where
    not_skipping : (t : Bool) → sc.skipping ≡ t → sc.skipping ≡ false
    not_skipping false e = e
    not_skipping true e = let f : is_passed sc n ≡ true = rw (e, dotted, dir) refl in absurd cc

    not_taken : (t : Bool) → is_taken sc n ≡ t → sc.skipping ≡ false → is_taken sc n ≡ false
    not_taken false e sk = e
    not_taken true e sk = let f : doom sc (state.Named b n) ≡ Some b = rw (dotted, sk, dir, e) refl in absurd cc

    or_both : (a c : Bool) → (a || c) ≡ false → (a ≡ false) × (c ≡ false)
    or_both true c h = absurd cc
    or_both false c h = (refl, h)

-- no name lacks where one has to be defined
not_spent : (sc : ScopeView) (b : ℕ) (n : List ℕ) (k : Directive) → is_passed sc n ≡ false → is_dotted n ≡ true → directive_of n ≡ Some k
    → is_defining (Some k) ≡ true → doom sc (state.Named b n) ≡ None → is_spent sc ≡ false
not_spent sc b n k passed dotted dir def alive = by_spent (is_spent sc) refl
  where
    not_change : (k : Directive) → is_defining (Some k) ≡ true → is_change (Some k) ≡ false
    not_change directive.Common h = refl
    not_change directive.LocalCommon h = refl
    not_change _ h = absurd cc

    not_skipping : (t : Bool) → sc.skipping ≡ t → sc.skipping ≡ false
    not_skipping false e = e
    not_skipping true e = let f : is_passed sc n ≡ true = rw (e, dotted, dir, not_change k def) refl in absurd cc

    by_spent : (t : Bool) → is_spent sc ≡ t → is_spent sc ≡ false
    by_spent false e = e
    by_spent true e = let f : doom sc (state.Named b n) ≡ Some b = rw (dotted, not_skipping sc.skipping refl, dir, def, e) refl in absurd cc

named_completed : (sc : ScopeView) (b : ℕ) (n : List ℕ) → GoodIn IsName sc → doom sc (state.Named b n) ≡ None
    → Completed sc (state.Named b n)
named_completed sc b n g alive = by_tests (is_passed sc n) (is_dotted n) (is_rep n) refl refl refl
  where
    by_directive : (d : Option Directive) → is_passed sc n ≡ false → is_dotted n ≡ true → directive_of n ≡ d
        → Completed sc (state.Named b n)
    by_directive None passed dotted dir = label_completed sc b n passed dotted dir alive
    by_directive (Some directive.Plain) passed dotted dir = by_terminals sc _ (state.Named b n) (the_end ∷ []) (end_piece, tt)
        (statement_runs (Statement.directive {sc = sc} {line = b} {n = n} passed dotted dir refl HasArguments.none refl))
    by_directive (Some directive.Section) passed dotted dir = section_completed sc b n passed dotted dir
    by_directive (Some directive.Global) passed dotted dir = name_completed sc b n passed dotted dir (sayable sc g)
    by_directive (Some directive.Bytes) passed dotted dir =
        number_completed sc b n passed dotted directive.Bytes shape.Number dir refl refl refl refl refl
    by_directive (Some directive.Longs) passed dotted dir =
        number_completed sc b n passed dotted directive.Longs shape.Value dir refl refl refl refl refl
    by_directive (Some directive.Strings) passed dotted dir = text_completed sc b n passed dotted dir
    by_directive (Some directive.Zero) passed dotted dir =
        number_completed sc b n passed dotted directive.Zero shape.Count dir refl refl refl refl refl
    by_directive (Some directive.Aligned) passed dotted dir =
        number_completed sc b n passed dotted directive.Aligned shape.Alignment dir refl refl refl refl refl
    by_directive (Some directive.Powered) passed dotted dir =
        number_completed sc b n passed dotted directive.Powered shape.Power dir refl refl refl refl refl
    by_directive (Some directive.Common) passed dotted dir = defining_completed sc b n passed dotted directive.Common dir refl refl refl
        refl refl (definable sc g (not_spent sc b n directive.Common passed dotted dir refl alive))
    by_directive (Some directive.LocalCommon) passed dotted dir = defining_completed sc b n passed dotted directive.LocalCommon dir refl
        refl refl refl refl (definable sc g (not_spent sc b n directive.LocalCommon passed dotted dir refl alive))
    by_directive (Some directive.Skipped) passed dotted dir = by_terminals sc sc (state.Named b n) (the_end ∷ []) (end_piece, tt)
        (statement_runs (Statement.skipped_directive {sc = sc} {line = b} {n = n} [] passed dotted dir refl refl))

    by_tests : (t u v : Bool) → is_passed sc n ≡ t → is_dotted n ≡ u → is_rep n ≡ v → Completed sc (state.Named b n)
    by_tests true u v e f k = by_terminals sc sc (state.Named b n) (the_end ∷ []) (end_piece, tt)
        (statement_runs (Statement.skipped {sc = sc} {line = b} {n = n} [] e refl refl))
    by_tests false true v e f k = by_directive (directive_of n) e f refl
    by_tests false false true e f k = by_terminals sc _ (state.Named b n) (the_name letter ∷ the_end ∷ [])
        (name_piece letter letter_name, (end_piece, tt))
        (statement_runs (Statement.repeated {sc = sc} {line = b} {r = n} {n = letter} e f k HasArguments.none))
    by_tests false false false e f k = by_terminals sc _ (state.Named b n) (the_end ∷ []) (end_piece, tt)
        (statement_runs (Statement.instruction {sc = sc} {line = b} {n = n} e f k HasArguments.none))

-- Where nothing is dead the statement can end.
pub completed : (sc : ScopeView) (st : StatementState) → GoodIn IsName sc → StateIs IsName st → doom sc st ≡ None → Completed sc st
completed sc state.Start g is alive = record { pieces = []; are = tt; last = sc; runs = λ at line. refl }
completed sc (state.Named b n) g is alive = named_completed sc b n g alive
completed sc state.Skip g is alive = by_terminals sc sc state.Skip (the_end ∷ []) (end_piece, tt) refl
completed sc (state.Sectioned b n m e) g is alive = record {
  pieces = the_end ∷ [];
  are = (end_piece, tt);
  last = sectioned sc b n m;
  runs = λ at line. rest_runs (words_at at line (the_end ∷ [])) [] sc b n m e refl refl;
}
completed sc (state.Flags b n m) g is alive = by_terminals sc (sectioned sc b n m) (state.Flags b n m) (the_end ∷ []) (end_piece, tt) refl
completed sc (state.Arguments o) g is alive = arguments_completed sc o is
completed sc (state.Stray l c) g is alive = absurd cc
