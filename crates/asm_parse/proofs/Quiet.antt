-- What is dead takes no token more, and a token makes nothing dead but in its own line.
use Rattle.std.proofs.Common.{◌≡◌, ℕ, Bool, true, false, cond, List, [], ◌∷◌, ◌++◌, length, Option, Some, None, Result, Ok, Err, refl, sym, ap, subst, ◌∙◌, ◌⊎◌, inl, inr, ◌≤◌, arith}
use Rattle.std.proofs.lemmas.List.{length-append}
use Rattle.std.specs.Prelude.{not, ◌&&◌, ◌||◌, is_none, nat_lt, ◌+◌, unwrap_or}
use Rattle.std.specs.Bool.{then_some}
use Rattle.std.proofs.lemmas.Bool.{not-true, and_parts, or_cases}
use Rattle.plain_laws.proofs.Options.{none_is}
use Rattle.asm_lex.specs.declared.fault.SourceCause.{SourceCause}
use Rattle.asm_lex.specs.declared.fault.SourceCause.TheVariants as cause
use Rattle.asm_argument.specs.declared.terminal.Terminal.{Terminal}
use Rattle.asm_argument.specs.declared.terminal.Terminal.TheVariants as terminal
use Rattle.asm_argument.specs.declared.shape.Shape.{Shape}
use Rattle.asm_argument.specs.declared.operand.Partial.{Partial}
use Rattle.asm_source.specs.declared.tree.Argument.{Argument}
use Rattle.asm_statement.specs.declared.directive.Directive.{Directive}
use Rattle.asm_statement.specs.declared.directive.Directive.TheVariants as directive
use Rattle.asm_statement.specs.declared.directive.Head.{Head}
use Rattle.asm_statement.specs.declared.directive.Head.TheVariants as head
use Rattle.asm_statement.specs.declared.state.Open.{Open}
use Rattle.asm_statement.specs.declared.state.StatementState.{StatementState}
use Rattle.asm_statement.specs.declared.state.StatementState.TheVariants as state
use Rattle.asm_lex.specs.Words.{Word}
use Rattle.asm_lex.specs.declared.token.TokenKind.{TokenKind}
use Rattle.asm_statement.specs.ScopeView.{ScopeView}
use Rattle.asm_argument.specs.Terminals.{terminal_of}
use Rattle.asm_statement.specs.Reading.{is_longer, longer, ending_at, with_end, next_word}
use Rattle.asm_source.specs.Names.{holds}
use Rattle.asm_statement.specs.Definers.{is_defining, is_spent}
use Rattle.asm_statement.specs.Scope.{has_room, fresh, pushed}
use Rattle.asm_argument.specs.declared.shape.Shape.TheVariants as shape
use Rattle.asm_argument.specs.declared.operand.ValuePlace.TheVariants as place
use Rattle.asm_argument.specs.declared.operand.Partial.TheVariants as partial
use Rattle.asm_parse.proofs.Scopes.{GoodIn, fresh_good, seen_good, spent_noting}
use Rattle.asm_parse.proofs.Names.{noting_seen, Keeps, name_step, IsSome, terminal_some, operand_next}
use Rattle.asm_argument.specs.Operand.{operand_step, is_finished, is_nothing, name_in}
use Rattle.asm_statement.specs.Statement.{noting, after_noting, with_name, after_step, at_shape, within, argument_of, comma_behind, end_behind, ended, complete, is_bare, takes_star, argument_step, nothing_yet, labelled, label, rep_step, of_directive, section_name, unless_skipping, start_step, colon_behind, other_behind, named_step, sectioned_step, flags_step, skip, with_scope, step, is_place, strayed, next_step, is_unknown, is_taken, lacks_names, doom, fault_line}
use Rattle.asm_statement.specs.Items.{item_of, resumed, is_rep, is_passed}
use Rattle.asm_statement.specs.Directives.{shape_at, least, defines, is_instruction, directive_of, is_dotted, is_section}

abbrev pub Answer : Type 0
Answer = Result (ScopeView × StatementState) SourceCause

pub ok_same : (x y : ScopeView × StatementState) → ◌≡◌ {A = Answer} (Ok x) (Ok y) → x ≡ y
ok_same x y h = cc

-- ---- what is dead

pub doomed_is : (t : Bool) (b l : ℕ) → then_some t b ≡ Some l → t ≡ true
doomed_is true b l h = refl
doomed_is false b l h = absurd cc

taken_noting : (sc : ScopeView) (n : List ℕ) → is_taken sc n ≡ true → (c : SourceCause) × (noting sc true n ≡ Err c)
taken_noting sc n h = by_tests (holds sc.defined n) (has_room sc n) refl refl h
  where
    by_tests : (t u : Bool) → holds sc.defined n ≡ t → has_room sc n ≡ u → (t || not u) ≡ true → (c : SourceCause)
        × (noting sc true n ≡ Err c)
    by_tests true u e f h = (cause.DoubledLabel, rw e refl)
    by_tests false false e f h = (cause.TooManySymbols, rw (e, f) refl)
    by_tests false true e f h = absurd cc

taken_label : (sc : ScopeView) (b : ℕ) (n : List ℕ) (x : ScopeView × StatementState) → sc.skipping ≡ false → is_taken sc n ≡ true
    → colon_behind sc b n ≡ Ok x → ⊥
taken_label sc b n x sk taken h =
    let c = taken_noting sc n taken in
    let e : colon_behind sc b n ≡ Err c.0 =
    ap (λ (t : Bool). cond {A = Answer} t (Ok (sc, state.Start)) (label sc b n)) sk ∙ ap (labelled b n) c.1 in
    let f : ◌≡◌ {A = Answer} (Err c.0) (Ok x) = sym e ∙ h in
    absurd cc

unknown_behind : (sc : ScopeView) (b : ℕ) (n : List ℕ) (s : Terminal) → sc.skipping ≡ false → is_dotted n ≡ true → directive_of n ≡ None
    → other_behind sc b n s ≡ Err cause.UnknownDirective
unknown_behind sc b n s sk dotted dir = rw (sk, dotted, dir) refl

err_ok : {c : SourceCause} {x : ScopeView × StatementState} (r : Answer) → r ≡ Err c → r ≡ Ok x → ⊥
err_ok r e h = absurd cc

named_stops : (sc : ScopeView) (b line : ℕ) (n : List ℕ) (s : Terminal) (x : ScopeView × StatementState) → sc.skipping ≡ false
    → is_dotted n ≡ true → directive_of n ≡ None → is_taken sc n ≡ true
    → next_step sc (state.Named b n) line s ≡ Ok x → ⊥
named_stops sc b line n terminal.Colon x sk dotted dir taken h = taken_label sc b n x sk taken h
named_stops sc b line n terminal.Percent x sk dotted dir taken h =
    err_ok (strayed (fault_line sc (state.Named b n) line) (other_behind sc b n terminal.Percent))
    (ap (strayed (fault_line sc (state.Named b n) line)) (unknown_behind sc b n terminal.Percent sk dotted dir)) h
named_stops sc b line n s x sk dotted dir taken h = err_ok (other_behind sc b n s) (unknown_behind sc b n s sk dotted dir) h

-- What is dead stays so: after a `%` what was said is of no more use.
abbrev pub Dead : ℕ → ScopeView × StatementState → Type 0
Dead l x = (c : SourceCause) × (x ≡ (fresh, state.Stray l c))

stray_stops : (sc : ScopeView) (l line : ℕ) (c : SourceCause) (s : Terminal) (x : ScopeView × StatementState)
    → next_step sc (state.Stray l c) line s ≡ Ok x → ⊥
stray_stops sc l line c terminal.Percent x h = absurd cc
stray_stops sc l line c _ x h = absurd cc

-- no name is left for the argument of a directive
defines_none : (P : List ℕ → Type 0) (sc : ScopeView) (b : ℕ) (n : List ℕ) (k : Directive) (s : Terminal) → is_defining (Some k) ≡ true
    → GoodIn P sc → is_spent sc ≡ true → (c : SourceCause) × (of_directive (Some k) sc b n s ≡ Err c)
defines_none P sc b n directive.Common (terminal.Name m) d g spent = let c = spent_noting P sc m g spent in
    (c.0, ap (after_noting (record (nothing_yet b (head.Directive directive.Common n)) { so_far = partial.Name place.Memory m })) c.1)
defines_none P sc b n directive.Common _ d g spent = (_, refl)
defines_none P sc b n directive.LocalCommon (terminal.Name m) d g spent = let c = spent_noting P sc m g spent in
    (c.0, ap (after_noting (record (nothing_yet b (head.Directive directive.LocalCommon n)) { so_far = partial.Name place.Memory m })) c.1)
defines_none P sc b n directive.LocalCommon _ d g spent = (_, refl)
defines_none P sc b n _ s d g spent = absurd cc

defining_is : (o : Option Directive) → is_defining o ≡ true → (k : Directive) × (o ≡ Some k) × (is_defining (Some k) ≡ true)
defining_is None h = absurd cc
defining_is (Some k) h = (k, refl, h)

is_behind : (sc : ScopeView) (b : ℕ) (n : List ℕ) (s : Terminal) (d : Option Directive) → sc.skipping ≡ false → is_dotted n ≡ true
    → directive_of n ≡ d → other_behind sc b n s ≡ of_directive d sc b n s
is_behind sc b n s d sk dotted dir = rw (sk, dotted, dir) refl

lacks_behind : (P : List ℕ → Type 0) (sc : ScopeView) (b : ℕ) (n : List ℕ) (s : Terminal) → sc.skipping ≡ false → is_dotted n ≡ true
    → is_defining (directive_of n) ≡ true → GoodIn P sc → is_spent sc ≡ true → (c : SourceCause) × (other_behind sc b n s ≡ Err c)
lacks_behind P sc b n s sk dotted def g spent =
    let k = defining_is (directive_of n) def in
    let c = defines_none P sc b n k.0 s k.2 g spent in
    (c.0, is_behind sc b n s (Some k.0) sk dotted k.1 ∙ c.1)

lacks_label : (P : List ℕ → Type 0) (sc : ScopeView) (b : ℕ) (n : List ℕ) (x : ScopeView × StatementState) → sc.skipping ≡ false
    → GoodIn P sc → is_spent sc ≡ true → colon_behind sc b n ≡ Ok x → ⊥
lacks_label P sc b n x sk g spent h =
    let c = spent_noting P sc n g spent in
    let e : colon_behind sc b n ≡ Err c.0 =
    ap (λ (t : Bool). cond {A = Answer} t (Ok (sc, state.Start)) (label sc b n)) sk ∙ ap (labelled b n) c.1 in
    let f : ◌≡◌ {A = Answer} (Err c.0) (Ok x) = sym e ∙ h in
    absurd cc

strayed_dead : (l : ℕ) (r : Answer) (c : SourceCause) (x : ScopeView × StatementState) → r ≡ Err c → strayed l r ≡ Ok x → Dead l x
strayed_dead l r c x e h = by_test (is_place c) (sym (ap (strayed l) e) ∙ h)
  where
    by_test : (t : Bool) → ◌≡◌ {A = Answer} (cond t (Ok (fresh, state.Stray l c)) (Err c)) (Ok x) → Dead l x
    by_test true k = let g : (fresh, state.Stray l c) ≡ x = cc in (c, sym g)
    by_test false k = absurd cc

named_lacks : (P : List ℕ → Type 0) (sc : ScopeView) (b l line : ℕ) (n : List ℕ) (s : Terminal) (x : ScopeView × StatementState)
    → doom sc (state.Named b n) ≡ Some l → sc.skipping ≡ false → is_dotted n ≡ true → is_defining (directive_of n) ≡ true → GoodIn P sc
    → is_spent sc ≡ true
    → next_step sc (state.Named b n) line s ≡ Ok x → Dead l x
named_lacks P sc b l line n terminal.Colon x d sk dotted def g spent h = absurd (lacks_label P sc b n x sk g spent h)
named_lacks P sc b l line n terminal.Percent x d sk dotted def g spent h =
    let c = lacks_behind P sc b n terminal.Percent sk dotted def g spent in
    strayed_dead l (other_behind sc b n terminal.Percent) c.0 x c.1
    (sym (ap (λ (o : Option ℕ). strayed (unwrap_or o line) (other_behind sc b n terminal.Percent)) d) ∙ h)
named_lacks P sc b l line n s x d sk dotted def g spent h =
    let c = lacks_behind P sc b n s sk dotted def g spent in absurd (err_ok (other_behind sc b n s) c.1 h)

pub doomed_stays : (P : List ℕ → Type 0) (sc : ScopeView) (st : StatementState) (l line : ℕ) (s : Terminal) (x : ScopeView × StatementState)
    → GoodIn P sc → doom sc st ≡ Some l → next_step sc st line s ≡ Ok x → Dead l x
doomed_stays P sc (state.Stray a c) l line s x g e h = absurd (stray_stops sc a line c s x h)
doomed_stays P sc (state.Named b n) l line s x g e h =
    elim (or_cases (is_unknown sc n && is_taken sc n) (lacks_names sc n)
    (doomed_is ((is_unknown sc n && is_taken sc n) || lacks_names sc n) b l e)) [
      | inl t ↦
          let both = and_parts (is_unknown sc n) (is_taken sc n) t in
          let known = and_parts (is_dotted n && not sc.skipping) (is_none (directive_of n)) both.0 in
          let front = and_parts (is_dotted n) (not sc.skipping) known.0 in
          absurd (named_stops sc b line n s x (not-true sc.skipping front.1) front.0 (none_is (directive_of n) known.1) both.1 h)
      | inr t ↦
          let spent = and_parts (is_dotted n && not sc.skipping && is_defining (directive_of n)) (is_spent sc) t in
          let def = and_parts (is_dotted n && not sc.skipping) (is_defining (directive_of n)) spent.0 in
          let front = and_parts (is_dotted n) (not sc.skipping) def.0 in
          named_lacks P sc b l line n s x e (not-true sc.skipping front.1) front.0 def.1 g spent.1 h
    ]
doomed_stays P sc state.Start l line s x g e h = absurd cc
doomed_stays P sc state.Skip l line s x g e h = absurd cc
doomed_stays P sc (state.Sectioned b n m a) l line s x g e h = absurd cc
doomed_stays P sc (state.Flags b n m) l line s x g e h = absurd cc
doomed_stays P sc (state.Arguments o) l line s x g e h = absurd cc

-- ---- what becomes so

-- an argument that is opened: it may stand there, and where nothing of it has been read it isn't a directive's first
pub record IsOpen (o : Open) : Type 0 where
  pub shape : Shape
  pub may : shape_at o.head (length o.arguments) ≡ Some shape
  pub first : is_nothing o.so_far ≡ true → (is_instruction o.head ≡ true) ⊎ (1 ≤ length o.arguments)

module _ (P : List ℕ → Type 0) where
  abbrev pub TerminalIs : Terminal → Type 0
  TerminalIs (terminal.Name n) = P n
  TerminalIs _ = Unit {0}

  abbrev pub NamedIs : StatementState → Type 0
  NamedIs (state.Named b n) = P n
  NamedIs _ = Unit {0}

  abbrev IsQuiet : ℕ → StatementState → Type 0
  IsQuiet line (state.Named b n) = (b ≡ line) × P n
  IsQuiet line (state.Stray l c) = l ≡ line
  IsQuiet line (state.Arguments o) = IsOpen o
  IsQuiet line _ = Unit {0}

  abbrev Quiet : ℕ → Answer → Type 0
  Quiet line (Ok x) = IsQuiet line x.1 × GoodIn P x.0
  Quiet line (Err c) = Unit {0}

  either : (line : ℕ) (t : Bool) (a b : Answer) → Quiet line a → Quiet line b → Quiet line (cond t a b)
  either line true a b p q = p
  either line false a b p q = q

  noted_quiet : (line : ℕ) (o : Open) (r : Result ScopeView SourceCause) → IsOpen o → ((sc : ScopeView) → r ≡ Ok sc → GoodIn P sc)
      → Quiet line (after_noting o r)
  noted_quiet line o (Ok sc) opened g = (opened, g sc refl)
  noted_quiet line o (Err c) opened g = tt

  abbrev NameIs : Option (List ℕ) → Type 0
  NameIs None = Unit {0}
  NameIs (Some n) = P n

  name_quiet : (line : ℕ) (sc : ScopeView) (o : Open) (n : Option (List ℕ)) → GoodIn P sc → IsOpen o → NameIs n
      → Quiet line (with_name sc o n)
  name_quiet line sc o None g opened p = (opened, g)
  name_quiet line sc o (Some n) g opened p = noted_quiet line o (noting sc (defines o.head (length o.arguments)) n) opened
      (λ sc2 e. seen_good P (noting_seen sc sc2 (defines o.head (length o.arguments)) n e) p g)

  none_is_name : (q : Option (List ℕ)) → q ≡ None → NameIs q
  none_is_name q e = subst NameIs (sym e) tt

  some_is_name : (q : Option (List ℕ)) (n : List ℕ) (s : Terminal) → q ≡ Some n → s ≡ terminal.Name n → TerminalIs s → NameIs q
  some_is_name q n s e f p = let p2 : P n = subst TerminalIs f p in subst NameIs (sym e) p2

  keeps_name : (p q : Partial) (s : Terminal) → TerminalIs s → Keeps p s q → NameIs (name_in q)
  keeps_name p q s is (inl k) = none_is_name (name_in q) k.0
  keeps_name p q s is (inr (n, a, b, c, d)) = some_is_name (name_in q) n s a d is

  stepped_quiet : (line : ℕ) (sc : ScopeView) (o : Open) (s : Terminal) (sh : Shape) → GoodIn P sc → TerminalIs s
      → shape_at o.head (length o.arguments) ≡ Some sh → (r : Result Partial SourceCause) → operand_step sh o.so_far s ≡ r
      → Quiet line (after_step sc o s r)
  stepped_quiet line sc o s sh g is may (Err c) e = tt
  stepped_quiet line sc o s sh g is may (Ok q) e =
      let next = operand_next sh o.so_far s q e in
      let some : is_nothing q ≡ false = subst IsSome next (terminal_some sh o.so_far s) in
      name_quiet line sc (record o { so_far = q }) (name_in q) g (record { shape = sh; may = may; first = λ k. absurd (both some k) })
      (keeps_name o.so_far q s is (name_step sh o.so_far s q next))
    where
      both : {t : Bool} → t ≡ false → t ≡ true → ⊥
      both e f = absurd cc

  shape_quiet : (line : ℕ) (sc : ScopeView) (o : Open) (s : Terminal) (r : Option Shape) → GoodIn P sc → TerminalIs s
      → shape_at o.head (length o.arguments) ≡ r → Quiet line (at_shape sc o s r)
  shape_quiet line sc o s None g is e = tt
  shape_quiet line sc o s (Some sh) g is e = stepped_quiet line sc o s sh g is e (operand_step sh o.so_far s) refl

  within_quiet : (line : ℕ) (sc : ScopeView) (o : Open) (s : Terminal) → GoodIn P sc → TerminalIs s → Quiet line (within sc o s)
  within_quiet line sc o s g is = shape_quiet line sc o s (shape_at o.head (length o.arguments)) g is refl

  argument_quiet : (line : ℕ) (sc : ScopeView) (b : ℕ) (h : Head) (done : List Argument) (r : Option Shape) → GoodIn P sc
      → shape_at h (length done) ≡ r → 1 ≤ length done → Quiet line (with_scope sc (argument_of b h done r))
  argument_quiet line sc b h done None g may le = tt
  argument_quiet line sc b h done (Some sh) g may le = (record { shape = sh; may = may; first = λ k. inr le }, g)

  comma_quiet : (line : ℕ) (sc : ScopeView) (e : Option (ℕ × Head × List Argument × Argument)) → GoodIn P sc
      → Quiet line (comma_behind sc e)
  comma_quiet line sc None g = tt
  comma_quiet line sc (Some e) g = argument_quiet line sc e.0 e.1 (e.2 ++ e.3 ∷ []) (shape_at e.1 (length (e.2 ++ e.3 ∷ []))) g refl
      (omega (arith, length-append e.2 (e.3 ∷ [])))

  resumed_good : (sc : ScopeView) (h : Head) → GoodIn P sc → GoodIn P (resumed sc h)
  resumed_good sc (head.Instruction r n) g = g
  resumed_good sc (head.Directive directive.Plain n) g = g
  resumed_good sc (head.Directive _ n) g = g

  complete_quiet : (line : ℕ) (sc : ScopeView) (b : ℕ) (h : Head) (args : List Argument) → GoodIn P sc → Quiet line (complete sc b h args)
  complete_quiet line sc b h args g =
      either line (nat_lt (length args) (least h)) _ _ tt (tt, resumed_good (pushed sc (item_of b h args)) h g)

  end_quiet : (line : ℕ) (sc : ScopeView) (e : Option (ℕ × Head × List Argument × Argument)) → GoodIn P sc → Quiet line (end_behind sc e)
  end_quiet line sc None g = tt
  end_quiet line sc (Some e) g = complete_quiet line sc e.0 e.1 (e.2 ++ e.3 ∷ []) g

  star_open : (o : Open) → takes_star o ≡ true → IsOpen (record o { star = true })
  star_open o h =
      let a = and_parts (is_nothing o.so_far && not o.star) (is_instruction o.head) h in
      record { shape = shape.Operand; may = operand_first o.head (length o.arguments) a.1; first = λ k. inl a.1 }
    where
      operand_first : (h : Head) (i : ℕ) → is_instruction h ≡ true → shape_at h i ≡ Some shape.Operand
      operand_first (head.Instruction r n) i e = refl
      operand_first (head.Directive k n) i e = absurd cc

  star_quiet : (line : ℕ) (sc : ScopeView) (o : Open) → GoodIn P sc → (t : Bool) → takes_star o ≡ t
      → Quiet line (cond t (Ok (sc, state.Arguments (record o { star = true }))) (within sc o terminal.Star))
  star_quiet line sc o g true e = (star_open o e, g)
  star_quiet line sc o g false e = within_quiet line sc o terminal.Star g tt

  arguments_quiet : (line : ℕ) (sc : ScopeView) (o : Open) (s : Terminal) → GoodIn P sc → TerminalIs s → Quiet line (argument_step sc o s)
  arguments_quiet line sc o terminal.Comma g is =
      either line (is_finished o.so_far) _ _ (comma_quiet line sc (ended o) g) (within_quiet line sc o terminal.Comma g tt)
  arguments_quiet line sc o terminal.End g is = either line (is_bare o) _ _ (complete_quiet line sc o.line o.head o.arguments g)
      (either line (is_finished o.so_far) _ _ (end_quiet line sc (ended o) g) (within_quiet line sc o terminal.End g tt))
  arguments_quiet line sc o terminal.Star g is = star_quiet line sc o g (takes_star o) refl
  arguments_quiet line sc o s g is = within_quiet line sc o s g is

  labelled_quiet : (line b : ℕ) (n : List ℕ) (r : Result ScopeView SourceCause) → ((sc : ScopeView) → r ≡ Ok sc → GoodIn P sc)
      → Quiet line (labelled b n r)
  labelled_quiet line b n (Ok sc) g = (tt, g sc refl)
  labelled_quiet line b n (Err c) g = tt

  skip_quiet : (line : ℕ) (sc : ScopeView) (s : Terminal) → GoodIn P sc → Quiet line (Ok (sc, skip s))
  skip_quiet line sc terminal.End g = (tt, g)
  skip_quiet line sc _ g = (tt, g)

  rep_quiet : (line : ℕ) (sc : ScopeView) (b : ℕ) (s : Terminal) → GoodIn P sc → Quiet line (rep_step sc b s)
  rep_quiet line sc b (terminal.Name m) g = (record { shape = shape.Operand; may = refl; first = λ k. inl refl }, g)
  rep_quiet line sc b _ g = tt

  cond_quiet : (line : ℕ) (sc : ScopeView) (t : Bool) (st : StatementState) (c : SourceCause) → GoodIn P sc → IsQuiet line st
      → Quiet line (with_scope sc (cond t (Ok st) (Err c)))
  cond_quiet line sc true st c g h = (h, g)
  cond_quiet line sc false st c g h = tt

  section_quiet : (line : ℕ) (sc : ScopeView) (b : ℕ) (n : List ℕ) (s : Terminal) → GoodIn P sc
      → Quiet line (with_scope sc (section_name b n s))
  section_quiet line sc b n (terminal.Name m) g = cond_quiet line sc (is_section m) (state.Sectioned b n m 0) cause.BadArgument g tt
  section_quiet line sc b n _ g = tt

  directive_quiet : (line : ℕ) (sc : ScopeView) (b : ℕ) (n : List ℕ) (s : Terminal) (d : Option Directive) → GoodIn P sc → TerminalIs s
      → Quiet line (of_directive d sc b n s)
  directive_quiet line sc b n s None g is = tt
  directive_quiet line sc b n s (Some directive.Skipped) g is = skip_quiet line sc s g
  directive_quiet line sc b n s (Some directive.Section) g is = section_quiet line sc b n s g
  directive_quiet line sc b n s (Some k) g is = arguments_quiet line sc (nothing_yet b (head.Directive k n)) s g is

  behind_quiet : (line : ℕ) (sc : ScopeView) (b : ℕ) (n : List ℕ) (s : Terminal) → GoodIn P sc → TerminalIs s
      → Quiet line (other_behind sc b n s)
  behind_quiet line sc b n s g is =
      either line (is_passed sc n) _ _ (skip_quiet line sc s g)
      (either line (is_dotted n) _ _ (directive_quiet line sc b n s (directive_of n) g is)
      (either line (is_rep n) _ _ (rep_quiet line sc b s g) (arguments_quiet line sc (nothing_yet b (head.Instruction false n)) s g is)))

  named_quiet : (line : ℕ) (sc : ScopeView) (b : ℕ) (n : List ℕ) (s : Terminal) → GoodIn P sc → P n → TerminalIs s
      → Quiet line (named_step sc b n s)
  named_quiet line sc b n terminal.Colon g p is = either line sc.skipping _ _ (tt, g)
      (labelled_quiet line b n (noting sc true n) (λ sc2 e. seen_good P (noting_seen sc sc2 true n e) p g))
  named_quiet line sc b n s g p is = behind_quiet line sc b n s g is

  sectioned_quiet : (line : ℕ) (sc : ScopeView) (b : ℕ) (n m : List ℕ) (s : Terminal) → GoodIn P sc → Quiet line (sectioned_step sc b n m s)
  sectioned_quiet line sc b n m terminal.End g = (tt, g)
  sectioned_quiet line sc b n m terminal.Comma g = (tt, g)
  sectioned_quiet line sc b n m terminal.Big g = tt
  sectioned_quiet line sc b n m _ g = tt

  flags_quiet : (line : ℕ) (sc : ScopeView) (b : ℕ) (n m : List ℕ) (s : Terminal) → GoodIn P sc → Quiet line (flags_step sc b n m s)
  flags_quiet line sc b n m terminal.End g = (tt, g)
  flags_quiet line sc b n m _ g = (tt, g)

  unless_quiet : (line : ℕ) (sc : ScopeView) (t : Bool) (c : SourceCause) → GoodIn P sc → Quiet line (with_scope sc (unless_skipping t c))
  unless_quiet line sc true c g = (tt, g)
  unless_quiet line sc false c g = tt

  start_quiet : (line : ℕ) (sc : ScopeView) (s : Terminal) → GoodIn P sc → TerminalIs s → Quiet line (with_scope sc (start_step sc line s))
  start_quiet line sc terminal.End g is = (tt, g)
  start_quiet line sc (terminal.Name n) g is = ((refl, is), g)
  start_quiet line sc terminal.Big g is = unless_quiet line sc sc.skipping cause.BadNumber g
  start_quiet line sc _ g is = unless_quiet line sc sc.skipping cause.BadOperand g

  step_quiet : (line : ℕ) (sc : ScopeView) (st : StatementState) (s : Terminal) → GoodIn P sc → NamedIs st → TerminalIs s
      → Quiet line (step sc st line s)
  step_quiet line sc state.Start s g p is = start_quiet line sc s g is
  step_quiet line sc (state.Named b n) s g p is = named_quiet line sc b n s g p is
  step_quiet line sc state.Skip s g p is = skip_quiet line sc s g
  step_quiet line sc (state.Sectioned b n m e) s g p is = sectioned_quiet line sc b n m s g
  step_quiet line sc (state.Flags b n m) s g p is = flags_quiet line sc b n m s g
  step_quiet line sc (state.Arguments o) s g p is = arguments_quiet line sc o s g is
  step_quiet line sc (state.Stray l c) s g p is = tt

  strayed_quiet : (line : ℕ) (r : Answer) → Quiet line r → Quiet line (strayed line r)
  strayed_quiet line (Ok x) h = h
  strayed_quiet line (Err c) h = either line (is_place c) _ _ (refl, fresh_good P) tt

  next_quiet : (line : ℕ) (sc : ScopeView) (st : StatementState) (s : Terminal) → doom sc st ≡ None → GoodIn P sc → NamedIs st
      → TerminalIs s → Quiet line (next_step sc st line s)
  next_quiet line sc st terminal.Percent e g p is =
      subst (λ (o : Option ℕ). Quiet line (strayed (unwrap_or o line) (step sc st line terminal.Percent))) (sym e)
      (strayed_quiet line (step sc st line terminal.Percent) (step_quiet line sc st terminal.Percent g p is))
  next_quiet line sc st s e g p is = step_quiet line sc st s g p is

abbrev NoneOr : ℕ → Option ℕ → Type 0
NoneOr line d = (d ≡ None) ⊎ (d ≡ Some line)

if_quiet : (t : Bool) (b line : ℕ) → b ≡ line → NoneOr line (then_some t b)
if_quiet true b line e = inr (ap (λ (x : ℕ). Some x) e)
if_quiet false b line e = inl refl

quiet_doom : (P : List ℕ → Type 0) (line : ℕ) (sc : ScopeView) (st : StatementState) → IsQuiet P line st → NoneOr line (doom sc st)
quiet_doom P line sc (state.Named b n) h = if_quiet ((is_unknown sc n && is_taken sc n) || lacks_names sc n) b line h.0
quiet_doom P line sc (state.Stray l c) h = inr (ap (λ (x : ℕ). Some x) h)
quiet_doom P line sc _ h = inl refl

-- what is known of a state of which no name but such ones has been read
abbrev pub StateIs : (List ℕ → Type 0) → StatementState → Type 0
StateIs P (state.Named b n) = P n
StateIs P (state.Arguments o) = IsOpen o
StateIs P _ = Unit {0}

quiet_state : (P : List ℕ → Type 0) (line : ℕ) (st : StatementState) → IsQuiet P line st → StateIs P st
quiet_state P line (state.Named b n) h = h.1
quiet_state P line (state.Arguments o) h = h
quiet_state P line _ h = tt

-- ---- the same of words

-- a word goes on with a section's name, or is a terminal
pub data WordGoes (sc : ScopeView) (st : StatementState) (w : Word) (x : ScopeView × StatementState) : Type 0 where
  on : is_longer st w.at w.kind w.bytes ≡ true → x ≡ (sc, longer st (w.at + length w.bytes) w.bytes) → WordGoes sc st w x
  as_terminal : (y : ScopeView × StatementState) → is_longer st w.at w.kind w.bytes ≡ false
      → next_step sc st w.line (terminal_of w.kind w.bytes) ≡ Ok y → x ≡ (y.0, ending_at (w.at + length w.bytes) y.1) → WordGoes sc st w x

pub word_goes : (sc : ScopeView) (st : StatementState) (w : Word) (x : ScopeView × StatementState) → next_word sc st w ≡ Ok x
    → WordGoes sc st w x
word_goes sc st w x h = by_test (is_longer st w.at w.kind w.bytes) refl h
  where
    by_result : (r : Answer) → is_longer st w.at w.kind w.bytes ≡ false → next_step sc st w.line (terminal_of w.kind w.bytes) ≡ r
        → with_end (w.at + length w.bytes) r ≡ Ok x → WordGoes sc st w x
    by_result (Ok y) t e h = let g : (y.0, ending_at (w.at + length w.bytes) y.1) ≡ x = cc in WordGoes.as_terminal y t e (sym g)
    by_result (Err c) t e h = absurd cc

    by_test : (t : Bool) → is_longer st w.at w.kind w.bytes ≡ t
        → ◌≡◌ {A = Answer} (cond t (Ok (sc, longer st (w.at + length w.bytes) w.bytes))
        (with_end (w.at + length w.bytes) (next_step sc st w.line (terminal_of w.kind w.bytes)))) (Ok x) → WordGoes sc st w x
    by_test true e h = let g : (sc, longer st (w.at + length w.bytes) w.bytes) ≡ x = cc in WordGoes.on e (sym g)
    by_test false e h = by_result (next_step sc st w.line (terminal_of w.kind w.bytes)) e refl h

ending_doom : (sc : ScopeView) (st : StatementState) (e : ℕ) → doom sc (ending_at e st) ≡ doom sc st
ending_doom sc (state.Sectioned b n m a) e = refl
ending_doom sc _ e = refl

longer_quiet : (sc : ScopeView) (st : StatementState) (at e : ℕ) (k : TokenKind) (bytes : List ℕ) → is_longer st at k bytes ≡ true
    → (doom sc st ≡ None) × (doom sc (longer st e bytes) ≡ None)
longer_quiet sc (state.Sectioned b n m a) at e k bytes h = (refl, refl)
longer_quiet sc state.Start at e k bytes h = absurd cc
longer_quiet sc (state.Named b n) at e k bytes h = absurd cc
longer_quiet sc state.Skip at e k bytes h = absurd cc
longer_quiet sc (state.Flags b n m) at e k bytes h = absurd cc
longer_quiet sc (state.Arguments o) at e k bytes h = absurd cc
longer_quiet sc (state.Stray l c) at e k bytes h = absurd cc

none_not : {l : ℕ} (o : Option ℕ) → o ≡ None → o ≡ Some l → ⊥
none_not o e f = absurd cc

pub record Next (P : List ℕ → Type 0) (sc : ScopeView) (st : StatementState) (line : ℕ) (x : ScopeView × StatementState) : Type 0 where
  pub doom : (doom x.0 x.1 ≡ doom sc st) ⊎ ((doom sc st ≡ None) × (doom x.0 x.1 ≡ Some line))
  pub scope : GoodIn P x.0
  pub state : StateIs P x.1

longer_state : (P : List ℕ → Type 0) (st : StatementState) (at e : ℕ) (k : TokenKind) (bytes : List ℕ) → is_longer st at k bytes ≡ true
    → StateIs P (longer st e bytes)
longer_state P (state.Sectioned b n m a) at e k bytes h = tt
longer_state P state.Start at e k bytes h = absurd cc
longer_state P (state.Named b n) at e k bytes h = absurd cc
longer_state P state.Skip at e k bytes h = absurd cc
longer_state P (state.Flags b n m) at e k bytes h = absurd cc
longer_state P (state.Arguments o) at e k bytes h = absurd cc
longer_state P (state.Stray l c) at e k bytes h = absurd cc

ending_state : (P : List ℕ → Type 0) (st : StatementState) (e : ℕ) → StateIs P st → StateIs P (ending_at e st)
ending_state P (state.Sectioned b n m a) e h = tt
ending_state P state.Start e h = h
ending_state P (state.Named b n) e h = h
ending_state P state.Skip e h = h
ending_state P (state.Flags b n m) e h = h
ending_state P (state.Arguments o) e h = h
ending_state P (state.Stray l c) e h = h

-- One word makes nothing dead but in its own line, and what is dead stays so.
pub word_next : (P : List ℕ → Type 0) (sc : ScopeView) (st : StatementState) (w : Word) (x : ScopeView × StatementState) → GoodIn P sc
    → NamedIs P st → TerminalIs P (terminal_of w.kind w.bytes) → next_word sc st w ≡ Ok x → Next P sc st w.line x
word_next P sc st w x g named is h = elim (word_goes sc st w x h) [
  | WordGoes.on t e ↦
      let q = longer_quiet sc st w.at (w.at + length w.bytes) w.kind w.bytes t in
      record {
        doom = inl (ap (λ (z : ScopeView × StatementState). doom z.0 z.1) e ∙ (q.1 ∙ sym q.0));
        scope = subst (λ (z : ScopeView × StatementState). GoodIn P z.0) (sym e) g;
        state = subst (λ (z : ScopeView × StatementState). StateIs P z.1) (sym e)
            (longer_state P st w.at (w.at + length w.bytes) w.kind w.bytes t);
      }
  | WordGoes.as_terminal y t f e ↦ by_doom y f
      (ap (λ (z : ScopeView × StatementState). doom z.0 z.1) e ∙ ending_doom y.0 y.1 (w.at + length w.bytes))
      (ap (λ (z : ScopeView × StatementState). z.0) e) (ap (λ (z : ScopeView × StatementState). z.1) e) (doom sc st) refl
]
  where
    by_doom : (y : ScopeView × StatementState) → next_step sc st w.line (terminal_of w.kind w.bytes) ≡ Ok y → doom x.0 x.1 ≡ doom y.0 y.1
        → x.0 ≡ y.0 → x.1 ≡ ending_at (w.at + length w.bytes) y.1 → (d : Option ℕ) → doom sc st ≡ d → Next P sc st w.line x
    by_doom y f e scope state (Some l) k =
        let dead = doomed_stays P sc st l w.line (terminal_of w.kind w.bytes) y g k f in
        let same : doom y.0 y.1 ≡ Some l = ap (λ (z : ScopeView × StatementState). doom z.0 z.1) dead.1 in
        record {
          doom = inl (e ∙ (same ∙ sym k));
          scope = subst (GoodIn P) (sym (scope ∙ ap (λ (z : ScopeView × StatementState). z.0) dead.1)) (fresh_good P);
          state =
              subst (StateIs P) (sym (state ∙ ap (λ (z : ScopeView × StatementState). ending_at (w.at + length w.bytes) z.1) dead.1)) tt;
        }
    by_doom y f e scope state None k =
        let q : Quiet P w.line (Ok y) = subst (Quiet P w.line) f (next_quiet P w.line sc st (terminal_of w.kind w.bytes) k g named is) in
        record {
          doom = elim (quiet_doom P w.line y.0 y.1 q.0) [ inl n ↦ inl (e ∙ (n ∙ sym k)) | inr n ↦ inr (k, e ∙ n) ];
          scope = subst (GoodIn P) (sym scope) q.1;
          state = subst (StateIs P) (sym state) (ending_state P y.1 (w.at + length w.bytes) (quiet_state P w.line y.1 q.0));
        }

-- ---- of any names

abbrev pub Any : List ℕ → Type 0
Any n = Unit {0}

pub any_terminal : (s : Terminal) → TerminalIs Any s
any_terminal (terminal.Name n) = tt
any_terminal _ = tt

pub any_state : (st : StatementState) → NamedIs Any st
any_state (state.Named b n) = tt
any_state _ = tt

pub any_next : (sc : ScopeView) (st : StatementState) (w : Word) (x : ScopeView × StatementState) → GoodIn Any sc → next_word sc st w ≡ Ok x
    → Next Any sc st w.line x
any_next sc st w x g h = word_next Any sc st w x g (any_state st) (any_terminal (terminal_of w.kind w.bytes)) h
