-- What the cases of the grammar say is read terminal by terminal.
use Rattle.std.proofs.Common.{◌≡◌, ℕ, Bool, true, false, cond, List, [], ◌∷◌, ◌++◌, length, Option, Some, None, Result, Ok, Err, refl, sym, ap, subst, ◌∙◌, ◌⊎◌, inl, inr, append_assoc, arith}
use Rattle.std.proofs.lemmas.Bool.{le-ltb, eq-eqb}
use Rattle.std.proofs.lemmas.List.{append-nil}
use Rattle.std.specs.Prelude.{◌==◌, ◌&&◌, ◌+◌, ◌^◌, nat_lt, not}
use Rattle.std.specs.List.{list_all}
use Rattle.asm_lex.specs.declared.fault.SourceCause.{SourceCause}
use Rattle.asm_lex.specs.declared.fault.SourceCause.TheVariants as cause
use Rattle.asm_lex.specs.Words.{Word}
use Rattle.asm_argument.specs.declared.terminal.Terminal.{Terminal}
use Rattle.asm_argument.specs.declared.terminal.Terminal.TheVariants as terminal
use Rattle.asm_argument.specs.declared.shape.Shape.{Shape}
use Rattle.asm_argument.specs.declared.shape.Shape.TheVariants as shape
use Rattle.asm_argument.specs.declared.operand.Partial.{Partial}
use Rattle.asm_argument.specs.declared.operand.Partial.TheVariants as partial
use Rattle.asm_source.specs.declared.tree.Argument.{Argument}
use Rattle.asm_source.specs.declared.tree.Form.{Form}
use Rattle.asm_source.specs.declared.tree.Body.TheVariants as body
use Rattle.asm_statement.specs.declared.directive.Directive.{Directive}
use Rattle.asm_statement.specs.declared.directive.Directive.TheVariants as kind
use Rattle.asm_statement.specs.declared.directive.Head.{Head}
use Rattle.asm_statement.specs.declared.directive.Head.TheVariants as head
use Rattle.asm_statement.specs.declared.state.Open.{Open}
use Rattle.asm_statement.specs.declared.state.StatementState.{StatementState}
use Rattle.asm_statement.specs.declared.state.StatementState.TheVariants as state
use Rattle.asm_statement.specs.ScopeView.{ScopeView}
use Rattle.asm_statement.specs.Scope.{pushed}
use Rattle.asm_argument.specs.Operand.{begun, next_terminal, operand_step, finished, is_nothing, name_in}
use Rattle.asm_argument.specs.Shapes.{is_operand}
use Rattle.asm_lex.specs.declared.token.TokenKind.{TokenKind}
use Rattle.asm_lex.specs.declared.token.TokenKind.TheVariants as token
use Rattle.asm_argument.specs.Terminals.{mark_terminal, number_terminal, number_value, terminal_of}
use Rattle.asm_statement.specs.Reading.{Fault, placed, is_longer, ending_at, next_word}
use Rattle.asm_statement.specs.Items.{is_part, item_of, resumed, sectioned, is_passed}
use Rattle.asm_statement.specs.Running.{◌>>=◌}
use Rattle.asm_parse.proofs.Words.{read_words}
use Rattle.asm_statement.specs.Statement.{with_name, after_step, at_shape, within, argument_step, nothing_yet, named_step, colon_behind, label, labelled, unless_skipping, other_behind, of_directive, skip, sectioned_step, flags_step, start_step, step, strayed, next_step, fault_line, with_scope}
use Rattle.asm_statement.specs.Directives.{shape_at, least, defines, is_instruction, is_dotted, directive_of, is_section}
use Rattle.asm_source.specs.Names.{symbol_in}
use Rattle.asm_parse.specs.Statements.{IsSeen, Sees, IsArgument, Separated, HasArguments, is_inner, is_unlabelled, is_nameless, are_flags, has_list, Statement, terminals, text_of, Touch, IsStatement, Statements}
use Rattle.asm_argument.proofs.Operands.{ok, operand_run, form_reads}
use Rattle.asm_parse.proofs.Names.{seen_noting, named_in, name_step, name_stays, finished_named, finished_is, no_star, no_end_terminal, no_big, no_comma}
use Rattle.asm_parse.proofs.Quiet.{Answer}

-- ---- within a statement

abbrev pub inner : ScopeView → StatementState → Terminal → Answer
inner sc state.Start s = Err cause.BadOperand
inner sc (state.Named b n) s = named_step sc b n s
inner sc state.Skip s = Ok (sc, skip s)
inner sc (state.Sectioned b n m e) s = Err cause.BadOperand
inner sc (state.Flags b n m) s = flags_step sc b n m s
inner sc (state.Arguments o) s = argument_step sc o s
inner sc (state.Stray l c) s = Err cause.BadOperand

pub inner_step : (sc : ScopeView) (st : StatementState) (line : ℕ) (s : Terminal) (y : ScopeView × StatementState) → inner sc st s ≡ Ok y
    → step sc st line s ≡ Ok y
inner_step sc state.Start line s y h = absurd cc
inner_step sc (state.Named b n) line s y h = h
inner_step sc state.Skip line s y h = h
inner_step sc (state.Sectioned b n m e) line s y h = absurd cc
inner_step sc (state.Flags b n m) line s y h = h
inner_step sc (state.Arguments o) line s y h = h
inner_step sc (state.Stray l c) line s y h = absurd cc

-- what goes on goes on after a `%` too
pub step_next : (sc : ScopeView) (st : StatementState) (line : ℕ) (s : Terminal) (y : ScopeView × StatementState) → step sc st line s ≡ Ok y
    → next_step sc st line s ≡ Ok y
step_next sc st line terminal.Percent y h = ap (strayed (fault_line sc st line)) h
step_next sc st line _ y h = h

abbrev pub inners : ScopeView → StatementState → List Terminal → Answer
inners sc st [] = Ok (sc, st)
inners sc st (s ∷ ss) = elim (inner sc st s) [ Ok y ↦ inners y.0 y.1 ss | Err c ↦ Err c ]

pub inners_append : (ss ts : List Terminal) (sc : ScopeView) (st : StatementState) (y : ScopeView × StatementState) → inners sc st ss ≡ Ok y
    → inners sc st (ss ++ ts) ≡ inners y.0 y.1 ts
inners_append [] ts sc st y h = let e : (sc, st) ≡ y = cc in ap (λ (x : ScopeView × StatementState). inners x.0 x.1 ts) e
inners_append (s ∷ ss) ts sc st y h = by_step (inner sc st s) h (λ z e. inners_append ss ts z.0 z.1 y e)
  where
    by_step : (r : Answer) → ◌≡◌ {A = Answer} (elim r [ Ok z ↦ inners z.0 z.1 ss | Err c ↦ Err c ]) (Ok y)
        → ((z : ScopeView × StatementState) → inners z.0 z.1 ss ≡ Ok y → inners z.0 z.1 (ss ++ ts) ≡ inners y.0 y.1 ts)
        → ◌≡◌ {A = Answer} (elim r [ Ok z ↦ inners z.0 z.1 (ss ++ ts) | Err c ↦ Err c ]) (inners y.0 y.1 ts)
    by_step (Ok z) h ih = ih z h
    by_step (Err c) h ih = absurd cc

-- whether a section's name has been read so far
abbrev pub is_naming : StatementState → Bool
is_naming (state.Sectioned b n m e) = true
is_naming _ = false

pub not_longer : (st : StatementState) (at : ℕ) (k : TokenKind) (bytes : List ℕ) → is_naming st ≡ false → is_longer st at k bytes ≡ false
not_longer (state.Sectioned b n m e) at k bytes h = absurd cc
not_longer _ at k bytes h = refl

pub same_ending : (st : StatementState) (e : ℕ) → is_naming st ≡ false → ending_at e st ≡ st
same_ending (state.Sectioned b n m a) e h = absurd cc
same_ending _ e h = refl

-- a word that is a terminal
pub word_is : (sc : ScopeView) (st : StatementState) (w : Word) (x : ScopeView × StatementState) → is_longer st w.at w.kind w.bytes ≡ false
    → step sc st w.line (terminal_of w.kind w.bytes) ≡ Ok x
    → next_word sc st w ≡ Ok (x.0, ending_at (w.at + length w.bytes) x.1)
word_is sc st w x none h = rw (none, step_next sc st w.line (terminal_of w.kind w.bytes) x h) refl

-- the state in which a name's reading goes on isn't that of a section's
inside_naming : (sc : ScopeView) (st : StatementState) (s : Terminal) (z : ScopeView × StatementState) → inner sc st s ≡ Ok z
    → is_naming st ≡ false
inside_naming sc (state.Sectioned b n m e) s z h = absurd cc
inside_naming sc _ s z h = refl

start_naming : (ws : List Word) (sc : ScopeView) (st : StatementState) (y : ScopeView × StatementState) → y.1 ≡ state.Start
    → inners sc st (terminals ws) ≡ Ok y → is_naming st ≡ false
start_naming [] sc st y start h = let e : (sc, st) ≡ y = cc in ap is_naming (ap (λ (x : ScopeView × StatementState). x.1) e ∙ start)
start_naming (w ∷ ws) sc st y start h = by_step (inner sc st (terminal_of w.kind w.bytes)) refl h
  where
    by_step : (r : Answer) → inner sc st (terminal_of w.kind w.bytes) ≡ r
        → ◌≡◌ {A = Answer} (elim r [ Ok z ↦ inners z.0 z.1 (terminals ws) | Err c ↦ Err c ]) (Ok y) → is_naming st ≡ false
    by_step (Ok z) e h = inside_naming sc st (terminal_of w.kind w.bytes) z e
    by_step (Err c) e h = absurd cc

pub inners_words : (ws : List Word) (sc : ScopeView) (st : StatementState) (y : ScopeView × StatementState) → y.1 ≡ state.Start
    → inners sc st (terminals ws) ≡ Ok y → read_words sc st ws ≡ Ok y
inners_words [] sc st y start h = let e : (sc, st) ≡ y = cc in ap (λ (x : ScopeView × StatementState). Ok x) e
inners_words (w ∷ ws) sc st y start h = by_step (inner sc st (terminal_of w.kind w.bytes)) refl h (λ z e. inners_words ws z.0 z.1 y start e)
  where
    by_step : (r : Answer) → inner sc st (terminal_of w.kind w.bytes) ≡ r
        → ◌≡◌ {A = Answer} (elim r [ Ok z ↦ inners z.0 z.1 (terminals ws) | Err c ↦ Err c ]) (Ok y)
        → ((z : ScopeView × StatementState) → inners z.0 z.1 (terminals ws) ≡ Ok y → read_words z.0 z.1 ws ≡ Ok y)
        → read_words sc st (w ∷ ws) ≡ Ok y
    by_step (Ok z) e h ih =
        let none = not_longer st w.at w.kind w.bytes (inside_naming sc st (terminal_of w.kind w.bytes) z e) in
        let same = same_ending z.1 (w.at + length w.bytes) (start_naming ws z.0 z.1 y start h) in
        rw (word_is sc st w z none (inner_step sc st w.line (terminal_of w.kind w.bytes) z e), same) (ih z h)
    by_step (Err c) e h ih = absurd cc

pub words_append : (ws vs : List Word) (sc : ScopeView) (st : StatementState) (y : ScopeView × StatementState) → read_words sc st ws ≡ Ok y
    → read_words sc st (ws ++ vs) ≡ read_words y.0 y.1 vs
words_append [] vs sc st y h = let e : (sc, st) ≡ y = cc in ap (λ (x : ScopeView × StatementState). read_words x.0 x.1 vs) e
words_append (w ∷ ws) vs sc st y h =
    by_step (placed (fault_line sc st w.line) (next_word sc st w)) h (λ z e. words_append ws vs z.0 z.1 y e)
  where
    by_step : (r : Result (ScopeView × StatementState) Fault) → ◌≡◌ {A = Result (ScopeView × StatementState) Fault}
        (r >>= λ z. read_words z.0 z.1 ws) (Ok y)
        → ((z : ScopeView × StatementState) → read_words z.0 z.1 ws ≡ Ok y → read_words z.0 z.1 (ws ++ vs) ≡ read_words y.0 y.1 vs)
        → ◌≡◌ {A = Result (ScopeView × StatementState) Fault} (r >>= λ z. read_words z.0 z.1 (ws ++ vs)) (read_words y.0 y.1 vs)
    by_step (Ok z) h ih = ih z h
    by_step (Err c) h ih = absurd cc

-- ---- one argument

-- a terminal with which an argument goes on
pub goes_within : (sc : ScopeView) (o : Open) (sh : Shape) (s : Terminal) (q : Partial) → next_terminal sh o.so_far s ≡ ok q
    → argument_step sc o s ≡ within sc o s
goes_within sc o sh terminal.Comma q h = rw (no_comma sh o.so_far q h) refl
goes_within sc o sh terminal.End q h = absurd (no_end_terminal sh o.so_far q h)
goes_within sc o sh terminal.Star q h = absurd (no_star sh o.so_far q h)
goes_within sc o sh _ q h = refl

next_operand : (sh : Shape) (p : Partial) (s : Terminal) (q : Partial) → next_terminal sh p s ≡ ok q → operand_step sh p s ≡ ok q
next_operand sh p terminal.Big q h = absurd (no_big sh p q h)
next_operand sh p _ q h = h

pub within_next : (sc : ScopeView) (o : Open) (sh : Shape) (s : Terminal) (q : Partial) → shape_at o.head (length o.arguments) ≡ Some sh
    → next_terminal sh o.so_far s ≡ ok q → argument_step sc o s ≡ with_name sc (record o { so_far = q }) (name_in q)
within_next sc o sh s q may h =
    let a : at_shape sc o s (shape_at o.head (length o.arguments)) ≡ at_shape sc o s (Some sh) = ap (at_shape sc o s) may in
    let b : after_step sc o s (operand_step sh o.so_far s) ≡ after_step sc o s (Ok q) =
    ap (after_step sc o s) (next_operand sh o.so_far s q h) in
    goes_within sc o sh s q h ∙ (a ∙ b)

-- what is seen between here and there
abbrev pub Gains : Bool → ScopeView → Option (List ℕ) → Option (List ℕ) → ScopeView → Type 0
Gains d sc None b sc2 = Sees sc d b sc2
Gains d sc (Some n) b sc2 = sc ≡ sc2

gains_same : (d : Bool) (sc sc2 : ScopeView) (a : Option (List ℕ)) → Gains d sc a a sc2 → sc ≡ sc2
gains_same d sc sc2 None h = h
gains_same d sc sc2 (Some n) h = h

abbrev pub open_at : ℕ → Head → List Argument → Bool → Partial → Open
open_at line h done star p = record { line = line; head = h; arguments = done; star = star; so_far = p }

pub form_runs : (line : ℕ) (h : Head) (done : List Argument) (star : Bool) (sh : Shape) → shape_at h (length done) ≡ Some sh
    → (ss : List Terminal) (p q : Partial) (sc sc2 : ScopeView)
    → operand_run sh p ss ≡ ok q → Gains (defines h (length done)) sc (named_in p) (named_in q) sc2
    → inners sc (state.Arguments (open_at line h done star p)) ss ≡ Ok (sc2, state.Arguments (open_at line h done star q))
form_runs line h done star sh may [] p q sc sc2 e g =
    let same : p ≡ q = cc in
    let g2 : Gains (defines h (length done)) sc (named_in q) (named_in q) sc2 =
    subst (λ (x : Partial). Gains (defines h (length done)) sc (named_in x) (named_in q) sc2) same g in
    rw (same, gains_same (defines h (length done)) sc sc2 (named_in q) g2) refl
form_runs line h done star sh may (s ∷ ss) p q sc sc2 e g =
    by_step (next_terminal sh p s) refl e (λ x. form_runs line h done star sh may ss x q)
  where
    by_step : (r : Result Partial SourceCause) → next_terminal sh p s ≡ r
        → ◌≡◌ {A = Result Partial SourceCause} (elim r [ Ok x ↦ operand_run sh x ss | Err c ↦ Err c ]) (Ok q)
        → ((x : Partial) (sc sc2 : ScopeView) → operand_run sh x ss ≡ ok q → Gains (defines h (length done)) sc
        (named_in x) (named_in q) sc2
        → inners sc (state.Arguments (open_at line h done star x)) ss ≡ Ok (sc2, state.Arguments (open_at line h done star q)))
        → inners sc (state.Arguments (open_at line h done star p)) (s ∷ ss) ≡ Ok (sc2, state.Arguments (open_at line h done star q))
    by_step (Err c) f k ih = absurd cc
    by_step (Ok x) f k ih = elim (name_step sh p s x f) [
      | inl t ↦
          let one : argument_step sc (open_at line h done star p) s ≡ Ok (sc, state.Arguments (open_at line h done star x)) =
          within_next sc (open_at line h done star p) sh s x may f ∙ ap (with_name sc (open_at line h done star x)) t.0 in
          rw (one, inners) (ih x sc sc2 k
          (subst (λ (z : Option (List ℕ)). Gains (defines h (length done)) sc z (named_in q) sc2) (sym t.1) g))
      | inr (n, a, b, c, d) ↦
          let stays : named_in q ≡ Some n = name_stays sh ss x q n k b in
          let g2 : Sees sc (defines h (length done)) (named_in q) sc2 =
          subst (λ (z : Option (List ℕ)). Gains (defines h (length done)) sc z (named_in q) sc2) c g in
          let seen : IsSeen sc (defines h (length done)) n sc2 =
          subst (λ (z : Option (List ℕ)). Sees sc (defines h (length done)) z sc2) stays g2 in
          let one : argument_step sc (open_at line h done star p) s ≡ Ok (sc2, state.Arguments (open_at line h done star x)) =
          within_next sc (open_at line h done star p) sh s x may f
          ∙ (ap (with_name sc (open_at line h done star x)) a ∙ rw (seen_noting seen) refl) in
          rw (one, inners) (ih x sc2 sc2 k
          (subst (λ (z : Option (List ℕ)). Gains (defines h (length done)) sc2 z (named_in q) sc2) (sym b) refl))
    ]

not_operand : (a sh : Shape) → is_operand a ≡ false → ◌≡◌ {A = Option Shape} (Some a) (Some sh) → is_operand sh ≡ true → ⊥
not_operand a sh h e k = let g : a ≡ sh = cc in let f : false ≡ true = sym h ∙ (ap is_operand g ∙ k) in absurd cc

at_test : (t : Bool) (a sh : Shape) (r : Option Shape) → is_operand a ≡ false → (r ≡ Some sh → ⊥)
    → ◌≡◌ {A = Option Shape} (cond t (Some a) r) (Some sh) → is_operand sh ≡ true → ⊥
at_test true a sh r h never e k = not_operand a sh h e k
at_test false a sh r h never e k = never e

none_shape : (sh : Shape) → ◌≡◌ {A = Option Shape} None (Some sh) → ⊥
none_shape sh e = absurd cc

-- an operand stands in an instruction
pub operand_head : (h : Head) (i : ℕ) (sh : Shape) → shape_at h i ≡ Some sh → is_operand sh ≡ true → is_instruction h ≡ true
operand_head (head.Instruction r n) i sh e k = refl
operand_head (head.Directive kind.Bytes n) i sh e k = absurd (not_operand shape.Number sh refl e k)
operand_head (head.Directive kind.Longs n) i sh e k = absurd (not_operand shape.Value sh refl e k)
operand_head (head.Directive kind.Strings n) i sh e k = absurd (not_operand shape.Text sh refl e k)
operand_head (head.Directive kind.Global n) i sh e k = absurd (at_test (i == 0) shape.Name sh None refl (none_shape sh) e k)
operand_head (head.Directive kind.Zero n) i sh e k = absurd (at_test (i == 0) shape.Count sh None refl (none_shape sh) e k)
operand_head (head.Directive kind.Aligned n) i sh e k = absurd (at_test (i == 0) shape.Alignment sh None refl (none_shape sh) e k)
operand_head (head.Directive kind.Powered n) i sh e k =
    absurd (at_test (i == 0) shape.Power sh (cond (i == 1) (Some shape.Fill) (cond (i == 2) (Some shape.Count) None)) refl
    (λ g. at_test (i == 1) shape.Fill sh (cond (i == 2) (Some shape.Count) None) refl
    (λ f. at_test (i == 2) shape.Count sh None refl (none_shape sh) f k) g k) e k)
operand_head (head.Directive kind.Common n) i sh e k =
    absurd (at_test (i == 0) shape.Name sh (cond (i == 1) (Some shape.Count) (cond (i == 2) (Some shape.Alignment) None)) refl
    (λ g. at_test (i == 1) shape.Count sh (cond (i == 2) (Some shape.Alignment) None) refl
    (λ f. at_test (i == 2) shape.Alignment sh None refl (none_shape sh) f k) g k) e k)
operand_head (head.Directive kind.LocalCommon n) i sh e k =
    absurd (at_test (i == 0) shape.Name sh (cond (i == 1) (Some shape.Count) None) refl
    (λ g. at_test (i == 1) shape.Count sh None refl (none_shape sh) g k) e k)
operand_head (head.Directive _ n) i sh e k = absurd cc

pub instruction_operand : (h : Head) (i : ℕ) (sh : Shape) → is_instruction h ≡ true → shape_at h i ≡ Some sh → is_operand sh ≡ true
instruction_operand (head.Instruction r n) i sh k e = let g : shape.Operand ≡ sh = cc in ap is_operand (sym g)
instruction_operand (head.Directive d n) i sh k e = absurd cc

pub operand_begun : (sh : Shape) → is_operand sh ≡ true → is_nothing (begun sh) ≡ true
operand_begun shape.Fill h = absurd cc
operand_begun _ h = refl

pub begun_unnamed : (sh : Shape) → named_in (begun sh) ≡ None
begun_unnamed shape.Fill = refl
begun_unnamed _ = refl

-- a first argument is never absent
pub first_shape : (h : Head) (sh : Shape) → shape_at h 0 ≡ Some sh → begun sh ≡ partial.Nothing
first_shape (head.Instruction r n) sh e = let g : shape.Operand ≡ sh = cc in ap begun (sym g)
first_shape (head.Directive kind.Bytes n) sh e = let g : shape.Number ≡ sh = cc in ap begun (sym g)
first_shape (head.Directive kind.Longs n) sh e = let g : shape.Value ≡ sh = cc in ap begun (sym g)
first_shape (head.Directive kind.Strings n) sh e = let g : shape.Text ≡ sh = cc in ap begun (sym g)
first_shape (head.Directive kind.Global n) sh e = let g : shape.Name ≡ sh = cc in ap begun (sym g)
first_shape (head.Directive kind.Zero n) sh e = let g : shape.Count ≡ sh = cc in ap begun (sym g)
first_shape (head.Directive kind.Aligned n) sh e = let g : shape.Alignment ≡ sh = cc in ap begun (sym g)
first_shape (head.Directive kind.Powered n) sh e = let g : shape.Power ≡ sh = cc in ap begun (sym g)
first_shape (head.Directive kind.Common n) sh e = let g : shape.Name ≡ sh = cc in ap begun (sym g)
first_shape (head.Directive kind.LocalCommon n) sh e = let g : shape.Name ≡ sh = cc in ap begun (sym g)
first_shape (head.Directive _ n) sh e = absurd cc

-- a name is seen from where an argument begins
begun_gains : (d : Bool) (sh : Shape) (sc sc2 : ScopeView) (b : Option (List ℕ)) → Sees sc d b sc2 → Gains d sc (named_in (begun sh)) b sc2
begun_gains d sh sc sc2 b h = subst (λ (z : Option (List ℕ)). Gains d sc z b sc2) (sym (begun_unnamed sh)) h

pub argument_runs : (line : ℕ) (h : Head) (done : List Argument) (sh : Shape) → shape_at h (length done) ≡ Some sh
    → (ss : List Terminal) (a : Argument) (sc sc2 : ScopeView) → IsArgument sh ss a
    → Sees sc (defines h (length done)) (symbol_in a.form) sc2
    → (q : Partial) × (inners sc (state.Arguments (open_at line h done false (begun sh))) ss ≡ Ok
    (sc2, state.Arguments (open_at line h done a.star q))) × (finished q ≡ Some a.form)
argument_runs line h done sh may ss a sc sc2 (IsArgument.plain {f} form) sees =
    let r = form_reads sh ss f form in
    let gains : Sees sc (defines h (length done)) (named_in r.last) sc2 =
    subst (λ (z : Option (List ℕ)). Sees sc (defines h (length done)) z sc2) (sym (finished_named r.last f r.ends)) sees in (
      r.last,
      form_runs line h done false sh may ss (begun sh) r.last sc sc2 r.runs
          (begun_gains (defines h (length done)) sh sc sc2 (named_in r.last) gains),
      r.ends,
    )
argument_runs line h done sh may ss a sc sc2 (IsArgument.starred {ss = rest} {f} operand form) sees =
    let r = form_reads sh rest f form in
    let gains : Sees sc (defines h (length done)) (named_in r.last) sc2 =
    subst (λ (z : Option (List ℕ)). Sees sc (defines h (length done)) z sc2) (sym (finished_named r.last f r.ends)) sees in (
      r.last,
      rw (operand_begun sh operand, operand_head h (length done) sh may operand, inners)
          (form_runs line h done true sh may rest (begun sh) r.last sc sc2 r.runs
          (begun_gains (defines h (length done)) sh sc sc2 (named_in r.last) gains)),
      r.ends,
    )

-- ---- arguments

pub comma_runs : (sc : ScopeView) (line : ℕ) (h : Head) (done : List Argument) (a : Argument) (q : Partial) (sh : Shape)
    → finished q ≡ Some a.form → shape_at h (length (done ++ a ∷ [])) ≡ Some sh
    → argument_step sc (open_at line h done a.star q) terminal.Comma ≡ Ok
    (sc, state.Arguments (open_at line h (done ++ a ∷ []) false (begun sh)))
comma_runs sc line h done a q sh fin may = rw (finished_is q a.form fin, fin, may) refl

pub separated_runs : (line : ℕ) {h : Head} {sc sc2 : ScopeView} {ss : List Terminal} {args : List Argument} → Separated h sc ss args sc2
    → (sh : Shape) → shape_at h (length args) ≡ Some sh
    → inners sc (state.Arguments (nothing_yet line h)) ss ≡ Ok (sc2, state.Arguments (open_at line h args false (begun sh)))
separated_runs line {h} Separated.none sh may = rw (first_shape h sh may) refl
separated_runs line {h} {sc} {sc2} (Separated.more {ss} {ts} {before} {a} {sc1} sep next) sh may =
    let r = argument_runs line h before next.shape next.may ts a sc1 sc2 next.is next.sees in
    let comma : inners sc2 (state.Arguments (open_at line h before a.star r.0)) (terminal.Comma ∷ []) ≡ Ok
    (sc2, state.Arguments (open_at line h (before ++ a ∷ []) false (begun sh))) =
    rw (comma_runs sc2 line h before a r.0 sh r.2 may, inners) refl in
    inners_append ss (ts ++ terminal.Comma ∷ []) sc (state.Arguments (nothing_yet line h)) _ (separated_runs line sep next.shape next.may)
    ∙ (inners_append ts (terminal.Comma ∷ []) sc1 (state.Arguments (open_at line h before false (begun next.shape))) _ r.1 ∙ comma)

finished_something : (q : Partial) (f : Form) → finished q ≡ Some f → is_nothing q ≡ false
finished_something partial.Nothing f h = absurd cc
finished_something _ f h = refl

pub end_runs : (sc : ScopeView) (line : ℕ) (h : Head) (done : List Argument) (a : Argument) (q : Partial) → finished q ≡ Some a.form
    → nat_lt (length (done ++ a ∷ [])) (least h) ≡ false
    → argument_step sc (open_at line h done a.star q) terminal.End ≡ Ok
    (resumed (pushed sc (item_of line h (done ++ a ∷ []))) h, state.Start)
end_runs sc line h done a q fin count = rw (finished_something q a.form fin, finished_is q a.form fin, fin, count) refl

pub arguments_run : (line : ℕ) {h : Head} {sc sc2 : ScopeView} {ss : List Terminal} {args : List Argument} → HasArguments h sc ss args sc2
    → nat_lt (length args) (least h) ≡ false
    → inners sc (state.Arguments (nothing_yet line h)) (ss ++ terminal.End ∷ []) ≡ Ok
    (resumed (pushed sc2 (item_of line h args)) h, state.Start)
arguments_run line HasArguments.none count = rw (count, inners) refl
arguments_run line {h} {sc} {sc2} (HasArguments.some {ss} {ts} {before} {a} {sc1} sep next) count =
    let r = argument_runs line h before next.shape next.may ts a sc1 sc2 next.is next.sees in
    let end : inners sc2 (state.Arguments (open_at line h before a.star r.0)) (terminal.End ∷ []) ≡ Ok
    (resumed (pushed sc2 (item_of line h (before ++ a ∷ []))) h, state.Start) =
    rw (end_runs sc2 line h before a r.0 r.2 count, inners) refl in
    ap (inners sc (state.Arguments (nothing_yet line h))) (append_assoc ss ts (terminal.End ∷ []))
    ∙ (inners_append ss (ts ++ terminal.End ∷ []) sc (state.Arguments (nothing_yet line h)) _ (separated_runs line sep next.shape next.may)
    ∙ (inners_append ts (terminal.End ∷ []) sc1 (state.Arguments (open_at line h before false (begun next.shape))) _ r.1 ∙ end))

-- ---- statements

no_colon_shape : (sc : ScopeView) (o : Open) (r : Option Shape) → o.so_far ≡ partial.Nothing → (c : SourceCause)
    × (at_shape sc o terminal.Colon r ≡ Err c)
no_colon_shape sc o None e = (_, refl)
no_colon_shape sc o (Some sh) e =
    let g : operand_step sh o.so_far terminal.Colon ≡ Err cause.BadOperand = ap (λ (p : Partial). operand_step sh p terminal.Colon) e in
    (_, ap (after_step sc o terminal.Colon) g)

named_goes : (sc : ScopeView) (line : ℕ) (n : List ℕ) (o : Open) (ss : List Terminal) (y : ScopeView × StatementState)
    → ((s : Terminal) → other_behind sc line n s ≡ argument_step sc o s) → o.so_far ≡ partial.Nothing → y.1 ≡ state.Start
    → inners sc (state.Arguments o) ss ≡ Ok y → inners sc (state.Named line n) ss ≡ Ok y
named_goes sc line n o [] y eq e start h = let g : (sc, state.Arguments o) ≡ y =
    cc in let f : state.Arguments o ≡ state.Start = ap (λ (x : ScopeView × StatementState). x.1) g ∙ start in absurd cc
named_goes sc line n o (terminal.Colon ∷ ss) y eq e start h =
    let c = no_colon_shape sc o (shape_at o.head (length o.arguments)) e in
    let g : inners sc (state.Arguments o) (terminal.Colon ∷ ss) ≡ Err c.0 = rw (c.1, inners) refl in
    let f : ◌≡◌ {A = Answer} (Err c.0) (Ok y) = sym g ∙ h in absurd cc
named_goes sc line n o (s ∷ ss) y eq e start h = rw (eq s, inners) h

skip_runs : (sc : ScopeView) (ss : List Terminal) → list_all is_inner ss ≡ true
    → inners sc state.Skip (ss ++ terminal.End ∷ []) ≡ Ok (sc, state.Start)
skip_runs sc [] h = refl
skip_runs sc (terminal.End ∷ ss) h = absurd cc
skip_runs sc (s ∷ ss) h = skip_runs sc ss h

flags_run : (sc : ScopeView) (line : ℕ) (n m : List ℕ) (ss : List Terminal) → list_all is_inner ss ≡ true
    → inners sc (state.Flags line n m) (ss ++ terminal.End ∷ []) ≡ Ok (sectioned sc line n m, state.Start)
flags_run sc line n m [] h = refl
flags_run sc line n m (terminal.End ∷ ss) h = absurd cc
flags_run sc line n m (s ∷ ss) h = flags_run sc line n m ss h

passes : (sc : ScopeView) (line : ℕ) (n : List ℕ) (ss : List Terminal) → ((s : Terminal) → other_behind sc line n s ≡ Ok (sc, skip s))
    → is_unlabelled ss ≡ true → list_all is_inner ss ≡ true
    → inners sc (state.Named line n) (ss ++ terminal.End ∷ []) ≡ Ok (sc, state.Start)
passes sc line n [] eq u h = rw (eq terminal.End, inners) refl
passes sc line n (terminal.Colon ∷ ss) eq u h = absurd cc
passes sc line n (terminal.End ∷ ss) eq u h = absurd cc
passes sc line n (s ∷ ss) eq u h = rw (eq s, inners) (skip_runs sc ss h)

pub of_list : (k : Directive) (sc : ScopeView) (line : ℕ) (n : List ℕ) (s : Terminal) → has_list k ≡ true
    → of_directive (Some k) sc line n s ≡ argument_step sc (nothing_yet line (head.Directive k n)) s
of_list kind.Section sc line n s h = absurd cc
of_list kind.Skipped sc line n s h = absurd cc
of_list k sc line n s h = refl

abbrev pub opening : ScopeView → ℕ → List Terminal → Answer
opening sc line [] = Ok (sc, state.Start)
opening sc line (s ∷ ss) = elim (with_scope sc (start_step sc line s)) [ Ok y ↦ inners y.0 y.1 ss | Err c ↦ Err c ]

nameless_runs : (sc : ScopeView) (line : ℕ) (s : Terminal) (ss : List Terminal) → sc.skipping ≡ true → is_nameless s ≡ true
    → list_all is_inner ss ≡ true → opening sc line (s ∷ (ss ++ terminal.End ∷ [])) ≡ Ok (sc, state.Start)
nameless_runs sc line (terminal.Name n) ss sk k h = absurd cc
nameless_runs sc line terminal.End ss sk k h = absurd cc
nameless_runs sc line terminal.Big ss sk k h =
    rw (ap (λ (t : Bool). unless_skipping t cause.BadNumber) sk, opening, inners) (skip_runs sc ss h)
nameless_runs sc line s ss sk k h = rw (ap (λ (t : Bool). unless_skipping t cause.BadOperand) sk, opening, inners) (skip_runs sc ss h)

label_runs : (sc sc2 : ScopeView) (line : ℕ) (n : List ℕ) → sc.skipping ≡ false → IsSeen sc true n sc2
    → colon_behind sc line n ≡ Ok (pushed sc2 (record { line = line; body = body.Label n }), state.Start)
label_runs sc sc2 line n sk seen =
    ap (λ (t : Bool). cond {A = Answer} t (Ok (sc, state.Start)) (label sc line n)) sk ∙ ap (labelled line n) (seen_noting seen)

passed_label : (sc : ScopeView) (line : ℕ) (n : List ℕ) → sc.skipping ≡ true → colon_behind sc line n ≡ Ok (sc, state.Start)
passed_label sc line n sk = ap (λ (t : Bool). cond {A = Answer} t (Ok (sc, state.Start)) (label sc line n)) sk

never_below : (args : List Argument) → nat_lt (length args) 0 ≡ false
never_below args = le-ltb (length args) 0 (omega arith)

pub statement_runs : {sc sc2 : ScopeView} {line : ℕ} {ss : List Terminal} → Statement sc line ss sc2
    → opening sc line ss ≡ Ok (sc2, state.Start)
statement_runs Statement.empty = refl
statement_runs {sc} {line} (Statement.label {sc2} {n} sk seen) = rw (label_runs sc sc2 line n sk seen, inners) refl
statement_runs {sc} {line} (Statement.instruction {n} {ss} passed dotted rep args) =
    named_goes sc line n (nothing_yet line (head.Instruction false n)) (ss ++ terminal.End ∷ []) _ (λ s. rw (passed, dotted, rep) refl) refl
    refl (arguments_run line args (never_below _))
statement_runs {sc} {line} (Statement.repeated passed dotted rep args) =
    rw (passed, dotted, rep, inners) (arguments_run line args (never_below _))
statement_runs {sc} {line} (Statement.directive {n} {k} {ss} passed dotted dir list args count) =
    named_goes sc line n (nothing_yet line (head.Directive k n)) (ss ++ terminal.End ∷ []) _
    (λ s. rw (passed, dotted, dir) (of_list k sc line n s list)) refl refl (arguments_run line args count)
statement_runs {sc} {line} (Statement.skipped_directive {n} ss passed dotted dir u h) =
    passes sc line n ss (λ s. rw (passed, dotted, dir) refl) u h
statement_runs {sc} {line} (Statement.skipped_label {n} sk) = rw (passed_label sc line n sk, inners) refl
statement_runs {sc} {line} (Statement.skipped {n} ss passed u h) = passes sc line n ss (λ s. rw passed refl) u h
statement_runs {sc} {line} (Statement.nameless {s} ss sk k h) = nameless_runs sc line s ss sk k h

opening_words : (w : Word) (ws : List Word) (sc : ScopeView) (y : ScopeView × StatementState) → y.1 ≡ state.Start
    → opening sc w.line (terminals (w ∷ ws)) ≡ Ok y → read_words sc state.Start (w ∷ ws) ≡ Ok y
opening_words w ws sc y start h = by_step (with_scope sc (start_step sc w.line (terminal_of w.kind w.bytes))) refl h
  where
    by_step : (r : Answer) → with_scope sc (start_step sc w.line (terminal_of w.kind w.bytes)) ≡ r
        → ◌≡◌ {A = Answer} (elim r [ Ok z ↦ inners z.0 z.1 (terminals ws) | Err c ↦ Err c ]) (Ok y)
        → read_words sc state.Start (w ∷ ws) ≡ Ok y
    by_step (Ok z) e h = rw (word_is sc state.Start w z refl e, same_ending z.1 (w.at + length w.bytes) (start_naming ws z.0 z.1 y start h))
        (inners_words ws z.0 z.1 y start h)
    by_step (Err c) e h = absurd cc

-- ---- a change to a named section

parts_run : (parts : List Word) (sc : ScopeView) (line : ℕ) (n m : List ℕ) (e : ℕ) → Touch e parts → (f : ℕ)
    × (read_words sc (state.Sectioned line n m e) parts ≡ Ok (sc, state.Sectioned line n (m ++ text_of parts) f))
parts_run [] sc line n m e h = (e, ap (λ (x : List ℕ). Ok (sc, state.Sectioned line n x e)) (sym (append-nil m)))
parts_run (w ∷ ws) sc line n m e (at, part, touch) =
    let g = parts_run ws sc line n (m ++ w.bytes) (w.at + length w.bytes) touch in
    let on : is_longer (state.Sectioned line n m e) w.at w.kind w.bytes ≡ true = rw (eq-eqb e w.at at, part) refl in
    (g.0, rw on (g.1 ∙ ap (λ (x : List ℕ). Ok (sc, state.Sectioned line n x g.0)) (append_assoc m w.bytes (text_of ws))))

-- a comma and an end don't go on with a name
cond_not : (t : Bool) (a b c : Terminal) → (a ≡ c → ⊥) → (b ≡ c → ⊥) → cond t a b ≡ c → ⊥
cond_not true a b c p q = p
cond_not false a b c p q = q

no_comma_mark : (m : ℕ) → (m == 44) ≡ false → mark_terminal m ≡ terminal.Comma → ⊥
no_comma_mark m h =
    cond_not (m == 36) _ _ terminal.Comma (λ f. absurd cc)
    (cond_not (m == 37) _ _ terminal.Comma (λ f. absurd cc)
    (cond_not (m == 40) _ _ terminal.Comma (λ f. absurd cc) (cond_not (m == 41) _ _ terminal.Comma (λ f. absurd cc)
    (cond_not (m == 42) _ _ terminal.Comma (λ f. absurd cc) (cond_not (m == 43) _ _ terminal.Comma (λ f. absurd cc)
    (λ f. cond_not (m == 45) terminal.Minus (cond (m == 58) terminal.Colon terminal.At) terminal.Comma (λ g. absurd cc)
    (cond_not (m == 58) terminal.Colon terminal.At terminal.Comma (λ g. absurd cc) (λ g. absurd cc)) (sym (behind_comma m h) ∙ f)))))))
  where
    behind_comma : (k : ℕ) → (k == 44) ≡ false
        → cond (k == 44) terminal.Comma (cond (k == 45) terminal.Minus (cond (k == 58) terminal.Colon terminal.At)) ≡ cond (k == 45)
        terminal.Minus (cond (k == 58) terminal.Colon terminal.At)
    behind_comma k h = rw h refl

no_end_mark : (m : ℕ) → mark_terminal m ≡ terminal.End → ⊥
no_end_mark m =
    cond_not (m == 36) _ _ terminal.End (λ f. absurd cc)
    (cond_not (m == 37) _ _ terminal.End (λ f. absurd cc)
    (cond_not (m == 40) _ _ terminal.End (λ f. absurd cc) (cond_not (m == 41) _ _ terminal.End (λ f. absurd cc)
    (cond_not (m == 42) _ _ terminal.End (λ f. absurd cc)
    (cond_not (m == 43) _ _ terminal.End (λ f. absurd cc)
    (cond_not (m == 44) _ _ terminal.End (λ f. absurd cc) (cond_not (m == 45) _ _ terminal.End (λ f. absurd cc)
    (cond_not (m == 58) terminal.Colon terminal.At terminal.End (λ f. absurd cc) (λ f. absurd cc)))))))))

not_number : (n : ℕ) (s : Terminal) → (s ≡ terminal.Comma) ⊎ (s ≡ terminal.End) → number_terminal n ≡ s → ⊥
not_number n s (inl g) e =
    cond_not (nat_lt n (2 ^ 32)) (terminal.Number n) terminal.Big terminal.Comma (λ f. absurd cc) (λ f. absurd cc) (e ∙ g)
not_number n s (inr g) e =
    cond_not (nat_lt n (2 ^ 32)) (terminal.Number n) terminal.Big terminal.End (λ f. absurd cc) (λ f. absurd cc) (e ∙ g)

comma_part : (m : ℕ) (t : Bool) → (m == 44) ≡ t → mark_terminal m ≡ terminal.Comma → not (m == 44) ≡ false
comma_part m true f e = rw f refl
comma_part m false f e = absurd (no_comma_mark m f e)

ends_part : (k : TokenKind) (bytes : List ℕ) (s : Terminal) → (s ≡ terminal.Comma) ⊎ (s ≡ terminal.End) → terminal_of k bytes ≡ s
    → is_part k bytes ≡ false
ends_part token.End bytes s c e = refl
ends_part token.Name bytes s (inl g) e = let f : terminal.Name bytes ≡ terminal.Comma = e ∙ g in absurd cc
ends_part token.Name bytes s (inr g) e = let f : terminal.Name bytes ≡ terminal.End = e ∙ g in absurd cc
ends_part token.Number bytes s c e = absurd (not_number (number_value bytes) s c e)
ends_part token.Text bytes s (inl g) e = let f : terminal_of token.Text bytes ≡ terminal.Comma = e ∙ g in absurd cc
ends_part token.Text bytes s (inr g) e = let f : terminal_of token.Text bytes ≡ terminal.End = e ∙ g in absurd cc
ends_part (token.Mark m) bytes s (inr g) e = absurd (no_end_mark m (e ∙ g))
ends_part (token.Mark m) bytes s (inl g) e = comma_part m (m == 44) refl (e ∙ g)

not_part : (st : StatementState) (w : Word) → is_part w.kind w.bytes ≡ false → is_longer st w.at w.kind w.bytes ≡ false
not_part (state.Sectioned b n m e) w h = rw h (none (e == w.at))
  where
    none : (t : Bool) → (t && false) ≡ false
    none true = refl
    none false = refl
not_part _ w h = refl

pub rest_runs : (rest : List Word) (ss : List Terminal) (sc : ScopeView) (line : ℕ) (n m : List ℕ) (e : ℕ) → terminals rest ≡ ss
    ++ terminal.End ∷ [] → are_flags ss ≡ true
    → read_words sc (state.Sectioned line n m e) rest ≡ Ok (sectioned sc line n m, state.Start)
rest_runs [] [] sc line n m e h flags = absurd cc
rest_runs [] (s ∷ ss) sc line n m e h flags = absurd cc
rest_runs (w ∷ ws) [] sc line n m e h flags =
    let s : terminal_of w.kind w.bytes ≡ terminal.End = cc in
    let none : terminals ws ≡ [] = cc in
    let is = word_is sc (state.Sectioned line n m e) w (sectioned sc line n m, state.Start)
    (not_part (state.Sectioned line n m e) w (ends_part w.kind w.bytes terminal.End (inr refl) s)) (ap (sectioned_step sc line n m) s) in
    rw is (inners_words ws (sectioned sc line n m) state.Start (sectioned sc line n m, state.Start) refl
    (ap (inners (sectioned sc line n m) state.Start) none))
rest_runs (w ∷ ws) (terminal.Comma ∷ ss) sc line n m e h flags =
    let s : terminal_of w.kind w.bytes ≡ terminal.Comma = cc in
    let behind : terminals ws ≡ ss ++ terminal.End ∷ [] = cc in
    let is = word_is sc (state.Sectioned line n m e) w (sc, state.Flags line n m)
    (not_part (state.Sectioned line n m e) w (ends_part w.kind w.bytes terminal.Comma (inl refl) s)) (ap (sectioned_step sc line n m) s) in
    rw is (inners_words ws sc (state.Flags line n m) (sectioned sc line n m, state.Start) refl
    (ap (inners sc (state.Flags line n m)) behind ∙ flags_run sc line n m ss flags))
rest_runs (w ∷ ws) (s ∷ ss) sc line n m e h flags = absurd cc

pub named_section : (sc : ScopeView) (line : ℕ) (n m : List ℕ) → is_passed sc n ≡ false → is_dotted n ≡ true
    → directive_of n ≡ Some kind.Section → is_section m ≡ true
    → named_step sc line n (terminal.Name m) ≡ Ok (sc, state.Sectioned line n m 0)
named_section sc line n m passed dotted dir is = rw (passed, dotted, dir, is) refl

section_runs : (sc : ScopeView) (w v : Word) (parts rest : List Word) (n m : List ℕ) (ss : List Terminal)
    → terminal_of w.kind w.bytes ≡ terminal.Name n → is_passed sc n ≡ false → is_dotted n ≡ true → directive_of n ≡ Some kind.Section
    → terminal_of v.kind v.bytes ≡ terminal.Name m → is_section m ≡ true → Touch (v.at + length v.bytes) parts → terminals rest ≡ ss
    ++ terminal.End ∷ [] → are_flags ss ≡ true
    → read_words sc state.Start (w ∷ v ∷ (parts ++ rest)) ≡ Ok (sectioned sc w.line n (m ++ text_of parts), state.Start)
section_runs sc w v parts rest n m ss wn passed dotted dir vm is touch end flags =
    let one = word_is sc state.Start w (sc, state.Named w.line n) refl (ap (λ (s : Terminal). with_scope sc (start_step sc w.line s)) wn) in
    let two = word_is sc (state.Named w.line n) v (sc, state.Sectioned w.line n m 0) refl
    (ap (named_step sc w.line n) vm ∙ named_section sc w.line n m passed dotted dir is) in
    let p = parts_run parts sc w.line n m (v.at + length v.bytes) touch in
    rw (one, two) (words_append parts rest sc (state.Sectioned w.line n m (v.at + length v.bytes)) _ p.1 ∙ rest_runs rest ss sc w.line n
    (m ++ text_of parts) p.0 end flags)

piece_runs : {sc sc2 : ScopeView} {ws : List Word} → IsStatement sc ws sc2 → read_words sc state.Start ws ≡ Ok (sc2, state.Start)
piece_runs {sc} {sc2} (IsStatement.plain w ws st) = opening_words w ws sc (sc2, state.Start) refl (statement_runs st)
piece_runs {sc} (IsStatement.section {n} {m} w v parts rest ss wn passed dotted dir vm is touch end flags) =
    section_runs sc w v parts rest n m ss wn passed dotted dir vm is touch end flags

-- What is stated is read.
pub statements_run : {sc sc2 : ScopeView} {ws : List Word} → Statements sc ws sc2 → read_words sc state.Start ws ≡ Ok (sc2, state.Start)
statements_run Statements.none = refl
statements_run {sc} (Statements.more {sc2 = mid} piece rest e st tail) =
    ap (read_words sc state.Start) e ∙ (words_append piece rest sc state.Start (mid, state.Start) (piece_runs st) ∙ statements_run tail)
