-- Only at its beginning does a statement's first name stand open, and only a `%` is left astray.
use Rattle.std.proofs.Common.{◌≡◌, ℕ, Bool, true, false, cond, List, [], ◌∷◌, ◌++◌, length, Option, Some, None, Result, Ok, Err, refl, sym, ap, subst, ◌∙◌, ◌⊎◌, inl, inr}
use Rattle.std.specs.Prelude.{nat_lt}
use Rattle.asm_lex.specs.declared.fault.SourceCause.{SourceCause}
use Rattle.asm_lex.specs.declared.fault.SourceCause.TheVariants as cause
use Rattle.asm_argument.specs.declared.terminal.Terminal.{Terminal}
use Rattle.asm_argument.specs.declared.terminal.Terminal.TheVariants as terminal
use Rattle.asm_argument.specs.declared.shape.Shape.{Shape}
use Rattle.asm_argument.specs.declared.operand.Partial.{Partial}
use Rattle.asm_source.specs.declared.tree.Argument.{Argument}
use Rattle.asm_statement.specs.declared.directive.Directive.{Directive}
use Rattle.asm_statement.specs.declared.directive.Directive.TheVariants as directive
use Rattle.asm_statement.specs.declared.directive.Head.{Head}
use Rattle.asm_statement.specs.declared.directive.Head.TheVariants as head
use Rattle.asm_statement.specs.declared.state.Open.{Open}
use Rattle.asm_statement.specs.declared.state.StatementState.{StatementState}
use Rattle.asm_statement.specs.declared.state.StatementState.TheVariants as state
use Rattle.asm_statement.specs.ScopeView.{ScopeView}
use Rattle.asm_statement.specs.Scope.{fresh}
use Rattle.asm_argument.specs.Operand.{operand_step, is_finished, name_in}
use Rattle.asm_statement.specs.Directives.{shape_at, least, directive_of, is_dotted, is_section, defines}
use Rattle.asm_statement.specs.Statement.{noting, after_noting, with_name, after_step, at_shape, argument_of, comma_behind, end_behind, ended, complete, is_bare, takes_star, within, argument_step, nothing_yet, labelled, rep_step, section_name, of_directive, with_scope, sectioned_step, skip, named_step, step, unless_skipping, is_place, fault_line, strayed, next_step}
use Rattle.asm_statement.specs.Items.{is_rep, is_passed}
use Rattle.asm_parse.proofs.Quiet.{Answer, ok_same}

abbrev pub is_later : StatementState → Bool
is_later (state.Named b n) = false
is_later (state.Stray l c) = false
is_later _ = true

abbrev IsLater : Answer → Type 0
IsLater (Ok x) = is_later x.1 ≡ true
IsLater (Err c) = Unit {0}

either : (t : Bool) (a b : Answer) → IsLater a → IsLater b → IsLater (cond t a b)
either true a b p q = p
either false a b p q = q

noting_later : (o : Open) (r : Result ScopeView SourceCause) → IsLater (after_noting o r)
noting_later o (Ok sc) = refl
noting_later o (Err c) = tt

name_later : (sc : ScopeView) (o : Open) (n : Option (List ℕ)) → IsLater (with_name sc o n)
name_later sc o None = refl
name_later sc o (Some n) = noting_later o (noting sc (defines o.head (length o.arguments)) n)

step_later : (sc : ScopeView) (o : Open) (s : Terminal) (r : Result Partial SourceCause) → IsLater (after_step sc o s r)
step_later sc o s (Err c) = tt
step_later sc o s (Ok q) = name_later sc (record o { so_far = q }) (name_in q)

shape_later : (sc : ScopeView) (o : Open) (s : Terminal) (r : Option Shape) → IsLater (at_shape sc o s r)
shape_later sc o s None = tt
shape_later sc o s (Some sh) = step_later sc o s (operand_step sh o.so_far s)

within_later : (sc : ScopeView) (o : Open) (s : Terminal) → IsLater (within sc o s)
within_later sc o s = shape_later sc o s (shape_at o.head (length o.arguments))

next_later : (sc : ScopeView) (line : ℕ) (h : Head) (done : List Argument) (r : Option Shape)
    → IsLater (with_scope sc (argument_of line h done r))
next_later sc line h done None = tt
next_later sc line h done (Some sh) = refl

comma_later : (sc : ScopeView) (e : Option (ℕ × Head × List Argument × Argument)) → IsLater (comma_behind sc e)
comma_later sc None = tt
comma_later sc (Some e) = next_later sc e.0 e.1 (e.2 ++ e.3 ∷ []) (shape_at e.1 (length (e.2 ++ e.3 ∷ [])))

complete_later : (sc : ScopeView) (line : ℕ) (h : Head) (args : List Argument) → IsLater (complete sc line h args)
complete_later sc line h args = either (nat_lt (length args) (least h)) _ _ tt refl

end_later : (sc : ScopeView) (e : Option (ℕ × Head × List Argument × Argument)) → IsLater (end_behind sc e)
end_later sc None = tt
end_later sc (Some e) = complete_later sc e.0 e.1 (e.2 ++ e.3 ∷ [])

argument_later : (sc : ScopeView) (o : Open) (s : Terminal) → IsLater (argument_step sc o s)
argument_later sc o terminal.Comma = either (is_finished o.so_far) _ _ (comma_later sc (ended o)) (within_later sc o terminal.Comma)
argument_later sc o terminal.End = either (is_bare o) _ _ (complete_later sc o.line o.head o.arguments)
    (either (is_finished o.so_far) _ _ (end_later sc (ended o)) (within_later sc o terminal.End))
argument_later sc o terminal.Star = either (takes_star o) _ _ refl (within_later sc o terminal.Star)
argument_later sc o s = within_later sc o s

skip_later : (s : Terminal) → is_later (skip s) ≡ true
skip_later terminal.End = refl
skip_later _ = refl

section_later : (sc : ScopeView) (line : ℕ) (n : List ℕ) (s : Terminal) → IsLater (with_scope sc (section_name line n s))
section_later sc line n (terminal.Name m) = by_test (is_section m)
  where
    by_test : (t : Bool) → IsLater (with_scope sc (cond t (Ok (state.Sectioned line n m 0)) (Err cause.BadArgument)))
    by_test true = refl
    by_test false = tt
section_later sc line n _ = tt

directive_later : (sc : ScopeView) (line : ℕ) (n : List ℕ) (s : Terminal) (d : Option Directive) → IsLater (of_directive d sc line n s)
directive_later sc line n s None = tt
directive_later sc line n s (Some directive.Skipped) = skip_later s
directive_later sc line n s (Some directive.Section) = section_later sc line n s
directive_later sc line n s (Some k) = argument_later sc (nothing_yet line (head.Directive k n)) s

rep_later : (sc : ScopeView) (line : ℕ) (s : Terminal) → IsLater (rep_step sc line s)
rep_later sc line (terminal.Name m) = refl
rep_later sc line _ = tt

labelled_later : (line : ℕ) (n : List ℕ) (r : Result ScopeView SourceCause) → IsLater (labelled line n r)
labelled_later line n (Ok sc) = refl
labelled_later line n (Err c) = tt

named_later : (sc : ScopeView) (b : ℕ) (n : List ℕ) (s : Terminal) → IsLater (named_step sc b n s)
named_later sc b n terminal.Colon = either sc.skipping _ _ refl (labelled_later b n (noting sc true n))
named_later sc b n s = either (is_passed sc n) _ _ (skip_later s)
    (either (is_dotted n) _ _ (directive_later sc b n s (directive_of n))
    (either (is_rep n) _ _ (rep_later sc b s) (argument_later sc (nothing_yet b (head.Instruction false n)) s)))

sectioned_later : (sc : ScopeView) (b : ℕ) (n m : List ℕ) (s : Terminal) → IsLater (sectioned_step sc b n m s)
sectioned_later sc b n m terminal.End = refl
sectioned_later sc b n m terminal.Comma = refl
sectioned_later sc b n m _ = tt

flags_later : (sc : ScopeView) (b : ℕ) (n m : List ℕ) (line : ℕ) (s : Terminal) → IsLater (step sc (state.Flags b n m) line s)
flags_later sc b n m line terminal.End = refl
flags_later sc b n m line _ = refl

inside_later : (sc : ScopeView) (st : StatementState) (line : ℕ) (s : Terminal) → (st ≡ state.Start → ⊥) → IsLater (step sc st line s)
inside_later sc state.Start line s inside = absurd (inside refl)
inside_later sc (state.Named b n) line s inside = named_later sc b n s
inside_later sc state.Skip line s inside = skip_later s
inside_later sc (state.Sectioned b n m e) line s inside = sectioned_later sc b n m s
inside_later sc (state.Flags b n m) line s inside = flags_later sc b n m line s
inside_later sc (state.Arguments o) line s inside = argument_later sc o s
inside_later sc (state.Stray l c) line s inside = tt

-- ---- the next terminal

-- A terminal leads on within the statement; it is the first name of one; or it is a `%` that may not stand there.
pub data Leads-on (sc : ScopeView) (st : StatementState) (line : ℕ) (s : Terminal) (y : ScopeView × StatementState) : Type 0 where
  later : is_later y.1 ≡ true → Leads-on sc st line s y
  name : (n : List ℕ) → st ≡ state.Start → s ≡ terminal.Name n → y ≡ (sc, state.Named line n) → Leads-on sc st line s y
  astray : (c : SourceCause) → s ≡ terminal.Percent → step sc st line terminal.Percent ≡ Err c → is_place c ≡ true
      → y ≡ (fresh, state.Stray (fault_line sc st line) c) → Leads-on sc st line s y

start_name : (sc : ScopeView) (line : ℕ) (s : Terminal) (y : ScopeView × StatementState) → step sc state.Start line s ≡ Ok y
    → Leads-on sc state.Start line s y
start_name sc line terminal.End y h =
    Leads-on.later (ap (λ (z : ScopeView × StatementState). is_later z.1) (sym (ok_same (sc, state.Start) y h)))
start_name sc line (terminal.Name n) y h = Leads-on.name n refl refl (sym (ok_same (sc, state.Named line n) y h))
start_name sc line terminal.Big y h = by_test sc.skipping h
  where
    by_test : (t : Bool) → ◌≡◌ {A = Answer} (with_scope sc (unless_skipping t cause.BadNumber)) (Ok y)
        → Leads-on sc state.Start line terminal.Big y
    by_test true h = Leads-on.later (ap (λ (z : ScopeView × StatementState). is_later z.1) (sym (ok_same (sc, state.Skip) y h)))
    by_test false h = absurd cc
start_name sc line s y h = by_test sc.skipping h
  where
    by_test : (t : Bool) → ◌≡◌ {A = Answer} (with_scope sc (unless_skipping t cause.BadOperand)) (Ok y) → Leads-on sc state.Start line s y
    by_test true h = Leads-on.later (ap (λ (z : ScopeView × StatementState). is_later z.1) (sym (ok_same (sc, state.Skip) y h)))
    by_test false h = absurd cc

is_start : (st : StatementState) → (st ≡ state.Start) ⊎ (st ≡ state.Start → ⊥)
is_start state.Start = inl refl
is_start (state.Named b n) = inr (λ e. absurd cc)
is_start state.Skip = inr (λ e. absurd cc)
is_start (state.Sectioned b n m e) = inr (λ e. absurd cc)
is_start (state.Flags b n m) = inr (λ e. absurd cc)
is_start (state.Arguments o) = inr (λ e. absurd cc)
is_start (state.Stray l c) = inr (λ e. absurd cc)

step_leads : (sc : ScopeView) (st : StatementState) (line : ℕ) (s : Terminal) (y : ScopeView × StatementState) → step sc st line s ≡ Ok y
    → Leads-on sc st line s y
step_leads sc st line s y h = elim (is_start st) [
  | inl e ↦ subst (λ (x : StatementState). Leads-on sc x line s y) (sym e)
      (start_name sc line s y (subst (λ (x : StatementState). step sc x line s ≡ Ok y) e h))
  | inr inside ↦ let g : IsLater (Ok y) = subst IsLater h (inside_later sc st line s inside) in Leads-on.later g
]

pub leads_on : (sc : ScopeView) (st : StatementState) (line : ℕ) (s : Terminal) (y : ScopeView × StatementState)
    → next_step sc st line s ≡ Ok y → Leads-on sc st line s y
leads_on sc st line terminal.Percent y h = by_result (step sc st line terminal.Percent) refl h
  where
    by_place : (c : SourceCause) (t : Bool) → is_place c ≡ t → step sc st line terminal.Percent ≡ Err c
        → ◌≡◌ {A = Answer} (cond t (Ok (fresh, state.Stray (fault_line sc st line) c)) (Err c)) (Ok y)
        → Leads-on sc st line terminal.Percent y
    by_place c true e f k = Leads-on.astray c refl f e (sym (ok_same _ y k))
    by_place c false e f k = absurd cc

    by_result : (r : Answer) → step sc st line terminal.Percent ≡ r → strayed (fault_line sc st line) r ≡ Ok y
        → Leads-on sc st line terminal.Percent y
    by_result (Ok x) e k = step_leads sc st line terminal.Percent y (e ∙ k)
    by_result (Err c) e k = by_place c (is_place c) refl e k
leads_on sc st line s y h = step_leads sc st line s y h
