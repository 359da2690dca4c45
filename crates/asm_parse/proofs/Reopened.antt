-- Where terminals stand in arguments the reader is in the arguments, with what has been read of them so.
use Rattle.std.proofs.Common.{◌≡◌, ℕ, Bool, true, false, List, [], ◌∷◌, ◌++◌, length, Option, Some, None, Result, Ok, Err, refl, sym, ap, subst, ◌∙◌, ◌⊎◌, inl, inr, append_assoc}
use Rattle.std.specs.List.{list_all}
use Rattle.std.proofs.lemmas.List.{append-nil}
use Rattle.asm_lex.specs.declared.fault.SourceCause.{SourceCause}
use Rattle.asm_lex.specs.declared.fault.SourceCause.TheVariants as cause
use Rattle.asm_argument.specs.declared.terminal.Terminal.{Terminal}
use Rattle.asm_argument.specs.declared.terminal.Terminal.TheVariants as terminal
use Rattle.asm_argument.specs.declared.shape.Shape.{Shape}
use Rattle.asm_argument.specs.declared.shape.Shape.TheVariants as shape
use Rattle.asm_argument.specs.declared.operand.Partial.{Partial}
use Rattle.asm_argument.specs.declared.operand.Partial.TheVariants as partial
use Rattle.asm_source.specs.declared.tree.Argument.{Argument}
use Rattle.asm_statement.specs.declared.directive.Head.{Head}
use Rattle.asm_statement.specs.declared.state.Open.{Open}
use Rattle.asm_statement.specs.declared.state.StatementState.{StatementState}
use Rattle.asm_statement.specs.declared.state.StatementState.TheVariants as state
use Rattle.asm_statement.specs.ScopeView.{ScopeView}
use Rattle.asm_argument.specs.Operand.{begun, next_terminal, finished, is_unbegun}
use Rattle.asm_statement.specs.Directives.{shape_at, defines, is_instruction}
use Rattle.asm_statement.specs.Statement.{noting, after_noting, with_name, argument_step, nothing_yet}
use Rattle.asm_parse.specs.Statements.{IsSeen, Sees, IsArgument, Separated, is_inner, Statement}
use Rattle.asm_parse.specs.Refusals.{StatementPlace, Leads, Opens}
use Rattle.asm_argument.proofs.Operands.{ok, operand_run, form_reads, Spelled, begun_spelled, more}
use Rattle.asm_parse.proofs.Names.{noting_seen, named_in, name_step, finished_is, no_end_terminal}
use Rattle.asm_parse.proofs.Stated.{inner, inners, inners_append, within_next, open_at, begun_unnamed, first_shape, argument_runs, comma_runs, separated_runs, operand_begun, operand_head}
use Rattle.asm_parse.proofs.Said.{stars, EndsStatement, InArguments, begun_solid, sees_none, advance, same_shape}
use Rattle.asm_parse.proofs.Places.{Suits, arguments_suit, all_more}
use Rattle.asm_parse.proofs.Reread.{Pair, same_pair}
use Rattle.asm_parse.proofs.Quiet.{Answer}

-- ---- the terminals of arguments

all_front : (xs ys : List Terminal) → list_all is_inner (xs ++ ys) ≡ true → list_all is_inner xs ≡ true
all_front [] ys h = refl
all_front (terminal.End ∷ xs) ys h = absurd cc
all_front (x ∷ xs) ys h = all_front xs ys h

run_inner : (sh : Shape) (ss : List Terminal) (p q : Partial) → operand_run sh p ss ≡ ok q → list_all is_inner ss ≡ true
run_inner sh [] p q h = refl
run_inner sh (s ∷ ss) p q h = by_step (next_terminal sh p s) refl h (λ x k. run_inner sh ss x q k)
  where
    by_terminal : (s : Terminal) (x : Partial) → next_terminal sh p s ≡ ok x → list_all is_inner ss ≡ true
        → list_all is_inner (s ∷ ss) ≡ true
    by_terminal terminal.End x e k = absurd (no_end_terminal sh p x e)
    by_terminal s x e k = k

    by_step : (r : Result Partial SourceCause) → next_terminal sh p s ≡ r
        → ◌≡◌ {A = Result Partial SourceCause} (elim r [ Ok x ↦ operand_run sh x ss | Err c ↦ Err c ]) (Ok q)
        → ((x : Partial) → operand_run sh x ss ≡ ok q → list_all is_inner ss ≡ true) → list_all is_inner (s ∷ ss) ≡ true
    by_step (Ok x) e k ih = by_terminal s x e (ih x k)
    by_step (Err c) e k ih = absurd cc

run_prefix : (sh : Shape) (xs ys : List Terminal) (p q : Partial) → operand_run sh p (xs ++ ys) ≡ ok q → (x : Partial)
    × (operand_run sh p xs ≡ ok x)
run_prefix sh [] ys p q h = (p, refl)
run_prefix sh (s ∷ ss) ys p q h = by_step (next_terminal sh p s) refl h (λ x k. run_prefix sh ss ys x q k)
  where
    by_step : (r : Result Partial SourceCause) → next_terminal sh p s ≡ r
        → ◌≡◌ {A = Result Partial SourceCause} (elim r [ Ok x ↦ operand_run sh x (ss ++ ys) | Err c ↦ Err c ]) (Ok q)
        → ((x : Partial) → operand_run sh x (ss ++ ys) ≡ ok q → (z : Partial) × (operand_run sh x ss ≡ ok z))
        → (x : Partial) × ◌≡◌ {A = Result Partial SourceCause} (elim r [ Ok z ↦ operand_run sh z ss | Err c ↦ Err c ]) (Ok x)
    by_step (Ok x) e k ih = ih x k
    by_step (Err c) e k ih = absurd cc

argument_inner : {sh : Shape} {ss : List Terminal} {a : Argument} → IsArgument sh ss a → list_all is_inner ss ≡ true
argument_inner {sh} {ss} (IsArgument.plain {f} form) = let r = form_reads sh ss f form in run_inner sh ss (begun sh) r.last r.runs
argument_inner {sh} (IsArgument.starred {ss = rest} {f} operand form) =
    let r = form_reads sh rest f form in run_inner sh rest (begun sh) r.last r.runs

separated_inner : {h : Head} {sc sc2 : ScopeView} {ss : List Terminal} {done : List Argument} → Separated h sc ss done sc2
    → list_all is_inner ss ≡ true
separated_inner Separated.none = refl
separated_inner (Separated.more {ss} {ts} sep next) =
    all_more ss (ts ++ terminal.Comma ∷ []) (separated_inner sep) (all_more ts (terminal.Comma ∷ []) (argument_inner next.is) refl)

opens_inner : {o : Option Shape} {ss : List Terminal} → Opens o ss → list_all is_inner ss ≡ true
opens_inner Opens.nothing = refl
opens_inner (Opens.some {sh} {ss} later a is) = all_front ss later (argument_inner is)

pub body_inner : {h : Head} {sc sc2 : ScopeView} {front arg : List Terminal} {done : List Argument} {o : Option Shape}
    → Separated h sc front done sc2 → Opens o arg → list_all is_inner (front ++ arg) ≡ true
body_inner {front} {arg} sep opens = all_more front arg (separated_inner sep) (opens_inner opens)

-- none begins with a colon
abbrev pub IsColon : List Terminal → Type 0
IsColon [] = ⊥
IsColon (terminal.Colon ∷ ss) = Unit {0}
IsColon (s ∷ ss) = ⊥

colon_front : (xs ys : List Terminal) → IsColon (xs ++ ys) → IsColon xs ⊎ ((xs ≡ []) × IsColon ys)
colon_front [] ys h = inr (refl, h)
colon_front (terminal.Colon ∷ xs) ys h = inl tt
colon_front (x ∷ xs) ys h = absurd h

more_colon : (xs ys : List Terminal) → IsColon xs → IsColon (xs ++ ys)
more_colon [] ys h = absurd h
more_colon (terminal.Colon ∷ xs) ys h = tt
more_colon (x ∷ xs) ys h = absurd h

run_colon : (sh : Shape) (ss : List Terminal) (q : Partial) → operand_run sh (begun sh) ss ≡ ok q → IsColon ss → ⊥
run_colon sh [] q h c = c
run_colon shape.Fill (terminal.Colon ∷ ss) q h c = absurd cc
run_colon sh (terminal.Colon ∷ ss) q h c = absurd cc
run_colon sh (s ∷ ss) q h c = c

argument_colon : {sh : Shape} {ss : List Terminal} {a : Argument} → IsArgument sh ss a → IsColon ss → ⊥
argument_colon {sh} {ss} (IsArgument.plain {f} form) c = let r = form_reads sh ss f form in run_colon sh ss r.last r.runs c
argument_colon (IsArgument.starred operand form) c = c

separated_colon : {h : Head} {sc sc2 : ScopeView} {ss : List Terminal} {done : List Argument} → Separated h sc ss done sc2 → IsColon ss → ⊥
separated_colon Separated.none c = c
separated_colon (Separated.more {ss} {ts} sep next) c = elim (colon_front ss (ts ++ terminal.Comma ∷ []) c) [
  | inl first ↦ separated_colon sep first
  | inr (none, later) ↦ elim (colon_front ts (terminal.Comma ∷ []) later)
      [ inl first ↦ argument_colon next.is first | inr (none_so, comma) ↦ comma ]
]

pub body_colon : {h : Head} {sc sc2 : ScopeView} {front arg : List Terminal} {done : List Argument} {o : Option Shape}
    → Separated h sc front done sc2 → Opens o arg → IsColon (front ++ arg) → ⊥
body_colon {front} {arg} sep opens c = elim (colon_front front arg c) [
  | inl first ↦ separated_colon sep first
  | inr (none, later) ↦ of_arg opens later
]
  where
    of_arg : {o : Option Shape} {ss : List Terminal} → Opens o ss → IsColon ss → ⊥
    of_arg Opens.nothing c = c
    of_arg (Opens.some {sh} {ss} later a is) c = argument_colon is (more_colon ss later c)

-- ---- the reader in arguments

inners_prefix : (xs ys : List Terminal) (sc : ScopeView) (st : StatementState) (y : Pair) → inners sc st (xs ++ ys) ≡ Ok y → (x : Pair)
    × (inners sc st xs ≡ Ok x) × (inners x.0 x.1 ys ≡ Ok y)
inners_prefix [] ys sc st y h = ((sc, st), refl, h)
inners_prefix (s ∷ ss) ys sc st y h = by_step (inner sc st s) h (λ z k. inners_prefix ss ys z.0 z.1 y k)
  where
    by_step : (r : Answer) → ◌≡◌ {A = Answer} (elim r [ Ok z ↦ inners z.0 z.1 (ss ++ ys) | Err c ↦ Err c ]) (Ok y)
        → ((z : Pair) → inners z.0 z.1 (ss ++ ys) ≡ Ok y → (x : Pair) × (inners z.0 z.1 ss ≡ Ok x) × (inners x.0 x.1 ys ≡ Ok y))
        → (x : Pair) × ◌≡◌ {A = Answer} (elim r [ Ok z ↦ inners z.0 z.1 ss | Err c ↦ Err c ]) (Ok x) × (inners x.0 x.1 ys ≡ Ok y)
    by_step (Ok z) k ih = ih z k
    by_step (Err c) k ih = absurd cc

-- after whole arguments: nothing has been read of the next one
record Fresh (line : ℕ) (h : Head) (done : List Argument) (sc : ScopeView) (x : Pair) : Type 0 where
  so_far : Partial
  is : x ≡ (sc, state.Arguments (open_at line h done false so_far))
  begins : (sh : Shape) → shape_at h (length done) ≡ Some sh → so_far ≡ begun sh
  either : (so_far ≡ partial.Nothing) ⊎ ((sh : Shape) × (shape_at h (length done) ≡ Some sh) × (so_far ≡ begun sh))

comma_none : (sc : ScopeView) (line : ℕ) (h : Head) (done : List Argument) (a : Argument) (q : Partial) → finished q ≡ Some a.form
    → shape_at h (length (done ++ a ∷ [])) ≡ None → argument_step sc (open_at line h done a.star q) terminal.Comma ≡ Err cause.BadArgument
comma_none sc line h done a q fin none = rw (finished_is q a.form fin, fin, none) refl

front_runs : (line : ℕ) {h : Head} {sc sc2 : ScopeView} {ss : List Terminal} {done : List Argument} → Separated h sc ss done sc2
    → (x : Pair) → inners sc (state.Arguments (nothing_yet line h)) ss ≡ Ok x → Fresh line h done sc2 x
front_runs line {h} {sc} Separated.none x e = record {
  so_far = partial.Nothing;
  is = sym (same_pair (sc, state.Arguments (nothing_yet line h)) x e);
  begins = λ sh may. sym (first_shape h sh may);
  either = inl refl;
}
front_runs line {h} {sc} {sc2} (Separated.more {ss} {ts} {before} {a} {sc1} sep next) x e =
    let r = argument_runs line h before next.shape next.may ts a sc1 sc2 next.is next.sees in
    let all : inners sc (state.Arguments (nothing_yet line h)) (ss ++ (ts ++ terminal.Comma ∷ [])) ≡ inners sc2
    (state.Arguments (open_at line h before a.star r.0)) (terminal.Comma ∷ []) =
    inners_append ss (ts ++ terminal.Comma ∷ []) sc (state.Arguments (nothing_yet line h)) _ (separated_runs line sep next.shape next.may)
    ∙ inners_append ts (terminal.Comma ∷ []) sc1 (state.Arguments (open_at line h before false (begun next.shape))) _ r.1 in
    by_shape r.0 r.2 (sym all ∙ e) (shape_at h (length (before ++ a ∷ []))) refl
  where
    by_shape : (q : Partial) → finished q ≡ Some a.form → inners sc2 (state.Arguments (open_at line h before a.star q))
        (terminal.Comma ∷ []) ≡ Ok x → (o : Option Shape) → shape_at h (length (before ++ a ∷ [])) ≡ o
        → Fresh line h (before ++ a ∷ []) sc2 x
    by_shape q fin k None may =
        let one : inners sc2 (state.Arguments (open_at line h before a.star q)) (terminal.Comma ∷ []) ≡ Err cause.BadArgument =
        ap (λ (r : Answer). elim r [ Ok y ↦ inners y.0 y.1 [] | Err c ↦ Err c ]) (comma_none sc2 line h before a q fin may) in
        let none_so : ◌≡◌ {A = Answer} (Err cause.BadArgument) (Ok x) = sym one ∙ k in
        absurd cc
    by_shape q fin k (Some sh) may =
        let one : inners sc2 (state.Arguments (open_at line h before a.star q)) (terminal.Comma ∷ []) ≡ Ok
        (sc2, state.Arguments (open_at line h (before ++ a ∷ []) false (begun sh))) =
        ap (λ (r : Answer). elim r [ Ok y ↦ inners y.0 y.1 [] | Err c ↦ Err c ]) (comma_runs sc2 line h before a q sh fin may) in
        record {
          so_far = begun sh;
          is = sym (same_pair (sc2, state.Arguments (open_at line h (before ++ a ∷ []) false (begun sh))) x (sym one ∙ k));
          begins = λ sh2 may2. ap begun (same_shape sh sh2 (sym may ∙ may2));
          either = inr (sh, may, refl);
        }

-- ---- within an argument, with what the grammar says of it

record Within (sc0 : ScopeView) (line : ℕ) (h : Head) (done : List Argument) (behind : ScopeView) (arg : List Terminal) (sc : ScopeView)
    (o : Open) : Type 0 where
  all : List Terminal
  read : InArguments sc0 line o all sc
  head_is : o.head ≡ h
  done_is : o.arguments ≡ done
  behind_is : read.behind ≡ behind
  arg_is : stars o.star ++ read.arg ≡ arg

within_suits : (sc0 : ScopeView) (line : ℕ) (h : Head) (done : List Argument) (behind : ScopeView) (arg : List Terminal) (sc : ScopeView)
    (o : Open) → Within sc0 line h done behind arg sc o → Suits sc0 (StatementPlace.argument h done behind arg) sc (state.Arguments o)
within_suits sc0 line h done behind arg sc o w =
    let s = arguments_suit sc0 line o w.all sc w.read in
    let one : StatementPlace.argument o.head o.arguments w.read.behind (stars o.star ++ w.read.arg)
    ≡ StatementPlace.argument h done behind arg =
    ap (λ (x : Head). StatementPlace.argument x o.arguments w.read.behind (stars o.star ++ w.read.arg)) w.head_is
    ∙ (ap (λ (x : List Argument). StatementPlace.argument h x w.read.behind (stars o.star ++ w.read.arg)) w.done_is
    ∙ (ap (λ (x : ScopeView). StatementPlace.argument h done x (stars o.star ++ w.read.arg)) w.behind_is
    ∙ ap (λ (x : List Terminal). StatementPlace.argument h done behind x) w.arg_is)) in
    subst (λ (p : StatementPlace). Suits sc0 p sc (state.Arguments o)) one s

-- one terminal of the argument more
record Further (sc0 : ScopeView) (line : ℕ) (h : Head) (done : List Argument) (behind : ScopeView) (arg : List Terminal) (o : Open)
    (y : Pair) : Type 0 where
  is : y ≡ (y.0, state.Arguments o)
  within : Within sc0 line h done behind arg y.0 o

was_spelled : (sc0 : ScopeView) (line : ℕ) (o : Open) (ss : List Terminal) (sc : ScopeView) (w : InArguments sc0 line o ss sc) (sh : Shape)
    → shape_at o.head (length o.arguments) ≡ Some sh → Spelled sh o.so_far w.arg
was_spelled sc0 line o ss sc w sh may = elim w.spelled [
  | inl (e, f) ↦ subst (λ (p : Partial). Spelled sh p w.arg) (sym e) f
  | inr (sh2, may2, sp) ↦ subst (λ (x : Shape). Spelled x o.so_far w.arg) (same_shape sh2 sh (sym may2 ∙ may)) sp
]

module _ (sc0 : ScopeView) (line : ℕ) (h : Head) (done : List Argument) (behind : ScopeView) (arg : List Terminal) (sc : ScopeView)
    (o : Open) (w : Within sc0 line h done behind arg sc o) (sh : Shape) (may : shape_at o.head (length o.arguments) ≡ Some sh)
    (s : Terminal) (q : Partial) (next : next_terminal sh o.so_far s ≡ ok q) (y : Pair) where
  spelled : Spelled sh q (w.read.arg ++ s ∷ [])
  spelled = more sh o.so_far s q w.read.arg (was_spelled sc0 line o w.all sc w.read sh may) next

  advanced : (sc2 : ScopeView) → Sees w.read.behind (defines o.head (length o.arguments)) (named_in q) sc2
      → Within sc0 line h done behind (arg ++ s ∷ []) sc2 (record o { so_far = q })
  unfolding advance
  advanced sc2 sees = record {
    all = w.all ++ s ∷ [];
    read = advance sc0 line o w.all sc y w.read s sh q sc2 may spelled sees;
    head_is = w.head_is;
    done_is = w.done_is;
    behind_is = w.behind_is;
    arg_is = sym (append_assoc (stars o.star) w.read.arg (s ∷ [])) ∙ ap (λ (x : List Terminal). x ++ s ∷ []) w.arg_is;
  }

  at_pair : (sc2 : ScopeView) → Within sc0 line h done behind (arg ++ s ∷ []) sc2 (record o { so_far = q })
      → (sc2, state.Arguments (record o { so_far = q })) ≡ y → Further sc0 line h done behind (arg ++ s ∷ []) (record o { so_far = q }) y
  at_pair sc2 v e =
      let scope : sc2 ≡ y.0 = ap (λ (x : Pair). x.0) e in
      record {
        is = sym e ∙ ap (λ (x : ScopeView). (x, state.Arguments (record o { so_far = q }))) scope;
        within = subst (λ (x : ScopeView). Within sc0 line h done behind (arg ++ s ∷ []) x (record o { so_far = q })) scope v;
      }

  by_noting : (n : List ℕ) → named_in q ≡ Some n → named_in o.so_far ≡ None → (r : Result ScopeView SourceCause)
      → noting sc (defines o.head (length o.arguments)) n ≡ r → after_noting (record o { so_far = q }) r ≡ Ok y
      → Further sc0 line h done behind (arg ++ s ∷ []) (record o { so_far = q }) y
  by_noting n new none (Err c) e k = absurd cc
  by_noting n new none (Ok sc2) e k =
      let same : w.read.behind ≡ sc =
      sees_none w.read.behind sc (defines o.head (length o.arguments)) (named_in o.so_far) none w.read.sees in
      let seen : IsSeen w.read.behind (defines o.head (length o.arguments)) n sc2 =
      subst (λ (x : ScopeView). IsSeen x (defines o.head (length o.arguments)) n sc2) (sym same)
      (noting_seen sc sc2 (defines o.head (length o.arguments)) n e) in
      let sees : Sees w.read.behind (defines o.head (length o.arguments)) (named_in q) sc2 =
      subst (λ (x : Option (List ℕ)). Sees w.read.behind (defines o.head (length o.arguments)) x sc2) (sym new) seen in
      at_pair sc2 (advanced sc2 sees) (same_pair (sc2, state.Arguments (record o { so_far = q })) y k)

  further : argument_step sc o s ≡ Ok y → Further sc0 line h done behind (arg ++ s ∷ []) (record o { so_far = q }) y
  further k = elim (name_step sh o.so_far s q next) [
    | inl t ↦
        let sees : Sees w.read.behind (defines o.head (length o.arguments)) (named_in q) sc =
        subst (λ (x : Option (List ℕ)). Sees w.read.behind (defines o.head (length o.arguments)) x sc) (sym t.1) w.read.sees in
        at_pair sc (advanced sc sees)
        (same_pair (sc, state.Arguments (record o { so_far = q })) y
        (sym (ap (with_name sc (record o { so_far = q })) t.0) ∙ (sym (within_next sc o sh s q may next) ∙ k)))
    | inr (n, a, b, c, d) ↦ by_noting n b c (noting sc (defines o.head (length o.arguments)) n) refl
        (sym (ap (with_name sc (record o { so_far = q })) a) ∙ (sym (within_next sc o sh s q may next) ∙ k))
  ]

-- what has been read at the end of some terminals of the argument
record Reached (sc0 : ScopeView) (line : ℕ) (h : Head) (done : List Argument) (behind : ScopeView) (arg : List Terminal)
    (y : Pair) : Type 0 where
  reader : Open
  is : y.1 ≡ state.Arguments reader
  within : Within sc0 line h done behind arg y.0 reader

args_run : (sc0 : ScopeView) (line : ℕ) (h : Head) (done : List Argument) (behind : ScopeView) (sh : Shape) (rest arg : List Terminal)
    (sc : ScopeView) (o : Open) (q : Partial) (fin : Pair) → Within sc0 line h done behind arg sc o
    → shape_at o.head (length o.arguments) ≡ Some sh
    → operand_run sh o.so_far rest ≡ ok q → inners sc (state.Arguments o) rest ≡ Ok fin → Reached sc0 line h done behind (arg ++ rest) fin
args_run sc0 line h done behind sh [] arg sc o q fin w may run k =
    let e : (sc, state.Arguments o) ≡ fin = same_pair (sc, state.Arguments o) fin k in
    record {
      reader = o;
      is = sym (ap (λ (x : Pair). x.1) e);
      within = subst (λ (x : ScopeView). Within sc0 line h done behind (arg ++ []) x o) (ap (λ (x : Pair). x.0) e)
          (subst (λ (x : List Terminal). Within sc0 line h done behind x sc o) (sym (append-nil arg)) w);
    }
args_run sc0 line h done behind sh (s ∷ rest) arg sc o q fin w may run k =
    by_step (next_terminal sh o.so_far s) refl run
    (λ x r y f g. args_run sc0 line h done behind sh rest (arg ++ s ∷ []) y.0 (record o { so_far = x }) q fin f.within may r g)
  where
    by_read : (x : Partial) → next_terminal sh o.so_far s ≡ ok x → operand_run sh x rest ≡ ok q → (r : Answer) → argument_step sc o s ≡ r
        → ◌≡◌ {A = Answer} (elim r [ Ok y ↦ inners y.0 y.1 rest | Err c ↦ Err c ]) (Ok fin)
        → ((x : Partial) → operand_run sh x rest ≡ ok q → (y : Pair) → Further sc0 line h done behind (arg ++ s ∷ [])
        (record o { so_far = x }) y → inners y.0 (state.Arguments (record o { so_far = x })) rest ≡ Ok fin
        → Reached sc0 line h done behind ((arg ++ s ∷ []) ++ rest) fin)
        → Reached sc0 line h done behind (arg ++ s ∷ rest) fin
    by_read x e run2 (Err c) f g ih = absurd cc
    by_read x e run2 (Ok y) f g ih =
        let t = further sc0 line h done behind arg sc o w sh may s x e y f in
        let g2 : inners y.0 (state.Arguments (record o { so_far = x })) rest ≡ Ok fin =
        ap (λ (z : Pair). inners z.0 z.1 rest) (sym t.is) ∙ g in
        subst (λ (z : List Terminal). Reached sc0 line h done behind z fin) (append_assoc arg (s ∷ []) rest) (ih x run2 y t g2)

    by_step : (r : Result Partial SourceCause) → next_terminal sh o.so_far s ≡ r
        → ◌≡◌ {A = Result Partial SourceCause} (elim r [ Ok x ↦ operand_run sh x rest | Err c ↦ Err c ]) (Ok q)
        → ((x : Partial) → operand_run sh x rest ≡ ok q → (y : Pair) → Further sc0 line h done behind (arg ++ s ∷ [])
        (record o { so_far = x }) y → inners y.0 (state.Arguments (record o { so_far = x })) rest ≡ Ok fin
        → Reached sc0 line h done behind ((arg ++ s ∷ []) ++ rest) fin)
        → Reached sc0 line h done behind (arg ++ s ∷ rest) fin
    by_step (Err c) e run2 ih = absurd cc
    by_step (Ok x) e run2 ih = by_read x e run2 (argument_step sc o s) refl k ih

-- ---- from the grammar's words to the reader's state

leads_end : {sc0 : ScopeView} {h : Head} {lead : List Terminal} (line : ℕ) → Leads sc0 h lead → EndsStatement sc0 line lead h
leads_end line (Leads.instruction go dotted rep) = λ ss args sc2 has count. Statement.instruction go dotted rep has
leads_end line (Leads.repeated go dotted rep) = λ ss args sc2 has count. Statement.repeated go dotted rep has
leads_end line (Leads.directive go dotted dir list) = λ ss args sc2 has count. Statement.directive go dotted dir list has count

nothing_solid : is_unbegun partial.Nothing ≡ false → ⊥
nothing_solid e = absurd cc

module _ (sc0 : ScopeView) (line : ℕ) (h : Head) (lead front : List Terminal) (done : List Argument) (behind : ScopeView)
    (leads : Leads sc0 h lead) (sep : Separated h sc0 front done behind) where
  fresh_within : (p : Partial) → (p ≡ partial.Nothing) ⊎ ((sh : Shape) × (shape_at h (length done) ≡ Some sh) × (p ≡ begun sh))
      → (star : Bool) → (star ≡ true → is_instruction h ≡ true) → Within sc0 line h done behind (stars star) behind
      (open_at line h done star p)
  fresh_within p either star starred = record {
    all = lead ++ (front ++ (stars star ++ []));
    read = record {
      lead = lead;
      front = front;
      arg = [];
      behind = behind;
      leads = leads;
      ends = leads_end line leads;
      same_line = refl;
      separated = sep;
      spelled =
          elim either [
            | inl e ↦ inl (e, refl)
            | inr (sh, may, e) ↦
                inr (sh, may, subst (λ (x : Partial). Spelled sh x []) (sym e) (begun_spelled sh))
          ];
      solid =
          λ u e. elim either [
            | inl f ↦ nothing_solid (ap is_unbegun (sym f) ∙ u)
            | inr (sh, may, f) ↦ begun_solid sh
                (ap is_unbegun (sym f) ∙ u)
          ];
      starred = starred;
      sees = subst (λ (x : Option (List ℕ)). Sees behind (defines h (length done)) x behind) (sym (unnamed either)) refl;
      whole = refl;
    };
    head_is = refl;
    done_is = refl;
    behind_is = refl;
    arg_is = append-nil (stars star);
  }
    where
      unnamed : (p ≡ partial.Nothing) ⊎ ((sh : Shape) × (shape_at h (length done) ≡ Some sh) × (p ≡ begun sh)) → named_in p ≡ None
      unnamed (inl e) = ap named_in e
      unnamed (inr (sh, may, e)) = ap named_in e ∙ begun_unnamed sh

  -- an argument of this shape, a star after which is read already or stands first
  shaped : (sh : Shape) → shape_at h (length done) ≡ Some sh → (ss later : List Terminal) (a : Argument) (p : Partial) (fin : Pair)
      → p ≡ begun sh → (xs : List Terminal) → xs ≡ ss ++ later → IsArgument sh xs a
      → inners behind (state.Arguments (open_at line h done false p)) ss ≡ Ok fin → Reached sc0 line h done behind ss fin
  shaped sh may ss later a p fin is xs e (IsArgument.plain {f} form) k =
      let r = form_reads sh xs f form in
      let run : operand_run sh p (ss ++ later) ≡ ok r.last =
      ap (λ (x : Partial). operand_run sh x (ss ++ later)) is ∙ (ap (operand_run sh (begun sh)) (sym e) ∙ r.runs) in
      let front_run = run_prefix sh ss later p r.last run in
      args_run sc0 line h done behind sh ss [] behind (open_at line h done false p) front_run.0 fin
      (fresh_within p (inr (sh, may, is)) false (λ none_so. absurd cc)) may front_run.1 k
  shaped sh may [] later a p fin is xs e (IsArgument.starred operand form) k =
      let same : (behind, state.Arguments (open_at line h done false p)) ≡ fin =
      same_pair (behind, state.Arguments (open_at line h done false p)) fin k in
      record {
        reader = open_at line h done false p;
        is = sym (ap (λ (x : Pair). x.1) same);
        within = subst (λ (x : ScopeView). Within sc0 line h done behind [] x (open_at line h done false p)) (ap (λ (x : Pair). x.0) same)
            (fresh_within p (inr (sh, may, is)) false (λ none_so. absurd cc));
      }
  shaped sh may (s ∷ ss) later a p fin is xs e (IsArgument.starred {ss = rest} {f} operand form) k =
      let first : terminal.Star ≡ s = cc in
      let others : rest ≡ ss ++ later = cc in
      let r = form_reads sh rest f form in
      let run : operand_run sh p (ss ++ later) ≡ ok r.last =
      ap (λ (x : Partial). operand_run sh x (ss ++ later)) is ∙ (ap (operand_run sh (begun sh)) (sym others) ∙ r.runs) in
      let front_run = run_prefix sh ss later p r.last run in
      let takes : argument_step behind (open_at line h done false p) terminal.Star ≡ Ok
      (behind, state.Arguments (open_at line h done true p)) =
      rw (is, operand_begun sh operand, operand_head h (length done) sh may operand) refl in
      let k2 : inners behind (state.Arguments (open_at line h done true p)) ss ≡ Ok fin =
      sym (ap (λ (x : Answer). elim x [ Ok y ↦ inners y.0 y.1 ss | Err c ↦ Err c ]) takes)
      ∙ (ap (λ (x : Terminal). inners behind (state.Arguments (open_at line h done false p)) (x ∷ ss)) first ∙ k) in
      let reached = args_run sc0 line h done behind sh ss (terminal.Star ∷ []) behind (open_at line h done true p) front_run.0 fin
      (fresh_within p (inr (sh, may, is)) true (λ _. operand_head h (length done) sh may operand)) may front_run.1 k2 in
      subst (λ (x : Terminal). Reached sc0 line h done behind (x ∷ ss) fin) first reached

  opened : (o : Option Shape) (arg : List Terminal) → shape_at h (length done) ≡ o → Opens o arg → (p : Partial)
      → ((sh : Shape) → shape_at h (length done) ≡ Some sh → p ≡ begun sh) → (p ≡ partial.Nothing)
      ⊎ ((sh : Shape) × (shape_at h (length done) ≡ Some sh) × (p ≡ begun sh))
      → (fin : Pair) → inners behind (state.Arguments (open_at line h done false p)) arg ≡ Ok fin → Reached sc0 line h done behind arg fin
  opened o arg may Opens.nothing p begins either fin k =
      let same : (behind, state.Arguments (open_at line h done false p)) ≡ fin =
      same_pair (behind, state.Arguments (open_at line h done false p)) fin k in
      record {
        reader = open_at line h done false p;
        is = sym (ap (λ (x : Pair). x.1) same);
        within = subst (λ (x : ScopeView). Within sc0 line h done behind [] x (open_at line h done false p)) (ap (λ (x : Pair). x.0) same)
            (fresh_within p either false (λ none_so. absurd cc));
      }
  opened o arg may (Opens.some {sh} later a is) p begins either fin k =
      shaped sh may arg later a p fin (begins sh may) (arg ++ later) refl is k

  -- What has been read after the lead suits the place.
  pub arguments_reached : (arg : List Terminal) → Opens (shape_at h (length done)) arg → (fin : Pair)
      → inners sc0 (state.Arguments (nothing_yet line h)) (front ++ arg) ≡ Ok fin
      → Suits sc0 (StatementPlace.argument h done behind arg) fin.0 fin.1
  arguments_reached arg opens fin k =
      let two = inners_prefix front arg sc0 (state.Arguments (nothing_yet line h)) fin k in
      let f = front_runs line sep two.0 two.1 in
      let k2 : inners behind (state.Arguments (open_at line h done false f.so_far)) arg ≡ Ok fin =
      ap (λ (x : Pair). inners x.0 x.1 arg) (sym f.is) ∙ two.2 in
      let r = opened (shape_at h (length done)) arg refl opens f.so_far f.begins f.either fin k2 in
      subst (λ (x : StatementState). Suits sc0 (StatementPlace.argument h done behind arg) fin.0 x) (sym r.is)
      (within_suits sc0 line h done behind arg fin.0 r.reader r.within)
