-- The name in an argument: where it is seen, and that it stays.
use Rattle.std.proofs.Common.{◌≡◌, ℕ, Bool, true, false, cond, List, [], ◌∷◌, Option, Some, None, Result, Ok, Err, refl, ap, subst, ◌∙◌, ◌⊎◌, inl, inr}
use Rattle.std.specs.Prelude.{pos, not}
use Rattle.asm_lex.specs.declared.fault.SourceCause.{SourceCause}
use Rattle.asm_lex.specs.declared.fault.SourceCause.TheVariants as cause
use Rattle.asm_argument.specs.declared.terminal.Terminal.{Terminal}
use Rattle.asm_argument.specs.declared.terminal.Terminal.TheVariants as terminal
use Rattle.asm_argument.specs.declared.shape.Shape.{Shape}
use Rattle.asm_argument.specs.declared.operand.ValuePlace.TheVariants as place
use Rattle.asm_argument.specs.declared.operand.Partial.{Partial}
use Rattle.asm_argument.specs.declared.operand.Partial.TheVariants as partial
use Rattle.asm_source.specs.declared.tree.Form.{Form}
use Rattle.asm_source.specs.declared.tree.Form.TheVariants as form
use Rattle.asm_statement.specs.ScopeView.{ScopeView}
use Rattle.asm_source.specs.Names.{holds, name_of, symbol_in}
use Rattle.asm_statement.specs.Scope.{has_room, noted, defined_too}
use Rattle.asm_argument.specs.Operand.{is_nothing, first, allowed, counted, lowered, registered, next_terminal, operand_step, finished, is_finished, name_in}
use Rattle.asm_argument.specs.Shapes.{is_operand, takes_names, takes_sums, takes_minus, takes_numbers, takes_text, fits, signed, named, plain, is_register, is_scale, is_low}
use Rattle.asm_statement.specs.Statement.{noting}
use Rattle.asm_parse.specs.Statements.{IsSeen}
use Rattle.asm_argument.proofs.Operands.{ok, registered_ok, allowed_ok, counted_ok, lowered_ok, scale_ok, ok_is, operand_run}

pub seen_noting : {sc sc2 : ScopeView} {d : Bool} {n : List ℕ} → IsSeen sc d n sc2 → noting sc d n ≡ Ok sc2
seen_noting (IsSeen.used room) = rw room refl
seen_noting (IsSeen.defined new room) = rw (new, room) refl

pub noting_seen : (sc sc2 : ScopeView) (d : Bool) (n : List ℕ) → noting sc d n ≡ Ok sc2 → IsSeen sc d n sc2
noting_seen sc sc2 true n h = by_tests (holds sc.defined n) (has_room sc n) refl refl h
  where
    by_tests : (t u : Bool) → holds sc.defined n ≡ t → has_room sc n ≡ u
        → ◌≡◌ {A = Result ScopeView SourceCause}
        (cond t (Err cause.DoubledLabel) (cond (not u) (Err cause.TooManySymbols) (Ok (defined_too (noted sc n) n)))) (Ok sc2)
        → IsSeen sc true n sc2
    by_tests true u e f h = absurd cc
    by_tests false false e f h = absurd cc
    by_tests false true e f h = let g : defined_too (noted sc n) n ≡ sc2 = cc in subst (IsSeen sc true n) g (IsSeen.defined e f)
noting_seen sc sc2 false n h = by_test (has_room sc n) refl h
  where
    by_test : (u : Bool) → has_room sc n ≡ u
        → ◌≡◌ {A = Result ScopeView SourceCause} (cond (not u) (Err cause.TooManySymbols) (Ok (noted sc n))) (Ok sc2)
        → IsSeen sc false n sc2
    by_test false f h = absurd cc
    by_test true f h = let g : noted sc n ≡ sc2 = cc in subst (IsSeen sc false n) g (IsSeen.used f)

-- the name in what has been read of an argument
abbrev pub named_in : Partial → Option (List ℕ)
named_in (partial.Name p n) = Some n
named_in (partial.Sign p n neg) = Some n
named_in (partial.SignMinus p n neg) = Some n
named_in (partial.Number p v) = v.name
named_in (partial.Open v) = name_of v
named_in (partial.BasePercent v) = name_of v
named_in (partial.Base v b) = name_of v
named_in (partial.IndexComma v b) = name_of v
named_in (partial.IndexPercent v b) = name_of v
named_in (partial.Index v b i) = name_of v
named_in (partial.Scale v b i) = name_of v
named_in (partial.Scaled v b i s) = name_of v
named_in (partial.Whole f) = symbol_in f
named_in _ = None

-- one terminal more: no name is read, or the first one
abbrev pub Keeps : Partial → Terminal → Partial → Type 0
Keeps p s q = ((name_in q ≡ None) × (named_in q ≡ named_in p))
    ⊎ ((n : List ℕ) × (name_in q ≡ Some n) × (named_in q ≡ Some n) × (named_in p ≡ None) × (s ≡ terminal.Name n))

pub name_step : (sh : Shape) (p : Partial) (s : Terminal) (q : Partial) → next_terminal sh p s ≡ ok q → Keeps p s q
name_step sh partial.Nothing terminal.Percent q h =
    subst (Keeps partial.Nothing terminal.Percent) (allowed_ok (is_operand sh) partial.Percent q h).1 (inl (refl, refl))
name_step sh partial.Nothing terminal.Dollar q h =
    subst (Keeps partial.Nothing terminal.Dollar) (allowed_ok (is_operand sh) partial.Dollar q h).1 (inl (refl, refl))
name_step sh partial.Nothing terminal.Open q h =
    subst (Keeps partial.Nothing terminal.Open) (allowed_ok (is_operand sh) (partial.Open None) q h).1 (inl (refl, refl))
name_step sh partial.Nothing terminal.Minus q h =
    subst (Keeps partial.Nothing terminal.Minus) (allowed_ok (takes_minus sh) (partial.Minus place.Memory) q h).1 (inl (refl, refl))
name_step sh partial.Nothing (terminal.Number n) q h = subst (Keeps partial.Nothing (terminal.Number n))
    (counted_ok (takes_numbers sh) (fits sh false n) (partial.Number place.Memory (plain (pos n))) q h).2 (inl (refl, refl))
name_step sh partial.Nothing (terminal.Name n) q h = subst (Keeps partial.Nothing (terminal.Name n))
    (allowed_ok (takes_names sh) (partial.Name place.Memory n) q h).1 (inr (n, refl, refl, refl, refl))
name_step sh partial.Nothing (terminal.Text t) q h =
    subst (Keeps partial.Nothing (terminal.Text t)) (allowed_ok (takes_text sh) (partial.Whole (form.Text t)) q h).1 (inl (refl, refl))
name_step sh partial.Nothing _ q h = absurd cc
name_step sh partial.Absent terminal.Percent q h =
    subst (Keeps partial.Absent terminal.Percent) (allowed_ok (is_operand sh) partial.Percent q h).1 (inl (refl, refl))
name_step sh partial.Absent terminal.Dollar q h =
    subst (Keeps partial.Absent terminal.Dollar) (allowed_ok (is_operand sh) partial.Dollar q h).1 (inl (refl, refl))
name_step sh partial.Absent terminal.Open q h =
    subst (Keeps partial.Absent terminal.Open) (allowed_ok (is_operand sh) (partial.Open None) q h).1 (inl (refl, refl))
name_step sh partial.Absent terminal.Minus q h =
    subst (Keeps partial.Absent terminal.Minus) (allowed_ok (takes_minus sh) (partial.Minus place.Memory) q h).1 (inl (refl, refl))
name_step sh partial.Absent (terminal.Number n) q h = subst (Keeps partial.Absent (terminal.Number n))
    (counted_ok (takes_numbers sh) (fits sh false n) (partial.Number place.Memory (plain (pos n))) q h).2 (inl (refl, refl))
name_step sh partial.Absent (terminal.Name n) q h = subst (Keeps partial.Absent (terminal.Name n))
    (allowed_ok (takes_names sh) (partial.Name place.Memory n) q h).1 (inr (n, refl, refl, refl, refl))
name_step sh partial.Absent (terminal.Text t) q h =
    subst (Keeps partial.Absent (terminal.Text t)) (allowed_ok (takes_text sh) (partial.Whole (form.Text t)) q h).1 (inl (refl, refl))
name_step sh partial.Absent _ q h = absurd cc
name_step sh partial.Percent (terminal.Name r) q h = subst (Keeps partial.Percent (terminal.Name r))
    (registered_ok (is_register r) (partial.Whole (form.Register r)) q h).1 (inl (refl, refl))
name_step sh partial.Percent _ q h = absurd cc
name_step sh partial.Dollar terminal.Minus q h =
    subst (Keeps partial.Dollar terminal.Minus) (ok_is (partial.Minus place.Immediate) q h) (inl (refl, refl))
name_step sh partial.Dollar (terminal.Number n) q h =
    subst (Keeps partial.Dollar (terminal.Number n)) (ok_is (partial.Number place.Immediate (plain (pos n))) q h) (inl (refl, refl))
name_step sh partial.Dollar (terminal.Name n) q h =
    subst (Keeps partial.Dollar (terminal.Name n)) (ok_is (partial.Name place.Immediate n) q h) (inr (n, refl, refl, refl, refl))
name_step sh partial.Dollar _ q h = absurd cc
name_step sh (partial.Minus a) (terminal.Number n) q h = subst (Keeps (partial.Minus a) (terminal.Number n))
    (lowered_ok n (fits sh true n) (partial.Number a (plain (signed true n))) q h).2 (inl (refl, refl))
name_step sh (partial.Minus a) _ q h = absurd cc
name_step sh (partial.Name a n) terminal.Plus q h =
    subst (Keeps (partial.Name a n) terminal.Plus) (allowed_ok (takes_sums sh) (partial.Sign a n false) q h).1 (inl (refl, refl))
name_step sh (partial.Name a n) terminal.Minus q h =
    subst (Keeps (partial.Name a n) terminal.Minus) (allowed_ok (takes_sums sh) (partial.Sign a n true) q h).1 (inl (refl, refl))
name_step sh (partial.Name place.Memory n) terminal.Open q h = subst (Keeps (partial.Name place.Memory n) terminal.Open)
    (allowed_ok (is_operand sh) (partial.Open (Some (named n (pos 0)))) q h).1 (inl (refl, refl))
name_step sh (partial.Name place.Immediate n) terminal.Open q h = absurd cc
name_step sh (partial.Name a n) _ q h = absurd cc
name_step sh (partial.Sign a n neg) terminal.Minus q h =
    subst (Keeps (partial.Sign a n neg) terminal.Minus) (ok_is (partial.SignMinus a n neg) q h) (inl (refl, refl))
name_step sh (partial.Sign a n neg) (terminal.Number k) q h =
    subst (Keeps (partial.Sign a n neg) (terminal.Number k)) (ok_is (partial.Number a (named n (signed neg k))) q h) (inl (refl, refl))
name_step sh (partial.Sign a n neg) _ q h = absurd cc
name_step sh (partial.SignMinus a n neg) (terminal.Number k) q h = subst (Keeps (partial.SignMinus a n neg) (terminal.Number k))
    (lowered_ok k true (partial.Number a (named n (signed (not neg) k))) q h).2 (inl (refl, refl))
name_step sh (partial.SignMinus a n neg) _ q h = absurd cc
name_step sh (partial.Number place.Memory v) terminal.Open q h = subst (Keeps (partial.Number place.Memory v) terminal.Open)
    (allowed_ok (is_operand sh) (partial.Open (Some v)) q h).1 (inl (refl, refl))
name_step sh (partial.Number place.Immediate v) terminal.Open q h = absurd cc
name_step sh (partial.Number a v) _ q h = absurd cc
name_step sh (partial.Open v) terminal.Percent q h =
    subst (Keeps (partial.Open v) terminal.Percent) (ok_is (partial.BasePercent v) q h) (inl (refl, refl))
name_step sh (partial.Open v) terminal.Comma q h =
    subst (Keeps (partial.Open v) terminal.Comma) (ok_is (partial.IndexComma v None) q h) (inl (refl, refl))
name_step sh (partial.Open v) _ q h = absurd cc
name_step sh (partial.BasePercent v) (terminal.Name r) q h =
    subst (Keeps (partial.BasePercent v) (terminal.Name r)) (registered_ok (is_register r) (partial.Base v r) q h).1 (inl (refl, refl))
name_step sh (partial.BasePercent v) _ q h = absurd cc
name_step sh (partial.Base v b) terminal.Close q h =
    subst (Keeps (partial.Base v b) terminal.Close) (ok_is (partial.Whole (form.Memory v (Some b) None 1)) q h) (inl (refl, refl))
name_step sh (partial.Base v b) terminal.Comma q h =
    subst (Keeps (partial.Base v b) terminal.Comma) (ok_is (partial.IndexComma v (Some b)) q h) (inl (refl, refl))
name_step sh (partial.Base v b) _ q h = absurd cc
name_step sh (partial.IndexComma v b) terminal.Percent q h =
    subst (Keeps (partial.IndexComma v b) terminal.Percent) (ok_is (partial.IndexPercent v b) q h) (inl (refl, refl))
name_step sh (partial.IndexComma v b) _ q h = absurd cc
name_step sh (partial.IndexPercent v b) (terminal.Name r) q h = subst (Keeps (partial.IndexPercent v b) (terminal.Name r))
    (registered_ok (is_register r) (partial.Index v b r) q h).1 (inl (refl, refl))
name_step sh (partial.IndexPercent v b) _ q h = absurd cc
name_step sh (partial.Index v b i) terminal.Close q h =
    subst (Keeps (partial.Index v b i) terminal.Close) (ok_is (partial.Whole (form.Memory v b (Some i) 1)) q h) (inl (refl, refl))
name_step sh (partial.Index v b i) terminal.Comma q h =
    subst (Keeps (partial.Index v b i) terminal.Comma) (ok_is (partial.Scale v b i) q h) (inl (refl, refl))
name_step sh (partial.Index v b i) _ q h = absurd cc
name_step sh (partial.Scale v b i) (terminal.Number n) q h =
    subst (Keeps (partial.Scale v b i) (terminal.Number n)) (scale_ok n (partial.Scaled v b i n) q h).1 (inl (refl, refl))
name_step sh (partial.Scale v b i) _ q h = absurd cc
name_step sh (partial.Scaled v b i n) terminal.Close q h =
    subst (Keeps (partial.Scaled v b i n) terminal.Close) (ok_is (partial.Whole (form.Memory v b (Some i) n)) q h) (inl (refl, refl))
name_step sh (partial.Scaled v b i n) _ q h = absurd cc
name_step sh (partial.Whole f) _ q h = absurd cc

pub none_some : {A : Type 0} {a : A} (o : Option A) → o ≡ None → o ≡ Some a → ⊥
none_some o e f = absurd cc

-- a name stays
pub name_stays : (sh : Shape) (ss : List Terminal) (p q : Partial) (n : List ℕ) → operand_run sh p ss ≡ ok q → named_in p ≡ Some n
    → named_in q ≡ Some n
name_stays sh [] p q n h e = let g : p ≡ q = cc in subst (λ (x : Partial). named_in x ≡ Some n) g e
name_stays sh (s ∷ ss) p q n h e = by_step (next_terminal sh p s) refl h (λ x f g. name_stays sh ss x q n f g)
  where
    by_step : (r : Result Partial SourceCause) → next_terminal sh p s ≡ r
        → ◌≡◌ {A = Result Partial SourceCause} (elim r [ Ok x ↦ operand_run sh x ss | Err c ↦ Err c ]) (Ok q)
        → ((x : Partial) → operand_run sh x ss ≡ ok q → named_in x ≡ Some n → named_in q ≡ Some n) → named_in q ≡ Some n
    by_step (Ok x) f h ih = elim (name_step sh p s x f) [
      | inl k ↦ ih x h (k.1 ∙ e)
      | inr (m, a, b, c, d) ↦ absurd (none_some (named_in p) c e)
    ]
    by_step (Err c) f h ih = absurd cc

pub finished_named : (p : Partial) (f : Form) → finished p ≡ Some f → named_in p ≡ symbol_in f
finished_named (partial.Name place.Immediate n) f h = let g : form.Immediate (named n (pos 0)) ≡ f = cc in ap symbol_in g
finished_named (partial.Name place.Memory n) f h = let g : form.Memory (Some (named n (pos 0))) None None 1 ≡ f = cc in ap symbol_in g
finished_named (partial.Number place.Immediate v) f h = let g : form.Immediate v ≡ f = cc in ap symbol_in g
finished_named (partial.Number place.Memory v) f h = let g : form.Memory (Some v) None None 1 ≡ f = cc in ap symbol_in g
finished_named (partial.Whole x) f h = let g : x ≡ f = cc in ap symbol_in g
finished_named partial.Absent f h = let g : form.Absent ≡ f = cc in ap symbol_in g
finished_named _ f h = absurd cc

pub finished_is : (p : Partial) (f : Form) → finished p ≡ Some f → is_finished p ≡ true
finished_is (partial.Name a n) f h = refl
finished_is (partial.Number a v) f h = refl
finished_is (partial.Whole x) f h = refl
finished_is partial.Absent f h = refl
finished_is _ f h = absurd cc

pub is_finished_some : (p : Partial) → is_finished p ≡ true → (f : Form) × (finished p ≡ Some f)
is_finished_some (partial.Name place.Immediate n) h = (_, refl)
is_finished_some (partial.Name place.Memory n) h = (_, refl)
is_finished_some (partial.Number place.Immediate v) h = (_, refl)
is_finished_some (partial.Number place.Memory v) h = (_, refl)
is_finished_some (partial.Whole x) h = (_, refl)
is_finished_some partial.Absent h = (_, refl)
is_finished_some _ h = absurd cc

-- the terminals with which no argument goes on
pub no_star : (sh : Shape) (p q : Partial) → next_terminal sh p terminal.Star ≡ ok q → ⊥
no_star sh p q h = by_partial p h
  where
    by_partial : (p : Partial) → next_terminal sh p terminal.Star ≡ ok q → ⊥
    by_partial partial.Nothing h = absurd cc
    by_partial partial.Absent h = absurd cc
    by_partial _ h = absurd cc

pub no_end_terminal : (sh : Shape) (p q : Partial) → next_terminal sh p terminal.End ≡ ok q → ⊥
no_end_terminal sh p q h = by_partial p h
  where
    by_partial : (p : Partial) → next_terminal sh p terminal.End ≡ ok q → ⊥
    by_partial partial.Nothing h = absurd cc
    by_partial partial.Absent h = absurd cc
    by_partial _ h = absurd cc

pub no_big : (sh : Shape) (p q : Partial) → next_terminal sh p terminal.Big ≡ ok q → ⊥
no_big sh p q h = by_partial p h
  where
    by_partial : (p : Partial) → next_terminal sh p terminal.Big ≡ ok q → ⊥
    by_partial partial.Nothing h = absurd cc
    by_partial partial.Absent h = absurd cc
    by_partial _ h = absurd cc

pub no_comma : (sh : Shape) (p q : Partial) → next_terminal sh p terminal.Comma ≡ ok q → is_finished p ≡ false
no_comma sh (partial.Name a n) q h = absurd cc
no_comma sh (partial.Number a v) q h = absurd cc
no_comma sh (partial.Whole f) q h = absurd cc
no_comma sh partial.Absent q h = absurd cc
no_comma sh _ q h = refl

pub operand_next : (sh : Shape) (p : Partial) (s : Terminal) (q : Partial) → operand_step sh p s ≡ ok q → next_terminal sh p s ≡ ok q
operand_next sh p terminal.Big q h = absurd cc
operand_next sh p _ q h = h

-- what has been read of an argument is something
abbrev pub IsSome : Result Partial SourceCause → Type 0
IsSome (Ok q) = is_nothing q ≡ false
IsSome (Err c) = Unit {0}

allowed_some : (t : Bool) (q : Partial) → is_nothing q ≡ false → IsSome (allowed t q)
allowed_some true q h = h
allowed_some false q h = tt

counted_some : (t u : Bool) (q : Partial) → is_nothing q ≡ false → IsSome (counted t u q)
counted_some true true q h = h
counted_some true false q h = tt
counted_some false u q h = tt

registered_some : (t : Bool) (q : Partial) → is_nothing q ≡ false → IsSome (registered t q)
registered_some true q h = h
registered_some false q h = tt

some_either : (t : Bool) (a b : Result Partial SourceCause) → IsSome a → IsSome b → IsSome (cond t a b)
some_either true a b p q = p
some_either false a b p q = q

first_some : (sh : Shape) (s : Terminal) → IsSome (first sh s)
first_some sh terminal.Percent = allowed_some (is_operand sh) partial.Percent refl
first_some sh terminal.Dollar = allowed_some (is_operand sh) partial.Dollar refl
first_some sh terminal.Open = allowed_some (is_operand sh) (partial.Open None) refl
first_some sh terminal.Minus = allowed_some (takes_minus sh) (partial.Minus place.Memory) refl
first_some sh (terminal.Number n) = counted_some (takes_numbers sh) (fits sh false n) (partial.Number place.Memory (plain (pos n))) refl
first_some sh (terminal.Name n) = allowed_some (takes_names sh) (partial.Name place.Memory n) refl
first_some sh (terminal.Text t) = allowed_some (takes_text sh) (partial.Whole (form.Text t)) refl
first_some sh _ = tt

lowered_some : (n : ℕ) (t : Bool) (q : Partial) → is_nothing q ≡ false → IsSome (lowered n t q)
lowered_some n t q h = some_either (is_low n) (counted true t q) (Err cause.BadNumber) (counted_some true t q h) tt

pub terminal_some : (sh : Shape) (p : Partial) (s : Terminal) → IsSome (next_terminal sh p s)
terminal_some sh partial.Nothing s = first_some sh s
terminal_some sh partial.Absent s = first_some sh s
terminal_some sh partial.Percent (terminal.Name r) = registered_some (is_register r) (partial.Whole (form.Register r)) refl
terminal_some sh partial.Percent _ = tt
terminal_some sh partial.Dollar terminal.Minus = refl
terminal_some sh partial.Dollar (terminal.Number n) = refl
terminal_some sh partial.Dollar (terminal.Name n) = refl
terminal_some sh partial.Dollar _ = tt
terminal_some sh (partial.Minus a) (terminal.Number n) = lowered_some n (fits sh true n) (partial.Number a (plain (signed true n))) refl
terminal_some sh (partial.Minus a) _ = tt
terminal_some sh (partial.Name a n) terminal.Plus = allowed_some (takes_sums sh) (partial.Sign a n false) refl
terminal_some sh (partial.Name a n) terminal.Minus = allowed_some (takes_sums sh) (partial.Sign a n true) refl
terminal_some sh (partial.Name place.Memory n) terminal.Open = allowed_some (is_operand sh) (partial.Open (Some (named n (pos 0)))) refl
terminal_some sh (partial.Name place.Immediate n) terminal.Open = tt
terminal_some sh (partial.Name a n) _ = tt
terminal_some sh (partial.Sign a n neg) terminal.Minus = refl
terminal_some sh (partial.Sign a n neg) (terminal.Number k) = refl
terminal_some sh (partial.Sign a n neg) _ = tt
terminal_some sh (partial.SignMinus a n neg) (terminal.Number k) =
    lowered_some k true (partial.Number a (named n (signed (not neg) k))) refl
terminal_some sh (partial.SignMinus a n neg) _ = tt
terminal_some sh (partial.Number place.Memory v) terminal.Open = allowed_some (is_operand sh) (partial.Open (Some v)) refl
terminal_some sh (partial.Number place.Immediate v) terminal.Open = tt
terminal_some sh (partial.Number a v) _ = tt
terminal_some sh (partial.Open v) terminal.Percent = refl
terminal_some sh (partial.Open v) terminal.Comma = refl
terminal_some sh (partial.Open v) _ = tt
terminal_some sh (partial.BasePercent v) (terminal.Name r) = registered_some (is_register r) (partial.Base v r) refl
terminal_some sh (partial.BasePercent v) _ = tt
terminal_some sh (partial.Base v b) terminal.Close = refl
terminal_some sh (partial.Base v b) terminal.Comma = refl
terminal_some sh (partial.Base v b) _ = tt
terminal_some sh (partial.IndexComma v b) terminal.Percent = refl
terminal_some sh (partial.IndexComma v b) _ = tt
terminal_some sh (partial.IndexPercent v b) (terminal.Name r) = registered_some (is_register r) (partial.Index v b r) refl
terminal_some sh (partial.IndexPercent v b) _ = tt
terminal_some sh (partial.Index v b i) terminal.Close = refl
terminal_some sh (partial.Index v b i) terminal.Comma = refl
terminal_some sh (partial.Index v b i) _ = tt
terminal_some sh (partial.Scale v b i) (terminal.Number n) =
    some_either (is_scale n) (Ok (partial.Scaled v b i n)) (Err cause.BadScale) refl tt
terminal_some sh (partial.Scale v b i) _ = tt
terminal_some sh (partial.Scaled v b i n) terminal.Close = refl
terminal_some sh (partial.Scaled v b i n) _ = tt
terminal_some sh (partial.Whole f) _ = tt
