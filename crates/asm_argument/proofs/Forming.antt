-- The terminals of an argument are read as its form.
use Rattle.std.proofs.Common.{◌≡◌, ℕ, Bool, true, false, List, [], ◌∷◌, ◌++◌, Option, Some, None, Result, Ok, Err, refl, ap, subst, ◌∙◌, ◌⊎◌, inl, inr}
use Rattle.std.specs.Prelude.{ℤ, pos}
use Rattle.asm_lex.specs.declared.fault.SourceCause.{SourceCause}
use Rattle.asm_argument.specs.declared.terminal.Terminal.{Terminal}
use Rattle.asm_argument.specs.declared.terminal.Terminal.TheVariants as terminal
use Rattle.asm_argument.specs.declared.shape.Shape.{Shape}
use Rattle.asm_argument.specs.declared.shape.Shape.TheVariants as shape
use Rattle.asm_argument.specs.declared.operand.ValuePlace.{ValuePlace}
use Rattle.asm_argument.specs.declared.operand.ValuePlace.TheVariants as place
use Rattle.asm_argument.specs.declared.operand.Partial.{Partial}
use Rattle.asm_argument.specs.declared.operand.Partial.TheVariants as partial
use Rattle.asm_source.specs.declared.tree.Value.{Value}
use Rattle.asm_source.specs.declared.tree.Form.{Form}
use Rattle.asm_source.specs.declared.tree.Form.TheVariants as form
use Rattle.asm_argument.specs.Grammar.{IsConstant, IsValue, IsAddress, IsForm}
use Rattle.asm_argument.specs.Operand.{begun, address_step, next_terminal, finished}
use Rattle.asm_argument.specs.Shapes.{takes_names, takes_sums, takes_minus, takes_numbers, takes_absent, fits, signed, named, plain, is_operand}

abbrev pub ok : Partial → Result Partial SourceCause
ok p = Ok p

-- what is left to the parentheses
pub next_default : (sh : Shape) (p : Partial) (s : Terminal)
    → (p ≡ partial.Nothing → ⊥) → (p ≡ partial.Absent → ⊥) → (p ≡ partial.Percent → ⊥) → (p ≡ partial.Dollar → ⊥)
    → ((a : ValuePlace) → p ≡ partial.Minus a → ⊥) → ((a : ValuePlace) (n : List ℕ) → p ≡ partial.Name a n → ⊥)
    → ((a : ValuePlace) (n : List ℕ) (b : Bool) → p ≡ partial.Sign a n b → ⊥)
    → ((a : ValuePlace) (n : List ℕ) (b : Bool) → p ≡ partial.SignMinus a n b → ⊥)
    → ((a : ValuePlace) (v : Value) → p ≡ partial.Number a v → ⊥)
    → next_terminal sh p s ≡ address_step p s
next_default sh partial.Nothing s h1 h0 h2 h3 h4 h5 h6 h7 h8 = absurd (h1 refl)
next_default sh partial.Absent s h1 h0 h2 h3 h4 h5 h6 h7 h8 = absurd (h0 refl)
next_default sh partial.Percent s h1 h0 h2 h3 h4 h5 h6 h7 h8 = absurd (h2 refl)
next_default sh partial.Dollar s h1 h0 h2 h3 h4 h5 h6 h7 h8 = absurd (h3 refl)
next_default sh (partial.Minus a) s h1 h0 h2 h3 h4 h5 h6 h7 h8 = absurd (h4 a refl)
next_default sh (partial.Name a n) s h1 h0 h2 h3 h4 h5 h6 h7 h8 = absurd (h5 a n refl)
next_default sh (partial.Sign a n b) s h1 h0 h2 h3 h4 h5 h6 h7 h8 = absurd (h6 a n b refl)
next_default sh (partial.SignMinus a n b) s h1 h0 h2 h3 h4 h5 h6 h7 h8 = absurd (h7 a n b refl)
next_default sh (partial.Number a v) s h1 h0 h2 h3 h4 h5 h6 h7 h8 = absurd (h8 a v refl)
next_default sh _ s h1 h0 h2 h3 h4 h5 h6 h7 h8 = refl

-- terminal by terminal
abbrev pub operand_run : Shape → Partial → List Terminal → Result Partial SourceCause
operand_run sh p [] = Ok p
operand_run sh p (s ∷ ss) = elim (next_terminal sh p s) [ Ok q ↦ operand_run sh q ss | Err c ↦ Err c ]

pub run_append : (sh : Shape) (p q : Partial) (ss ts : List Terminal) → operand_run sh p ss ≡ Ok q
    → operand_run sh p (ss ++ ts) ≡ operand_run sh q ts
run_append sh p q [] ts h = let e : p ≡ q = cc in rw e refl
run_append sh p q (s ∷ ss) ts h = by_step (next_terminal sh p s) h (λ n e. run_append sh n q ss ts e)
  where
    by_step : (r : Result Partial SourceCause)
        → ◌≡◌ {A = Result Partial SourceCause} (elim r [ Ok n ↦ operand_run sh n ss | Err c ↦ Err c ]) (Ok q)
        → ((n : Partial) → operand_run sh n ss ≡ Ok q → operand_run sh n (ss ++ ts) ≡ operand_run sh q ts)
        → ◌≡◌ {A = Result Partial SourceCause} (elim r [ Ok n ↦ operand_run sh n (ss ++ ts) | Err c ↦ Err c ]) (operand_run sh q ts)
    by_step (Ok n) h ih = ih n h
    by_step (Err c) h ih = absurd cc

-- a whole argument
pub record Reads (sh : Shape) (ss : List Terminal) (f : Form) : Type 0 where
  pub last : Partial
  pub runs : operand_run sh (begun sh) ss ≡ Ok last
  pub ends : finished last ≡ Some f

pub operand_takes : (sh : Shape) → is_operand sh ≡ true → (takes_numbers sh ≡ true) × (takes_minus sh ≡ true) × (takes_names sh ≡ true)
    × (takes_sums sh ≡ true)
operand_takes shape.Operand h = (refl, refl, refl, refl)
operand_takes shape.Value h = absurd cc
operand_takes shape.Number h = absurd cc
operand_takes shape.Count h = absurd cc
operand_takes shape.Name h = absurd cc
operand_takes shape.Text h = absurd cc
operand_takes shape.Alignment h = absurd cc
operand_takes shape.Power h = absurd cc
operand_takes shape.Fill h = absurd cc

-- what has been read from nothing and may end is read where an argument begins
from_nothing : (sh : Shape) (ss : List Terminal) (q : Partial) (f : Form) → operand_run sh partial.Nothing ss ≡ Ok q → finished q ≡ Some f
    → operand_run sh (begun sh) ss ≡ Ok q
from_nothing shape.Fill [] q f h e = let g : partial.Nothing ≡ q =
    cc in let k : finished partial.Nothing ≡ Some f = ap finished g ∙ e in absurd cc
from_nothing shape.Fill (s ∷ ss) q f h e = h
from_nothing _ ss q f h e = h

pub absent_begun : (sh : Shape) → takes_absent sh ≡ true → begun sh ≡ partial.Absent
absent_begun shape.Fill h = refl
absent_begun shape.Operand h = absurd cc
absent_begun shape.Value h = absurd cc
absent_begun shape.Number h = absurd cc
absent_begun shape.Count h = absurd cc
absent_begun shape.Alignment h = absurd cc
absent_begun shape.Power h = absurd cc
absent_begun shape.Name h = absurd cc
absent_begun shape.Text h = absurd cc

pub operand_fits : (sh : Shape) (negative : Bool) (n : ℕ) → is_operand sh ≡ true → fits sh negative n ≡ true
operand_fits shape.Count negative n h = absurd cc
operand_fits shape.Alignment negative n h = absurd cc
operand_fits shape.Power negative n h = absurd cc
operand_fits _ negative n h = refl

-- where a value stands, and how its place is reached
abbrev start_of_value : ValuePlace → Partial
start_of_value place.Immediate = partial.Dollar
start_of_value place.Memory = partial.Nothing

-- what a whole value leaves
abbrev IsDone : ValuePlace → Value → Partial → Type 0
IsDone p v q = (q ≡ partial.Number p v) ⊎ ((n : List ℕ) × (q ≡ partial.Name p n) × (v ≡ named n (pos 0)))

constant_runs : (sh : Shape) (p : ValuePlace) (n : List ℕ) (neg : Bool) (ss : List Terminal) (z : ℤ) → IsConstant neg ss z
    → operand_run sh (partial.Sign p n neg) ss ≡ Ok (partial.Number p (named n z))
constant_runs sh p n neg ss z IsConstant.bare = refl
constant_runs sh p n true ss z (IsConstant.minus low) = rw (low, operand_run) refl
constant_runs sh p n false ss z (IsConstant.minus low) = rw (low, operand_run) refl

value_runs : (sh : Shape) (p : ValuePlace) (ss : List Terminal) (v : Value) → IsValue sh ss v → (q : Partial)
    × (operand_run sh (start_of_value p) ss ≡ Ok q) × IsDone p v q
value_runs sh place.Memory ss v (IsValue.number {n} t u) =
    (partial.Number place.Memory (plain (pos n)), rw (t, u, operand_run) refl, inl refl)
value_runs sh place.Memory ss v (IsValue.negative {n} t low u) =
    (partial.Number place.Memory (plain (signed true n)), rw (t, low, u, operand_run) refl, inl refl)
value_runs sh place.Memory ss v (IsValue.name {n} t) = (partial.Name place.Memory n, rw (t, operand_run) refl, inr (n, refl, refl))
value_runs sh place.Memory ss v (IsValue.sum {n} {ss = rest} {z} t u c) =
    (partial.Number place.Memory (named n z), rw (t, u, operand_run) (constant_runs sh place.Memory n false rest z c), inl refl)
value_runs sh place.Memory ss v (IsValue.difference {n} {ss = rest} {z} t u c) =
    (partial.Number place.Memory (named n z), rw (t, u, operand_run) (constant_runs sh place.Memory n true rest z c), inl refl)
value_runs sh place.Immediate ss v (IsValue.number {n} t u) = (partial.Number place.Immediate (plain (pos n)), refl, inl refl)
value_runs sh place.Immediate ss v (IsValue.negative {n} t low u) =
    (partial.Number place.Immediate (plain (signed true n)), rw (low, u, operand_run) refl, inl refl)
value_runs sh place.Immediate ss v (IsValue.name {n} t) = (partial.Name place.Immediate n, refl, inr (n, refl, refl))
value_runs sh place.Immediate ss v (IsValue.sum {n} {ss = rest} {z} t u c) =
    (partial.Number place.Immediate (named n z), rw (u, operand_run) (constant_runs sh place.Immediate n false rest z c), inl refl)
value_runs sh place.Immediate ss v (IsValue.difference {n} {ss = rest} {z} t u c) =
    (partial.Number place.Immediate (named n z), rw (u, operand_run) (constant_runs sh place.Immediate n true rest z c), inl refl)

-- the parentheses after a value or nothing
address_runs : (sh : Shape) (v : Option Value) (ss : List Terminal) (b i : Option (List ℕ)) (s : ℕ) → IsAddress (terminal.Open ∷ ss) b i s
    → operand_run sh (partial.Open v) ss ≡ Ok (partial.Whole (form.Memory v b i s))
address_runs sh v ss b i s (IsAddress.base r) = rw (r, operand_run) refl
address_runs sh v ss b i s (IsAddress.index r) = rw (r, operand_run) refl
address_runs sh v ss b i s (IsAddress.scaled r t) = rw (r, t, operand_run) refl
address_runs sh v ss b i s (IsAddress.base_index r t) = rw (r, t, operand_run) refl
address_runs sh v ss b i s (IsAddress.base_scaled r t u) = rw (r, t, u, operand_run) refl

address_opens : (ss : List Terminal) {b i : Option (List ℕ)} {s : ℕ} → IsAddress ss b i s → (ts : List Terminal) × (ss ≡ terminal.Open ∷ ts)
address_opens ss (IsAddress.base r) = (_, refl)
address_opens ss (IsAddress.index r) = (_, refl)
address_opens ss (IsAddress.scaled r t) = (_, refl)
address_opens ss (IsAddress.base_index r t) = (_, refl)
address_opens ss (IsAddress.base_scaled r t u) = (_, refl)

finished_value : (p : ValuePlace) (v : Value) (q : Partial) → IsDone p v q → finished q ≡ finished (partial.Number p v)
finished_value p v q (inl e) = rw e refl
finished_value place.Memory v q (inr (n, e, f)) = rw (e, f) refl
finished_value place.Immediate v q (inr (n, e, f)) = rw (e, f) refl

opens_value : (sh : Shape) (v : Value) (q : Partial) → is_operand sh ≡ true → IsDone place.Memory v q
    → next_terminal sh q terminal.Open ≡ Ok (partial.Open (Some v))
opens_value sh v q t (inl e) = rw (e, t) refl
opens_value sh v q t (inr (n, e, f)) = rw (e, f, t) refl

pub form_reads : (sh : Shape) (ss : List Terminal) (f : Form) → IsForm sh ss f → Reads sh ss f
form_reads sh ss f (IsForm.absent h) = record { last = partial.Absent; runs = ap (λ (p : Partial). ok p) (absent_begun sh h); ends = refl }
form_reads sh ss f (IsForm.text {t} h) = record {
  last = partial.Whole (form.Text t);
  runs = from_nothing sh ss (partial.Whole (form.Text t)) f (rw (h, operand_run) refl) refl;
  ends = refl;
}
form_reads sh ss f (IsForm.register {r} h g) = record {
  last = partial.Whole (form.Register r);
  runs = from_nothing sh ss (partial.Whole (form.Register r)) f (rw (h, g, operand_run) refl) refl;
  ends = refl;
}
form_reads sh ss f (IsForm.immediate {ss = vs} {v} h val) =
    let r = value_runs sh place.Immediate vs v val in
    record {
      last = r.0;
      runs = from_nothing sh ss r.0 f (rw (h, operand_run) r.1) (finished_value place.Immediate v r.0 r.2);
      ends = finished_value place.Immediate v r.0 r.2;
    }
form_reads sh ss f (IsForm.value {v} val) =
    let r = value_runs sh place.Memory ss v val in
    record {
      last = r.0;
      runs = from_nothing sh ss r.0 f r.1 (finished_value place.Memory v r.0 r.2);
      ends = finished_value place.Memory v r.0 r.2;
    }
form_reads sh ss f (IsForm.address {b} {i} {s} h a) = from_open ss (address_opens ss a) a
  where
    from_open : (ss : List Terminal) → (ts : List Terminal) × (ss ≡ terminal.Open ∷ ts) → IsAddress ss b i s
        → Reads sh ss (form.Memory None b i s)
    from_open ss (ts, e) a = record {
      last = partial.Whole (form.Memory None b i s);
      runs = from_nothing sh ss (partial.Whole (form.Memory None b i s)) (form.Memory None b i s)
          (rw (e, h, operand_run) (address_runs sh None ts b i s (subst (λ (x : List Terminal). IsAddress x b i s) e a))) refl;
      ends = refl;
    }
form_reads sh ss f (IsForm.value_address {v} {b} {i} {s} vs ps h e val a) =
    let r = value_runs sh place.Memory vs v val in
    let o = address_opens ps a in
    let tail : operand_run sh r.0 ps ≡ Ok (partial.Whole (form.Memory (Some v) b i s)) = ap (operand_run sh r.0) o.1
    ∙ (rw (opens_value sh v r.0 h r.2, operand_run)
    (address_runs sh (Some v) o.0 b i s (subst (λ (x : List Terminal). IsAddress x b i s) o.1 a))) in
    record {
      last = partial.Whole (form.Memory (Some v) b i s);
      runs = from_nothing sh ss (partial.Whole (form.Memory (Some v) b i s)) f
          (rw e (run_append sh partial.Nothing r.0 vs ps r.1 ∙ tail)) refl;
      ends = refl;
    }
