use Rattle.std.proofs.Common.{◌≡◌, ◌≤◌, ℕ, List, length, drop, Option, Some, None, sym, ap, subst, ◌∙◌, arith}
use Rattle.std.specs.Prelude.{find}
use Rattle.std.specs.Str.{bytes_eq}
use Rattle.std.proofs.lemmas.Bool.{eqb-true}
use Rattle.std.proofs.lemmas.List.{take_rest, nil_from_length}
use Rattle.ia32_types.specs.declared.stop.Stop.{Stop}
use Rattle.run_trace.specs.declared.items.End.TheVariants.{Stopped}
use Rattle.run_trace.specs.Text.{end_line}
use Rattle.trace_check.specs.Lines.{lines, last_of, number_of, steps_told, stop_told, monitor_stops}
use Rattle.trace_check.specs.Tells.{IsNumber}
use Rattle.trace_check.proofs.LastLine.{none_by, stop_by, none_empty}
use Rattle.trace_check.proofs.told.read_told.Goals as goal

-- the number that was read is that of the last line
number_is : (text rest line : List ℕ) (r s : Option ℕ) → rest ≡ drop 10 line → line ≡ last_of (lines text) → r ≡ s
    → IsNumber (number_of rest) r → IsNumber (steps_told (last_of (lines text))) s
number_is text rest line r s is last same h =
    subst (IsNumber (steps_told (last_of (lines text)))) same (subst (λ (l : List ℕ). IsNumber (number_of l) r) (is ∙ ap (drop 10) last) h)

pub returns-then-is_empty : goal.returns-then-is_empty
returns-then-is_empty c = ap (λ (t : List ℕ). stop_told c.args.n (last_of (lines t)))
    (nil_from_length c.args.text.now (eqb-true (length c.args.text.now) 0 (sym c.is_empty.ensures ∙ c.if-is_empty.true)))
    ∙ none_empty c.args.n

pub returns-in-None : goal.returns-in-None
returns-in-None c =
    let text = c.args.text.now in
    let last = take_rest text c.last_line-at.result ∙ c.last_line-at.ensures.last in
    let more =
    number_is text c.behind_ten.result.now _ c.number_told.result None c.behind_ten.ensures last c.in-None.is c.number_told.ensures in
    none_by c.args.n (last_of (lines text)) (omega (arith, more, c.requires))

pub returns-then-steps-n : goal.returns-then-steps-n
returns-then-steps-n c =
    let text = c.args.text.now in
    let last = take_rest text c.last_line-at.result ∙ c.last_line-at.ensures.last in
    let is = number_is text c.behind_ten.result.now _ c.number_told.result (Some c.in-Some.steps) c.behind_ten.ensures last c.in-Some.is
    c.number_told.ensures in
    none_by c.args.n (last_of (lines text)) (omega (arith, is, c.if-steps-n.true))

-- the stop that was looked for is that of the last line
found_is : (n steps : ℕ) (text line : List ℕ) (o : Option Stop) → line ≡ last_of (lines text)
    → steps ≡ steps_told (last_of (lines text)) → steps ≤ n
    → o ≡ find (λ stop. bytes_eq line (end_line steps (Stopped stop))) monitor_stops → stop_told n (last_of (lines text)) ≡ o
found_is n steps text line o last is le h =
    stop_by n (last_of (lines text)) (omega (arith, is, le))
    ∙ ap (λ (k : ℕ). find (λ stop. bytes_eq (last_of (lines text)) (end_line k (Stopped stop))) monitor_stops) (sym is)
    ∙ ap (λ (l : List ℕ). find (λ stop. bytes_eq l (end_line steps (Stopped stop))) monitor_stops) (sym last)
    ∙ sym h

pub returns-in-None-stop_in : goal.returns-in-None-stop_in
returns-in-None-stop_in c =
    let text = c.args.text.now in
    let last = take_rest text c.last_line-at.result ∙ c.last_line-at.ensures.last in
    let is = number_is text c.behind_ten.result.now _ c.number_told.result (Some c.in-Some.steps) c.behind_ten.ensures last c.in-Some.is
    c.number_told.ensures in
    found_is c.args.n c.in-Some.steps text _ c.stop_in.result last is (omega (arith, c.if-steps-n.false)) c.stop_in.ensures
    ∙ c.in-None-stop_in.is

pub returns-in-Some-stop_in : goal.returns-in-Some-stop_in
returns-in-Some-stop_in c =
    let text = c.args.text.now in
    let last = take_rest text c.last_line-at.result ∙ c.last_line-at.ensures.last in
    let is = number_is text c.behind_ten.result.now _ c.number_told.result (Some c.in-Some.steps) c.behind_ten.ensures last c.in-Some.is
    c.number_told.ensures in
    let le : c.in-Some.steps ≤ c.args.n = omega (arith, c.if-steps-n.false) in (
      found_is c.args.n c.in-Some.steps text _ c.stop_in.result last is le c.stop_in.ensures ∙ c.in-Some-stop_in.is,
      is,
      le,
      c.last_line-at.ensures,
    )
