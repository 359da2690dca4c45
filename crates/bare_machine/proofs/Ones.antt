-- Slices of one step.
use Rattle.std.proofs.Common.{◌≡◌, ℕ, ◌+◌, ◌<◌, Bool, List, [], ◌∷◌, ◌++◌, length, Option, Result, Ok, Err, sym, ap, subst, ◌∙◌, arith}
use Rattle.pv_io.specs.declared.answer.Failed.{Failed}
use Rattle.ia32_types.specs.declared.stop.Stop.{Stop}
use Rattle.run_trace.specs.declared.pause.Pause.{Pause}
use Rattle.run_trace.specs.declared.pause.Pause.TheVariants.{Reached, Stopped}
use Rattle.machine_model.specs.State.{Setting, State}
use Rattle.machine_model.specs.Step.{Report, Went, Halts, step_of}
use Rattle.machine_model.specs.Run.{Set, Steps, with_set}
use Rattle.machine_model.proofs.Runs.{went_there}
use Rattle.machine_model.proofs.Counted.{steps_counted, counted_by}
use Rattle.bare_machine.specs.Machine.{translations_of, StepsBy, FirstIs}
use Rattle.bare_machine.specs.Slices.{SliceAs, OneStepAs}
use Rattle.bare_machine.proofs.Runs.{same_step}

by_one_counted : (s : Setting) (old : State) (reports : List Report) (last : State) → StepsBy s translations_of old reports last
    → last.step ≡ old.step + length reports
unfolding StepsBy
by_one_counted s old [] last h =
    let is = ap (λ (b : State). b.step) h in
    omega (arith, is)
by_one_counted s old (now ∷ later) last h =
    let one = counted_by s old h.0 (translations_of old) now h.1 in
    let more = by_one_counted s h.0 later last h.2 in
    omega (arith, one, more)

-- one step by an exact cache
by_one : (s : Setting) (old : State) (reports : List Report) (last : State) → StepsBy s translations_of old reports last
    → last.step ≡ old.step + 1 → (now : Report) × (step_of s old old.set ≡ Went now last)
unfolding StepsBy
by_one s old [] last h n =
    let is = ap (λ (b : State). b.step) h in
    absurd (omega (arith, is, n))
by_one s old (now ∷ []) last h n = (now, h.1 ∙ ap (λ (b : State). Went now b) (sym h.2))
by_one s old (now ∷ next ∷ later) last h n =
    let all = by_one_counted s old (now ∷ next ∷ later) last h in
    absurd (omega (arith, all, n))

-- what one step was
pub one_of : (s : Setting) (old : State) (sets : List Set) (reports : List Report) (last : State) (x whole : Set)
    → Steps s old sets reports (with_set last whole) → FirstIs old.set (sets ++ x ∷ []) → last.step ≡ old.step + 1
    → (report : Report) × (step_of s old old.set ≡ Went report (with_set last whole)) × (reports ≡ report ∷ [])
unfolding Steps
one_of s old [] reports last x whole h first n =
    let is = ap (λ (b : State). b.step) h.1 in
    absurd (omega (arith, is, n))
one_of s old (set ∷ []) reports last x whole h first n = (
  h.1,
  subst (λ (y : Set). step_of s old y ≡ Went h.1 (with_set last whole)) first (h.4 ∙ ap (λ (b : State). Went h.1 b) (sym h.5.1)),
  h.6 ∙ ap (λ (l : List Report). h.1 ∷ l) h.5.0,
)
one_of s old (set ∷ next ∷ sets) reports last x whole h first n =
    let all = steps_counted s old (set ∷ next ∷ sets) reports (with_set last whole) h in
    absurd (omega (arith, all, n))

-- no step was done
none_of : (s : Setting) (old : State) (sets : List Set) (reports : List Report) (last : State) (whole : Set) (stop : Stop)
    → Steps s old sets reports (with_set last whole) → FirstIs old.set (sets ++ last.set ∷ []) → last.step < old.step + 1
    → step_of s last last.set ≡ Halts stop → step_of s old old.set ≡ Halts stop
unfolding Steps
none_of s old [] reports last whole stop h first n is =
    subst (λ (y : Set). step_of s old y ≡ Halts stop) first
    (subst (λ (b : State). step_of s b last.set ≡ Halts stop) h.1 (same_step s last whole last.set ∙ is))
none_of s old (set ∷ sets) reports last whole stop h first n is =
    let all = steps_counted s old (set ∷ sets) reports (with_set last whole) h in
    absurd (omega (arith, all, n))

pub one_step : (s : Setting) (exact : Bool) (bound : ℕ) (old new : State) (told tells : Option (List ℕ)) (result : Result Pause Failed)
    → bound ≡ old.step + 1 → SliceAs s exact bound old new told tells result → OneStepAs s exact old new result
one_step s exact bound old new told tells (Ok Reached) one h =
    let last : new ≡ h.last = h.ends.1 in
    let n : h.last.step ≡ old.step + 1 = h.ends.0 ∙ one in
    let p = h.passes in
    let is = one_of s old p.sets h.reports h.last h.last.set p.whole p.steps p.first n in
    subst (λ (b : State). OneStepAs s exact old b (Ok Reached)) (sym last) (
      is.0,
      p.whole,
      is.1,
      p.part,
      λ e.
          let by = by_one s old h.reports h.last (p.exactly e) n in
          ap (λ (b : State). b.set) (went_there by.0 is.0 h.last (with_set h.last p.whole) (sym by.1 ∙ is.1)),
    )
one_step s exact bound old new told tells (Ok (Stopped stop)) one h =
    let less : h.last.step < old.step + 1 = omega (arith, h.ends.0, one) in
    none_of s old h.passes.sets h.reports h.last h.passes.whole stop h.passes.steps h.passes.first less h.ends.2
one_step s exact bound old new told tells (Err failed) one h = tt
