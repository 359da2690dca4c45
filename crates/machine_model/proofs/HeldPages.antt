-- Translations are of pages of the address space.
use Rattle.std.proofs.Common.{ℕ, ◌^◌, arith, List, [], ◌∷◌, sym, subst, ◌∙◌, inl, inr}
use Rattle.std.specs.List.{All, Contains}
use Rattle.std.proofs.lemmas.Bool.{cases_lt}
use Rattle.std.proofs.lemmas.List.Elements.{All-nil, All-cons, All-head, All-tail}
use Rattle.machine_model.specs.State.{Setting, State, Loosened}
use Rattle.machine_model.specs.Step.{Report}
use Rattle.machine_model.specs.Run.{Set, Steps}
use Rattle.machine_model.specs.Reloading.{ArePages}
use Rattle.machine_model.specs.HeldPages.{HoldsPages, StepsLeavePages, RunsHoldPages}
use Rattle.machine_model.proofs.UsingSteps.{steps_use}

-- what was left, and what may be added
loosened_hold : (m : Setting) (b : State) (set : Set) → Loosened m b set → HoldsPages b.set → HoldsPages set
loosened_hold m b set l h page e is = elim (l.each page e is) [
  | inl kept ↦ h page e kept
  | inr found ↦ found.page_in
]

pub steps_leave_pages : StepsLeavePages
steps_leave_pages m b set report after is pages h page e there =
    let u = steps_use m b set report after is in
    elim (cases_lt page (2 ^ 20)) [
      | inl small ↦ small
      | inr beyond ↦
          let unused : Contains u.last.visited page → ⊥ =
          λ c. let small = pages page (subst (λ (l : List ℕ). Contains l page) (sym u.pages) c) in omega (arith, small, beyond) in
          h page e (sym (u.uses.others page unused) ∙ u.set page e there)
    ]

abbrev AllPages : List Report → Type 0
AllPages reports = All (λ (r : Report). ArePages r.pages) reports

pub runs_hold_pages : RunsHoldPages
unfolding Steps
runs_hold_pages m old new [] reports steps h pages =
    (All-nil HoldsPages, λ set l. loosened_hold m new set l (subst (λ (b : State). HoldsPages b.set) (sym steps.1) h))
runs_hold_pages m old new (set ∷ sets) reports steps h pages =
    let all : AllPages (steps.1 ∷ steps.2) = subst AllPages steps.6 pages in
    let here = loosened_hold m old set steps.3 h in
    let left = steps_leave_pages m old set steps.1 steps.0 steps.4 (All-head (λ (r : Report). ArePages r.pages) steps.1 steps.2 all) here in
    let later = runs_hold_pages m steps.0 new sets steps.2 steps.5 left (All-tail (λ (r : Report). ArePages r.pages) steps.1 steps.2 all) in
    (All-cons HoldsPages set sets here later.0, later.1)
