use Rattle.std.proofs.Common.{◌≡◌, ℕ, refl, sym, ap, subst, ◌∙◌, arith, Option, None}
use Rattle.std.specs.Prelude.{slice_get}
use Rattle.machine_model.specs.State.{State}
use Rattle.machine_model.specs.Run.{with_set}
use Rattle.bare_machine.specs.Machine.{state_of}
use Rattle.bare_machine.specs.Settings.{bare}
use Rattle.trace_check.specs.declared.list.Choice.{Choice}
use Rattle.trace_check.specs.Courses.{made}
use Rattle.trace_check.specs.Follows.{IsMade, due}
use Rattle.trace_check.proofs.Choosing.{at_first, at_place, due_some, next_is, page_of_next, one_on, one_made, none_made, splits_next, none_due}
use Rattle.trace_check.proofs.course.make_all.Goals as goal

-- the choice that is due, by the machine's count of steps
due_of : (step now : ℕ) (at found : Option Choice) → step ≡ now → found ≡ due step at → due now at ≡ found
due_of step now at found same is = subst (λ (k : ℕ). due k at ≡ found) same (sym is)

pub loop-choice-init : goal.loop-choice-init
loop-choice-init g c = record {
  made = λ image script. at_place (bare image script c.args.machine.now.frames) (state_of g.C.Cache.entries c.args.machine.now)
      c.args.list.now c.args.at (g.C.Cache.entries c.args.machine.now.kept.cache) c.requires.splits.within c.requires.splits.before;
  same = refl;
  frames = refl;
  kept = c.requires.kept;
  exact = c.requires.exact;
  so_far = at_first c.args.list.now c.args.machine.now.step c.args.at c.requires.splits;
}

pub make-requires-clause-page : goal.make-requires-clause-page
make-requires-clause-page g c =
    let there = due_some c.loop-choice.machine.step (slice_get c.args.list.now c.loop-choice.next) c.in-Some.choice
    (due_of c.step.result c.loop-choice.machine.step (slice_get c.args.list.now c.loop-choice.next) c.due.result c.step.ensures
    c.due.ensures ∙ c.in-Some.is) in
    page_of_next c.args.list.now c.args.machine.now.step c.loop-choice.next c.in-Some.choice c.loop-choice.invariant.so_far there.0

pub loop-choice-preserved : goal.loop-choice-preserved
loop-choice-preserved g c =
    let e = g.C.Cache.entries in
    let m = c.loop-choice.machine in
    let first = c.args.machine.now in
    let choice = c.in-Some.choice in
    let there = due_some m.step (slice_get c.args.list.now c.loop-choice.next) choice
    (due_of c.step.result c.loop-choice.machine.step (slice_get c.args.list.now c.loop-choice.next) c.due.result c.step.ensures
    c.due.ensures ∙ c.in-Some.is) in
    let at : m.step ≡ first.step = ap (λ (b : State). b.step) c.loop-choice.invariant.same in
    record {
      made = λ image script.
          let done =
          subst (IsMade (made (bare image script m.frames) (state_of e m) choice.kind choice.page (e m.kept.cache))
          (e c.make.new.machine.kept.cache)) c.if-not-make.false (c.make.ensures.made image script) in
          c.loop-choice.invariant.made image script
          ∙ one_made image script first.frames m.frames (state_of e first) (state_of e m) c.args.list.now c.loop-choice.next choice
          (e m.kept.cache) (e c.make.new.machine.kept.cache) c.loop-choice.invariant.frames c.loop-choice.invariant.same there.0
          (there.1 ∙ at) done;
      same = c.make.ensures.same ∙ ap (λ (b : State). with_set b (e c.make.new.machine.kept.cache)) c.loop-choice.invariant.same;
      frames = c.make.ensures.frames ∙ c.loop-choice.invariant.frames;
      kept = c.make.ensures.kept;
      exact = c.make.ensures.exact;
      so_far = one_on c.args.list.now first.step c.loop-choice.next choice c.loop-choice.invariant.so_far there.0 (there.1 ∙ at);
    }

pub loop-choice-smaller : goal.loop-choice-smaller
loop-choice-smaller g c =
    let there = due_some c.loop-choice.machine.step (slice_get c.args.list.now c.loop-choice.next) c.in-Some.choice
    (due_of c.step.result c.loop-choice.machine.step (slice_get c.args.list.now c.loop-choice.next) c.due.result c.step.ensures
    c.due.ensures ∙ c.in-Some.is) in
    let next = next_is c.args.list.now c.loop-choice.next c.in-Some.choice there.0 in
    omega (arith, next.2)

pub returns-then-not-make-clause-made : goal.returns-then-not-make-clause-made
returns-then-not-make-clause-made g c = λ image script.
    let e = g.C.Cache.entries in
    let m = c.loop-choice.machine in
    let first = c.args.machine.now in
    let choice = c.in-Some.choice in
    let there = due_some m.step (slice_get c.args.list.now c.loop-choice.next) choice
    (due_of c.step.result c.loop-choice.machine.step (slice_get c.args.list.now c.loop-choice.next) c.due.result c.step.ensures
    c.due.ensures ∙ c.in-Some.is) in
    let at : m.step ≡ first.step = ap (λ (b : State). b.step) c.loop-choice.invariant.same in
    let done =
    subst (IsMade (made (bare image script m.frames) (state_of e m) choice.kind choice.page (e m.kept.cache))
    (e c.make.new.machine.kept.cache)) c.if-not-make.true (c.make.ensures.made image script) in
    c.loop-choice.invariant.made image script
    ∙ none_made image script first.frames m.frames (state_of e first) (state_of e m) c.args.list.now c.loop-choice.next choice
    (e m.kept.cache) c.loop-choice.invariant.frames c.loop-choice.invariant.same there.0 (there.1 ∙ at) done

pub returns-in-None-clause-splits : goal.returns-in-None-clause-splits
returns-in-None-clause-splits g c =
    let at : c.loop-choice.machine.step ≡ c.args.machine.now.step = ap (λ (b : State). b.step) c.loop-choice.invariant.same in
    let none : due c.args.machine.now.step (slice_get c.args.list.now c.loop-choice.next) ≡ None =
    ap (λ (k : ℕ). due k (slice_get c.args.list.now c.loop-choice.next)) (sym at) ∙ due_of c.step.result c.loop-choice.machine.step
    (slice_get c.args.list.now c.loop-choice.next) c.due.result c.step.ensures c.due.ensures ∙ c.in-None.is in
    splits_next c.args.list.now c.args.machine.now.step c.loop-choice.next c.loop-choice.invariant.so_far none

pub returns-in-None-clause-made : goal.returns-in-None-clause-made
returns-in-None-clause-made g c = λ image script.
    let e = g.C.Cache.entries in
    let m = c.loop-choice.machine in
    let first = c.args.machine.now in
    let at : m.step ≡ first.step = ap (λ (b : State). b.step) c.loop-choice.invariant.same in
    let none : due first.step (slice_get c.args.list.now c.loop-choice.next) ≡ None =
    ap (λ (k : ℕ). due k (slice_get c.args.list.now c.loop-choice.next)) (sym at) ∙ due_of c.step.result c.loop-choice.machine.step
    (slice_get c.args.list.now c.loop-choice.next) c.due.result c.step.ensures c.due.ensures ∙ c.in-None.is in
    let splits = splits_next c.args.list.now first.step c.loop-choice.next c.loop-choice.invariant.so_far none in (
      c.loop-choice.invariant.made image script ∙ none_due (bare image script first.frames) (state_of e first) _ c.loop-choice.next
          (e m.kept.cache) splits.from,
      c.loop-choice.invariant.same,
    )

pub returns-then-not-make-clause-step : goal.returns-then-not-make-clause-step
returns-then-not-make-clause-step g c =
    ap (λ (b : State). b.step) c.make.ensures.same ∙ ap (λ (b : State). b.step) c.loop-choice.invariant.same

pub returns-in-None-clause-step : goal.returns-in-None-clause-step
returns-in-None-clause-step g c = ap (λ (b : State). b.step) c.loop-choice.invariant.same
