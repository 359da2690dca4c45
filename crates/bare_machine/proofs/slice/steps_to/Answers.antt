use Rattle.std.proofs.Common.{◌≡◌, ◌+◌, ◌≤◌, ℕ, Bool, [], ◌∷◌, ◌++◌, refl, ap, sym, ◌∙◌, subst, arith}
use Rattle.machine_model.specs.Step.{Halts, step_of}
use Rattle.machine_step.specs.Worked.{whats}
use Rattle.machine_step.specs.declared.worked.Worked.{Worked}
use Rattle.bare_machine.specs.Machine.{state_of, Goes, Rests}
use Rattle.bare_machine.specs.Settings.{bare}
use Rattle.bare_machine.proofs.Going.{going_none, going_on, passes_here, passes_on, front_on, goes_further}
use Rattle.bare_machine.specs.Buffered.{LedTo, KeptRests, kept_step}
use Rattle.bare_machine.proofs.Buffering.{led_on, led_front}
use Rattle.bare_machine.proofs.Buffering.{going_none as kept_going_none, going_on as kept_going_on}
use Rattle.bare_machine.proofs.NextEvents.{none_before, none_later}
use Rattle.bare_machine.proofs.slice.steps_to.Goals as goal

pub loop-machine-init : goal.loop-machine-init
loop-machine-init g c = record {
  going = λ image. going_none (bare image c.args.script.now.list c.args.machine.now.frames)
      (g.C.Cache.is_exact c.args.machine.now.kept.cache) (state_of g.C.Cache.entries c.args.machine.now) (g.O.Sink.taken c.args.out.now);
  near = λ image. kept_going_none g.C.Cache.keeping (bare image c.args.script.now.list c.args.machine.now.frames)
      (state_of g.C.Cache.entries c.args.machine.now) (g.O.Sink.taken c.args.out.now);
  goes_on = record { kept = c.requires.kept; frames = refl; size = refl; exact = refl };
  kept = refl;
  bound = c.requires.begun;
  none = none_before c.args.script.now.list c.args.machine.now.step;
  same = ap (λ (w : Worked). w.cpu) c.at-worked.ensures;
}

pub loop-machine-preserved : goal.loop-machine-preserved
loop-machine-preserved g c = record {
  going = λ image.
      let e = g.C.Cache.entries in
      let m = c.loop-machine.machine in
      let exact = g.C.Cache.is_exact c.args.machine.now.kept.cache in
      let goes =
      subst (λ (f : ℕ). Goes (step_of (bare image c.args.script.now.list f) (state_of e m) (e m.kept.cache)) m.step (whats c.in-Ok.seen)
      exact (state_of e c.step.new.machine)) c.loop-machine.invariant.goes_on.frames
      (subst (λ (x : Bool). Goes (step_of (bare image c.args.script.now.list m.frames) (state_of e m) (e m.kept.cache)) m.step
      (whats c.in-Ok.seen) x (state_of e c.step.new.machine)) c.loop-machine.invariant.goes_on.exact (c.in-Ok.ensures.comes image).step) in
      let rests =
      subst (λ (f : ℕ). Rests (bare image c.args.script.now.list f) (state_of e c.step.new.machine) goes.whole
      (state_of e c.rest.new.machine)) (c.in-Ok.ensures.goes_on.frames
      ∙ c.loop-machine.invariant.goes_on.frames) (c.rest.ensures.rests image
      goes.whole goes.part) in
      going_on (bare image c.args.script.now.list c.args.machine.now.frames) exact (state_of e c.args.machine.now) (state_of e m)
      (state_of e c.step.new.machine) (state_of e c.rest.new.machine) (whats c.in-Ok.seen) (g.O.Sink.taken c.args.out.now)
      (g.O.Sink.taken c.loop-machine.out) (g.O.Sink.taken c.put_seen.new.out)
      (c.loop-machine.invariant.going image) goes c.in-Ok-put_seen.ensures.ok rests;
  near = λ image.
      let e = g.C.Cache.entries in
      let m = c.loop-machine.machine in
      let s = bare image c.args.script.now.list c.args.machine.now.frames in
      let led =
      subst (λ (f : ℕ). LedTo (kept_step g.C.Cache.keeping (bare image c.args.script.now.list f) (state_of e m)) m.step (whats c.in-Ok.seen)
      (state_of e c.step.new.machine)) c.loop-machine.invariant.goes_on.frames
      (c.in-Ok.ensures.comes image).kept in
      let rests =
      subst (λ (f : ℕ). KeptRests g.C.Cache.keeping (bare image c.args.script.now.list f) (state_of e c.step.new.machine)
      (state_of e c.rest.new.machine)) (c.in-Ok.ensures.goes_on.frames
      ∙ c.loop-machine.invariant.goes_on.frames) (c.rest.ensures.kept image) in
      kept_going_on g.C.Cache.keeping s (state_of e c.args.machine.now) (state_of e m) (state_of e c.step.new.machine)
      (state_of e c.rest.new.machine) (whats c.in-Ok.seen) (g.O.Sink.taken c.args.out.now) (g.O.Sink.taken c.loop-machine.out)
      (g.O.Sink.taken c.put_seen.new.out)
      (c.loop-machine.invariant.near image) led c.in-Ok-put_seen.ensures.ok rests;
  goes_on = goes_further _ _ _ (goes_further _ _ _ c.loop-machine.invariant.goes_on c.in-Ok.ensures.goes_on) c.rest.ensures.goes_on;
  kept = c.in-Ok-put_seen.ensures.kept ∙ c.loop-machine.invariant.kept;
  bound = c.rest.ensures.within;
  none =
      let on : c.loop-machine.machine.step + 1 ≤ c.rest.new.machine.step = omega (arith, c.in-Ok.ensures.count, c.rest.ensures.later) in
      none_later c.args.script.now.list (c.loop-machine.machine.step + 1) c.rest.new.machine.step c.step.new.next on c.in-Ok.ensures.none;
  same = c.in-Ok.ensures.same ∙ sym c.rest.ensures.cpu;
}

pub returns-in-Err-clause-slice : goal.returns-in-Err-clause-slice
returns-in-Err-clause-slice g c = λ image.
    let e = g.C.Cache.entries in
    let m = c.loop-machine.machine in
    let going = c.loop-machine.invariant.going image in
    record {
      reports = going.reports;
      last = state_of e m;
      passes = passes_here _ _ _ _ _ _ going;
      ends = (
        c.loop-machine-test.true,
        c.in-Err.ensures.count,
        subst (λ (f : ℕ). step_of (bare image c.args.script.now.list f) (state_of e m) (e m.kept.cache) ≡ Halts c.in-Err.stop)
            c.loop-machine.invariant.goes_on.frames (c.in-Err.ensures.comes image).step,
      );
      text = going.text;
    }

pub returns-in-Err-put_seen-clause-slice : goal.returns-in-Err-put_seen-clause-slice
returns-in-Err-put_seen-clause-slice g c = λ image.
    let e = g.C.Cache.entries in
    let m = c.loop-machine.machine in
    let exact = g.C.Cache.is_exact c.args.machine.now.kept.cache in
    let goes =
    subst (λ (f : ℕ). Goes (step_of (bare image c.args.script.now.list f) (state_of e m) (e m.kept.cache)) m.step (whats c.in-Ok.seen) exact
    (state_of e c.step.new.machine)) c.loop-machine.invariant.goes_on.frames
    (subst (λ (x : Bool). Goes (step_of (bare image c.args.script.now.list m.frames) (state_of e m) (e m.kept.cache)) m.step
    (whats c.in-Ok.seen) x (state_of e c.step.new.machine)) c.loop-machine.invariant.goes_on.exact (c.in-Ok.ensures.comes image).step) in
    let going = c.loop-machine.invariant.going image in
    record {
      reports = going.reports ++ goes.report ∷ [];
      last = state_of e c.step.new.machine;
      passes = passes_on _ _ _ (state_of e m) (state_of e c.step.new.machine) (whats c.in-Ok.seen) _ _ going goes;
      ends = omega (arith, c.in-Ok.ensures.count, c.loop-machine-test.true);
      text = front_on _ _ _ (state_of e m) (state_of e c.step.new.machine) (whats c.in-Ok.seen) _ _ _ going goes
          c.in-Err-put_seen.ensures.failed;
    }

pub returns-clause-slice : goal.returns-clause-slice
returns-clause-slice g c = λ image.
    let going = c.loop-machine.invariant.going image in
    record {
      reports = going.reports;
      last = state_of g.C.Cache.entries c.loop-machine.machine;
      passes = passes_here _ _ _ _ _ _ going;
      ends = (omega (arith, c.loop-machine.invariant.bound, c.loop-machine-test.false), refl);
      text = going.text;
    }

pub returns-in-Err-clause-kept : goal.returns-in-Err-clause-kept
returns-in-Err-clause-kept g c = λ image.
    let e = g.C.Cache.entries in
    let m = c.loop-machine.machine in
    let near = c.loop-machine.invariant.near image in
    record {
      reports = near.reports;
      last = state_of e m;
      steps = near.steps;
      ends = (
        c.loop-machine-test.true,
        c.in-Err.ensures.count,
        subst (λ (f : ℕ). step_of (bare image c.args.script.now.list f) (state_of e m) (e m.kept.cache) ≡ Halts c.in-Err.stop)
            c.loop-machine.invariant.goes_on.frames (c.in-Err.ensures.comes image).step,
      );
      text = near.text;
    }

pub returns-in-Err-put_seen-clause-kept : goal.returns-in-Err-put_seen-clause-kept
returns-in-Err-put_seen-clause-kept g c = λ image.
    let e = g.C.Cache.entries in
    let m = c.loop-machine.machine in
    let s = bare image c.args.script.now.list c.args.machine.now.frames in
    let near = c.loop-machine.invariant.near image in
    let led =
    subst (λ (f : ℕ). LedTo (kept_step g.C.Cache.keeping (bare image c.args.script.now.list f) (state_of e m)) m.step (whats c.in-Ok.seen)
    (state_of e c.step.new.machine)) c.loop-machine.invariant.goes_on.frames
    (c.in-Ok.ensures.comes image).kept in
    record {
      reports = near.reports ++ led.report ∷ [];
      last = state_of e c.step.new.machine;
      steps = led_on g.C.Cache.keeping s _ (state_of e m) (state_of e c.step.new.machine) (whats c.in-Ok.seen) _ _ near led;
      ends = omega (arith, c.in-Ok.ensures.count, c.loop-machine-test.true);
      text = led_front g.C.Cache.keeping s _ (state_of e m) (state_of e c.step.new.machine) (whats c.in-Ok.seen) _ _ _ near led
          c.in-Err-put_seen.ensures.failed;
    }

pub returns-clause-kept : goal.returns-clause-kept
returns-clause-kept g c = λ image.
    let near = c.loop-machine.invariant.near image in
    record {
      reports = near.reports;
      last = state_of g.C.Cache.entries c.loop-machine.machine;
      steps = near.steps;
      ends = (omega (arith, c.loop-machine.invariant.bound, c.loop-machine-test.false), refl);
      text = near.text;
    }
