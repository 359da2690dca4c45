use Rattle.std.proofs.Common.{◌≡◌, ℕ, ◌+◌, Bool, List, Option, Result, Ok, Err, refl, ◌∙◌, subst, ap, arith}
use Rattle.board.specs.Scripts.{Events}
use Rattle.image_check.specs.Image.{Image}
use Rattle.pv_io.specs.declared.answer.Failed.{Failed}
use Rattle.run_trace.specs.declared.pause.Pause.{Pause}
use Rattle.run_trace.specs.declared.pause.Pause.TheVariants.{Reached, Stopped}
use Rattle.machine_model.specs.State.{State}
use Rattle.bare_machine.specs.Machine.{state_of}
use Rattle.bare_machine.specs.Settings.{bare}
use Rattle.machine_model.specs.Run.{with_set}
use Rattle.bare_machine.specs.Slices.{SliceAs}
use Rattle.bare_machine.proofs.Begun.{none_within}
use Rattle.bare_machine.proofs.Freshly.{nears_none, nears_cleared, nears_on, failed_from_start, stopped_from_start, bound_from_start}
use Rattle.bare_machine.proofs.fresh.fresh_steps.Goals as goal

pub loop-machine-init : goal.loop-machine-init
loop-machine-init g c = record {
  near = λ image. nears_none (bare image c.args.script.now.list c.args.machine.now.frames) c.args.n
      (state_of g.C.Cache.entries c.args.machine.now) (g.O.Sink.taken c.args.out.now);
  kept = c.requires.kept;
  frames = refl;
  same = refl;
  bound = omega (arith, c.requires.begin);
}

-- the slice's answer over as many frames as at the start
sliced : (image : Image) (script : Events) (f f2 : ℕ) (exact : Bool) (n : ℕ) (old new : State) (told tells : Option (List ℕ))
    (r s : Result Pause Failed) → f ≡ f2 → r ≡ s → SliceAs (bare image script f) exact n old new told tells r
    → SliceAs (bare image script f2) exact n old new told tells s
sliced image script f f2 exact n old new told tells r s same is h =
    subst (λ (k : ℕ). SliceAs (bare image script k) exact n old new told tells s) same
    (subst (λ (x : Result Pause Failed). SliceAs (bare image script f) exact n old new told tells x) is h)

pub steps_to-requires-clause-kept : goal.steps_to-requires-clause-kept
steps_to-requires-clause-kept g c = record {
  ram = c.loop-machine.invariant.kept.ram;
  within = none_within c.loop-machine.machine.frames _ c.drop_all.ensures.gone;
}

pub loop-machine-preserved : goal.loop-machine-preserved
loop-machine-preserved g c = record {
  near = λ image.
      let e = g.C.Cache.entries in
      let m = c.loop-machine.machine in
      let s = bare image c.args.script.now.list c.args.machine.now.frames in
      let first = state_of e c.args.machine.now in
      let x = e c.drop_all.new.kept.cache in
      let near = nears_cleared s c.args.n first (state_of e m) x (g.O.Sink.taken c.args.out.now) (g.O.Sink.taken c.loop-machine.out)
      (c.loop-machine.invariant.near image) in
      let h = sliced image c.args.script.now.list m.frames c.args.machine.now.frames (g.C.Cache.is_exact c.drop_all.new.kept.cache)
      (m.step + 1) (with_set (state_of e m) x) (state_of e c.steps_to.new.machine) (g.O.Sink.taken c.loop-machine.out)
      (g.O.Sink.taken c.steps_to.new.out) (Ok c.in-Ok.pause) (Ok Reached) c.loop-machine.invariant.frames
      (ap (λ (p : Pause). Ok p) c.in-Reached.is) (c.in-Ok.ensures.slice image) in
      nears_on s (g.C.Cache.is_exact c.drop_all.new.kept.cache) c.args.n first (with_set (state_of e m) x)
      (state_of e c.steps_to.new.machine) (g.O.Sink.taken c.args.out.now) (g.O.Sink.taken c.loop-machine.out)
      (g.O.Sink.taken c.steps_to.new.out) c.drop_all.ensures.gone c.loop-machine-test.true near h;
  kept = (let on = rw c.in-Reached.is at c.in-Ok.ensures.goes_on in on.kept);
  frames = (let on = rw c.in-Reached.is at c.in-Ok.ensures.goes_on in on.frames ∙ c.loop-machine.invariant.frames);
  same = c.in-Ok.ensures.count ∙ c.loop-machine.invariant.same;
  bound = omega (arith, c.loop-machine-test.true, rw c.in-Reached.is at c.in-Ok.ensures.reached);
}

pub returns-in-Err : goal.returns-in-Err
returns-in-Err g c = record {
  steps = λ image.
      let e = g.C.Cache.entries in
      let m = c.loop-machine.machine in
      let s = bare image c.args.script.now.list c.args.machine.now.frames in
      let first = state_of e c.args.machine.now in
      let x = e c.drop_all.new.kept.cache in
      let exact = g.C.Cache.is_exact c.drop_all.new.kept.cache in
      let near = nears_cleared s c.args.n first (state_of e m) x (g.O.Sink.taken c.args.out.now) (g.O.Sink.taken c.loop-machine.out)
      (c.loop-machine.invariant.near image) in
      let h = sliced image c.args.script.now.list m.frames c.args.machine.now.frames exact (m.step + 1) (with_set (state_of e m) x)
      (state_of e c.steps_to.new.machine) (g.O.Sink.taken c.loop-machine.out) (g.O.Sink.taken c.steps_to.new.out) (Err c.in-Err.failed)
      (Err c.in-Err.failed) c.loop-machine.invariant.frames refl (c.in-Err.ensures.slice image) in
      failed_from_start s exact c.args.n first (with_set (state_of e m) x) (state_of e c.steps_to.new.machine)
      (g.O.Sink.taken c.args.out.now) (g.O.Sink.taken c.loop-machine.out) (g.O.Sink.taken c.steps_to.new.out) c.in-Err.failed
      (g.O.Sink.faults c.args.out.now) (g.O.Sink.faults c.loop-machine.out) (g.O.Sink.faults c.steps_to.new.out) c.requires.begin
      c.drop_all.ensures.gone c.loop-machine-test.true near h c.loop-machine.invariant.same c.in-Err.ensures.cause;
}

pub returns-in-Stopped : goal.returns-in-Stopped
returns-in-Stopped g c = record {
  steps = λ image.
      let e = g.C.Cache.entries in
      let m = c.loop-machine.machine in
      let s = bare image c.args.script.now.list c.args.machine.now.frames in
      let first = state_of e c.args.machine.now in
      let x = e c.drop_all.new.kept.cache in
      let exact = g.C.Cache.is_exact c.drop_all.new.kept.cache in
      let near = nears_cleared s c.args.n first (state_of e m) x (g.O.Sink.taken c.args.out.now) (g.O.Sink.taken c.loop-machine.out)
      (c.loop-machine.invariant.near image) in
      let h = sliced image c.args.script.now.list m.frames c.args.machine.now.frames exact (m.step + 1) (with_set (state_of e m) x)
      (state_of e c.steps_to.new.machine) (g.O.Sink.taken c.loop-machine.out) (g.O.Sink.taken c.steps_to.new.out) (Ok c.in-Ok.pause)
      (Ok (Stopped c.in-Stopped.stop)) c.loop-machine.invariant.frames (ap (λ (p : Pause). Ok p) c.in-Stopped.is)
      (c.in-Ok.ensures.slice image) in (
        stopped_from_start s exact c.args.n first (with_set (state_of e m) x) (state_of e c.steps_to.new.machine)
            (g.O.Sink.taken c.args.out.now) (g.O.Sink.taken c.loop-machine.out) (g.O.Sink.taken c.steps_to.new.out) c.in-Stopped.stop
            c.requires.begin c.drop_all.ensures.gone c.loop-machine-test.true near h,
        c.in-Ok.ensures.count ∙ c.loop-machine.invariant.same,
      );
}

pub returns : goal.returns
returns g c = record {
  steps = λ image.
      let e = g.C.Cache.entries in
      let m = c.loop-machine.machine in (
        bound_from_start (bare image c.args.script.now.list c.args.machine.now.frames) c.args.n (state_of e c.args.machine.now)
            (state_of e m) (g.O.Sink.taken c.args.out.now) (g.O.Sink.taken c.loop-machine.out) c.requires.begin
            (omega (arith, c.loop-machine-test.false)) (c.loop-machine.invariant.near image),
        c.loop-machine.invariant.same,
      );
}
