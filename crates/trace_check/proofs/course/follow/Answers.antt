use Rattle.std.proofs.Common.{◌≡◌, ◌+◌, ◌-◌, ◌≤◌, ◌<◌, ℕ, refl, sym, ap, subst, ◌∙◌, arith, Ok, Err}
use Rattle.run_trace.specs.declared.pause.Pause.{Pause}
use Rattle.run_trace.specs.declared.pause.Pause.TheVariants as pause
use Rattle.bare_machine.specs.Machine.{state_of}
use Rattle.bare_machine.specs.Settings.{bare}
use Rattle.trace_check.specs.Follows.{next_step, Splits, FollowsAs}
use Rattle.trace_check.specs.declared.answer.CourseEnd.TheVariants as ends
use Rattle.run_trace.specs.declared.items.End.TheVariants as end
use Rattle.trace_check.proofs.Going.{at_start, nears_none, nears_on, at_stop, at_failure, at_bad, at_end, splits_until, next_step-below, next_step-above, ready_from, bad_from, sliced, from_start, slice_bound, up_to}
use Rattle.trace_check.proofs.course.follow.Goals as goal

-- what the test of the machine's count of steps says of the machine
below : (step now bound : ℕ) → step ≡ now → step < bound → now < bound
below step now bound same is = omega (arith, same, is)

reaches : (step now bound : ℕ) → step ≡ now → bound ≤ step → bound ≤ now
reaches step now bound same is = omega (arith, same, is)

pub loop-machine-init : goal.loop-machine-init
loop-machine-init g c = record {
  near = λ image. nears_none (bare image c.args.script.now.list c.args.machine.now.frames) c.args.list.now c.args.bound
      (state_of g.C.Cache.entries c.args.machine.now) (g.O.Sink.taken c.args.out.now);
  kept = c.requires.kept;
  exact = c.requires.exact;
  frames = refl;
  splits = at_start c.args.list.now c.args.machine.now.step c.requires.begin c.requires.form;
  unfailed = refl;
  within = omega (arith, c.requires.begin);
}

pub overflow_sub-k : goal.overflow_sub-k
overflow_sub-k g c =
    let m = c.loop-machine.machine in
    let above = next_step-above m.step c.args.bound c.args.list.now c.in-Ok.next c.in-Ok.ensures.splits
    (below c.step.result c.loop-machine.machine.step c.args.bound c.step.ensures c.loop-machine-test.true) in
    omega (arith, above, c.next_step.ensures, c.in-Ok.ensures.step, c.step-done.ensures)

pub slice-requires-clause-bound : goal.slice-requires-clause-bound
slice-requires-clause-bound g c =
    let m = c.loop-machine.machine in
    let above = next_step-above m.step c.args.bound c.args.list.now c.in-Ok.next c.in-Ok.ensures.splits
    (below c.step.result c.loop-machine.machine.step c.args.bound c.step.ensures c.loop-machine-test.true) in
    let most = next_step-below c.args.list.now c.in-Ok.next c.args.bound in
    omega (arith, above, most, c.next_step.ensures, c.in-Ok.ensures.step, c.step-done.ensures, c.requires.bound)

pub loop-machine-smaller : goal.loop-machine-smaller
loop-machine-smaller g c =
    let m = c.loop-machine.machine in
    let above = next_step-above m.step c.args.bound c.args.list.now c.in-Ok.next c.in-Ok.ensures.splits
    (below c.step.result c.loop-machine.machine.step c.args.bound c.step.ensures c.loop-machine-test.true) in
    let bound = slice_bound c.step-done.result c.make_all.new.machine.step c.next_step.result
    (next_step c.args.list.now c.in-Ok.next c.args.bound) (sym c.step-done.ensures) c.next_step.ensures
    (omega (arith, above, c.in-Ok.ensures.step, c.step-done.ensures)) in
    let reached = rw c.in-Reached.is at c.in-Ok-slice.ensures.reached in
    omega (
      arith,
      above,
      bound,
      reached,
      (below c.step.result c.loop-machine.machine.step c.args.bound c.step.ensures c.loop-machine-test.true),
    )

pub loop-machine-preserved : goal.loop-machine-preserved
loop-machine-preserved g c =
    let e = g.C.Cache.entries in
    let m = c.loop-machine.machine in
    let made = c.make_all.new.machine in
    let first = c.args.machine.now in
    let list = c.args.list.now in
    let n = c.args.bound in
    let above = next_step-above m.step n list c.in-Ok.next c.in-Ok.ensures.splits
    (below c.step.result c.loop-machine.machine.step c.args.bound c.step.ensures c.loop-machine-test.true) in
    let most = next_step-below list c.in-Ok.next n in
    let bound = slice_bound c.step-done.result made.step c.next_step.result (next_step list c.in-Ok.next n) (sym c.step-done.ensures)
    c.next_step.ensures (omega (arith, above, c.in-Ok.ensures.step, c.step-done.ensures)) in
    let reached = rw c.in-Reached.is at c.in-Ok-slice.ensures.reached in
    let at : next_step list c.in-Ok.next n ≡ c.slice.new.self.step = sym bound ∙ sym reached in
    record {
      near = λ image.
          let s = bare image c.args.script.now.list first.frames in
          let ready = ready_from image c.args.script.now.list first.frames m.frames list n c.in-Ok.next (state_of e m) (state_of e made)
          c.loop-machine.invariant.frames
          (below c.step.result c.loop-machine.machine.step c.args.bound c.step.ensures c.loop-machine-test.true)
          (c.in-Ok.ensures.made image c.args.script.now.list) c.in-Ok.ensures.splits in
          let slice = sliced image c.args.script.now.list first.frames made.frames (g.C.Cache.is_exact made.kept.cache)
          (next_step list c.in-Ok.next n) (made.step + (c.next_step.result - c.step-done.result)) (state_of e made)
          (state_of e c.slice.new.self) (g.O.Sink.taken c.loop-machine.out) (g.O.Sink.taken c.slice.new.out) (Ok pause.Reached)
          (Ok c.in-Ok-slice.pause)
          (c.in-Ok.ensures.frames ∙ c.loop-machine.invariant.frames) c.in-Ok.ensures.exact bound (ap (λ (p : Pause). Ok p) c.in-Reached.is)
          (c.in-Ok-slice.ensures.slice image) in
          nears_on s list n c.in-Ok.next (state_of e first) (state_of e m) (state_of e made) (state_of e c.slice.new.self)
          (g.O.Sink.taken c.args.out.now) (g.O.Sink.taken c.loop-machine.out) (g.O.Sink.taken c.slice.new.out)
          (c.loop-machine.invariant.near image) ready slice;
      kept = (let on = rw c.in-Reached.is at c.in-Ok-slice.ensures.goes_on in on.kept);
      exact = (let on = rw c.in-Reached.is at c.in-Ok-slice.ensures.goes_on in on.exact ∙ c.in-Ok.ensures.exact);
      frames = (let on = rw c.in-Reached.is at c.in-Ok-slice.ensures.goes_on in
          on.frames ∙ c.in-Ok.ensures.frames ∙ c.loop-machine.invariant.frames);
      splits = subst (Splits list c.in-Ok.next) at (splits_until list c.in-Ok.next m.step n c.in-Ok.ensures.splits (omega (arith, above)));
      unfailed = c.in-Ok-slice.ensures.count ∙ c.loop-machine.invariant.unfailed;
      within = omega (arith, most, at);
    }

pub returns-in-Stopped-clause-follows : goal.returns-in-Stopped-clause-follows
returns-in-Stopped-clause-follows g c = λ image.
    let e = g.C.Cache.entries in
    let m = c.loop-machine.machine in
    let made = c.make_all.new.machine in
    let first = c.args.machine.now in
    let list = c.args.list.now in
    let n = c.args.bound in
    let above = next_step-above m.step n list c.in-Ok.next c.in-Ok.ensures.splits
    (below c.step.result c.loop-machine.machine.step c.args.bound c.step.ensures c.loop-machine-test.true) in
    let bound = slice_bound c.step-done.result made.step c.next_step.result (next_step list c.in-Ok.next n) (sym c.step-done.ensures)
    c.next_step.ensures (omega (arith, above, c.in-Ok.ensures.step, c.step-done.ensures)) in
    let s = bare image c.args.script.now.list first.frames in
    let ready = ready_from image c.args.script.now.list first.frames m.frames list n c.in-Ok.next (state_of e m) (state_of e made)
    c.loop-machine.invariant.frames (below c.step.result c.loop-machine.machine.step c.args.bound c.step.ensures c.loop-machine-test.true)
    (c.in-Ok.ensures.made image c.args.script.now.list) c.in-Ok.ensures.splits in
    let slice = sliced image c.args.script.now.list first.frames made.frames (g.C.Cache.is_exact made.kept.cache)
    (next_step list c.in-Ok.next n) (made.step + (c.next_step.result - c.step-done.result)) (state_of e made) (state_of e c.slice.new.self)
    (g.O.Sink.taken c.loop-machine.out) (g.O.Sink.taken c.slice.new.out) (Ok (pause.Stopped c.in-Stopped.stop)) (Ok c.in-Ok-slice.pause)
    (c.in-Ok.ensures.frames ∙ c.loop-machine.invariant.frames) c.in-Ok.ensures.exact bound (ap (λ (p : Pause). Ok p) c.in-Stopped.is)
    (c.in-Ok-slice.ensures.slice image) in
    from_start s list n (state_of e first) c.slice.new.self.step (g.O.Sink.taken c.args.out.now) (g.O.Sink.taken c.slice.new.out)
    (Ok (ends.Ended (end.Stopped c.in-Stopped.stop))) c.requires.begin
    (at_stop s list n c.in-Ok.next (state_of e first) (state_of e m) (state_of e made) (state_of e c.slice.new.self) c.in-Stopped.stop
    (g.O.Sink.taken c.args.out.now) (g.O.Sink.taken c.loop-machine.out) (g.O.Sink.taken c.slice.new.out)
    (c.loop-machine.invariant.near image) ready slice)

pub returns-in-Err-slice-clause-follows : goal.returns-in-Err-slice-clause-follows
returns-in-Err-slice-clause-follows g c = λ image.
    let e = g.C.Cache.entries in
    let m = c.loop-machine.machine in
    let made = c.make_all.new.machine in
    let first = c.args.machine.now in
    let list = c.args.list.now in
    let n = c.args.bound in
    let above = next_step-above m.step n list c.in-Ok.next c.in-Ok.ensures.splits
    (below c.step.result c.loop-machine.machine.step c.args.bound c.step.ensures c.loop-machine-test.true) in
    let bound = slice_bound c.step-done.result made.step c.next_step.result (next_step list c.in-Ok.next n) (sym c.step-done.ensures)
    c.next_step.ensures (omega (arith, above, c.in-Ok.ensures.step, c.step-done.ensures)) in
    let s = bare image c.args.script.now.list first.frames in
    let ready = ready_from image c.args.script.now.list first.frames m.frames list n c.in-Ok.next (state_of e m) (state_of e made)
    c.loop-machine.invariant.frames (below c.step.result c.loop-machine.machine.step c.args.bound c.step.ensures c.loop-machine-test.true)
    (c.in-Ok.ensures.made image c.args.script.now.list) c.in-Ok.ensures.splits in
    let slice = sliced image c.args.script.now.list first.frames made.frames (g.C.Cache.is_exact made.kept.cache)
    (next_step list c.in-Ok.next n) (made.step + (c.next_step.result - c.step-done.result)) (state_of e made) (state_of e c.slice.new.self)
    (g.O.Sink.taken c.loop-machine.out) (g.O.Sink.taken c.slice.new.out) (Err c.in-Err-slice.failed) (Err c.in-Err-slice.failed)
    (c.in-Ok.ensures.frames ∙ c.loop-machine.invariant.frames) c.in-Ok.ensures.exact bound refl (c.in-Err-slice.ensures.slice image) in
    from_start s list n (state_of e first) c.slice.new.self.step (g.O.Sink.taken c.args.out.now) (g.O.Sink.taken c.slice.new.out)
    (Err c.in-Err-slice.failed) c.requires.begin
    (at_failure s list n c.in-Ok.next (state_of e first) (state_of e m) (state_of e made) (state_of e c.slice.new.self)
    c.in-Err-slice.failed (g.O.Sink.taken c.args.out.now) (g.O.Sink.taken c.loop-machine.out) (g.O.Sink.taken c.slice.new.out)
    c.slice.new.self.step (c.loop-machine.invariant.near image) ready slice)

pub returns-in-Err-clause-follows : goal.returns-in-Err-clause-follows
returns-in-Err-clause-follows g c = λ image.
    let e = g.C.Cache.entries in
    let m = c.loop-machine.machine in
    let first = c.args.machine.now in
    let s = bare image c.args.script.now.list first.frames in
    let told = g.O.Sink.taken c.args.out.now in
    let tells = g.O.Sink.taken c.loop-machine.out in
    let bad = bad_from image c.args.script.now.list first.frames m.frames c.args.list.now c.in-Err.bad (state_of e m)
    (state_of e c.make_all.new.machine) c.loop-machine.invariant.frames (c.in-Err.ensures.made image c.args.script.now.list) in
    let h = at_bad s c.args.list.now c.args.bound c.in-Err.bad (state_of e first) (state_of e m) told tells
    (c.loop-machine.invariant.near image)
    (below c.step.result c.loop-machine.machine.step c.args.bound c.step.ensures c.loop-machine-test.true) bad in
    from_start s c.args.list.now c.args.bound (state_of e first) c.make_all.new.machine.step told tells
    (Ok (ends.BadAt c.in-Err.bad)) c.requires.begin
    (subst (λ (k : ℕ). FollowsAs (up_to s c.args.list.now c.args.bound (state_of e first)) k told tells (Ok (ends.BadAt c.in-Err.bad)))
    (sym c.in-Err.ensures.step) h)

pub returns-clause-follows : goal.returns-clause-follows
returns-clause-follows g c = λ image.
    let e = g.C.Cache.entries in
    let m = c.loop-machine.machine in
    let s = bare image c.args.script.now.list c.args.machine.now.frames in
    from_start s c.args.list.now c.args.bound (state_of e c.args.machine.now) m.step (g.O.Sink.taken c.args.out.now)
    (g.O.Sink.taken c.loop-machine.out) (Ok (ends.Ended end.Bound)) c.requires.begin
    (at_end s c.args.list.now c.args.bound (state_of e c.args.machine.now) (state_of e m) (g.O.Sink.taken c.args.out.now)
    (g.O.Sink.taken c.loop-machine.out) (c.loop-machine.invariant.near image)
    (reaches c.step.result c.loop-machine.machine.step c.args.bound c.step.ensures c.loop-machine-test.false))
