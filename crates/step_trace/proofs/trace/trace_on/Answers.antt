use Rattle.std.proofs.Common.{ℕ, sym, subst, arith}
use Rattle.run_trace.specs.declared.items.End.TheVariants as end
use Rattle.look_words.specs.View.{only_view}
use Rattle.bare_machine.specs.Ending.{EndsAs}
use Rattle.bare_machine.specs.Machine.{state_of}
use Rattle.bare_machine.specs.Settings.{bare}
use Rattle.step_trace.specs.Answers.{TracesAs, HasPut}
use Rattle.step_trace.specs.Traces.{trace_to}
use Rattle.step_trace.proofs.Ends.{ended, begun, stopped_early, cut_early}
use Rattle.step_trace.proofs.trace.trace_on.Goals as goal

pub returns-in-Err : goal.returns-in-Err
returns-in-Err g c = λ image.
    let e = g.C.Cache.entries in (
      cut_early g.C.Cache.keeping (bare image c.args.script.now.list c.args.machine.now.frames) c.args.n c.args.from _
          (only_view c.args.only.now) (state_of e c.args.machine.now) (state_of e c.slice.new.self) _ _ c.in-Err.field-0
          (omega (arith, c.requires.begun, c.unlisted-first.ensures.from))
          (omega (arith, c.requires.begun, c.unlisted-first.ensures.within)) (c.in-Err.ensures.steps image),
      c.in-Err.ensures.cause,
    )

pub returns-in-Stopped : goal.returns-in-Stopped
returns-in-Stopped g c = λ image.
    let e = g.C.Cache.entries in
    let taken = g.O.Sink.taken in
    let faults = g.O.Sink.faults in
    let m = bare image c.args.script.now.list c.args.machine.now.frames in
    let only = only_view c.args.only.now in
    let old = state_of e c.args.machine.now in
    let slice = rw c.in-Stopped.is at (c.in-Ok.ensures.steps image) in
    let put = stopped_early g.C.Cache.keeping m c.args.n c.args.from _ only old (state_of e c.slice.new.self) _ _ c.in-Stopped.stop
    (omega (arith, c.requires.begun, c.unlisted-first.ensures.from))
    (omega (arith, c.requires.begun, c.unlisted-first.ensures.within)) slice in
    let ends =
    subst (λ (k : ℕ). EndsAs k (end.Stopped c.in-Stopped.stop) (taken c.slice.new.out) (taken c.end_run.new.out) (faults c.slice.new.out)
    (faults c.end_run.new.out) c.end_run.result) c.step-steps.ensures c.end_run.ensures.ends in
    ended (trace_to g.C.Cache.keeping m c.args.n c.args.from only old) c.slice.new.self.step _ _ _ _ _ _ _ c.end_run.result put
    c.in-Ok.ensures.count ends

pub steps_to_end-requires-clause-kept : goal.steps_to_end-requires-clause-kept
steps_to_end-requires-clause-kept g c = (rw c.in-Reached.is at c.in-Ok.ensures.goes_on).kept

pub returns-in-Reached : goal.returns-in-Reached
returns-in-Reached g c = λ image.
    let e = g.C.Cache.entries in
    let keeping = g.C.Cache.keeping in
    let taken = g.O.Sink.taken in
    let faults = g.O.Sink.faults in
    let m = bare image c.args.script.now.list c.args.machine.now.frames in
    let only = only_view c.args.only.now in
    let old = state_of e c.args.machine.now in
    let new = state_of e c.slice.new.self in
    let whole = trace_to keeping m c.args.n c.args.from only old in
    let goes = rw c.in-Reached.is at c.in-Ok.ensures.goes_on in
    let slice = rw c.in-Reached.is at (c.in-Ok.ensures.steps image) in
    let put = begun keeping m c.args.n c.args.from _ only old new _ _ (omega (arith, c.requires.begun, c.unlisted-first.ensures.from))
    (omega (arith, c.requires.begun, c.unlisted-first.ensures.within)) slice in
    let put_now =
    subst (λ (f : ℕ). HasPut whole (trace_to keeping (bare image c.args.script.now.list f) c.args.n c.args.from only new)
    (taken c.args.out.now) (taken c.slice.new.out)) (sym goes.frames) put in
    subst (λ (k : ℕ). TracesAs whole (taken c.args.out.now) (taken c.steps_to_end.new.out) k (faults c.steps_to_end.new.out)
    c.steps_to_end.result) c.in-Ok.ensures.count
    (c.steps_to_end.ensures image whole (taken c.args.out.now) put_now)
