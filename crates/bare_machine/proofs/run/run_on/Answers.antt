use Rattle.std.proofs.Common.{◌≡◌, ℕ, ◌+◌, ◌-◌, Ok, Err, subst, arith}
use Rattle.run_trace.specs.declared.items.End.{End}
use Rattle.bare_machine.specs.Ending.{EndsAs}
use Rattle.bare_machine.specs.Machine.{state_of}
use Rattle.bare_machine.specs.Settings.{bare}
use Rattle.bare_machine.specs.Slices.{SliceAs}
use Rattle.bare_machine.specs.Buffered.{KeptSlice}
use Rattle.bare_machine.proofs.Buffering.{slice_comes, slice_failed}
use Rattle.bare_machine.proofs.Freshly.{course_ended}
use Rattle.bare_machine.proofs.Wholes.{whole_ended, whole_front}
use Rattle.bare_machine.proofs.run.run_on.Goals as goal

pub returns-in-Err-clause-whole : goal.returns-in-Err-clause-whole
returns-in-Err-clause-whole g c = λ image.
    let e = g.C.Cache.entries in
    let bound : c.args.machine.now.step + (c.args.n - c.step-done.result) ≡ c.args.n =
    omega (arith, c.requires.begun, c.step-done.ensures) in
    let h =
    subst (λ (n : ℕ). SliceAs (bare image c.args.script.now.list c.args.machine.now.frames)
    (g.C.Cache.is_exact c.args.machine.now.kept.cache) n (state_of e c.args.machine.now) (state_of e c.slice.new.self)
    (g.O.Sink.taken c.args.out.now) (g.O.Sink.taken c.slice.new.out) (Err c.in-Err.field-0)) bound (c.in-Err.ensures.slice image) in
    whole_front _ _ _ _ _ _ _ _ _ _ h c.in-Err.ensures.cause

pub returns-in-Ok-clause-whole : goal.returns-in-Ok-clause-whole
returns-in-Ok-clause-whole g c = λ image.
    let e = g.C.Cache.entries in
    let bound : c.args.machine.now.step + (c.args.n - c.step-done.result) ≡ c.args.n =
    omega (arith, c.requires.begun, c.step-done.ensures) in
    let h =
    subst (λ (n : ℕ). SliceAs (bare image c.args.script.now.list c.args.machine.now.frames)
    (g.C.Cache.is_exact c.args.machine.now.kept.cache) n (state_of e c.args.machine.now) (state_of e c.slice.new.self)
    (g.O.Sink.taken c.args.out.now) (g.O.Sink.taken c.slice.new.out) (Ok c.in-Ok.pause)) bound (c.in-Ok.ensures.slice image) in
    let ends =
    subst (λ (x : End). EndsAs c.slice.new.self.step x (g.O.Sink.taken c.slice.new.out) (g.O.Sink.taken c.end_run.new.out)
    (g.O.Sink.faults c.slice.new.out) (g.O.Sink.faults c.end_run.new.out) c.end_run.result) c.end_of.ensures
    (subst (λ (k : ℕ). EndsAs k c.end_of.result (g.O.Sink.taken c.slice.new.out) (g.O.Sink.taken c.end_run.new.out)
    (g.O.Sink.faults c.slice.new.out) (g.O.Sink.faults c.end_run.new.out) c.end_run.result) c.step-steps.ensures c.end_run.ensures.ends) in
    whole_ended _ _ _ _ (state_of e c.slice.new.self) _ _ _ c.in-Ok.pause _ (g.O.Sink.faults c.slice.new.out) _ c.end_run.result h
    c.in-Ok.ensures.count ends

pub returns-in-Err-clause-course : goal.returns-in-Err-clause-course
returns-in-Err-clause-course g c = λ image.
    let e = g.C.Cache.entries in
    let bound : c.args.machine.now.step + (c.args.n - c.step-done.result) ≡ c.args.n =
    omega (arith, c.requires.begun, c.step-done.ensures) in
    let h =
    subst (λ (n : ℕ). KeptSlice g.C.Cache.keeping (bare image c.args.script.now.list c.args.machine.now.frames) n
    (state_of e c.args.machine.now) (state_of e c.slice.new.self) (g.O.Sink.taken c.args.out.now) (g.O.Sink.taken c.slice.new.out)
    (Err c.in-Err.field-0)) bound (c.in-Err.ensures.steps image) in
    slice_failed _ _ _ _ _ _ _ _ _ _ h c.in-Err.ensures.cause

pub returns-in-Ok-clause-course : goal.returns-in-Ok-clause-course
returns-in-Ok-clause-course g c = λ image.
    let e = g.C.Cache.entries in
    let bound : c.args.machine.now.step + (c.args.n - c.step-done.result) ≡ c.args.n =
    omega (arith, c.requires.begun, c.step-done.ensures) in
    let h =
    subst (λ (n : ℕ). KeptSlice g.C.Cache.keeping (bare image c.args.script.now.list c.args.machine.now.frames) n
    (state_of e c.args.machine.now) (state_of e c.slice.new.self) (g.O.Sink.taken c.args.out.now) (g.O.Sink.taken c.slice.new.out)
    (Ok c.in-Ok.pause)) bound (c.in-Ok.ensures.steps image) in
    let ends =
    subst (λ (x : End). EndsAs c.slice.new.self.step x (g.O.Sink.taken c.slice.new.out) (g.O.Sink.taken c.end_run.new.out)
    (g.O.Sink.faults c.slice.new.out) (g.O.Sink.faults c.end_run.new.out) c.end_run.result) c.end_of.ensures
    (subst (λ (k : ℕ). EndsAs k c.end_of.result (g.O.Sink.taken c.slice.new.out) (g.O.Sink.taken c.end_run.new.out)
    (g.O.Sink.faults c.slice.new.out) (g.O.Sink.faults c.end_run.new.out) c.end_run.result) c.step-steps.ensures c.end_run.ensures.ends) in
    course_ended _ c.slice.new.self.step _ _ _ _ _ (g.O.Sink.faults c.slice.new.out) _ c.end_run.result
    (slice_comes _ _ _ _ (state_of e c.slice.new.self) _ _ c.in-Ok.pause h) c.in-Ok.ensures.count ends
