use Rattle.std.proofs.Common.{◌≡◌, ℕ, ◌+◌, ◌-◌, Ok, Err, refl, subst, ◌∙◌, arith}
use Rattle.pv_io.specs.Causes.{Rose}
use Rattle.pv_io.specs.Sink.{Appends, AppendsFront}
use Rattle.run_trace.specs.declared.pause.Pause.{Pause}
use Rattle.run_trace.specs.Text.{end_line}
use Rattle.run_trace.specs.declared.items.End.TheVariants as ends
use Rattle.run_trace.proofs.Pauses.{reached_so}
use Rattle.bare_machine.specs.Machine.{state_of}
use Rattle.bare_machine.specs.Settings.{bare}
use Rattle.bare_machine.specs.Slices.{SliceAs}
use Rattle.checkpoint.specs.InForm.{IsInForm}
use Rattle.checkpoint.proofs.BareRests.{bare_rests, bare_stops, bare_unput, bare_fails}
use Rattle.checkpoint.proofs.bare_rest.rest_bare.Goals as goal

pub returns-in-Err : goal.returns-in-Err
returns-in-Err g c = record {
  rests = λ image.
      let machine = c.args.machine in
      let e = g.C.Cache.entries in
      let is : machine.step + (c.args.n - c.step-done.result) ≡ c.args.n = omega (arith, c.requires.begun, c.step-done.ensures) in
      let m = bare image c.args.script.now.list machine.frames in
      let exact = g.C.Cache.is_exact machine.kept.cache in
      let old = state_of e machine in
      let new = state_of e c.slice.new.self in
      let told = g.O.Sink.taken c.args.out.now in
      let tells = g.O.Sink.taken c.slice.new.out in
      let h = subst (λ (n : ℕ). SliceAs m exact n old new told tells (Err c.in-Err.field-0)) is (c.in-Err.ensures.slice image) in
      let f = bare_fails m exact c.args.n old new told tells c.in-Err.field-0 h in
      (f.0, f.1, f.2, f.3, f.4, c.in-Err.ensures.cause);
}

pub returns-in-Reached : goal.returns-in-Reached
returns-in-Reached g c = record {
  rests = λ image.
      let machine = c.args.machine in
      let e = g.C.Cache.entries in
      let is : machine.step + (c.args.n - c.step-done.result) ≡ c.args.n = omega (arith, c.requires.begun, c.step-done.ensures) in
      let m = bare image c.args.script.now.list machine.frames in
      let exact = g.C.Cache.is_exact machine.kept.cache in
      let old = state_of e machine in
      let new = state_of e c.slice.new.self in
      let told = g.O.Sink.taken c.args.out.now in
      let tells = g.O.Sink.taken c.slice.new.out in
      let h = subst (λ (n : ℕ). SliceAs m exact n old new told tells (Ok c.in-Ok.pause)) is (c.in-Ok.ensures.slice image) in
      let form = subst IsInForm c.state_of_bare.ensures.state c.state_of_bare.ensures.form in
      let size = (reached_so c.in-Ok.pause _ c.in-Ok.ensures.goes_on c.in-Reached.is).size ∙ c.requires.size in
      let r = bare_rests m exact c.args.n old new told tells _ _ c.in-Ok.pause c.in-Reached.is h c.in-Ok.ensures.count form size in
      (r.0, r.1, c.state_of_bare.ensures.state ∙ r.2);
}

pub returns-in-Err-put_end : goal.returns-in-Err-put_end
returns-in-Err-put_end g c = record {
  rests = λ image.
      let machine = c.args.machine in
      let e = g.C.Cache.entries in
      let is : machine.step + (c.args.n - c.step-done.result) ≡ c.args.n = omega (arith, c.requires.begun, c.step-done.ensures) in
      let m = bare image c.args.script.now.list machine.frames in
      let exact = g.C.Cache.is_exact machine.kept.cache in
      let old = state_of e machine in
      let new = state_of e c.slice.new.self in
      let told = g.O.Sink.taken c.args.out.now in
      let tells = g.O.Sink.taken c.slice.new.out in
      let h = subst (λ (n : ℕ). SliceAs m exact n old new told tells (Ok c.in-Ok.pause)) is (c.in-Ok.ensures.slice image) in
      let stopped = subst (λ (p : Pause). SliceAs m exact c.args.n old new told tells (Ok p)) c.in-Stopped.is h in
      let put = subst (λ (k : ℕ). AppendsFront tells (g.O.Sink.taken c.put_end.new.out) (end_line k (ends.Stopped c.in-Stopped.stop)))
      c.step-steps.ensures c.in-Err-put_end.ensures.failed in
      let f = bare_unput m exact c.args.n old new told tells _ c.in-Stopped.stop stopped put in (
        f.0,
        f.1,
        f.2,
        f.3,
        f.4,
        subst (λ (k : ℕ). Rose k (g.O.Sink.faults c.put_end.new.out)) c.in-Ok.ensures.count c.in-Err-put_end.ensures.cause,
      );
}

pub returns : goal.returns
returns g c = record {
  rests = λ image.
      let machine = c.args.machine in
      let e = g.C.Cache.entries in
      let is : machine.step + (c.args.n - c.step-done.result) ≡ c.args.n = omega (arith, c.requires.begun, c.step-done.ensures) in
      let m = bare image c.args.script.now.list machine.frames in
      let exact = g.C.Cache.is_exact machine.kept.cache in
      let old = state_of e machine in
      let new = state_of e c.slice.new.self in
      let told = g.O.Sink.taken c.args.out.now in
      let tells = g.O.Sink.taken c.slice.new.out in
      let h = subst (λ (n : ℕ). SliceAs m exact n old new told tells (Ok c.in-Ok.pause)) is (c.in-Ok.ensures.slice image) in
      let stopped = subst (λ (p : Pause). SliceAs m exact c.args.n old new told tells (Ok p)) c.in-Stopped.is h in
      let put = subst (λ (k : ℕ). Appends tells (g.O.Sink.taken c.put_end.new.out) (end_line k (ends.Stopped c.in-Stopped.stop)))
      c.step-steps.ensures c.in-Ok-put_end.ensures.ok in
      let r = bare_stops m exact c.args.n old new told tells _ c.in-Stopped.stop stopped put in
      (r.0, c.in-Stopped.stop, r.1, r.2, c.step-steps.ensures ∙ r.3, refl, r.4, c.in-Ok-put_end.ensures.kept ∙ c.in-Ok.ensures.count, refl);
}
