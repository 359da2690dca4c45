use Rattle.std.proofs.Common.{◌≡◌, ◌*◌, ◌≤◌, ℕ, List, Some, Ok, true, false, is_none, refl, sym, subst}
use Rattle.frame_pool.specs.declared.Pool.{Pool}
use Rattle.pv_io.specs.Sink.{Appends}
use Rattle.run_trace.specs.Text.{end_line}
use Rattle.run_trace.specs.declared.items.End.{End}
use Rattle.run_trace.specs.declared.items.End.TheVariants as end
use Rattle.run_trace.specs.declared.pause.Pause.{Pause}
use Rattle.run_trace.specs.declared.pause.Pause.TheVariants.{Reached}
use Rattle.run_trace.proofs.Pauses.{reached_so}
use Rattle.wedge_step.specs.Scene.{scene}
use Rattle.wedge_core.specs.Calls.{GuestLeaves}
use Rattle.wedge_core.specs.OfRoots.{of_roots}
use Rattle.wedge_core.specs.Sliced.{SliceLeaves}
use Rattle.guest_sched.specs.Seating.{HasGoneOn, TakesTurn}
use Rattle.guest_sched.specs.Tags.{tag_of, tagged}
use Rattle.guest_sched.specs.Went.{EndsSo}
use Rattle.guest_sched.specs.declared.kernel.Kernel.{Kernel}
use Rattle.guest_sched.specs.declared.tenants.Tenant.{Tenant}
use Rattle.guest_sched.proofs.Failing.{on_err, failed_in_steps, failed_at_stop}
use Rattle.guest_sched.proofs.shared.go_on.Goals as goal

-- after the steps of a turn the kernel holds its frames, and may go on where it met no stop
gone_on : (kernel : Kernel) (bound : ℕ) (p p' : Pool) (host host' : List ℕ) (old new : Tenant) (paused : Pause)
    → SliceLeaves of_roots kernel.image bound (scene old.guest p host) (scene new.guest p' host') (Ok paused)
    → GuestLeaves kernel.image kernel.script.list (scene old.guest p host) (scene new.guest p' host') (Ok paused)
    → TakesTurn kernel p host old → new.ram ≡ old.ram → (is_none new.stop ≡ true → paused ≡ Reached)
    → HasGoneOn kernel p p' host host' old new
gone_on kernel bound p p' host host' old new paused leaves own takes ram live = record {
  seated = record {
    holds = record {
      frames_are = leaves.frames;
      room = subst (λ (k : ℕ). 4096 * old.guest.frames ≤ k) (sym leaves.pool.size) takes.goes_on.held.host.room;
      stand = leaves.stands;
      owns = own.owns;
      counted = leaves.counted;
    };
    goes_on = λ e. record {
      held = reached_so paused _ leaves.held (live e);
      ready = reached_so paused _ leaves.ready (live e);
      able = reached_so paused _ leaves.able (live e);
      filled = own.filled takes.goes_on.filled;
    };
  };
  keeps = leaves.pool;
  ram = ram;
}

pub returns-in_err-pause-clause-failed : goal.returns-in_err-pause-clause-failed
returns-in_err-pause-clause-failed g c =
    let t = c.in_err-pause.ensures.turn.0 in
    on_err c.from_residual.result
    (failed_in_steps c.args.kernel.now c.args.slice.now.kernel c.args.slice.now.steps (g.H.Host.bytes c.args.host.now) c.args.tenant.now
    (g.O.Sink.taken c.args.out.now) (g.O.Sink.taken c.steps_on.new.out) (g.O.Sink.taken c.steps_on.new.out)
    t.sets t.reports t.last t.steps t.ends t.text)

pub returns-in_err-put_last-clause-failed : goal.returns-in_err-put_last-clause-failed
returns-in_err-put_last-clause-failed g c =
    let t = c.in_ok-pause.ensures.turn.0 in
    on_err c.from_residual-in_err-put_last.result
    (failed_at_stop c.args.kernel.now c.args.slice.now.kernel c.args.slice.now.steps (g.H.Host.bytes c.args.host.now) c.args.tenant.now
    (g.O.Sink.taken c.args.out.now) (g.O.Sink.taken c.put_last.new.out) (g.O.Sink.taken c.steps_on.new.out)
    t.sets t.reports t.last _ t.end c.in_ok-pause.pause c.in-Stopped.stop c.end_of.result c.in-Stopped.is t.steps t.ends t.text
    c.end_of.ensures.steps c.end_of.ensures.end c.in_err-put_last.ensures.failed)

pub returns-in_ok-put_last-clause-turned : goal.returns-in_ok-put_last-clause-turned
returns-in_ok-put_last-clause-turned g c =
    let between = g.O.Sink.taken c.steps_on.new.out in
    let tells = g.O.Sink.taken c.put_last.new.out in
    let tag = tag_of c.args.slice.now.kernel in
    let new : Tenant = record { guest = c.steps_on.new.guest; ram = c.args.tenant.now.ram; stop = Some c.in-Stopped.stop } in
    let put = subst (λ (k : ℕ). Appends between tells (tagged tag (end_line k (end.Stopped c.in-Stopped.stop)))) c.end_of.ensures.steps
    (subst (λ (x : End). Appends between tells (tagged tag (end_line c.end_of.result.steps x))) c.end_of.ensures.end
    c.in_ok-put_last.ensures.ok) in
    record {
      pause = c.in_ok-pause.pause;
      between = between;
      turn = c.in_ok-pause.ensures.turn.0;
      kept = c.in_ok-pause.ensures.turn.1;
      ends = subst (λ (p : Pause). EndsSo c.args.slice.now.kernel new between tells p) (sym c.in-Stopped.is) (refl, put);
      few = c.in_ok-pause.ensures.leaves.few;
    }

pub returns-in_ok-put_last-clause-gone : goal.returns-in_ok-put_last-clause-gone
returns-in_ok-put_last-clause-gone g c =
    gone_on c.args.kernel.now _ c.args.pool.now c.steps_on.new.pool (g.H.Host.bytes c.args.host.now) (g.H.Host.bytes c.steps_on.new.host)
    c.args.tenant.now _ c.in_ok-pause.pause
    c.in_ok-pause.ensures.leaves c.in_ok-pause.ensures.own c.requires.takes refl (λ e. absurd (let f : false ≡ true = e in cc))

pub returns-in_default-clause-turned : goal.returns-in_default-clause-turned
returns-in_default-clause-turned g c =
    let between = g.O.Sink.taken c.steps_on.new.out in
    let new : Tenant = record { guest = c.steps_on.new.guest; ram = c.args.tenant.now.ram; stop = c.args.tenant.now.stop } in
    record {
      pause = c.in_ok-pause.pause;
      between = between;
      turn = c.in_ok-pause.ensures.turn.0;
      kept = c.in_ok-pause.ensures.turn.1;
      ends =
          subst (λ (p : Pause). EndsSo c.args.slice.now.kernel new between between p) (sym c.in_default.is) (c.requires.takes.fresh, refl);
      few = c.in_ok-pause.ensures.leaves.few;
    }

pub returns-in_default-clause-gone : goal.returns-in_default-clause-gone
returns-in_default-clause-gone g c =
    gone_on c.args.kernel.now _ c.args.pool.now c.steps_on.new.pool (g.H.Host.bytes c.args.host.now) (g.H.Host.bytes c.steps_on.new.host)
    c.args.tenant.now _ c.in_ok-pause.pause
    c.in_ok-pause.ensures.leaves c.in_ok-pause.ensures.own c.requires.takes refl (λ _. c.in_default.is)
