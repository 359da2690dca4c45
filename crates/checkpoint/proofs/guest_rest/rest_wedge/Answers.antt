use Rattle.std.proofs.Common.{◌≡◌, ℕ, ◌+◌, ◌-◌, ◌*◌, length, refl, subst, ◌∙◌, inr, arith}
use Rattle.checkpoint.specs.InForm.{IsInForm}
use Rattle.checkpoint.specs.Moved.{kept_of}
use Rattle.machine_model.specs.State.{State, wedge}
use Rattle.pv_io.specs.Causes.{Rose}
use Rattle.wedge_core.specs.OfRoots.{of_roots}
use Rattle.wedge_step.specs.Standing.{state_of}
use Rattle.checkpoint.proofs.GuestRests.{at_bound, paused_so, guest_rests, guest_stops, guest_unput, guest_fails}
use Rattle.checkpoint.proofs.guest_rest.rest_wedge.Goals as goal

pub returns-in-Err : goal.returns-in-Err
returns-in-Err g c =
    let asked = c.step.ensures in
    let is : c.args.guest.step + (c.args.n - c.step.result) ≡ c.args.n = omega (arith, asked, c.requires.begun) in
    let f = guest_fails c.in-Err.field-0 (at_bound _ c.args.n _ is c.in-Err.ensures.slice) in
    record { rests = (f.0, f.1, f.2, f.3, f.4, c.in-Err.ensures.faults.cause) }

pub returns-in-Err-state_of_guest : goal.returns-in-Err-state_of_guest
returns-in-Err-state_of_guest g c =
    let asked = c.step.ensures in
    let is : c.args.guest.step + (c.args.n - c.step.result) ≡ c.args.n = omega (arith, asked, c.requires.begun) in
    let script = c.args.script.now.list in
    let memory = g.H.Host.bytes c.slice.new.host in
    let there : ℕ → State = λ f. state_of of_roots (wedge c.args.image.now script f) c.slice.new.self memory in
    let same = c.in-Ok.ensures.leaves.frames in
    let form = subst (λ (f : ℕ). IsInForm (kept_of (there f))) same (c.in-Err-state_of_guest.ensures.kept script) in
    let size = subst (λ (f : ℕ). length (there f).ram ≡ 4096 * f) same (c.in-Err-state_of_guest.ensures.size script) in
    let t = guest_rests _ _ c.in-Ok.pause c.in-Reached.is (at_bound _ c.args.n _ is c.in-Ok.ensures.slice)
    c.in-Ok.ensures.faults.kept form size in
    record { rests = inr (t.0, t.1) }

pub returns-in-Reached : goal.returns-in-Reached
returns-in-Reached g c =
    let asked = c.step.ensures in
    let is : c.args.guest.step + (c.args.n - c.step.result) ≡ c.args.n = omega (arith, asked, c.requires.begun) in
    let script = c.args.script.now.list in
    let memory = g.H.Host.bytes c.slice.new.host in
    let there : ℕ → State = λ f. state_of of_roots (wedge c.args.image.now script f) c.slice.new.self memory in
    let same = c.in-Ok.ensures.leaves.frames in
    let form = subst (λ (f : ℕ). IsInForm (kept_of (there f))) same (c.in-Ok-state_of_guest.ensures.kept script) in
    let size = subst (λ (f : ℕ). length (there f).ram ≡ 4096 * f) same (c.in-Ok-state_of_guest.ensures.size script) in
    let t = guest_rests _ _ c.in-Ok.pause c.in-Reached.is (at_bound _ c.args.n _ is c.in-Ok.ensures.slice)
    c.in-Ok.ensures.faults.kept form size in
    let made = subst (λ (f : ℕ). c.in-Ok-state_of_guest.state ≡ kept_of (there f)) same (c.in-Ok-state_of_guest.ensures.state script) in
    record { rests = (t.0, t.1, made ∙ t.2) }

pub returns-in-Err-put_end : goal.returns-in-Err-put_end
returns-in-Err-put_end g c =
    let asked = c.step.ensures in
    let is : c.args.guest.step + (c.args.n - c.step.result) ≡ c.args.n = omega (arith, asked, c.requires.begun) in
    let stopped = paused_so _ _ _ c.in-Stopped.is (at_bound _ c.args.n _ is c.in-Ok.ensures.slice) in
    let f = guest_unput _ c.in-Stopped.stop c.step-in-Stopped.result c.step-in-Stopped.ensures stopped c.in-Err-put_end.ensures.failed in
    let rose = subst (λ (k : ℕ). Rose k (g.O.Sink.faults c.put_end.new.out)) c.in-Ok.ensures.faults.kept c.in-Err-put_end.ensures.cause in
    record { rests = (f.0, f.1, f.2, f.3, f.4, rose) }

pub returns : goal.returns
returns g c =
    let asked = c.step.ensures in
    let is : c.args.guest.step + (c.args.n - c.step.result) ≡ c.args.n = omega (arith, asked, c.requires.begun) in
    let stopped = paused_so _ _ _ c.in-Stopped.is (at_bound _ c.args.n _ is c.in-Ok.ensures.slice) in
    let t =
    guest_stops _ c.in-Stopped.stop c.step-in-Stopped.result c.fills.result c.fills.ensures c.requires.filled c.in-Ok.ensures.leaves.few
    c.step-in-Stopped.ensures stopped c.in-Ok-put_end.ensures.ok in
    record { rests = (t.0, c.in-Stopped.stop, t.1, t.2, t.3, refl, t.4, c.in-Ok-put_end.ensures.kept ∙ c.in-Ok.ensures.faults.kept, t.5) }
