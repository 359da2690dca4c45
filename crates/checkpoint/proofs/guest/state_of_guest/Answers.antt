use Rattle.std.proofs.Common.{◌≡◌, List, ℕ, ◌*◌, take, ap, ◌∙◌}
use Rattle.guest_ram.specs.Bytes.{with_part}
use Rattle.native_steps.specs.Mirrors.{shown}
use Rattle.shadow_cache.specs.declared.roots.Roots.{Roots}
use Rattle.wedge_step.specs.declared.running.Running.{Running}
use Rattle.checkpoint.specs.declared.state.State.{State}
use Rattle.checkpoint.proofs.GuestForms.{guest_form, guest_size}
use Rattle.checkpoint.proofs.guest.state_of_guest.Goals as goal

pub returns-clause-state : goal.returns-clause-state
unfolding shown
returns-clause-state g c = λ script.
    let taken = c.into_running-running.result in
    let guest = c.args.guest in
    let same : taken ≡ guest = c.into_running-running.ensures in
    let host = g.H.Host.bytes c.args.host.now in
    let text = c.args.image.now.text in
    let ram : c.in_ok-ram.ram ≡ with_part (take (4096 * guest.frames) host) 0x100000 text =
    c.in_ok-ram.ensures.ram ∙ (ap (λ (m : List ℕ). with_part (take (4096 * taken.frames) m) 0x100000 text) c.ram.ensures
    ∙ ap (λ (r : Running Roots). with_part (take (4096 * r.frames) host) 0x100000 text) same) in
    ap (λ (r : Running Roots). let made : State = record { cpu = r.cpu; board = r.board; step = r.step; ram = c.in_ok-ram.ram } in made)
    same
    ∙ ap (λ (x : List ℕ). let made : State = record { cpu = guest.cpu; board = guest.board; step = guest.step; ram = x } in made) ram

pub returns-clause-kept : goal.returns-clause-kept
returns-clause-kept g c = λ script.
    let held = c.requires.held in
    guest_form c.args.image.now script c.args.guest held.0 (g.H.Host.bytes c.args.host.now) held.1 c.requires.fit c.requires.step

pub returns-in_err-ram-clause-kept : goal.returns-in_err-ram-clause-kept
returns-in_err-ram-clause-kept g c = λ script.
    let held = c.requires.held in
    guest_form c.args.image.now script c.args.guest held.0 (g.H.Host.bytes c.args.host.now) held.1 c.requires.fit c.requires.step

pub returns-clause-size : goal.returns-clause-size
returns-clause-size g c = λ script.
    let held = c.requires.held in
    guest_size c.args.image.now script c.args.guest held.0 (g.H.Host.bytes c.args.host.now) held.1

pub returns-in_err-ram-clause-size : goal.returns-in_err-ram-clause-size
returns-in_err-ram-clause-size g c = λ script.
    let held = c.requires.held in
    guest_size c.args.image.now script c.args.guest held.0 (g.H.Host.bytes c.args.host.now) held.1
