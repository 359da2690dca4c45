use Rattle.std.proofs.Common.{◌≡◌, ℕ, Option, false, subst, sym, ap, ◌∙◌}
use Rattle.machine_model.specs.Step.{by_interrupt, unheld}
use Rattle.machine_step.specs.Begun.{taken_by}
use Rattle.machine_step.specs.Roots.{RootsAs}
use Rattle.machine_step.specs.Worked.{ComesTo, answer_of}
use Rattle.machine_step.proofs.Rooted.{if_ok_as, unheld_roots}
use Rattle.machine_step.proofs.Used.{on_err}
use Rattle.machine_step.specs.Left.{left_unless}
use Rattle.machine_step.specs.Raised.{raised_unless}
use Rattle.machine_step.proofs.stepping.step_over.Goals as goal

pub returns-in-None-clause-step : goal.returns-in-None-clause-step
returns-in-None-clause-step g c = λ m b k.
    let a = c.args in
    let here = record b { cpu = a.worked.now.cpu; board = a.board.now } in
    subst (λ (o : Option ℕ). ComesTo (by_interrupt m o (unheld here) (g.M.GuestMem.space a.mem.now)) b
    (answer_of c.work.result c.work.new.worked) c.work.new.board (g.M.GuestMem.space c.work.new.mem))
    c.in-None.ensures (c.work.ensures.step m here k)

pub returns-in-Some-clause-step : goal.returns-in-Some-clause-step
returns-in-Some-clause-step g c = λ m b k.
    let a = c.args in
    let here = record b { cpu = a.worked.now.cpu; board = a.board.now } in
    subst (λ (o : Option ℕ). ComesTo (by_interrupt m o (unheld here) (g.M.GuestMem.space a.mem.now)) b
    (answer_of c.deliver.result c.deliver.new.worked) c.deliver.new.board (g.M.GuestMem.space c.deliver.new.mem))
    c.in-Some.ensures (c.deliver.ensures.step m here k)

pub returns-in-None-clause-roots : goal.returns-in-None-clause-roots
returns-in-None-clause-roots g c =
    let cpu = c.args.worked.now.cpu in
    if_ok_as (RootsAs (record cpu { held = false })) (RootsAs cpu) (answer_of c.work.result c.work.new.worked) (unheld_roots cpu)
    c.work.ensures.roots

pub returns-in-Some-clause-roots : goal.returns-in-Some-clause-roots
returns-in-Some-clause-roots g c =
    let cpu = c.args.worked.now.cpu in
    if_ok_as (RootsAs (record cpu { held = false })) (RootsAs cpu) (answer_of c.deliver.result c.deliver.new.worked) (unheld_roots cpu)
    c.deliver.ensures.roots

pub returns-in-None-clause-stopped : goal.returns-in-None-clause-stopped
returns-in-None-clause-stopped g c = rw (sym c.in-None.ensures) c.work.ensures.stopped

pub returns-in-Some-clause-stopped : goal.returns-in-Some-clause-stopped
returns-in-Some-clause-stopped g c =
    on_err c.deliver.result (c.deliver.ensures.board ∙ ap (λ (o : Option ℕ). taken_by o c.args.board.now) c.in-Some.ensures)

pub returns-in-None-clause-raised : goal.returns-in-None-clause-raised
returns-in-None-clause-raised g c = λ m k.
    let a = c.args in
    subst (λ (o : Option ℕ). c.work.new.worked.raised ≡ raised_unless m o (record a.worked.now.cpu { held = false })
    (g.M.GuestMem.space a.mem.now))
    c.in-None.ensures (c.work.ensures.raised m k)

pub returns-in-Some-clause-raised : goal.returns-in-Some-clause-raised
returns-in-Some-clause-raised g c = λ m k.
    let a = c.args in
    subst (λ (o : Option ℕ). c.deliver.new.worked.raised ≡ raised_unless m o (record a.worked.now.cpu { held = false })
    (g.M.GuestMem.space a.mem.now))
    c.in-Some.ensures c.deliver.ensures.raised

pub returns-in-None-clause-leaves : goal.returns-in-None-clause-leaves
returns-in-None-clause-leaves g c = λ m k.
    let a = c.args in
    subst (λ (o : Option ℕ). g.M.GuestMem.space c.work.new.mem ≡ left_unless m o (record a.worked.now.cpu { held = false })
    (g.M.GuestMem.space a.mem.now))
    c.in-None.ensures (c.work.ensures.leaves m k)

pub returns-in-Some-clause-leaves : goal.returns-in-Some-clause-leaves
returns-in-Some-clause-leaves g c = λ m k.
    let a = c.args in
    subst (λ (o : Option ℕ). g.M.GuestMem.space c.deliver.new.mem ≡ left_unless m o (record a.worked.now.cpu { held = false })
    (g.M.GuestMem.space a.mem.now))
    c.in-Some.ensures c.deliver.ensures.leaves
