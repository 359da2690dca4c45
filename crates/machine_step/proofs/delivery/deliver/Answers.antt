use Rattle.std.proofs.Common.{[], ◌∷◌, None, refl, sym, subst, ap}
use Rattle.board.specs.declared.devices.Board.{Board}
use Rattle.board.specs.Boards.{acknowledged}
use Rattle.descriptors.specs.declared.cpu.Cpu.{Cpu}
use Rattle.event_entry.specs.declared.refusal.NotDelivered.{NotDelivered}
use Rattle.paging.specs.Work.{Outcome}
use Rattle.run_trace.specs.declared.items.What.TheVariants.{Irq}
use Rattle.machine_model.specs.Step.{interrupted, entered, after_delivery}
use Rattle.machine_step.specs.Worked.{ComesTo, answer_of}
use Rattle.machine_step.proofs.Used.{if_ok, entered_uses}
use Rattle.std.specs.Prelude.{◌==◌}
use Rattle.machine_step.specs.Left.{left_by}
use Rattle.machine_step.specs.Roots.{RootsAs, EndsWith}
use Rattle.machine_step.proofs.Rooted.{if_ok_as, ends_on, kept_roots, entered_keeps}
use Rattle.machine_step.proofs.delivery.deliver.Goals as goal

pub returns-in-Ok-clause-step : goal.returns-in-Ok-clause-step
unfolding interrupted
returns-in-Ok-clause-step g c = λ m b k.
    let a = c.args in
    let here = record b { cpu = a.worked.now.cpu; board = a.board.now } in
    let s = g.M.GuestMem.space c.deliver.new.mem in
    let board = c.acknowledge-vector.new.self in
    let answer = answer_of c.entered.result c.entered.new.worked in
    let stood = subst (λ (d : Board). ComesTo (entered m (Irq a.vector ∷ []) None here c.deliver.new.cpu d s) b answer board s)
    c.acknowledge-vector.ensures.after
    (c.entered.ensures.step m here board s k) in
    subst (λ (o : Outcome NotDelivered Cpu). ComesTo (after_delivery m (Irq a.vector ∷ []) here (acknowledged a.board.now) o) b answer board
    s)
    (sym (rw c.in-Ok.is at c.deliver.ensures.gives)) stood

pub returns-in-Ok-clause-uses : goal.returns-in-Ok-clause-uses
returns-in-Ok-clause-uses g c =
    let s = g.M.GuestMem.space c.args.mem.now in
    let t = g.M.GuestMem.space c.deliver.new.mem in
    if_ok c.entered.result (entered_uses c.works_use.ensures.delivered (c.args.worked.now.cpu.cpl == 3) _ _ _ _ _ s t
    (rw c.in-Ok.is at c.deliver.ensures.gives))

pub returns-in-Ok-clause-roots : goal.returns-in-Ok-clause-roots
returns-in-Ok-clause-roots g c =
    let cpu = c.args.worked.now.cpu in
    let after = c.deliver.new.cpu in
    if_ok_as (EndsWith None after) (RootsAs cpu) (answer_of c.entered.result c.entered.new.worked)
    (λ w k. kept_roots None cpu w refl
    (ends_on None cpu after w (entered_keeps cpu after _ _ _ _ _ (rw c.in-Ok.is at c.deliver.ensures.gives)) k)) c.entered.ensures.ends

pub returns-in-Ok-clause-leaves : goal.returns-in-Ok-clause-leaves
returns-in-Ok-clause-leaves g c = sym (ap left_by (rw c.in-Ok.is at c.deliver.ensures.gives))

pub returns-in-Err-clause-leaves : goal.returns-in-Err-clause-leaves
returns-in-Err-clause-leaves g c = sym (ap left_by c.in-Err.ensures.gives)
