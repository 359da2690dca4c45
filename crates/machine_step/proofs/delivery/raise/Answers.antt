use Rattle.std.proofs.Common.{[], None, sym, subst, ap}
use Rattle.descriptors.specs.declared.cpu.Cpu.{Cpu}
use Rattle.event_entry.specs.declared.refusal.NotDelivered.{NotDelivered}
use Rattle.paging.specs.Work.{Outcome}
use Rattle.machine_model.specs.Step.{after_delivery}
use Rattle.machine_step.specs.Worked.{ComesTo, answer_of}
use Rattle.machine_step.proofs.Used.{if_ok, entered_uses}
use Rattle.machine_step.specs.Left.{left_by}
use Rattle.machine_step.specs.Roots.{EndsWith}
use Rattle.machine_step.proofs.Rooted.{if_ok_as, ends_on, entered_keeps}
use Rattle.machine_step.proofs.delivery.raise.Goals as goal

pub returns-in-Ok-clause-step : goal.returns-in-Ok-clause-step
returns-in-Ok-clause-step g c = λ m b k.
    let s = g.M.GuestMem.space c.deliver.new.mem in
    subst (λ (o : Outcome NotDelivered Cpu). ComesTo (after_delivery m [] b b.board o) b
    (answer_of c.entered.result c.entered.new.worked) b.board s)
    (sym (rw (c.in-Ok.is, c.code_of-code.ensures) at c.deliver.ensures.gives)) (c.entered.ensures.step m b b.board s k)

pub returns-in-Ok-clause-uses : goal.returns-in-Ok-clause-uses
returns-in-Ok-clause-uses g c = λ user.
    let s = g.M.GuestMem.space c.args.mem.now in
    let t = g.M.GuestMem.space c.deliver.new.mem in
    if_ok c.entered.result (entered_uses c.works_use.ensures.delivered user _ _ _ _ _ s t (rw c.in-Ok.is at c.deliver.ensures.gives))

pub returns-in-Ok-clause-ends : goal.returns-in-Ok-clause-ends
returns-in-Ok-clause-ends g c =
    let cpu = c.args.worked.now.cpu in
    let after = c.deliver.new.cpu in
    if_ok_as (EndsWith None after) (EndsWith None cpu) (answer_of c.entered.result c.entered.new.worked)
    (λ w k. ends_on None cpu after w (entered_keeps cpu after _ _ _ _ _ (rw c.in-Ok.is at c.deliver.ensures.gives)) k)
    c.entered.ensures.ends

pub returns-in-Ok-clause-leaves : goal.returns-in-Ok-clause-leaves
returns-in-Ok-clause-leaves g c = sym (ap left_by (rw (c.in-Ok.is, c.code_of-code.ensures) at c.deliver.ensures.gives))

pub returns-in-Err-clause-leaves : goal.returns-in-Err-clause-leaves
returns-in-Err-clause-leaves g c = sym (ap left_by (rw c.code_of-code.ensures at c.in-Err.ensures.gives))
