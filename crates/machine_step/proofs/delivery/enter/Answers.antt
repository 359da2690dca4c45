use Rattle.std.proofs.Common.{Some, None, refl, sym, subst, ap, ◌∙◌}
use Rattle.descriptors.specs.declared.cpu.Cpu.{Cpu}
use Rattle.event_entry.specs.declared.refusal.NotDelivered.{NotDelivered}
use Rattle.paging.specs.Work.{Outcome}
use Rattle.machine_model.specs.Step.{after_software}
use Rattle.machine_step.specs.Worked.{ComesTo, answer_of, completed_of, done_by}
use Rattle.machine_step.proofs.Used.{if_ok, if_ok_on, entered_uses, denied_uses}
use Rattle.std.specs.Prelude.{Bool, ◌==◌}
use Rattle.machine_step.specs.Roots.{RootsAs, EndsWith, KeepsRoots}
use Rattle.sys_exec.specs.Operand.{past}
use Rattle.machine_step.proofs.Rooted.{if_ok_as, ends_on, kept_roots, entered_keeps}
use Rattle.machine_step.specs.Left.{left_by_gate}
use Rattle.machine_step.specs.Raised.{raised_by_gate}
use Rattle.machine_step.proofs.delivery.enter.Goals as goal

pub returns-in-Err-Privilege-clause-step : goal.returns-in-Err-Privilege-clause-step
returns-in-Err-Privilege-clause-step g c = λ m b k.
    let h = rw (c.in-Err-Privilege.field-0-is, c.past-worked.ensures) at c.in-Err-Privilege.ensures.gives in
    subst (λ (o : Outcome NotDelivered Cpu). ComesTo
    (after_software m (record b { cpu = c.args.before.now }) (completed_of (done_by c.args.insn.now c.args.before.now)) c.args.vector o) b
    (answer_of c.raise.result c.raise.new.worked) b.board (g.M.GuestMem.space c.raise.new.mem))
    (sym h) (rw c.from.ensures at (c.raise.ensures.step m (record b { cpu = c.args.before.now }) k))

pub returns-in-Ok-clause-step : goal.returns-in-Ok-clause-step
returns-in-Ok-clause-step g c = λ m b k.
    let here = record b { cpu = c.args.before.now } in
    let s = g.M.GuestMem.space c.deliver.new.mem in
    subst (λ (o : Outcome NotDelivered Cpu). ComesTo
    (after_software m here (completed_of (done_by c.args.insn.now c.args.before.now)) c.args.vector o) b
    (answer_of c.entered.result c.entered.new.worked) b.board s)
    (sym (rw (c.in-Ok.is, c.past-worked.ensures) at c.deliver.ensures.gives))
    (rw c.of-completed.ensures at (c.entered.ensures.step m here b.board s k))

pub returns-in-Ok-clause-uses : goal.returns-in-Ok-clause-uses
returns-in-Ok-clause-uses g c =
    let s = g.M.GuestMem.space c.args.mem.now in
    let t = g.M.GuestMem.space c.deliver.new.mem in
    if_ok c.entered.result (entered_uses c.works_use.ensures.delivered (c.args.before.now.cpl == 3) _ _ _ _ _ s t
    (rw c.in-Ok.is at c.deliver.ensures.gives))

pub returns-in-Err-Privilege-clause-uses : goal.returns-in-Err-Privilege-clause-uses
returns-in-Err-Privilege-clause-uses g c =
    let user : Bool = c.args.before.now.cpl == 3 in
    let s = g.M.GuestMem.space c.args.mem.now in
    let t = g.M.GuestMem.space c.deliver.new.mem in
    let u = g.M.GuestMem.space c.raise.new.mem in
    if_ok_on user s t u c.raise.result
    (denied_uses c.works_use.ensures.delivered user _ _ _ _ s t (rw c.in-Err-Privilege.field-0-is at c.in-Err-Privilege.ensures.gives))
    (c.raise.ensures.uses user)

pub returns-in-Ok-clause-roots : goal.returns-in-Ok-clause-roots
returns-in-Ok-clause-roots g c =
    let cpu = c.args.before.now in
    let after = c.deliver.new.cpu in
    let done = Some (done_by c.args.insn.now c.args.before.now) in
    let k : KeepsRoots (past cpu c.args.len) after =
    entered_keeps (past cpu c.args.len) after _ _ _ _ _ (rw (c.in-Ok.is, c.past-worked.ensures) at c.deliver.ensures.gives) in
    if_ok_as (EndsWith done after) (RootsAs cpu) (answer_of c.entered.result c.entered.new.worked)
    (λ w h. kept_roots done cpu w c.requires.no_load (ends_on done cpu after w (record { cr0 = k.cr0; cr3 = k.cr3; cr4 = k.cr4 }) h))
    (rw c.of-completed.ensures at c.entered.ensures.ends)

pub returns-in-Err-Privilege-clause-roots : goal.returns-in-Err-Privilege-clause-roots
returns-in-Err-Privilege-clause-roots g c =
    let cpu = c.args.before.now in
    if_ok_as (EndsWith None cpu) (RootsAs cpu) (answer_of c.raise.result c.raise.new.worked) (λ w k. kept_roots None cpu w refl k)
    c.raise.ensures.ends

pub returns-in-Ok-clause-raised : goal.returns-in-Ok-clause-raised
returns-in-Ok-clause-raised g c =
    c.entered.ensures.raised
    ∙ (c.requires.fresh ∙ sym (ap (raised_by_gate c.args.before.now c.args.vector)
    (rw (c.in-Ok.is, c.past-worked.ensures) at c.deliver.ensures.gives)))

pub returns-in-Err-Privilege-clause-raised : goal.returns-in-Err-Privilege-clause-raised
returns-in-Err-Privilege-clause-raised g c =
    rw c.from.ensures at c.raise.ensures.raised
    ∙ sym (ap (raised_by_gate c.args.before.now c.args.vector)
    (rw (c.in-Err-Privilege.field-0-is, c.past-worked.ensures) at c.in-Err-Privilege.ensures.gives))

pub returns-in-Ok-clause-leaves : goal.returns-in-Ok-clause-leaves
returns-in-Ok-clause-leaves g c =
    sym (ap (left_by_gate c.args.before.now c.args.vector) (rw (c.in-Ok.is, c.past-worked.ensures) at c.deliver.ensures.gives))

pub returns-in-Err-Privilege-clause-leaves : goal.returns-in-Err-Privilege-clause-leaves
returns-in-Err-Privilege-clause-leaves g c =
    rw c.from.ensures at c.raise.ensures.leaves
    ∙ sym (ap (left_by_gate c.args.before.now c.args.vector)
    (rw (c.in-Err-Privilege.field-0-is, c.past-worked.ensures) at c.in-Err-Privilege.ensures.gives))

pub returns-in-Err-Stop-clause-leaves : goal.returns-in-Err-Stop-clause-leaves
returns-in-Err-Stop-clause-leaves g c =
    sym (ap (left_by_gate c.args.before.now c.args.vector)
    (rw (c.in-Err-Stop.field-0-is, c.past-worked.ensures) at c.in-Err-Stop.ensures.gives))
