use Rattle.std.proofs.Common.{None, refl}
use Rattle.machine_step.proofs.Used.{if_ok_on}
use Rattle.std.specs.Prelude.{Bool, ◌==◌}
use Rattle.machine_step.specs.Roots.{RootsAs, EndsWith}
use Rattle.machine_step.specs.Worked.{answer_of}
use Rattle.machine_step.proofs.Rooted.{if_ok_as, ends_on, kept_roots}
use Rattle.machine_step.proofs.delivery.refuse_at.Goals as goal

pub returns-in-Raise-clause-step : goal.returns-in-Raise-clause-step
returns-in-Raise-clause-step g c = λ m b k. rw c.in-Raise.is (c.raise.ensures.step m (record b { cpu = c.args.worked.now.cpu }) k)

pub returns-in-Fault-clause-step : goal.returns-in-Fault-clause-step
returns-in-Fault-clause-step g c = λ m b k. rw c.in-Fault.is (c.raise-in-Fault.ensures.step m (record b { cpu = c.args.worked.now.cpu }) k)

pub returns-in-Raise-clause-uses : goal.returns-in-Raise-clause-uses
returns-in-Raise-clause-uses g c = c.raise.ensures.uses (c.args.worked.now.cpu.cpl == 3)

pub returns-in-Fault-clause-uses : goal.returns-in-Fault-clause-uses
returns-in-Fault-clause-uses g c = c.raise-in-Fault.ensures.uses (c.args.worked.now.cpu.cpl == 3)

pub returns-in-Raise-clause-goes_on : goal.returns-in-Raise-clause-goes_on
returns-in-Raise-clause-goes_on g c = λ s h.
    let user : Bool = c.args.worked.now.cpu.cpl == 3 in
    let t = g.M.GuestMem.space c.args.mem.now in
    let u = g.M.GuestMem.space c.raise.new.mem in
    if_ok_on user s t u c.raise.result (rw c.in-Raise.is at h) (c.raise.ensures.uses user)

pub returns-in-Fault-clause-goes_on : goal.returns-in-Fault-clause-goes_on
returns-in-Fault-clause-goes_on g c = λ s h.
    let user : Bool = c.args.worked.now.cpu.cpl == 3 in
    let t = g.M.GuestMem.space c.args.mem.now in
    let u = g.M.GuestMem.space c.raise-in-Fault.new.mem in
    if_ok_on user s t u c.raise-in-Fault.result (rw c.in-Fault.is at h) (c.raise-in-Fault.ensures.uses user)

pub returns-in-Raise-clause-roots : goal.returns-in-Raise-clause-roots
returns-in-Raise-clause-roots g c =
    let cpu = c.args.worked.now.cpu in
    if_ok_as (EndsWith None cpu) (RootsAs cpu) (answer_of c.raise.result c.raise.new.worked) (λ w k. kept_roots None cpu w refl k)
    c.raise.ensures.ends

pub returns-in-Fault-clause-roots : goal.returns-in-Fault-clause-roots
returns-in-Fault-clause-roots g c =
    let cpu = c.args.worked.now.cpu in
    let faulted = record cpu { cr2 = c.in-Fault.at } in
    if_ok_as (EndsWith None faulted) (RootsAs cpu) (answer_of c.raise-in-Fault.result c.raise-in-Fault.new.worked)
    (λ w k. kept_roots None cpu w refl (ends_on None cpu faulted w (record { cr0 = refl; cr3 = refl; cr4 = refl }) k))
    c.raise-in-Fault.ensures.ends
