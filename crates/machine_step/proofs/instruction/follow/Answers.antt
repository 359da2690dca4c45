use Rattle.machine_step.proofs.Used.{if_ok, on_err, if_ok_on}
use Rattle.std.specs.Prelude.{Bool, ◌==◌}
use Rattle.std.proofs.Common.{Some, None, refl}
use Rattle.machine_step.specs.Worked.{answer_of, done_by}
use Rattle.machine_step.specs.Roots.{RootsAs, EndsWith}
use Rattle.machine_step.proofs.Rooted.{if_ok_as, ends_on, kept_roots, ended_roots}
use Rattle.machine_step.proofs.instruction.follow.Goals as goal

pub returns-in-PortIn-clause-step : goal.returns-in-PortIn-clause-step
returns-in-PortIn-clause-step g c = λ m b k.
    rw c.in-PortIn.is (c.read.ensures.step (record b { cpu = c.args.before.now; board = c.args.board.now })
    (g.M.GuestMem.space c.args.mem.now))

pub returns-in-PortOut-clause-step : goal.returns-in-PortOut-clause-step
returns-in-PortOut-clause-step g c = λ m b k.
    rw c.in-PortOut.is (c.write.ensures.step (record b { cpu = c.args.before.now; board = c.args.board.now })
    (g.M.GuestMem.space c.args.mem.now))

pub returns-in-Raise-clause-step : goal.returns-in-Raise-clause-step
returns-in-Raise-clause-step g c =
    λ m b k. rw c.in-Raise.is (c.raise.ensures.step m (record b { cpu = c.args.before.now; board = c.args.board.now }) k)

pub returns-in-Next-clause-step : goal.returns-in-Next-clause-step
returns-in-Next-clause-step g c = λ m b k.
    rw c.in-Next.is (c.ended.ensures.step m (record b { board = c.args.board.now }) (g.M.GuestMem.space c.args.mem.now) k)

pub returns-in-Next-clause-uses : goal.returns-in-Next-clause-uses
returns-in-Next-clause-uses g c = λ s h. if_ok c.ended.result (rw c.in-Next.is at h)

pub returns-in-Halted-clause-uses : goal.returns-in-Halted-clause-uses
returns-in-Halted-clause-uses g c = λ s h. if_ok c.completes.result (rw c.in-Halted.is at h)

pub returns-in-DropPage-clause-uses : goal.returns-in-DropPage-clause-uses
returns-in-DropPage-clause-uses g c = λ s h. if_ok c.completes-in-DropPage.result (rw c.in-DropPage.is at h)

pub returns-in-DropDir-clause-uses : goal.returns-in-DropDir-clause-uses
returns-in-DropDir-clause-uses g c = λ s h. if_ok c.completes-in-DropDir.result (rw c.in-DropDir.is at h)

pub returns-in-DropAll-clause-uses : goal.returns-in-DropAll-clause-uses
returns-in-DropAll-clause-uses g c = λ s h. if_ok c.completes-in-DropAll.result (rw c.in-DropAll.is at h)

pub returns-in-PortIn-clause-uses : goal.returns-in-PortIn-clause-uses
returns-in-PortIn-clause-uses g c = λ s h. if_ok c.read.result (rw c.in-PortIn.is at h)

pub returns-in-PortOut-clause-uses : goal.returns-in-PortOut-clause-uses
returns-in-PortOut-clause-uses g c = λ s h. if_ok c.write.result (rw c.in-PortOut.is at h)

pub returns-in-Raise-clause-uses : goal.returns-in-Raise-clause-uses
returns-in-Raise-clause-uses g c = λ s h.
    let user : Bool = c.args.before.now.cpl == 3 in
    let t = g.M.GuestMem.space c.args.mem.now in
    let u = g.M.GuestMem.space c.raise.new.mem in
    if_ok_on user s t u c.raise.result (rw c.in-Raise.is at h) (c.raise.ensures.uses user)

pub returns-in-Next-clause-roots : goal.returns-in-Next-clause-roots
returns-in-Next-clause-roots g c =
    let before = c.args.before.now in
    if_ok_as (EndsWith (Some (done_by c.args.insn.now c.args.before.now)) c.args.worked.now.cpu) (RootsAs before)
    (answer_of c.ended.result c.ended.new.worked)
    (λ w k. ended_roots (done_by c.args.insn.now c.args.before.now) before c.args.worked.now.cpu w (rw c.in-Next.is at c.requires.roots) k)
    c.ended.ensures.ends

pub returns-in-PortIn-clause-roots : goal.returns-in-PortIn-clause-roots
returns-in-PortIn-clause-roots g c =
    let before = c.args.before.now in
    if_ok_as (EndsWith (Some (done_by c.args.insn.now c.args.before.now)) c.args.worked.now.cpu) (RootsAs before)
    (answer_of c.read.result c.read.new.worked)
    (λ w k. ended_roots (done_by c.args.insn.now c.args.before.now) before c.args.worked.now.cpu w (rw c.in-PortIn.is at c.requires.roots)
    k) c.read.ensures.ends

pub returns-in-PortOut-clause-roots : goal.returns-in-PortOut-clause-roots
returns-in-PortOut-clause-roots g c =
    let before = c.args.before.now in
    if_ok_as (EndsWith (Some (done_by c.args.insn.now c.args.before.now)) c.args.worked.now.cpu) (RootsAs before)
    (answer_of c.write.result c.write.new.worked)
    (λ w k. ended_roots (done_by c.args.insn.now c.args.before.now) before c.args.worked.now.cpu w (rw c.in-PortOut.is at c.requires.roots)
    k) c.write.ensures.ends

pub returns-in-Halted-clause-roots : goal.returns-in-Halted-clause-roots
returns-in-Halted-clause-roots g c =
    rw (c.completes.ensures.went, c.completes.ensures.told, c.requires.fresh) (rw c.in-Halted.is at c.requires.roots)

pub returns-in-Halted-clause-step : goal.returns-in-Halted-clause-step
returns-in-Halted-clause-step g c = λ m b k. rw (c.in-Halted.is, c.completes.ensures.went, c.completes.ensures.told) refl

pub returns-in-Halted-clause-dropped : goal.returns-in-Halted-clause-dropped
returns-in-Halted-clause-dropped g c = rw (c.completes.ensures.went, c.completes.ensures.told) (rw c.in-Halted.is at c.requires.asked)

pub returns-in-DropPage-clause-roots : goal.returns-in-DropPage-clause-roots
returns-in-DropPage-clause-roots g c = rw (c.completes-in-DropPage.ensures.went, c.completes-in-DropPage.ensures.told, c.requires.fresh)
    (rw c.in-DropPage.is at c.requires.roots)

pub returns-in-DropPage-clause-step : goal.returns-in-DropPage-clause-step
returns-in-DropPage-clause-step g c =
    λ m b k. rw (c.in-DropPage.is, c.completes-in-DropPage.ensures.went, c.completes-in-DropPage.ensures.told) refl

pub returns-in-DropPage-clause-dropped : goal.returns-in-DropPage-clause-dropped
returns-in-DropPage-clause-dropped g c =
    rw (c.completes-in-DropPage.ensures.went, c.completes-in-DropPage.ensures.told) (rw c.in-DropPage.is at c.requires.asked)

pub returns-in-DropDir-clause-roots : goal.returns-in-DropDir-clause-roots
returns-in-DropDir-clause-roots g c =
    rw (c.completes-in-DropDir.ensures.went, c.completes-in-DropDir.ensures.told, c.requires.fresh) (rw c.in-DropDir.is at c.requires.roots)

pub returns-in-DropDir-clause-step : goal.returns-in-DropDir-clause-step
returns-in-DropDir-clause-step g c =
    λ m b k. rw (c.in-DropDir.is, c.completes-in-DropDir.ensures.went, c.completes-in-DropDir.ensures.told) refl

pub returns-in-DropDir-clause-dropped : goal.returns-in-DropDir-clause-dropped
returns-in-DropDir-clause-dropped g c =
    rw (c.completes-in-DropDir.ensures.went, c.completes-in-DropDir.ensures.told) (rw c.in-DropDir.is at c.requires.asked)

pub returns-in-DropAll-clause-roots : goal.returns-in-DropAll-clause-roots
returns-in-DropAll-clause-roots g c =
    rw (c.completes-in-DropAll.ensures.went, c.completes-in-DropAll.ensures.told, c.requires.fresh) (rw c.in-DropAll.is at c.requires.roots)

pub returns-in-DropAll-clause-step : goal.returns-in-DropAll-clause-step
returns-in-DropAll-clause-step g c =
    λ m b k. rw (c.in-DropAll.is, c.completes-in-DropAll.ensures.went, c.completes-in-DropAll.ensures.told) refl

pub returns-in-DropAll-clause-dropped : goal.returns-in-DropAll-clause-dropped
returns-in-DropAll-clause-dropped g c =
    rw (c.completes-in-DropAll.ensures.went, c.completes-in-DropAll.ensures.told) (rw c.in-DropAll.is at c.requires.asked)

pub returns-in-Raise-clause-roots : goal.returns-in-Raise-clause-roots
returns-in-Raise-clause-roots g c =
    let before = c.args.before.now in
    if_ok_as (EndsWith None c.args.worked.now.cpu) (RootsAs before) (answer_of c.raise.result c.raise.new.worked)
    (λ w k. kept_roots None before w refl (ends_on None before c.args.worked.now.cpu w (rw c.in-Raise.is at c.requires.roots) k))
    c.raise.ensures.ends

pub returns-in-Next-clause-stopped : goal.returns-in-Next-clause-stopped
returns-in-Next-clause-stopped g c = on_err c.ended.result refl

pub returns-in-Raise-clause-stopped : goal.returns-in-Raise-clause-stopped
returns-in-Raise-clause-stopped g c = on_err c.raise.result refl
