use Rattle.std.proofs.Common.{refl, sym, subst, ap, ◌∙◌}
use Rattle.descriptors.specs.declared.cpu.Cpu.{Cpu}
use Rattle.paging.specs.Space.{Space}
use Rattle.sys_exec.specs.declared.effect.SysEffect.{SysEffect}
use Rattle.machine_model.specs.Step.{effect_on}
use Rattle.machine_step.specs.Worked.{ComesTo, answer_of, completed_of, done_by}
use Rattle.machine_step.proofs.Used.{told_uses}
use Rattle.std.specs.Prelude.{◌==◌}
use Rattle.machine_step.proofs.Rooted.{left, told_roots}
use Rattle.machine_step.specs.Left.{left_by_told}
use Rattle.machine_step.specs.Raised.{raised_by_told}
use Rattle.machine_step.proofs.instruction.perform.Goals as goal

pub returns-clause-step : goal.returns-clause-step
returns-clause-step g c = λ m b k.
    let here = record b { cpu = c.args.before.now; board = c.args.board.now } in
    let told = rw c.requires.same at c.execute-effect.ensures.told in
    subst (λ (told : SysEffect × Cpu × Space). ComesTo (effect_on m here (completed_of (done_by c.args.insn.now c.args.before.now)) told) b
    (answer_of c.follow.result c.follow.new.worked) c.follow.new.board (g.M.GuestMem.space c.follow.new.mem))
    (sym told) (c.follow.ensures.step m here k)

pub returns-clause-uses : goal.returns-clause-uses
returns-clause-uses g c =
    let cpu = c.args.before.now in
    let s = g.M.GuestMem.space c.args.mem.now in
    let t = g.M.GuestMem.space c.execute-effect.new.mem in
    c.follow.ensures.uses s (told_uses (cpu.cpl == 3) cpu s t _ _ _ (rw c.requires.same at c.execute-effect.ensures.told)
    (c.works_use.ensures.instructed c.args.insn.now c.args.len cpu s))

pub follow-requires-clause-roots : goal.follow-requires-clause-roots
follow-requires-clause-roots g c =
    let a = c.args in
    let done = done_by a.insn.now a.before.now in
    told_roots done a.before.now _ _ _ _ (rw c.requires.same at c.execute-effect.ensures.told)
    (left done a.before.now a.insn.now a.len _ refl)

pub returns-clause-raised : goal.returns-clause-raised
returns-clause-raised g c =
    c.follow.ensures.raised ∙ sym (ap raised_by_told (rw c.requires.same at c.execute-effect.ensures.told))

pub returns-clause-leaves : goal.returns-clause-leaves
returns-clause-leaves g c =
    c.follow.ensures.leaves ∙ sym (ap left_by_told (rw c.requires.same at c.execute-effect.ensures.told))
