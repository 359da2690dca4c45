use Rattle.std.proofs.Common.{sym, subst}
use Rattle.descriptors.specs.declared.cpu.Cpu.{Cpu}
use Rattle.paging.specs.Work.{Outcome}
use Rattle.sys_exec.specs.declared.effect.Refusal.{Refusal}
use Rattle.descriptors.specs.Leaves.{Leaves}
use Rattle.step_exec.proofs.Divided.{executed_divides}
use Rattle.step_exec.proofs.instruction.plain.Goals as goal

pub returns-clause-does : goal.returns-clause-does
returns-clause-does g c =
    let a = c.args in
    let s = g.M.GuestMem.space in
    subst (λ (o : Outcome Refusal Cpu). Leaves c.in_parts.result c.in_parts.new.cpu (s c.in_parts.new.mem) o)
    (sym (executed_divides a.insn.now a.len a.cpu.now (s a.mem.now))) c.in_parts.ensures.does
