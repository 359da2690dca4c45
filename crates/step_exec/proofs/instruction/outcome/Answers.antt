use Rattle.ia32_exec.specs.Effect.{ranges_of}
use Rattle.step_exec.proofs.Ready.{made_open}
use Rattle.step_exec.proofs.instruction.outcome.Goals as goal

pub effect-requires-clause-ready : goal.effect-requires-clause-ready
effect-requires-clause-ready g c =
    let a = c.args in
    let ranges = ranges_of a.insn.now a.cpu.now.regs in
    rw c.requires.ranges (made_open ranges (g.M.GuestMem.space a.mem.now) c.requires.made)
