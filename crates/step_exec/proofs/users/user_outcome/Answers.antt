use Rattle.ia32_exec.specs.Effect.{ranges_of}
use Rattle.step_exec.proofs.Ready.{made_open}
use Rattle.step_exec.proofs.users.user_outcome.Goals as goal

pub user_effect-requires-clause-ready : goal.user_effect-requires-clause-ready
user_effect-requires-clause-ready g c =
    let a = c.args in
    let ranges = ranges_of a.insn.now a.cpu.now.regs in
    rw c.ranges-2.ensures.ranges (made_open ranges (g.M.GuestMem.space a.mem.now) c.requires.made)
