use Rattle.sys_exec.specs.Move.{load_by}
use Rattle.sys_exec.proofs.moves.load_by.Goals as goal

pub returns-in-Ss-clause-gives : goal.returns-in-Ss-clause-gives
unfolding load_by
returns-in-Ss-clause-gives g c = rw c.in-Ss.is c.load_stack.ensures.gives
