use Rattle.std.proofs.Common.{refl}
use Rattle.sys_exec.proofs.moves.load_data_at.Goals as goal

pub returns-clause-gives : goal.returns-clause-gives
returns-clause-gives g c = rw (c.in_ok-hidden.ensures.gives, c.next.ensures) refl
