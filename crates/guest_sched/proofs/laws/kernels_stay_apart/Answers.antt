use Rattle.guest_sched.proofs.Apart.{one_moves}
use Rattle.guest_sched.proofs.Released.{one_releases}
use Rattle.guest_sched.proofs.laws.kernels_stay_apart.Goals as goal

pub returns-clause-moves : goal.returns-clause-moves
returns-clause-moves c = one_moves

pub returns-clause-releases : goal.returns-clause-releases
returns-clause-releases c = one_releases
