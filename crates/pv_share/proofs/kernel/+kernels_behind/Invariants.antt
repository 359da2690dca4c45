use Rattle.std.proofs.Common.{length}
use Rattle.pv_share.proofs.kernel.+kernels_behind.Given as goal

abbrev pub decreases-kernels_behind : goal.decreases-kernels_behind
decreases-kernels_behind g l = length l.names.now
