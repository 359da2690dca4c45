use Rattle.std.proofs.Common.{sym}
use Rattle.frame_pool.proofs.Chains.{length-chain}
use Rattle.frame_pool.proofs.Pool.free.Goals as goal

pub returns : goal.returns
returns c = record { count = λ m. sym (length-chain m _ _) }
