use Rattle.ia32_exec.specs.Effect.{ranges_of}
use Rattle.std.proofs.Common.{rules}
use Rattle.ia32_exec.proofs.ranges_of.ranges.Goals as goal

pub returns-in-Pop-clause-ranges : goal.returns-in-Pop-clause-ranges
unfolding ranges_of
returns-in-Pop-clause-ranges c = search rules
