use Rattle.std.proofs.Common.{rules}
use Rattle.machine_step.proofs.resting.quiet_steps.Goals as goal

pub returns-in-None-clause-furthest : goal.returns-in-None-clause-furthest
returns-in-None-clause-furthest c = search rules
