use Rattle.std.proofs.Common.{arith}
use Rattle.bare_machine.proofs.Begun.{none_within}
use Rattle.bare_machine.proofs.bare.Bare.adopt.Goals as goal

pub returns-clause-kept : goal.returns-clause-kept
returns-clause-kept g c = record {
  ram = omega (arith, c.len-frames.ensures.count);
  within = none_within _ _ c.requires.empty;
}
