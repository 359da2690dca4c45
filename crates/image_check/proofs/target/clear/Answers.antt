use Rattle.std.proofs.Common.{◌∙◌, arith}
use Rattle.image_check.proofs.TargetSteps.{cleared}
use Rattle.image_check.proofs.target.clear.Goals as goal

pub returns-clause-flags : goal.returns-clause-flags
returns-clause-flags c =
    λ k. c.loop-i.invariant.flags k ∙ cleared c.args.flags.now.items c.args.behind c.args.before c.loop-i.i k (omega arith)
