use Rattle.std.proofs.Common.{◌∙◌}
use Rattle.image_check.proofs.Refused.{some_is_refused}
use Rattle.image_check.proofs.sweeping.is_refused.Goals as goal

pub returns : goal.returns
returns c = c.is_some.ensures ∙ some_is_refused c.args.bytes.now c.refused.result c.refused.ensures.named c.refused.ensures.none
