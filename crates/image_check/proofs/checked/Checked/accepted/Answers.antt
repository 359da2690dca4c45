use Rattle.std.proofs.Common.{subst}
use Rattle.image_check.specs.Accepts.{IsAccepted}
use Rattle.image_check.proofs.Acceptance.{accepted_from}
use Rattle.image_check.proofs.checked.Checked.accepted.Goals as goal

pub returns : goal.returns
returns c = subst IsAccepted c.self.view_is (accepted_from c.self.invariant.parts _ c.self.invariant.bytes c.self.invariant.accepted)
