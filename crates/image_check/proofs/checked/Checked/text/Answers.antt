use Rattle.std.proofs.Common.{subst}
use Rattle.image_check.specs.Accepts.{IsWithin}
use Rattle.image_check.proofs.Passed.{is_within}
use Rattle.image_check.proofs.checked.Checked.text.Goals as goal

pub returns-clause-within : goal.returns-clause-within
returns-clause-within c = subst IsWithin c.self.view_is (is_within c.self.invariant.parts _ c.self.invariant.accepted)
