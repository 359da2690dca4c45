use Rattle.std.proofs.Common.{subst, length}
use Rattle.sites.specs.Room.{AreInside}
use Rattle.image_check.specs.Image.{Image}
use Rattle.image_check.specs.Layout.{AreApart}
use Rattle.image_check.proofs.Acceptance.{accepted_from}
use Rattle.image_check.proofs.Layouts.{apart}
use Rattle.image_check.proofs.Room.{sites_inside}
use Rattle.image_check.proofs.checked.Checked.sites.Goals as goal

pub returns-clause-inside : goal.returns-clause-inside
returns-clause-inside c = subst (λ (image : Image). AreInside (length image.text) 0 image.sites) c.self.view_is
    (sites_inside _ (accepted_from c.self.invariant.parts _ c.self.invariant.bytes c.self.invariant.accepted))

pub returns-clause-apart : goal.returns-clause-apart
returns-clause-apart c = subst (λ (image : Image). AreApart 0 image.sites (length image.text)) c.self.view_is
    (apart _ (accepted_from c.self.invariant.parts _ c.self.invariant.bytes c.self.invariant.accepted))
