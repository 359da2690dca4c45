use Rattle.image_laws.proofs.GoesOn.{arrives}
use Rattle.image_laws.proofs.closure.goes_on.Goals as goal

pub returns : goal.returns
returns c = arrives c.eip_goes_on.ensures
