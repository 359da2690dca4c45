use Rattle.built_images.proofs.BurntObjects.{burnt_padded}
use Rattle.built_images.proofs.burnt.burning.Goals as goal

pub returns : goal.returns
returns c = burnt_padded
