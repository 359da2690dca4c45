use Rattle.built_images.proofs.LinkedImages.{linked_built, linked_leads}
use Rattle.built_images.proofs.linked.linking.Goals as goal

pub returns-clause-built : goal.returns-clause-built
returns-clause-built c = linked_built

pub returns-clause-branches : goal.returns-clause-branches
returns-clause-branches c = linked_leads
