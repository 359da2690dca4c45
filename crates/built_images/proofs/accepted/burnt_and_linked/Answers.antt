use Rattle.built_images.proofs.BurntImages.{accepted_or_target, accepted}
use Rattle.built_images.proofs.accepted.burnt_and_linked.Goals as goal

pub returns-clause-accepted_or_target : goal.returns-clause-accepted_or_target
returns-clause-accepted_or_target c = accepted_or_target

pub returns-clause-accepted : goal.returns-clause-accepted
returns-clause-accepted c = accepted
