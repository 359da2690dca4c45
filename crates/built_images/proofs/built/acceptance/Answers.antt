use Rattle.built_images.proofs.BuiltImages.{accepted_where, accepted_but}
use Rattle.built_images.proofs.built.acceptance.Goals as goal

pub returns-clause-accepted : goal.returns-clause-accepted
returns-clause-accepted c = accepted_where

pub returns-clause-accepted_or_target : goal.returns-clause-accepted_or_target
returns-clause-accepted_or_target c = accepted_but
