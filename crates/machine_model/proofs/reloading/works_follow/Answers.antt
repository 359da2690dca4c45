use Rattle.machine_model.proofs.TrackedSteps.{fetched_follows, ranges_follow, instructed_follows, delivered_follows}
use Rattle.machine_model.proofs.reloading.works_follow.Goals as goal

pub returns : goal.returns
returns c = record { fetched = fetched_follows; ranges = ranges_follow; instructed = instructed_follows; delivered = delivered_follows }
