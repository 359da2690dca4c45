use Rattle.machine_model.proofs.UsingSteps.{fetched_uses, ranges_use, instructed_uses, delivered_uses}
use Rattle.machine_model.proofs.used_pages.works_use.Goals as goal

pub returns : goal.returns
returns c = record { fetched = fetched_uses; ranges = ranges_use; instructed = instructed_uses; delivered = delivered_uses }
