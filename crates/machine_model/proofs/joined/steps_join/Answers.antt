use Rattle.machine_model.proofs.Runs.{steps_join, taken_join, counts_join, digests_join}
use Rattle.machine_model.proofs.joined.steps_join.Goals as goal

pub returns : goal.returns
returns c = record { steps = steps_join; taken = taken_join; counts = counts_join; digests = digests_join }
