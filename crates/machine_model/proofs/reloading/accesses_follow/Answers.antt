use Rattle.machine_model.proofs.Following.{uses_follow, fetches_follow}
use Rattle.machine_model.proofs.reloading.accesses_follow.Goals as goal

pub returns : goal.returns
returns c = record { uses = uses_follow; fetches = fetches_follow }
