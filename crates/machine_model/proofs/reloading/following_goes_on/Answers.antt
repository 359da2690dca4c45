use Rattle.machine_model.proofs.Following.{same_follows, follows_on}
use Rattle.machine_model.proofs.reloading.following_goes_on.Goals as goal

pub returns : goal.returns
returns c = record { itself = same_follows; on = follows_on }
