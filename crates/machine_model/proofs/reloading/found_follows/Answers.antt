use Rattle.machine_model.proofs.Following.{found_over, all_found_over}
use Rattle.machine_model.proofs.reloading.found_follows.Goals as goal

pub returns : goal.returns
returns c = record { one = found_over; all = all_found_over }
