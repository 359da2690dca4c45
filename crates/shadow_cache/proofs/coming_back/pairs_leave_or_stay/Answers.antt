use Rattle.shadow_cache.proofs.OneLoad.{others-leave-or-stay, present-leaves-or-stays}
use Rattle.shadow_cache.proofs.coming_back.pairs_leave_or_stay.Goals as goal

pub returns : goal.returns
returns c = record { others = others-leave-or-stay; present = present-leaves-or-stays }
