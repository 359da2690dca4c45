use Rattle.std.proofs.Common.{◌≤◌, ◌-◌, List, length}
use Rattle.image_check.specs.Sweep.{Swept}
use Rattle.pv_look.specs.Sweeping.{Reached}
use Rattle.pv_look.proofs.Labelled.{AreNamed}
use Rattle.pv_look.proofs.labels.named_labels.Given as goal

abbrev pub invariant-loop-at : goal.invariant-loop-at
invariant-loop-at l = record {
  within : l.at ≤ length l.image.text;
  named : (done : List Swept) × (rest : List Swept) × Reached l.image.text l.at done rest × AreNamed l.image l.labels.items done;
}

abbrev pub decreases-loop-at : goal.decreases-loop-at
decreases-loop-at l = l.len - l.at
