use Rattle.std.proofs.Common.{◌≡◌, ◌-◌, ◌≤◌, length}
use Rattle.image_check.proofs.SweepSteps.{Went}
use Rattle.image_check.proofs.sweeping.sweep.Given as goal

abbrev pub invariant-loop-at : goal.invariant-loop-at
invariant-loop-at l = record {
  went : Went l.text l.starts.items l.last l.at;
  len : length l.starts.items ≡ length l.text;
  within : l.at ≤ length l.text;
}

abbrev pub decreases-loop-at : goal.decreases-loop-at
decreases-loop-at l = length l.text - l.at
