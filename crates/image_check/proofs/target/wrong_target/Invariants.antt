use Rattle.std.proofs.Common.{◌-◌, ◌≤◌, length, false}
use Rattle.std.specs.Prelude.{slice_index_or}
use Rattle.image_check.proofs.TargetSteps.{Sought}
use Rattle.image_check.proofs.target.wrong_target.Given as goal

abbrev pub invariant-loop-piece : goal.invariant-loop-piece
invariant-loop-piece l = record {
  sought : Sought (λ k. slice_index_or l.entrances k false) l.text l.at;
  within : l.at ≤ length l.text;
}

abbrev pub decreases-loop-piece : goal.decreases-loop-piece
decreases-loop-piece l = length l.text - l.at
