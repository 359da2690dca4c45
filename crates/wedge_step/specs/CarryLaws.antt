-- The laws by which a patched run carries from step to step what it knows.
use Rattle.machine_model.specs.Joined.{KeptOn}
use Rattle.kept_laws.specs.Carried.{RoomyBefore, RoomyIsFew, IndicesGrow}
use Rattle.kept_laws.specs.Judged.{TakenOn}
use Rattle.kept_laws.specs.Known.{KnownAtStart, KnownStill, KnownOn, KnownQuiet}
use Rattle.kept_laws.specs.OverSteps.{SettlingTells, DroppedComesFrom}

-- What is known goes on over a step that the run has settled and ended, by what the shadows were given of it and by what was
-- dropped before CR3 was loaded. It stays while the same is kept. A run that is roomy was so before, and its pages lie
-- under few directory indices, which grow with each step.
pub record KnownLaws : Type 0 where
  pub tells : SettlingTells
  pub comes : DroppedComesFrom
  pub still : KnownStill
  pub on : KnownOn
  pub before : RoomyBefore
  pub few : RoomyIsFew
  pub grow : IndicesGrow

-- At first nothing is owed. What is known goes on over a step in which the run has no part too. With one step more, of
-- which the rule holds, the rule holds of all.
pub record CarryLaws : Type 0 where
  pub known : KnownLaws
  pub start : KnownAtStart
  pub quiet : KnownQuiet
  pub rule : KeptOn
  pub joins : TakenOn
