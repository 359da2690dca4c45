-- A step that stopped left the counts as they were.
use Rattle.std.proofs.Common.{◌≡◌, ◌∙◌, Result, Ok, Err, OnErr}
use Rattle.ia32_types.specs.declared.stop.Stop.{Stop}
use Rattle.wedge_step.specs.Leaves.{Stays}
use Rattle.wedge_step.specs.Scene.{Scene}

-- where they were as they were before, a step that stopped there stopped here
pub stays_from : {S X : Type 0} (r : Result X Stop) (old mid new : Scene S) → mid.guest.step ≡ old.guest.step
    → mid.guest.fills ≡ old.guest.fills → OnErr r (Stays mid new) → OnErr r (Stays old new)
stays_from (Ok done) old mid new step fills h = tt
stays_from (Err stop) old mid new step fills h = record { step = h.step ∙ step; fills = h.fills ∙ fills }
