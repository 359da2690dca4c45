use Rattle.native_steps.proofs.Advancing.{advanced}
use Rattle.native_steps.proofs.laws.advances.Goals as goal

pub returns : goal.returns
returns c = λ m v k b s w h q.
    advanced (record {
      forward = c.forward.ensures;
      not_entered = c.not_entered.ensures;
      at_sites = c.at_sites.ensures;
      below = c.borders.ensures.below;
      enters = c.borders.ensures.enters;
      exits = c.borders.ensures.exits;
      quiet = c.steps_are_quiet.ensures;
    }) m v w k b s h q
