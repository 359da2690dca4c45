use Rattle.wedge_mem.proofs.Plain.{going_after}
use Rattle.wedge_mem.proofs.serving.touch.Goals as goal

pub returns-clause-going : goal.returns-clause-going
returns-clause-going g c =
    going_after _ _ _ _ c.touch-met.new.state c.follow.new.self c.touch-met.ensures.sound c.follow.ensures.state c.follow.ensures.guards
