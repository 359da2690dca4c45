use Rattle.wedge_mem.proofs.Plain.{going_after}
use Rattle.wedge_mem.proofs.serving.own.Goals as goal

pub returns-clause-going : goal.returns-clause-going
returns-clause-going g c =
    going_after _ _ _ _ c.own_in.new.state c.follow.new.self c.own_in.ensures.sound c.follow.ensures.state c.follow.ensures.guards
