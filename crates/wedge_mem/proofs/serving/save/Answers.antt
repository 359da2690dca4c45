use Rattle.wedge_mem.proofs.Plain.{going_after}
use Rattle.wedge_mem.proofs.serving.save.Goals as goal

pub returns-clause-going : goal.returns-clause-going
returns-clause-going g c =
    going_after _ _ _ _ c.state-state.result c.args.step.now c.save.ensures.sound c.state-state.ensures.state c.state-state.ensures.guards
