use Rattle.machine_model.proofs.HaltedSteps.{halted_steps}
use Rattle.machine_model.proofs.resting.halted_steps_rest.Goals as goal

pub returns : goal.returns
returns c = halted_steps c.steps_are_quiet.ensures c.edges_are_one.ensures.events c.edges_are_one.ensures.edges
