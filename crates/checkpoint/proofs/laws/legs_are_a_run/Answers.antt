use Rattle.checkpoint.proofs.Joining.{legs_are_steps, legs_are_a_run, legs_are_parts, traces_join}
use Rattle.checkpoint.proofs.laws.legs_are_a_run.Goals as goal

pub returns-clause-steps : goal.returns-clause-steps
returns-clause-steps c = legs_are_steps c.steps_join.ensures.steps c.runs_agree.ensures

pub returns-clause-run : goal.returns-clause-run
returns-clause-run c = legs_are_a_run c.steps_join.ensures.steps c.runs_agree.ensures

pub returns-clause-traces : goal.returns-clause-traces
returns-clause-traces c = traces_join

pub returns-clause-parts : goal.returns-clause-parts
returns-clause-parts c = legs_are_parts
