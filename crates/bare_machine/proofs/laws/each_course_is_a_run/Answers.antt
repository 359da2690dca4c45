use Rattle.bare_machine.proofs.Freshly.{each_course_runs}
use Rattle.bare_machine.proofs.laws.each_course_is_a_run.Goals as goal

pub returns : goal.returns
returns c = each_course_runs
