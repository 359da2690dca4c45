use Rattle.bare_machine.proofs.KeptRuns.{each_kept_course_runs, each_buffered_run_runs}
use Rattle.bare_machine.proofs.laws.each_kept_course_is_a_run.Goals as goal

pub returns-clause-courses : goal.returns-clause-courses
returns-clause-courses c = each_kept_course_runs

pub returns-clause-buffered : goal.returns-clause-buffered
returns-clause-buffered c = each_buffered_run_runs
