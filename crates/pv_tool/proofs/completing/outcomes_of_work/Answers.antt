use Rattle.pv_tool.proofs.Comparisons.{work_completes, work_refuses}
use Rattle.pv_tool.proofs.completing.outcomes_of_work.Goals as goal

pub returns-clause-done : goal.returns-clause-done
returns-clause-done c = work_completes c.runs_agree.ensures

pub returns-clause-refused : goal.returns-clause-refused
returns-clause-refused c = work_refuses
