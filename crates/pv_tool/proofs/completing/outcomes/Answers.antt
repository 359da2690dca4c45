use Rattle.pv_tool.proofs.CommandLaws.{refused_again}
use Rattle.pv_tool.proofs.Completes.{burn_completes, link_completes, check_completes, run_completes, share_completes, save_completes, save_from_completes, continue_completes}
use Rattle.pv_tool.proofs.Headlines.{wedge_completes}
use Rattle.pv_tool.proofs.ProvedRuns.{prove_completes, replay_completes}
use Rattle.pv_tool.proofs.completing.outcomes.Goals as goal

pub returns-clause-refused : goal.returns-clause-refused
returns-clause-refused c = refused_again

pub returns-clause-burn : goal.returns-clause-burn
returns-clause-burn c = burn_completes

pub returns-clause-link : goal.returns-clause-link
returns-clause-link c = link_completes

pub returns-clause-check : goal.returns-clause-check
returns-clause-check c = check_completes

pub returns-clause-run_bare : goal.returns-clause-run_bare
returns-clause-run_bare c = run_completes

pub returns-clause-run_wedge : goal.returns-clause-run_wedge
returns-clause-run_wedge c = wedge_completes c.runs_agree.ensures

pub returns-clause-share : goal.returns-clause-share
returns-clause-share c = share_completes

pub returns-clause-save : goal.returns-clause-save
returns-clause-save c = save_completes

pub returns-clause-save_from : goal.returns-clause-save_from
returns-clause-save_from c = save_from_completes

pub returns-clause-go_on : goal.returns-clause-go_on
returns-clause-go_on c = continue_completes

pub returns-clause-prove : goal.returns-clause-prove
returns-clause-prove c = prove_completes c.runs_agree.ensures

pub returns-clause-replay : goal.returns-clause-replay
returns-clause-replay c = replay_completes
