use Rattle.bare_machine.proofs.Begun.{none_within}
use Rattle.machine_runs.proofs.adopted.empty.Goals as goal

pub returns-clause-kept : goal.returns-clause-kept
returns-clause-kept c = record { ram = c.requires.kept.ram; within = none_within _ _ c.drop_all.ensures }
