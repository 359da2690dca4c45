use Rattle.built_images.proofs.SweepJoins.{sweeps_join, nops_law, nop_spelled, sti_spelled, hlt_spelled, jump_spelled}
use Rattle.built_images.proofs.joined.sweeps.Goals as goal

pub returns-clause-joined : goal.returns-clause-joined
returns-clause-joined c = sweeps_join

pub returns-clause-nops : goal.returns-clause-nops
returns-clause-nops c = nops_law

pub returns-clause-nop : goal.returns-clause-nop
returns-clause-nop c = nop_spelled

pub returns-clause-sti : goal.returns-clause-sti
returns-clause-sti c = sti_spelled

pub returns-clause-hlt : goal.returns-clause-hlt
returns-clause-hlt c = hlt_spelled

pub returns-clause-jump : goal.returns-clause-jump
returns-clause-jump c = jump_spelled
