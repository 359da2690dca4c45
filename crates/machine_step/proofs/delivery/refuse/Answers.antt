use Rattle.machine_step.proofs.delivery.refuse.Goals as goal

pub returns-in-Ok-clause-uses : goal.returns-in-Ok-clause-uses
returns-in-Ok-clause-uses g c = rw c.at-worked.ensures at c.in-Ok.ensures.uses

pub returns-in-Ok-clause-goes_on : goal.returns-in-Ok-clause-goes_on
returns-in-Ok-clause-goes_on g c = rw c.at-worked.ensures at c.in-Ok.ensures.goes_on

pub returns-in-Ok-clause-step : goal.returns-in-Ok-clause-step
returns-in-Ok-clause-step g c = rw c.at-worked.ensures at c.in-Ok.ensures.step

pub returns-in-Ok-clause-roots : goal.returns-in-Ok-clause-roots
returns-in-Ok-clause-roots g c = rw c.at-worked.ensures at c.in-Ok.ensures.roots

pub returns-in-Err-clause-step : goal.returns-in-Err-clause-step
returns-in-Err-clause-step g c = rw c.at-worked.ensures at c.in-Err.ensures.step
