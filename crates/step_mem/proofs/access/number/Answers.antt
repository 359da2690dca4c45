use Rattle.step_mem.proofs.access.number.Goals as goal

pub returns-then-at-le4092-clause-value : goal.returns-then-at-le4092-clause-value
returns-then-at-le4092-clause-value g c = rw c.in-Long.is c.long_in_page.ensures.value
