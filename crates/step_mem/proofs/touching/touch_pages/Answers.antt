use Rattle.step_mem.proofs.touching.touch_pages.Goals as goal

pub returns-clause-uses : goal.returns-clause-uses
returns-clause-uses g c = rw (c.in-Ready.ensures.uses, c.in-Ready-second_page.ensures.uses) c.make_ready.ensures.made
