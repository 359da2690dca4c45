use Rattle.pv_tasks.proofs.working.both.Goals as goal

pub returns-clause-texts : goal.returns-clause-texts
returns-clause-texts g c =
    let t = c.in_ok-second.ensures.text in
    record { fits = c.in_ok-first.ensures.fits; first_is = c.in_ok-first.ensures.text; count = t.0; end = t.1; promise = t.2; filled = t.3 }
