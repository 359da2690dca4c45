use Rattle.guest_sched.proofs.Readings.{grown}
use Rattle.guest_sched.proofs.reading.ScheduleLinesLineReader.read.Goals as goal

pub returns-in-None-clause-fits : goal.returns-in-None-clause-fits
returns-in-None-clause-fits c =
    let fits = rw c.in-Ok-Some.field-0-is at c.in-Ok-Some.ensures.form in
    grown c.args.self.now.kernels c.args.before.now c.in-Ok-Some.slice c.requires fits c.in-None.ensures.room c.in-None.ensures.sum
