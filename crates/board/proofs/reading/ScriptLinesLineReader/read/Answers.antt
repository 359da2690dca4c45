use Rattle.board.proofs.Readings.{grown}
use Rattle.board.proofs.reading.ScriptLinesLineReader.read.Goals as goal

pub returns-in-None-clause-fits : goal.returns-in-None-clause-fits
returns-in-None-clause-fits c =
    let fits = rw c.in-Ok-Some.field-0-is at c.in-Ok-Some.ensures.fits in
    grown c.args.before.now c.in-Ok-Some.event c.requires c.in-None.ensures.room c.in-None.ensures.order fits.0 fits.1
