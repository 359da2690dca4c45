use Rattle.std.proofs.Common.{rules}
use Rattle.ia32_rows.proofs.fitting.fits_code.Goals as goal

pub returns-then-first-from : goal.returns-then-first-from
returns-then-first-from c = search rules
