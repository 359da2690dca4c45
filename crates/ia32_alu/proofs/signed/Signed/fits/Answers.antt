use Rattle.std.proofs.Common.{rules}
use Rattle.ia32_alu.proofs.signed.Signed.fits.Goals as goal

pub returns-then-self-clause-value : goal.returns-then-self-clause-value
returns-then-self-clause-value c = search rules
