use Rattle.std.proofs.Common.{rules}
use Rattle.pv_prove.proofs.certificates.certificate_file.Goals as goal

pub returns-clause-line : goal.returns-clause-line
returns-clause-line c = search rules
