use Rattle.std.proofs.Common.{rules}
use Rattle.ia32_types.proofs.site.sensitive.Goals as goal

pub returns-in-Return : goal.returns-in-Return
returns-in-Return c = search rules
