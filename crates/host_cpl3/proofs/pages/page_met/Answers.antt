use Rattle.host_cpl3.specs.Pages.{page_met}
use Rattle.std.proofs.Common.{rules}
use Rattle.host_cpl3.proofs.pages.page_met.Goals as goal

pub returns-then-grants-clause-met : goal.returns-then-grants-clause-met
unfolding page_met
returns-then-grants-clause-met c = search rules
