use Rattle.sites.specs.Gapped.{gap_site}
use Rattle.std.proofs.Common.{rules}
use Rattle.sites.proofs.gapped.gap_site.Goals as goal

pub returns : goal.returns
unfolding gap_site
returns c = search rules
