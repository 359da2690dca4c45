use Rattle.std.proofs.Common.{arith}
use Rattle.sites.proofs.Formats.{if_spelled, if_told, if_counted, only_spelled}
use Rattle.sites.proofs.TextSites.{if_rising}
use Rattle.sites.proofs.reading.read_sites.Goals as goal

pub returns-clause-spelled : goal.returns-clause-spelled
returns-clause-spelled c = if_spelled c.args.bytes.now c.sites_in.result (λ k. omega (arith, c.type_inv.bytes k)) c.sites_in.ensures

pub returns-clause-only : goal.returns-clause-only
returns-clause-only c = only_spelled c.args.bytes.now c.sites_in.result c.requires c.sites_in.ensures

pub returns-clause-rising : goal.returns-clause-rising
returns-clause-rising c = if_rising c.args.bytes.now c.sites_in.result (returns-clause-spelled c)

pub returns-clause-told : goal.returns-clause-told
returns-clause-told c = if_told c.args.bytes.now c.sites_in.result c.sites_in.ensures

pub returns-clause-count : goal.returns-clause-count
returns-clause-count c = if_counted c.args.bytes.now c.sites_in.result c.sites_in.ensures
