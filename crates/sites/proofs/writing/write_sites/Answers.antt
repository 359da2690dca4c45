use Rattle.std.proofs.Common.{◌<◌, ◌^◌, length, ap, ◌∙◌, arith}
use Rattle.sites.specs.Formats.{sites_in}
use Rattle.sites.proofs.Formats.{spelled_read}
use Rattle.sites.proofs.writing.write_sites.Goals as goal

pub returns-clause-read : goal.returns-clause-read
returns-clause-read c = λ are.
    let few : length c.args.sites.now.list < 2 ^ 32 = omega arith in
    ap sites_in c.in_ok-out.ensures ∙ spelled_read c.args.sites.now are few
