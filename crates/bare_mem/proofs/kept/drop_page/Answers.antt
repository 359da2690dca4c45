use Rattle.std.proofs.Common.{None}
use Rattle.bare_mem.proofs.Parts.{part_turned, all_turned, same_others}
use Rattle.bare_mem.proofs.kept.drop_page.Goals as goal

pub returns-clause-part : goal.returns-clause-part
returns-clause-part g c = λ whole h.
    let old = g.C.Cache.entries c.args.kept.now.cache in
    part_turned old _ whole c.args.page None c.drop_page.ensures.gone (same_others old _ c.args.page c.drop_page.ensures.others) h

pub returns-clause-exact : goal.returns-clause-exact
returns-clause-exact g c =
    all_turned (g.C.Cache.entries c.args.kept.now.cache) _ c.args.page None c.drop_page.ensures.gone c.drop_page.ensures.others
