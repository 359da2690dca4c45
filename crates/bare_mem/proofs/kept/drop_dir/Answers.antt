use Rattle.std.proofs.Common.{sym, subst}
use Rattle.std.specs.FinMap.{FinMap}
use Rattle.std.specs.Ordering.{nat_cmp}
use Rattle.paging.specs.declared.entry.Entry.{Entry}
use Rattle.paging.specs.Part.{IsPartOf}
use Rattle.paging.specs.Uses.{without_dir}
use Rattle.bare_mem.proofs.Parts.{dir_turned, dir_part}
use Rattle.bare_mem.proofs.kept.drop_dir.Goals as goal

pub returns-clause-part : goal.returns-clause-part
returns-clause-part g c = λ whole h.
    let old = g.C.Cache.entries c.args.kept.now.cache in
    subst (λ (m : FinMap nat_cmp Entry). IsPartOf m (without_dir whole c.args.index))
    (sym (dir_turned old _ c.args.index c.drop_dir.ensures.gone c.drop_dir.ensures.others)) (dir_part old whole c.args.index h)

pub returns-clause-exact : goal.returns-clause-exact
returns-clause-exact g c =
    dir_turned (g.C.Cache.entries c.args.kept.now.cache) _ c.args.index c.drop_dir.ensures.gone c.drop_dir.ensures.others
