use Rattle.std.proofs.Common.{◌≡◌, Some, sym, ap, subst, ◌∙◌}
use Rattle.bare_mem.proofs.Parts.{all_turned}
use Rattle.paging.specs.Uses.{with_entry}
use Rattle.std.specs.FinMap.{insert}
use Rattle.std.specs.Option.{option_map}
use Rattle.trace_check.proofs.Choosing.{add_made}
use Rattle.trace_check.proofs.course.add.Goals as goal

pub returns-in-Some-clause-made : goal.returns-in-Some-clause-made
returns-in-Some-clause-made g c = λ image script.
    let lent = c.cache_mut.result.now in
    let old = g.C.Cache.entries c.args.machine.now.kept.cache in
    let new = g.C.Cache.entries c.keep.new.self in
    let e = c.in-Some.entry in
    let exact = c.keep.ensures.exact (ap g.C.Cache.is_exact c.cache_mut.ensures.cache ∙ c.requires.exact) in
    let turned = all_turned (g.C.Cache.entries lent) new e.page (Some e) c.keep.ensures.kept exact in
    let there = subst (λ (x : g.row.C.Denot). new ≡ with_entry (g.C.Cache.entries x) e.page (Some e)) c.cache_mut.ensures.cache turned in
    add_made old new e c.args.page _ (c.in-Some.ensures.found image script) c.in-Some.ensures.within.0 there

pub returns-in-None-clause-made : goal.returns-in-None-clause-made
returns-in-None-clause-made g c = λ image script.
    ap (option_map (λ entry. insert (g.C.Cache.entries c.args.machine.now.kept.cache) c.args.page entry))
    (sym (c.in-None.ensures.found image script))
