use Rattle.std.proofs.Common.{ℕ, List, ◌++◌, Option, ap, ◌∙◌, arith}
use Rattle.std.specs.FinMap.{get}
use Rattle.paging.specs.declared.entry.Entry.{Entry}
use Rattle.machine_text.specs.Cached.{cached_line, cached_text}
use Rattle.machine_text.proofs.Pieces.{none_below, one_more, all_below}
use Rattle.machine_text.proofs.cached.add_cached.Goals as goal

pub loop-page-init : goal.loop-page-init
loop-page-init g c = none_below _ _

pub loop-page-preserved : goal.loop-page-preserved
loop-page-preserved g c =
    one_more c.args.text.now.items (λ page. cached_line page (get (g.C.Cache.entries c.args.cache.now) page)) c.loop-page.page
    c.loop-page.text.items _ c.loop-page.invariant
    (c.in_ok-add_line.ensures ∙ ap (λ (o : Option Entry). c.loop-page.text.items ++ cached_line c.loop-page.page o) c.find.ensures)

pub returns : goal.returns
unfolding cached_text
returns g c =
    all_below c.args.text.now.items (λ page. cached_line page (get (g.C.Cache.entries c.args.cache.now) page)) c.loop-page.page 0x100000
    c.loop-page.text.items c.loop-page.invariant (omega arith)
