use Rattle.std.proofs.Common.{sym, ap, ◌∙◌}
use Rattle.std.specs.FinMap.{get}
use Rattle.trace_check.proofs.Holding.{get_cleared, get_put_other, get_behind, at_place, whole_cleared}
use Rattle.trace_check.proofs.whole_set.WholeSetCache.drop_page.Goals as goal

pub invariant_of-self : goal.invariant_of-self
invariant_of-self c = whole_cleared c.self.inside.words.items c.self.inside.marks.items c.args.page c.self.invariant

pub returns-then-page-lt-PAGES-clause-gone : goal.returns-then-page-lt-PAGES-clause-gone
returns-then-page-lt-PAGES-clause-gone c = get_cleared _ c.args.page (at_place c.self.inside.words.items c.args.page)

pub returns-then-page-lt-PAGES-clause-others : goal.returns-then-page-lt-PAGES-clause-others
returns-then-page-lt-PAGES-clause-others c =
    λ other n. get_put_other c.self.inside.words.items c.args.page 0 other n ∙ ap (λ m. get m other) c.self.view_is

pub returns-else-page-lt-PAGES-clause-gone : goal.returns-else-page-lt-PAGES-clause-gone
returns-else-page-lt-PAGES-clause-gone c = ap (λ m. get m c.args.page) (sym c.self.view_is)
    ∙ get_behind c.self.inside.words.items c.self.inside.marks.items c.args.page c.self.invariant c.if-page-lt-PAGES.false
