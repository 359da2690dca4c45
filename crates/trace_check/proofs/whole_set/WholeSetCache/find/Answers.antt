use Rattle.std.proofs.Common.{◌≡◌, ◌<◌, length, get_or, sym, ap, ◌∙◌, arith}
use Rattle.std.proofs.lemmas.Grind.{get_or_default_zero}
use Rattle.std.specs.FinMap.{get}
use Rattle.trace_check.specs.Slots.{entry_in}
use Rattle.trace_check.proofs.Holding.{get_entries, get_behind}
use Rattle.trace_check.proofs.whole_set.WholeSetCache.find.Goals as goal

pub returns-then-page-lt-PAGES : goal.returns-then-page-lt-PAGES
returns-then-page-lt-PAGES c =
    let words = c.self.inside.words.items in
    let lt : c.args.page < length words = omega (arith, c.self.invariant.pages, c.if-page-lt-PAGES.true) in
    let word : c.index.result.now ≡ get_or words c.args.page 0 =
    c.index.ensures ∙ get_or_default_zero words c.args.page c.index.result.now lt in
    c.entry_in.ensures ∙ ap (entry_in c.args.page) word ∙ sym (get_entries words c.args.page) ∙ ap (λ m. get m c.args.page) c.self.view_is

pub returns-else-page-lt-PAGES : goal.returns-else-page-lt-PAGES
returns-else-page-lt-PAGES c =
    sym (ap (λ m. get m c.args.page) (sym c.self.view_is) ∙ get_behind c.self.inside.words.items c.self.inside.marks.items c.args.page
    c.self.invariant c.if-page-lt-PAGES.false)
