use Rattle.std.proofs.Common.{ap, ◌∙◌, sym, List}
use Rattle.std.specs.FinMap.{get}
use Rattle.step_mem.specs.declared.changes.Change.{Change}
use Rattle.step_mem.specs.Changes.{changed}
use Rattle.paging.specs.Uses.{page_uses, by_entry, usable}
use Rattle.step_mem.specs.Space.{space_of, one_more, with_tables}
use Rattle.step_mem.proofs.page.page_use.Goals as goal

pub returns-in-None-clause-uses : goal.returns-in-None-clause-uses
unfolding page_uses
returns-in-None-clause-uses g c = λ rest.
    let s = space_of (g.B.Translations.entries c.args.base.now) c.args.ram.now c.args.control c.args.guard.now c.args.changes.now
    (with_tables (one_more rest c.args.asked.page) c.args.tables.now) in
    ap (by_entry s c.args.asked.fetch c.args.asked.page c.args.asked.at c.args.asked.access)
    (ap (λ o. usable o c.args.asked.access c.args.control.wp)
    (ap (λ (cs : List Change). get (changed (g.B.Translations.entries c.args.base.now c.args.ram.now) cs) c.args.asked.page)
    (sym c.as_slice.ensures.changes) ∙ sym c.look.ensures)
    ∙ sym c.in-None.ensures)
    ∙ c.settle.ensures.settled (one_more rest c.args.asked.page)
