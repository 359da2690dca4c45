use Rattle.std.proofs.Common.{get_or, ℕ, map, sym, ap, ◌∙◌}
use Rattle.std.specs.FinMap.{get}
use Rattle.shadow_tables.specs.Entries.{entries_of}
use Rattle.guest_ram.specs.Among.{is_among}
use Rattle.step_mem.specs.Changes.{changed, page_of}
use Rattle.wedge_mem.proofs.Lists.{element-among}
use Rattle.wedge_step.specs.Opened.{is_entry_open}
use Rattle.wedge_step.proofs.AmongPages.{among_first, told_among}
use Rattle.wedge_step.proofs.UsedPages.{each_more, each_all, each_none}
use Rattle.wedge_step.proofs.opened.are_open.Goals as goal

pub loop-page-init : goal.loop-page-init
loop-page-init g c =
    each_none (λ (page : ℕ). is_entry_open c.args.count c.args.side
    (get (changed (entries_of (g.S.Shadows.slots c.args.shadows.now c.args.ram.now)) c.args.state.now.changes) page))
    c.as_slice-page-items.result.now

pub loop-page-preserved : goal.loop-page-preserved
loop-page-preserved g c =
    each_more (λ (page : ℕ). is_entry_open c.args.count c.args.side
    (get (changed (entries_of (g.S.Shadows.slots c.args.shadows.now c.args.ram.now)) c.args.state.now.changes) page))
    c.as_slice-page-items.result.now c.loop-page.page-index c.loop-page-test.true
    (ap (is_entry_open c.args.count c.args.side) (sym c.entry_of.ensures) ∙ (sym c.is_entry_open.ensures ∙ c.if-not-is_entry_open.false))
    c.loop-page.invariant

pub returns-clause-opened : goal.returns-clause-opened
returns-clause-opened g c = λ _ page h.
    each_all (λ (page : ℕ). is_entry_open c.args.count c.args.side
    (get (changed (entries_of (g.S.Shadows.slots c.args.shadows.now c.args.ram.now)) c.args.state.now.changes) page))
    c.as_slice-page-items.result.now c.loop-page.page-index c.loop-page-test.false c.loop-page.invariant page
    (ap (is_among page) c.as_slice-page-items.ensures ∙ told_among c.args.state.now.visited c.args.state.now.changes c.requires.told page h)

pub returns-then-not-is_entry_open-clause-barred : goal.returns-then-not-is_entry_open-clause-barred
returns-then-not-is_entry_open-clause-barred g c = λ e.
    let pages = c.as_slice-page-items.result.now in
    let i = c.loop-page.page-index in (
      get_or pages i 0,
      among_first (get_or pages i 0) c.args.state.now.visited (map page_of c.args.state.now.changes)
          (sym (ap (is_among (get_or pages i 0)) c.as_slice-page-items.ensures) ∙ element-among pages i c.loop-page-test.true),
      ap (is_entry_open c.args.count c.args.side) (sym c.entry_of.ensures) ∙ (sym c.is_entry_open.ensures ∙ c.if-not-is_entry_open.true),
    )
