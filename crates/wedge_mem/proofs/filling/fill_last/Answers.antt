use Rattle.std.proofs.Common.{◌≡◌, ◌^◌, ◌<◌, Option, IfSome, sym, ap, ◌∙◌, subst, arith}
use Rattle.std.specs.FinMap.{get}
use Rattle.paging.specs.declared.entry.Entry.{Entry}
use Rattle.guest_ram.specs.Among.{is_among}
use Rattle.shadow_tables.specs.Entries.{entries_of}
use Rattle.shadow_tables.specs.Slots.{entry_in}
use Rattle.step_mem.specs.Changes.{changed}
use Rattle.wedge_mem.specs.Settled.{filled_by}
use Rattle.wedge_mem.proofs.Due.{entry-changed, entry-unchanged, filled-again, filled-beyond, filled-changed, filled-later, takes-one, turned-last}
use Rattle.wedge_mem.proofs.filling.fill_last.Goals.{then-page-ge-PAGES-via-then-page-ge-PAGES, then-page-ge-PAGES-via-else-page-ge-PAGES+then-is_among}
use Rattle.wedge_mem.proofs.filling.fill_last.Goals as goal

pub returns-then-page-ge-PAGES-clause-filled : goal.returns-then-page-ge-PAGES-clause-filled
returns-then-page-ge-PAGES-clause-filled g c =
    let kept = g.S.Shadows.slots c.args.shadows.now c.args.ram.now in
    elim c.then-page-ge-PAGES.branch [
      | then-page-ge-PAGES-via-then-page-ge-PAGES w ↦
          filled-beyond kept c.args.changes.now c.args.side c.args.wp c.args.page c.args.later.now c.requires.pages w.if-page-ge-PAGES.true
      | then-page-ge-PAGES-via-else-page-ge-PAGES+then-is_among w ↦
          filled-later kept c.args.changes.now c.args.side c.args.wp c.args.page c.args.later.now
          (sym w.is_among.ensures ∙ w.if-is_among.true)
    ]

-- ---- the step changed its entry

pub fill_page-requires-clause-fits : goal.fill_page-requires-clause-fits
fill_page-requires-clause-fits g c =
    let kept = g.S.Shadows.slots c.args.shadows.now c.args.ram.now in
    subst (λ (o : Option Entry). IfSome o (λ e. (e.page ≡ c.args.page) × (e.frame < 2 ^ 20)))
    (entry-changed kept c.args.changes.now c.args.page c.in-Some.entry (sym c.last_change.ensures ∙ c.in-Some.is)) c.requires.fits

pub fill_page-requires-clause-free : goal.fill_page-requires-clause-free
fill_page-requires-clause-free g c =
    let kept = g.S.Shadows.slots c.args.shadows.now c.args.ram.now in
    let one =
    takes-one (get (changed (entries_of kept) c.args.changes.now) c.args.page) c.in-Some.entry (is_among c.args.page c.args.later.now)
    (entry-changed kept c.args.changes.now c.args.page c.in-Some.entry (sym c.last_change.ensures ∙ c.in-Some.is))
    (sym c.is_among.ensures ∙ c.if-is_among.false) in
    let free = c.requires.free in
    omega (arith, one, free)

pub returns-in-Some-clause-slots : goal.returns-in-Some-clause-slots
returns-in-Some-clause-slots g c =
    let s = g.S.Shadows.slots in let kept = s c.args.shadows.now c.args.ram.now in let n = c.fill_page.new in
    turned-last kept (s n.shadows n.ram) c.args.page c.args.later.now _ _ c.fill_page.ensures.turns
    (sym c.is_among.ensures ∙ c.if-is_among.false)
    (ap (filled_by c.args.side c.args.wp (g.S.Shadows.write_protected c.args.shadows.now))
    (sym (entry-changed kept c.args.changes.now c.args.page c.in-Some.entry (sym c.last_change.ensures ∙ c.in-Some.is))))

pub returns-in-Some-clause-left : goal.returns-in-Some-clause-left
returns-in-Some-clause-left g c =
    let kept = g.S.Shadows.slots c.args.shadows.now c.args.ram.now in
    let one =
    takes-one (get (changed (entries_of kept) c.args.changes.now) c.args.page) c.in-Some.entry (is_among c.args.page c.args.later.now)
    (entry-changed kept c.args.changes.now c.args.page c.in-Some.entry (sym c.last_change.ensures ∙ c.in-Some.is))
    (sym c.is_among.ensures ∙ c.if-is_among.false) in
    let left = c.fill_page.ensures.left in
    omega (arith, one, left)

pub returns-in-Some-clause-filled : goal.returns-in-Some-clause-filled
returns-in-Some-clause-filled g c =
    let kept = g.S.Shadows.slots c.args.shadows.now c.args.ram.now in
    c.is_some.ensures
    ∙ filled-changed kept c.args.changes.now c.args.side c.args.wp c.args.page c.args.later.now c.in-Some.entry
    (sym c.last_change.ensures ∙ c.in-Some.is) (sym c.is_among.ensures ∙ c.if-is_among.false)

-- ---- it left its entry

pub fill_again-requires-clause-free : goal.fill_again-requires-clause-free
fill_again-requires-clause-free g c =
    let kept = g.S.Shadows.slots c.args.shadows.now c.args.ram.now in
    let small : c.args.page < 2 ^ 20 = omega (arith, c.if-page-ge-PAGES.false) in
    let one = takes-one (get (changed (entries_of kept) c.args.changes.now) c.args.page) (entry_in (kept c.args.page))
    (is_among c.args.page c.args.later.now)
    (entry-unchanged kept c.args.changes.now c.args.page small (sym c.last_change.ensures ∙ c.in-None.is))
    (sym c.is_among.ensures ∙ c.if-is_among.false) in
    let free = c.requires.free in
    omega (arith, one, free)

pub returns-in-None-clause-slots : goal.returns-in-None-clause-slots
returns-in-None-clause-slots g c =
    let s = g.S.Shadows.slots in let kept = s c.args.shadows.now c.args.ram.now in let n = c.fill_again.new in
    let small : c.args.page < 2 ^ 20 = omega (arith, c.if-page-ge-PAGES.false) in
    turned-last kept (s n.shadows n.ram) c.args.page c.args.later.now _ _ c.fill_again.ensures.turns
    (sym c.is_among.ensures ∙ c.if-is_among.false)
    (ap (filled_by c.args.side c.args.wp (g.S.Shadows.write_protected c.args.shadows.now))
    (sym (entry-unchanged kept c.args.changes.now c.args.page small (sym c.last_change.ensures ∙ c.in-None.is))))

pub returns-in-None-clause-left : goal.returns-in-None-clause-left
returns-in-None-clause-left g c =
    let kept = g.S.Shadows.slots c.args.shadows.now c.args.ram.now in
    let small : c.args.page < 2 ^ 20 = omega (arith, c.if-page-ge-PAGES.false) in
    let one = takes-one (get (changed (entries_of kept) c.args.changes.now) c.args.page) (entry_in (kept c.args.page))
    (is_among c.args.page c.args.later.now)
    (entry-unchanged kept c.args.changes.now c.args.page small (sym c.last_change.ensures ∙ c.in-None.is))
    (sym c.is_among.ensures ∙ c.if-is_among.false) in
    let left = c.fill_again.ensures.left in
    omega (arith, one, left)

pub returns-in-None-clause-filled : goal.returns-in-None-clause-filled
returns-in-None-clause-filled g c =
    let kept = g.S.Shadows.slots c.args.shadows.now c.args.ram.now in
    let small : c.args.page < 2 ^ 20 = omega (arith, c.if-page-ge-PAGES.false) in
    c.fill_again.ensures.filled
    ∙ filled-again kept c.args.changes.now c.args.side c.args.wp c.args.page c.args.later.now small
    (sym c.last_change.ensures ∙ c.in-None.is) (sym c.is_among.ensures ∙ c.if-is_among.false)
