use Rattle.std.proofs.Common.{Option, List, None, sym, ap, ◌∙◌}
use Rattle.std.specs.FinMap.{get}
use Rattle.paging.specs.declared.entry.Entry.{Entry}
use Rattle.shadow_tables.specs.Entries.{entries_of}
use Rattle.step_mem.specs.declared.changes.Change.{Change}
use Rattle.step_mem.specs.Changes.{last_change}
use Rattle.step_mem.proofs.Changed.{settle, get_changed}
use Rattle.wedge_mem.proofs.pages.entry_of.Goals as goal

pub returns-in-Some : goal.returns-in-Some
returns-in-Some g c =
    let set = entries_of (g.S.Shadows.slots c.args.shadows.now c.args.ram.now) in
    let told = c.last_change.ensures ∙ ap (λ (l : List Change). last_change None l c.args.page) c.as_slice.ensures.changes in
    sym (get_changed set c.args.changes.now c.args.page ∙ ap (λ (o : Option (Option Entry)). settle o (get set c.args.page))
    (sym told ∙ c.in-Some.is))

pub returns-in-None : goal.returns-in-None
returns-in-None g c =
    let set = entries_of (g.S.Shadows.slots c.args.shadows.now c.args.ram.now) in
    let told = c.last_change.ensures ∙ ap (λ (l : List Change). last_change None l c.args.page) c.as_slice.ensures.changes in
    c.kept.ensures ∙ sym (get_changed set c.args.changes.now c.args.page
    ∙ ap (λ (o : Option (Option Entry)). settle o (get set c.args.page)) (sym told ∙ c.in-None.is))
