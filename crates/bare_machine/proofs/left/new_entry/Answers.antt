use Rattle.std.proofs.Common.{◌≡◌, ℕ, Bool, false, List, Option, Some, None, sym, ap, ◌∙◌}
use Rattle.std.specs.FinMap.{get}
use Rattle.paging.specs.declared.entry.Entry.{Entry}
use Rattle.bare_mem.specs.Keeping.{Set, new_entry}
use Rattle.step_mem.specs.declared.changes.Change.{Change}
use Rattle.step_mem.specs.Changes.{changed, last_change}
use Rattle.step_mem.proofs.Changed.{settle}
use Rattle.machine_step.specs.declared.worked.Dropped.{Dropped}
use Rattle.machine_step.specs.Worked.{dropping}
use Rattle.bare_machine.specs.Dropping.{drops}
use Rattle.bare_machine.proofs.Leaving.{none_new, none_left, new_dropped, new_by_last, small_last, small_found}
use Rattle.bare_machine.proofs.left.new_entry.Given.{Over}
use Rattle.bare_machine.proofs.left.new_entry.Goals as goal

pub returns-then-drops-clause-entry : goal.returns-then-drops-clause-entry
returns-then-drops-clause-entry g c =
    new_dropped c.args.dropped (g.C.Cache.entries c.args.cache.now) c.args.changes.now c.args.page (sym c.drops.ensures ∙ c.if-drops.true)

-- the outcome by the page's last change
by_last : (g : Over) (d : Dropped) (set : Set) (items cs : List Change) (q : ℕ) (drops_it : Bool) (last : Option (Option Entry))
    → drops_it ≡ drops d q → drops_it ≡ false → items ≡ cs
    → last_change None items q ≡ last → new_entry (get set q) (settle last (get set q)) ≡ new_entry (get set q)
    (get (dropping d (changed set cs)) q)
by_last g d set items cs q drops_it last is stays same changes =
    new_by_last d set cs q last (sym is ∙ stays) (ap (λ (l : List Change). last_change None l q) (sym same) ∙ changes)

pub returns-in-Some-left-clause-entry : goal.returns-in-Some-left-clause-entry
returns-in-Some-left-clause-entry g c =
    let set = g.C.Cache.entries c.args.cache.now in
    c.unless_same.ensures.entry
    ∙ (ap (λ (o : Option Entry). new_entry o (Some c.in-Some-left.entry)) c.find.ensures
    ∙ by_last g c.args.dropped set c.as_slice.result.now c.args.changes.now c.args.page c.drops.result (Some (Some c.in-Some-left.entry))
    c.drops.ensures c.if-drops.false c.as_slice.ensures.changes
    (sym c.last_change-found.ensures ∙ (c.in-Some.is ∙ ap (λ (o : Option Entry). Some o) c.in-Some-left.is)))

pub returns-in-Some-left-clause-page : goal.returns-in-Some-left-clause-page
returns-in-Some-left-clause-page g c =
    small_found c.unless_same.result c.in-Some-left.entry c.unless_same.ensures.same
    (small_last c.args.changes.now c.args.page c.in-Some-left.entry c.as_slice.ensures.pages
    (ap (λ (l : List Change). last_change None l c.args.page) (sym c.as_slice.ensures.changes)
    ∙ (sym c.last_change-found.ensures ∙ (c.in-Some.is ∙ ap (λ (o : Option Entry). Some o) c.in-Some-left.is))))

pub returns-in-None-left-clause-entry : goal.returns-in-None-left-clause-entry
returns-in-None-left-clause-entry g c =
    let set = g.C.Cache.entries c.args.cache.now in
    sym (none_left (get set c.args.page))
    ∙ by_last g c.args.dropped set c.as_slice.result.now c.args.changes.now c.args.page c.drops.result (Some None) c.drops.ensures
    c.if-drops.false c.as_slice.ensures.changes
    (sym c.last_change-found.ensures ∙ (c.in-Some.is ∙ ap (λ (o : Option Entry). Some o) c.in-None-left.is))

pub returns-in-None-clause-entry : goal.returns-in-None-clause-entry
returns-in-None-clause-entry g c =
    let set = g.C.Cache.entries c.args.cache.now in
    sym (none_new false (get set c.args.page))
    ∙ by_last g c.args.dropped set c.as_slice.result.now c.args.changes.now c.args.page c.drops.result None c.drops.ensures c.if-drops.false
    c.as_slice.ensures.changes
    (sym c.last_change-found.ensures ∙ c.in-None.is)
