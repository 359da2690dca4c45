use Rattle.std.proofs.Common.{ℕ, ◌+◌, List, [], ◌∷◌, ◌++◌, take, get_or, subst, sym, ap, ◌∙◌}
use Rattle.std.proofs.lemmas.List.{take_more}
use Rattle.step_mem.specs.declared.changes.Change.{Change}
use Rattle.step_mem.specs.Changes.{changed}
use Rattle.machine_step.specs.Worked.{dropping}
use Rattle.bare_machine.proofs.Leaving.{Listed, listed_same, listed_more}
use Rattle.bare_machine.proofs.left.new_entries.Given.{Over}
use Rattle.bare_machine.proofs.left.new_entries.Goals as goal
use Rattle.bare_machine.proofs.left.new_entries.Goals.{in-Some, in_default}

-- as many pages more of the slice are as many of the list
of_list : (g : Over) (c : goal.Joined-found g) (list : List Change) (n : ℕ)
    → Listed (g.C.Cache.entries c.args.cache.now)
    (dropping c.args.dropped (changed (g.C.Cache.entries c.args.cache.now) c.args.changes.now))
    (take c.loop-page.page-index c.as_slice-page-items.result.now ++ get_or c.as_slice-page-items.result.now c.loop-page.page-index 0 ∷ [])
    list n
    → Listed (g.C.Cache.entries c.args.cache.now)
    (dropping c.args.dropped (changed (g.C.Cache.entries c.args.cache.now) c.args.changes.now))
    (take (c.loop-page.page-index + 1) c.args.pages.now) list n
of_list g c list n h =
    let items = c.as_slice-page-items.result.now in
    let i = c.loop-page.page-index in
    subst (λ (l : List ℕ). Listed (g.C.Cache.entries c.args.cache.now)
    (dropping c.args.dropped (changed (g.C.Cache.entries c.args.cache.now) c.args.changes.now)) l list n)
    (sym (take_more items i 0 c.loop-page-test.true) ∙ ap (take (i + 1)) c.as_slice-page-items.ensures) h

before : (g : Over) (c : goal.Joined-found g)
    → Listed (g.C.Cache.entries c.args.cache.now)
    (dropping c.args.dropped (changed (g.C.Cache.entries c.args.cache.now) c.args.changes.now))
    (take c.loop-page.page-index c.as_slice-page-items.result.now) c.loop-page.entries c.loop-page.page-index
before g c =
    subst (λ (l : List ℕ). Listed (g.C.Cache.entries c.args.cache.now)
    (dropping c.args.dropped (changed (g.C.Cache.entries c.args.cache.now) c.args.changes.now)) l c.loop-page.entries
    c.loop-page.page-index)
    (ap (take c.loop-page.page-index) (sym c.as_slice-page-items.ensures)) c.loop-page.invariant

pub loop-page-preserved : goal.loop-page-preserved
loop-page-preserved g c =
    let set = g.C.Cache.entries c.args.cache.now in
    let left = dropping c.args.dropped (changed set c.args.changes.now) in
    let items = c.as_slice-page-items.result.now in
    let i = c.loop-page.page-index in
    let p = get_or items i 0 in
    of_list g c c.match-found.entries (i + 1)
    (elim c.match-found.branch [
      | in-Some w ↦ subst (λ (l : List Change). Listed set left (take i items ++ p ∷ []) l (i + 1)) (sym (w.entries-is ∙ w.push.ensures))
          (listed_more set left (take i items) c.loop-page.entries i p w.in-Some.entry
          (sym c.new_entry-found.ensures.entry ∙ w.in-Some.is) (before g c))
      | in_default w ↦ subst (λ (l : List Change). Listed set left (take i items ++ p ∷ []) l (i + 1)) (sym w.entries-is)
          (listed_same set left (take i items) c.loop-page.entries i p (sym c.new_entry-found.ensures.entry ∙ w.in_default.is) (before g c))
    ])
