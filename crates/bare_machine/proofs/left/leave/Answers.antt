use Rattle.std.proofs.Common.{◌≡◌, List, [], sym, ap, ◌∙◌}
use Rattle.step_mem.specs.declared.changes.Change.{Change}
use Rattle.step_mem.specs.Changes.{changed}
use Rattle.machine_step.specs.Worked.{dropping}
use Rattle.bare_mem.specs.Keeping.{kept_after}
use Rattle.bare_machine.proofs.Leaving.{none_changed, kept_unchanged}
use Rattle.bare_machine.proofs.left.leave.Given.{Over}
use Rattle.bare_machine.proofs.left.leave.Goals as goal

none : (g : Over) (c : goal.After-drop_from g) → c.args.changes.now ≡ []
none g c = sym c.as_slice-list.ensures.changes ∙ none_changed c.as_slice-list.result.now (sym c.is_empty.ensures ∙ c.if-is_empty.true)

pub returns-then-is_empty-clause-kept : goal.returns-then-is_empty-clause-kept
returns-then-is_empty-clause-kept g c =
    let old = g.C.Cache.entries c.args.kept.now.cache in
    c.drop_from.ensures.all
    ∙ (kept_unchanged g.C.Cache.keeping c.args.dropped old c.args.pages.now
    ∙ ap (λ (cs : List Change). kept_after g.C.Cache.keeping old c.args.pages.now (dropping c.args.dropped (changed old cs)))
    (sym (none g c)))
