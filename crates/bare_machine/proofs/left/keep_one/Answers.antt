use Rattle.std.proofs.Common.{◌≡◌, List, sym, ap, subst, ◌∙◌}
use Rattle.paging.specs.Part.{IsPartOf}
use Rattle.step_mem.specs.declared.changes.Change.{Change}
use Rattle.step_mem.specs.Changes.{changed, AreToldIn}
use Rattle.bare_mem.specs.Keeping.{Set, made_in, kept_after}
use Rattle.bare_machine.proofs.Leaving.{kept_one, kept_same, one_same}
use Rattle.bare_machine.proofs.Runs.{part_same}
use Rattle.bare_machine.proofs.left.keep_one.Given.{Over}
use Rattle.bare_machine.proofs.left.keep_one.Goals as goal

pub returns-then-is_change-clause-kept : goal.returns-then-is_change-clause-kept
returns-then-is_change-clause-kept g c =
    let old = g.C.Cache.entries c.args.kept.now.cache in
    c.settle.ensures.made
    ∙ (ap (made_in g.C.Cache.keeping old) c.requires.one
    ∙ (kept_one g.C.Cache.keeping g.met.C.Cache.again old c.args.change c.args.pages.now (sym c.is_change.ensures ∙ c.if-is_change.true)
    (subst (AreToldIn c.args.pages.now) c.requires.one c.requires.told)
    ∙ ap (λ (cs : List Change). kept_after g.C.Cache.keeping old c.args.pages.now (changed old cs)) (sym c.requires.one)))

same : (g : Over) (c : goal.Else-is_change g) → g.C.Cache.entries c.args.kept.now.cache ≡ changed
    (g.C.Cache.entries c.args.kept.now.cache) c.args.changes.now
same g c =
    let old = g.C.Cache.entries c.args.kept.now.cache in
    one_same old c.args.change (sym c.is_change.ensures ∙ c.if-is_change.false)
    ∙ ap (λ (cs : List Change). changed old cs) (sym c.requires.one)

pub returns-else-is_change-clause-kept : goal.returns-else-is_change-clause-kept
returns-else-is_change-clause-kept g c =
    let old = g.C.Cache.entries c.args.kept.now.cache in
    kept_same g.C.Cache.keeping old c.args.change c.args.pages.now (sym c.is_change.ensures ∙ c.if-is_change.false)
    ∙ ap (λ (cs : List Change). kept_after g.C.Cache.keeping old c.args.pages.now (changed old cs)) (sym c.requires.one)

pub returns-else-is_change-clause-part : goal.returns-else-is_change-clause-part
returns-else-is_change-clause-part g c =
    let old = g.C.Cache.entries c.args.kept.now.cache in
    subst (λ (m : Set). IsPartOf old m) (same g c) (part_same old)

pub returns-else-is_change-clause-exact : goal.returns-else-is_change-clause-exact
returns-else-is_change-clause-exact g c = λ exact. same g c
