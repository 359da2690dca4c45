use Rattle.std.proofs.Common.{◌≡◌, ℕ, None, ap, subst, ◌∙◌}
use Rattle.std.specs.FinMap.{get}
use Rattle.paging.specs.Part.{IsPartOf}
use Rattle.step_mem.specs.Changes.{changed, last_change, AreWithin}
use Rattle.machine_step.specs.Worked.{dropping}
use Rattle.bare_mem.specs.Keeping.{Set, is_gone, unless}
use Rattle.bare_machine.proofs.Leaving.{kept_changed, all_left}
use Rattle.bare_machine.proofs.left.keep_new.Given.{Over}
use Rattle.bare_machine.proofs.left.keep_new.Goals as goal

pub returns-clause-kept : goal.returns-clause-kept
returns-clause-kept g c =
    let old = g.C.Cache.entries c.args.kept.now.cache in
    kept_changed g.C.Cache.keeping c.args.dropped old (g.C.Cache.entries c.drop_gone.new.kept.cache)
    (g.C.Cache.entries c.settle.new.kept.cache) c.args.changes.now c.new_entries-entries.result c.args.pages.now
    c.new_entries-entries.ensures
    (λ q. c.drop_gone.ensures.gone q ∙ ap (λ (m : Set). unless (is_gone (last_change None c.args.changes.now q)) (get m q))
    c.drop_from.ensures.all) c.settle.ensures.made

all : (g : Over) (c : goal.After-settle g) (frames : ℕ)
    → AreWithin frames (changed (g.C.Cache.entries c.args.kept.now.cache) c.args.changes.now)
    → changed (g.C.Cache.entries c.drop_gone.new.kept.cache) c.new_entries-entries.result ≡ dropping c.args.dropped
    (changed (g.C.Cache.entries c.args.kept.now.cache) c.args.changes.now)
all g c frames within =
    all_left frames c.args.dropped (g.C.Cache.entries c.args.kept.now.cache) (g.C.Cache.entries c.drop_gone.new.kept.cache)
    c.args.changes.now c.new_entries-entries.result c.args.pages.now within c.requires.told c.new_entries-entries.ensures
    (λ q. c.drop_gone.ensures.gone q ∙ ap (λ (m : Set). unless (is_gone (last_change None c.args.changes.now q)) (get m q))
    c.drop_from.ensures.all)

pub returns-clause-part : goal.returns-clause-part
returns-clause-part g c = λ frames within.
    subst (λ (m : Set). IsPartOf (g.C.Cache.entries c.settle.new.kept.cache) m) (all g c frames within) c.settle.ensures.part

pub returns-clause-exact : goal.returns-clause-exact
returns-clause-exact g c = λ frames within exact.
    c.settle.ensures.exact (c.drop_gone.ensures.same ∙ (c.drop_from.ensures.same ∙ exact)) ∙ all g c frames within
