use Rattle.std.proofs.Common.{◌≡◌, Some, None, true, sym, ap, subst, ◌∙◌}
use Rattle.bare_mem.proofs.Parts.{all_turned, all_gone}
use Rattle.paging.specs.Uses.{with_entry}
use Rattle.machine_model.specs.Run.{Set}
use Rattle.bare_machine.specs.Machine.{state_of}
use Rattle.bare_machine.specs.Settings.{bare}
use Rattle.bare_machine.proofs.Begun.{none_within}
use Rattle.trace_check.specs.declared.list.ChoiceKind.TheVariants as kinds
use Rattle.trace_check.proofs.Choosing.{removed_within, of_kind}
use Rattle.trace_check.proofs.course.make.Goals as goal

pub returns-in-Drop-clause-made : goal.returns-in-Drop-clause-made
returns-in-Drop-clause-made g c = λ image script.
    let old = g.C.Cache.entries c.args.machine.now.kept.cache in
    let new = g.C.Cache.entries c.drop_page.new.self in
    let page = c.args.choice.now.page in
    let turned = all_turned (g.C.Cache.entries c.cache_mut.result.now) new page None c.drop_page.ensures.gone c.drop_page.ensures.others in
    let gone = subst (λ (x : g.row.C.Denot). new ≡ with_entry (g.C.Cache.entries x) page None) c.cache_mut.ensures.cache turned in
    of_kind (bare image script c.args.machine.now.frames) (state_of g.C.Cache.entries c.args.machine.now) kinds.Drop c.args.choice.now.kind
    page old new true c.in-Drop.is (ap (λ (m : Set). Some m) (sym gone))

pub returns-in-Drop-clause-kept : goal.returns-in-Drop-clause-kept
returns-in-Drop-clause-kept g c =
    let old = g.C.Cache.entries c.args.machine.now.kept.cache in
    let new = g.C.Cache.entries c.drop_page.new.self in
    let page = c.args.choice.now.page in
    let turned = all_turned (g.C.Cache.entries c.cache_mut.result.now) new page None c.drop_page.ensures.gone c.drop_page.ensures.others in
    let gone = subst (λ (x : g.row.C.Denot). new ≡ with_entry (g.C.Cache.entries x) page None) c.cache_mut.ensures.cache turned in
    record {
      ram = c.requires.kept.ram;
      within = removed_within c.args.machine.now.frames old new page gone c.requires.kept.within;
    }

pub returns-in-Empty-clause-made : goal.returns-in-Empty-clause-made
returns-in-Empty-clause-made g c = λ image script.
    let old = g.C.Cache.entries c.args.machine.now.kept.cache in
    let new = g.C.Cache.entries c.drop_all.new.self in
    of_kind (bare image script c.args.machine.now.frames) (state_of g.C.Cache.entries c.args.machine.now) kinds.Empty c.args.choice.now.kind
    c.args.choice.now.page old new true c.in-Empty.is (ap (λ (m : Set). Some m) (sym (all_gone new c.drop_all.ensures.gone)))

pub returns-in-Empty-clause-kept : goal.returns-in-Empty-clause-kept
returns-in-Empty-clause-kept g c = record {
  ram = c.requires.kept.ram;
  within = none_within c.args.machine.now.frames _ (all_gone (g.C.Cache.entries c.drop_all.new.self) c.drop_all.ensures.gone);
}

pub returns-in-Add-clause-made : goal.returns-in-Add-clause-made
returns-in-Add-clause-made g c = λ image script.
    of_kind (bare image script c.args.machine.now.frames) (state_of g.C.Cache.entries c.args.machine.now) kinds.Add c.args.choice.now.kind
    c.args.choice.now.page (g.C.Cache.entries c.args.machine.now.kept.cache) (g.C.Cache.entries c.add.new.machine.kept.cache) c.add.result
    c.in-Add.is (c.add.ensures.made image script)

-- the rest of the machine stays, and so does whether its cache is exact
pub returns-in-Drop-clause-exact : goal.returns-in-Drop-clause-exact
returns-in-Drop-clause-exact g c = c.drop_page.ensures.same ∙ ap g.C.Cache.is_exact c.cache_mut.ensures.cache ∙ c.requires.exact

pub returns-in-Empty-clause-exact : goal.returns-in-Empty-clause-exact
returns-in-Empty-clause-exact g c = c.drop_all.ensures.same ∙ ap g.C.Cache.is_exact c.cache_mut-in-Empty.ensures.cache ∙ c.requires.exact

pub returns-in-Add-clause-exact : goal.returns-in-Add-clause-exact
returns-in-Add-clause-exact g c = c.add.ensures.exact

pub returns-in-Add-clause-same : goal.returns-in-Add-clause-same
returns-in-Add-clause-same g c = c.add.ensures.same

pub returns-in-Add-clause-kept : goal.returns-in-Add-clause-kept
returns-in-Add-clause-kept g c = c.add.ensures.kept
