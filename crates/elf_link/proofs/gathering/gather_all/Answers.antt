use Rattle.elf_link.proofs.FirstLaws.{item, within, past}
use Rattle.elf_link.proofs.StepLaws.{gives_err}
use Rattle.elf_link.proofs.GatherLaws.{gathering_first, gathering_fails, gathering_next, gathered_all}
use Rattle.elf_link.proofs.gathering.gather_all.Goals as goal

pub loop-i-init : goal.loop-i-init
loop-i-init c = rw (c.new.ensures, c.new-2.ensures.items) (gathering_first c.args.objects.now.items)

pub returns-in_err-gather-clause-exact : goal.returns-in_err-gather-clause-exact
returns-in_err-gather-clause-exact c =
    let e = c.deref-object-items.ensures.value in
    gives_err (λ x. tt {0}) c.from_residual.result c.in_err-gather.field-0.0 _ c.from_residual.ensures.1
    (gathering_fails c.args.objects.now.items c.loop-i.i c.object-item.result c.loop-i.all.totals c.loop-i.all.globals
    c.loop-i.all.sites.items (within _ _ _ e c.loop-i-test.true) (item _ _ _ _ _ e c.loop-i-test.true c.object-item.is) c.loop-i.invariant
    c.in_err-gather.field-0.0 c.in_err-gather.ensures.exact)

pub loop-i-preserved : goal.loop-i-preserved
loop-i-preserved c =
    let e = c.deref-object-items.ensures.value in
    gathering_next c.args.objects.now.items c.loop-i.i c.object-item.result c.loop-i.all.totals c.loop-i.all.globals
    c.loop-i.all.sites.items (within _ _ _ e c.loop-i-test.true) (item _ _ _ _ _ e c.loop-i-test.true c.object-item.is) c.loop-i.invariant
    c.gather.new.all.totals c.gather.new.all.globals c.gather.new.all.sites.items c.in_ok-gather.ensures.exact c.in_ok-gather.ensures.totals
    c.in_ok-gather.ensures.globals c.in_ok-gather.ensures.sites c.in_ok-gather.ensures.below c.in_ok-gather.ensures.within

pub returns-clause-exact : goal.returns-clause-exact
returns-clause-exact c =
    (gathered_all _ _ _ _ _ (past _ _ _ c.deref-object-items.ensures.value c.loop-i-test.false) c.loop-i.invariant).exact

pub returns-clause-totals : goal.returns-clause-totals
returns-clause-totals c =
    (gathered_all _ _ _ _ _ (past _ _ _ c.deref-object-items.ensures.value c.loop-i-test.false) c.loop-i.invariant).sums

pub returns-clause-within : goal.returns-clause-within
returns-clause-within c =
    (gathered_all _ _ _ _ _ (past _ _ _ c.deref-object-items.ensures.value c.loop-i-test.false) c.loop-i.invariant).within

pub returns-clause-globals : goal.returns-clause-globals
returns-clause-globals c =
    (gathered_all _ _ _ _ _ (past _ _ _ c.deref-object-items.ensures.value c.loop-i-test.false) c.loop-i.invariant).names

pub returns-clause-sites : goal.returns-clause-sites
returns-clause-sites c =
    (gathered_all _ _ _ _ _ (past _ _ _ c.deref-object-items.ensures.value c.loop-i-test.false) c.loop-i.invariant).moved

pub returns-clause-below : goal.returns-clause-below
returns-clause-below c =
    (gathered_all _ _ _ _ _ (past _ _ _ c.deref-object-items.ensures.value c.loop-i-test.false) c.loop-i.invariant).below

pub returns-clause-count : goal.returns-clause-count
returns-clause-count c =
    (gathered_all _ _ _ _ _ (past _ _ _ c.deref-object-items.ensures.value c.loop-i-test.false) c.loop-i.invariant).count

pub returns-clause-fits : goal.returns-clause-fits
returns-clause-fits c = (gathered_all _ _ _ _ _ (past _ _ _ c.deref-object-items.ensures.value c.loop-i-test.false) c.loop-i.invariant).fits

pub returns-clause-gaps : goal.returns-clause-gaps
returns-clause-gaps c = (gathered_all _ _ _ _ _ (past _ _ _ c.deref-object-items.ensures.value c.loop-i-test.false) c.loop-i.invariant).gaps
