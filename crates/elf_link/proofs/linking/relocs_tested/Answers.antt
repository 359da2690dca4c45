use Rattle.elf_link.proofs.FirstLaws.{item, within, past}
use Rattle.elf_link.proofs.StepLaws.{gives_err}
use Rattle.elf_link.proofs.CheckLaws.{relocs_fail, relocs_next, relocs_end}
use Rattle.elf_link.proofs.linking.relocs_tested.Goals as goal

pub returns-in_err-refuse : goal.returns-in_err-refuse
returns-in_err-refuse c =
    let e = c.deref-object-items.ensures.value in
    gives_err (λ x. tt {0}) c.from_residual-in_err-refuse.result c.in_err-refuse.field-0.0 _ c.from_residual-in_err-refuse.ensures.1
    (relocs_fail c.args.objects.now.items c.loop-i.i c.object-item.result c.args.globals.now c.in_ok-cause.cause
    (within _ _ _ e c.loop-i-test.true) (item _ _ _ _ _ e c.loop-i-test.true c.object-item.is) c.loop-i.invariant c.requires.globals
    c.in_ok-cause.ensures c.in_err-refuse.field-0.0 c.in_err-refuse.ensures)

pub loop-i-preserved : goal.loop-i-preserved
loop-i-preserved c =
    let e = c.deref-object-items.ensures.value in
    relocs_next c.args.objects.now.items c.loop-i.i c.object-item.result c.args.globals.now c.in_ok-cause.cause
    (within _ _ _ e c.loop-i-test.true) (item _ _ _ _ _ e c.loop-i-test.true c.object-item.is) c.loop-i.invariant c.requires.globals
    c.in_ok-cause.ensures c.in_ok-refuse.ensures

pub returns : goal.returns
returns c =
    relocs_end c.args.objects.now.items c.loop-i.i (past _ _ _ c.deref-object-items.ensures.value c.loop-i-test.false) c.loop-i.invariant
