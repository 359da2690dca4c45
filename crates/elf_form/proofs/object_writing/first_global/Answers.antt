use Rattle.elf_form.proofs.SymbolNames.{no_global-more, first_global-here, first_global-none}
use Rattle.elf_form.proofs.object_writing.first_global.Goals as goal

pub loop-i-preserved : goal.loop-i-preserved
loop-i-preserved c = no_global-more c.args.symbols.now c.loop-i.i c.index-symbols-i.result c.loop-i-test.true c.index-symbols-i.is
    c.if-s.false c.loop-i.invariant

pub returns-then-s-clause-number : goal.returns-then-s-clause-number
returns-then-s-clause-number c = first_global-here c.args.symbols.now c.loop-i.i c.index-symbols-i.result c.loop-i-test.true
    c.index-symbols-i.is c.if-s.true c.loop-i.invariant

pub returns-clause-number : goal.returns-clause-number
returns-clause-number c = first_global-none c.args.symbols.now c.loop-i.i c.loop-i-test.false c.loop-i.auto.i-end c.loop-i.invariant
