use Rattle.std.proofs.Common.{sym, ◌∙◌}
use Rattle.plain_laws.proofs.Options.{not_some}
use Rattle.elf_form.specs.Symbols.{sections_fault, section_test}
use Rattle.elf_form.proofs.TableLaws.{first_some-here, first_some-next, first_some-end}
use Rattle.elf_form.proofs.symbol_walks.sections_fault.Goals as goal

pub returns-in-Some-clause-place : goal.returns-in-Some-clause-place
unfolding sections_fault
returns-in-Some-clause-place c =
    rw (← c.word-first.ensures, ← c.half-count.ensures)
    (sym (first_some-here (section_test c.args.test c.args.table c.args.names.now c.args.bytes.now) c.word-first.result 40
    c.half-count.result c.loop-i.i c.in-Some.at c.loop-i-test.true (sym c.section_test.ensures.place ∙ c.in-Some.is)) ∙ c.loop-i.invariant)

pub loop-i-preserved : goal.loop-i-preserved
loop-i-preserved c =
    sym (first_some-next (section_test c.args.test c.args.table c.args.names.now c.args.bytes.now) c.word-first.result 40
    c.half-count.result c.loop-i.i c.loop-i-test.true
    (sym c.section_test.ensures.place ∙ not_some c.section_test.result c.in_default.not-Some)) ∙ c.loop-i.invariant

pub returns-clause-place : goal.returns-clause-place
unfolding sections_fault
returns-clause-place c =
    rw (← c.word-first.ensures, ← c.half-count.ensures)
    (sym (first_some-end (section_test c.args.test c.args.table c.args.names.now c.args.bytes.now) c.word-first.result 40
    c.half-count.result c.loop-i.i c.loop-i-test.false) ∙ c.loop-i.invariant)
