use Rattle.std.proofs.Common.{◌+◌, ◌-◌, sym, ◌∙◌, refl}
use Rattle.plain_laws.proofs.Options.{not_some}
use Rattle.elf_form.specs.Tables.{entries, first_some}
use Rattle.elf_form.specs.Symbols.{symbols_fault, symbol_test}
use Rattle.elf_form.proofs.TableLaws.{first_some-here, first_some-next, first_some-end}
use Rattle.elf_form.proofs.symbol_walks.symbols_fault.Goals as goal

pub returns-then-table-eq0-clause-place : goal.returns-then-table-eq0-clause-place
unfolding symbols_fault first_some entries
returns-then-table-eq0-clause-place c = rw c.if-table-eq0.true refl

pub returns-in-Some-clause-place : goal.returns-in-Some-clause-place
unfolding symbols_fault
returns-in-Some-clause-place c =
    sym (first_some-here (symbol_test c.args.test c.args.strings.now c.args.names.now c.args.bytes.now) (c.args.table.at + 16) 16
    (c.args.table.count - 1) c.loop-i.i c.in-Some.at c.loop-i-test.true (sym c.symbol_test.ensures.place ∙ c.in-Some.is))
    ∙ c.loop-i.invariant

pub loop-i-preserved : goal.loop-i-preserved
loop-i-preserved c =
    sym (first_some-next (symbol_test c.args.test c.args.strings.now c.args.names.now c.args.bytes.now) (c.args.table.at + 16) 16
    (c.args.table.count - 1) c.loop-i.i c.loop-i-test.true
    (sym c.symbol_test.ensures.place ∙ not_some c.symbol_test.result c.in_default.not-Some)) ∙ c.loop-i.invariant

pub returns-clause-place : goal.returns-clause-place
unfolding symbols_fault
returns-clause-place c =
    sym (first_some-end (symbol_test c.args.test c.args.strings.now c.args.names.now c.args.bytes.now) (c.args.table.at + 16) 16
    (c.args.table.count - 1) c.loop-i.i c.loop-i-test.false) ∙ c.loop-i.invariant
