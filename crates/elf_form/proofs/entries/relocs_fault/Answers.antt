use Rattle.std.proofs.Common.{ap, ◌∙◌, None}
use Rattle.std.specs.Prelude.{fold}
use Rattle.std.proofs.lemmas.List.{take_all}
use Rattle.elf_form.specs.Faults.{◌or_lower◌}
use Rattle.elf_form.specs.Symbols.{reloc_test, relocs_fault}
use Rattle.elf_form.proofs.entries.relocs_fault.Goals as goal

pub returns-clause-place : goal.returns-clause-place
unfolding relocs_fault
returns-clause-place c =
    c.loop-e.invariant.place
    ∙ ap (fold (λ lowest e. lowest or_lower reloc_test c.args.test c.args.table c.args.names.now c.args.bytes.now e) None)
    (take_all c.loop-e.e-index c.args.entries.now c.loop-e-test.false)
