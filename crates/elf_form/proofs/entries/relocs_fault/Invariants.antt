use Rattle.std.proofs.Common.{◌≡◌, ◌<◌, None, length, take}
use Rattle.std.specs.Prelude.{fold, IfSome}
use Rattle.elf_form.specs.Faults.{◌or_lower◌}
use Rattle.elf_form.specs.Symbols.{reloc_test}
use Rattle.elf_form.proofs.entries.relocs_fault.Given as goal

abbrev pub invariant-loop-e : goal.invariant-loop-e
invariant-loop-e l = record {
  place : l.lowest ≡ fold (λ lowest e. lowest or_lower reloc_test l.test l.table l.names l.bytes e) None (take l.e-index l.entries);
  small : IfSome l.lowest (λ at. at < length l.bytes);
}
