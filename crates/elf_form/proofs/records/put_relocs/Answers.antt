use Rattle.std.proofs.Common.{◌≡◌, List, ◌++◌, subst}
use Rattle.std.specs.Prelude.{map}
use Rattle.std.proofs.lemmas.List.{take_all}
use Rattle.elf_form.specs.declared.symbols.Entry.{Entry}
use Rattle.elf_form.specs.Symbols.{reloc_at}
use Rattle.std.proofs.lemmas.List.Elements.{All-get_or}
use Rattle.elf_form.specs.KeptRelocs.{IsEntry}
use Rattle.elf_form.proofs.RecordLaws.{relocs-more}
use Rattle.elf_form.proofs.records.put_relocs.Goals as goal

pub returns : goal.returns
returns c =
    subst (λ (entries : List Entry). c.loop-e.out.items ≡ c.args.out.now.items ++ map
    (reloc_at c.args.numbers.now c.args.names.now c.args.bytes.now) entries) (take_all c.loop-e.e-index c.args.entries.now
    c.loop-e-test.false) c.loop-e.invariant

pub reloc_at-requires-clause-whole : goal.reloc_at-requires-clause-whole
reloc_at-requires-clause-whole c = c.requires.whole

pub reloc_at-requires-clause-init : goal.reloc_at-requires-clause-init
reloc_at-requires-clause-init c = c.requires.init

pub reloc_at-requires-clause-bss : goal.reloc_at-requires-clause-bss
reloc_at-requires-clause-bss c = c.requires.bss

pub reloc_at-requires-clause-inside : goal.reloc_at-requires-clause-inside
reloc_at-requires-clause-inside c =
    All-get_or (IsEntry c.args.bytes.now) c.args.entries.now c.loop-e.e-index _ c.loop-e-test.true c.requires.entries

pub loop-e-preserved : goal.loop-e-preserved
loop-e-preserved c =
    rw (c.in_ok-push.ensures.items, c.reloc_at.ensures)
    (relocs-more (reloc_at c.args.numbers.now c.args.names.now c.args.bytes.now) c.args.entries.now c.loop-e.e-index _ c.args.out.now.items
    c.loop-e.out.items c.loop-e-test.true c.loop-e.invariant)
