use Rattle.std.proofs.Common.{◌≡◌, ◌++◌, append_assoc}
use Rattle.std.specs.Prelude.{map}
use Rattle.std.proofs.lemmas.Result.{on_ok_weaker}
use Rattle.elf_form.specs.Symbols.{reloc_at}
use Rattle.elf_form.specs.ObjectReading.{object_at}
use Rattle.elf_form.proofs.object_reading.put_kept.Goals as goal

pub returns : goal.returns
unfolding object_at
returns c =
    on_ok_weaker c.put_relocs-2.result
    (λ (is : c.put_relocs-2.new.out.items ≡ c.put_relocs.new.out.items ++ map
    (reloc_at c.deref-3.result.now c.names-names.result.now c.args.bytes.now) c.deref-4.result.now).
    rw (is, c.in_ok-put_relocs.ensures, c.deref.ensures.value, c.deref-2.ensures.value, c.deref-3.ensures.value, c.deref-4.ensures.value)
    (rw (
      c.in_ok-numbers.ensures,
      c.names-names.ensures,
      c.table_of.ensures.table,
      c.requires.kept.text,
      c.requires.kept.init,
    ) (simp append_assoc)))
    c.put_relocs-2.ensures

pub names-names-requires : goal.names-names-requires
names-names-requires c = c.requires.whole

pub table_of-requires : goal.table_of-requires
table_of-requires c = c.requires.whole

pub numbers-requires : goal.numbers-requires
numbers-requires c = record { whole = c.requires.whole; table = c.table_of.ensures.inside; count = c.table_of.ensures.small }

pub put_relocs-requires : goal.put_relocs-requires
put_relocs-requires c = record {
  whole = c.requires.whole;
  init = rw c.names-names.ensures c.requires.init;
  bss = rw c.names-names.ensures c.requires.bss;
  entries = rw c.deref-2.ensures.value c.requires.kept.in_text;
}

pub put_relocs-requires-2 : goal.put_relocs-requires-2
put_relocs-requires-2 c = record {
  whole = c.requires.whole;
  init = rw c.names-names.ensures c.requires.init;
  bss = rw c.names-names.ensures c.requires.bss;
  entries = rw c.deref-4.ensures.value c.requires.kept.in_init;
}
