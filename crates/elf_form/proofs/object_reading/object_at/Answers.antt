use Rattle.std.proofs.Common.{refl}
use Rattle.elf_form.specs.ObjectReading.{object_at}
use Rattle.elf_form.proofs.object_reading.object_at.Goals as goal

pub names-names-requires : goal.names-names-requires
names-names-requires c = c.requires.whole

pub starts-requires : goal.starts-requires
starts-requires c = c.requires.whole

pub starts-requires-2 : goal.starts-requires-2
starts-requires-2 c = c.requires.whole

pub object_with-requires-clause-whole : goal.object_with-requires-clause-whole
object_with-requires-clause-whole c = c.requires.whole

pub object_with-requires-clause-kept : goal.object_with-requires-clause-kept
object_with-requires-clause-kept c = c.requires.kept

pub object_with-requires-clause-init : goal.object_with-requires-clause-init
object_with-requires-clause-init c = rw (c.deref.ensures.value, c.in_ok-init.ensures.starts, c.names-names.ensures) refl

pub object_with-requires-clause-bss : goal.object_with-requires-clause-bss
object_with-requires-clause-bss c = rw (c.deref-2.ensures.value, c.in_ok-bss.ensures.starts, c.names-names.ensures) refl

pub object_with-requires-clause-zeroed : goal.object_with-requires-clause-zeroed
unfolding object_at
object_with-requires-clause-zeroed c = rw (c.in_ok-bss.ensures.end, c.names-names.ensures) refl
