use Rattle.std.proofs.Common.{refl}
use Rattle.elf_form.specs.ObjectReading.{object_at}
use Rattle.elf_form.proofs.object_reading.parts_in.Goals as goal

pub returns-clause-text : goal.returns-clause-text
unfolding object_at
returns-clause-text c =
    rw (c.in_ok-from_slice.ensures.items, c.contents_or-text.ensures, c.with_role.ensures.found, c.names-names.ensures) refl

pub returns-clause-init : goal.returns-clause-init
unfolding object_at
returns-clause-init c = rw (c.in_ok-joined.ensures, c.names-names.ensures) refl

pub returns-clause-sites : goal.returns-clause-sites
unfolding object_at
returns-clause-sites c =
    rw (c.in_ok-from_slice-2.ensures.items, c.contents_or-sites.ensures, c.with_role-2.ensures.found, c.names-names.ensures) refl

pub names-names-requires : goal.names-names-requires
names-names-requires c = c.requires

pub with_role-requires : goal.with_role-requires
with_role-requires c = c.requires

pub contents_or-text-requires : goal.contents_or-text-requires
contents_or-text-requires c = c.with_role.ensures.inside

pub joined-requires : goal.joined-requires
joined-requires c = c.requires

pub with_role-requires-2 : goal.with_role-requires-2
with_role-requires-2 c = c.requires

pub contents_or-sites-requires : goal.contents_or-sites-requires
contents_or-sites-requires c = c.with_role-2.ensures.inside
