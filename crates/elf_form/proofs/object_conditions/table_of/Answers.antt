use Rattle.std.proofs.Common.{refl}
use Rattle.elf_form.specs.ObjectReading.{table_of}
use Rattle.elf_form.proofs.object_conditions.table_of.Goals as goal

pub names-requires : goal.names-requires
names-requires c = c.requires

pub with_role-requires : goal.with_role-requires
with_role-requires c = c.requires

pub table_at-requires : goal.table_at-requires
table_at-requires c = record { found = c.with_role.ensures.inside; header = c.requires.header }

pub returns-clause-table : goal.returns-clause-table
unfolding table_of
returns-clause-table c = rw (c.table_at.ensures.table, c.with_role.ensures.found, c.names.ensures) refl

pub returns-clause-small : goal.returns-clause-small
returns-clause-small c = c.table_at.ensures.small

pub returns-clause-inside : goal.returns-clause-inside
returns-clause-inside c = c.table_at.ensures.inside

pub returns-clause-section : goal.returns-clause-section
returns-clause-section c = c.table_at.ensures.section
