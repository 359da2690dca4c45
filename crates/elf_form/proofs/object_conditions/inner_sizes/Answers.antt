use Rattle.std.proofs.Common.{length, refl, arith}
use Rattle.elf_form.specs.ObjectReading.{inner_sizes}
use Rattle.elf_form.proofs.LowerPlaces.{lower_below, then_below}
use Rattle.elf_form.proofs.object_conditions.inner_sizes.Goals as goal

pub names-names-requires : goal.names-names-requires
names-names-requires c = c.requires

pub with_role-requires : goal.with_role-requires
with_role-requires c = c.requires

pub table_fault-table-requires : goal.table_fault-table-requires
table_fault-table-requires c = c.with_role.ensures.inside

pub table_of-requires : goal.table_of-requires
table_of-requires c = c.requires

pub sections_fault-relocs-requires : goal.sections_fault-relocs-requires
sections_fault-relocs-requires c = c.requires

pub joined_fault-init-requires : goal.joined_fault-init-requires
joined_fault-init-requires c = c.requires

pub joined_fault-bss-requires : goal.joined_fault-bss-requires
joined_fault-bss-requires c = c.requires

pub returns-clause-place : goal.returns-clause-place
unfolding inner_sizes
returns-clause-place c =
    rw (
      c.lower-4.ensures,
      c.lower-3.ensures,
      c.lower-joined.ensures,
      c.lower-2.ensures,
      c.lower.ensures,
      c.then_some.ensures,
      c.then_some-2.ensures,
      c.half.ensures,
      c.half-2.ensures,
    )
    (rw (
      c.table_fault-table.ensures.place,
      c.sections_fault-relocs.ensures.place,
      c.joined_fault-init.ensures.place,
      c.joined_fault-bss.ensures.place,
      c.with_role.ensures.found,
      c.table_of.ensures.table,
      c.names-names.ensures,
    ) refl)

pub returns-clause-inside : goal.returns-clause-inside
returns-clause-inside c =
    let n = length c.args.bytes.now in
    lower_below n _ _ _ c.lower-4.ensures (then_below n 40 _ _ c.then_some.ensures (omega (arith, c.requires.header)))
    (lower_below n _ _ _ c.lower-3.ensures (then_below n 46 _ _ c.then_some-2.ensures (omega (arith, c.requires.header)))
    (lower_below n _ _ _ c.lower-joined.ensures c.joined_fault-init.ensures.inside
    (lower_below n _ _ _ c.lower-2.ensures c.joined_fault-bss.ensures.inside
    (lower_below n _ _ _ c.lower.ensures c.table_fault-table.ensures.inside c.sections_fault-relocs.ensures.inside))))
