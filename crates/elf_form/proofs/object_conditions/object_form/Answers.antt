use Rattle.std.proofs.Common.{length, refl, lit<}
use Rattle.elf_form.specs.ObjectReading.{object_form}
use Rattle.elf_form.proofs.LowerPlaces.{lower_below}
use Rattle.elf_form.proofs.object_conditions.object_form.Goals as goal

pub names-names-requires : goal.names-names-requires
names-names-requires c = c.requires

pub with_role-requires : goal.with_role-requires
with_role-requires c = c.requires

pub with_role-requires-2 : goal.with_role-requires-2
with_role-requires-2 c = c.requires

pub with_role-requires-3 : goal.with_role-requires-3
with_role-requires-3 c = c.requires

pub first_field-foreign-requires : goal.first_field-foreign-requires
first_field-foreign-requires c = record { inside = c.with_role.ensures.inside; field = lit< tt }

pub second_field-text-requires : goal.second_field-text-requires
second_field-text-requires c = record { inside = c.with_role-2.ensures.inside; field = lit< tt }

pub second_field-sites-requires : goal.second_field-sites-requires
second_field-sites-requires c = record { inside = c.with_role-3.ensures.inside; field = lit< tt }

pub misaligned-requires : goal.misaligned-requires
misaligned-requires c = c.requires

pub returns-clause-place : goal.returns-clause-place
unfolding object_form
returns-clause-place c =
    rw (
      c.lower-3.ensures,
      c.lower-2.ensures,
      c.lower.ensures,
      c.first_field-foreign.ensures.place,
      c.second_field-text.ensures.place,
      c.second_field-sites.ensures.place,
      c.misaligned.ensures.place,
    )
    (rw (c.with_role.ensures.found, c.with_role-2.ensures.found, c.with_role-3.ensures.found, c.names-names.ensures) refl)

pub returns-clause-inside : goal.returns-clause-inside
returns-clause-inside c =
    let n = length c.args.bytes.now in
    lower_below n _ _ _ c.lower-3.ensures c.first_field-foreign.ensures.inside
    (lower_below n _ _ _ c.lower-2.ensures c.second_field-text.ensures.inside
    (lower_below n _ _ _ c.lower.ensures c.second_field-sites.ensures.inside c.misaligned.ensures.inside))
