use Rattle.std.proofs.Common.{length, refl}
use Rattle.elf_form.specs.ObjectReading.{string_places}
use Rattle.elf_form.proofs.LowerPlaces.{lower_below}
use Rattle.elf_form.proofs.object_conditions.string_places.Goals as goal

pub names-requires : goal.names-requires
names-requires c = c.requires

pub with_role-symbols-requires : goal.with_role-symbols-requires
with_role-symbols-requires c = c.requires

pub section_names_fault-requires : goal.section_names_fault-requires
section_names_fault-requires c = c.requires

pub symbol_names_fault-requires : goal.symbol_names_fault-requires
symbol_names_fault-requires c = record { whole = c.requires; inside = c.with_role-symbols.ensures.inside }

pub returns-clause-place : goal.returns-clause-place
unfolding string_places
returns-clause-place c = rw (
  c.lower.ensures,
  c.section_names_fault.ensures.place,
  c.symbol_names_fault.ensures.place,
  c.with_role-symbols.ensures.found,
  c.names.ensures,
) refl

pub returns-clause-inside : goal.returns-clause-inside
returns-clause-inside c =
    lower_below (length c.args.bytes.now) _ _ _ c.lower.ensures c.section_names_fault.ensures.inside c.symbol_names_fault.ensures.inside
