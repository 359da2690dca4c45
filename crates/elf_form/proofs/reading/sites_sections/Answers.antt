use Rattle.elf_form.proofs.SitesSections.{with_sites}
use Rattle.elf_form.proofs.reading.sites_sections.Goals as goal

pub names-requires : goal.names-requires
names-requires c = c.requires

pub with_role-requires : goal.with_role-requires
with_role-requires c = c.requires

pub returns-clause-found : goal.returns-clause-found
returns-clause-found c = rw (c.with_role.ensures.found, c.names.ensures) (with_sites c.args.bytes.now)

pub returns-clause-inside : goal.returns-clause-inside
returns-clause-inside c = c.with_role.ensures.inside
