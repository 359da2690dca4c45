use Rattle.elf_form.proofs.ReasonLaws.{object_refused, object_refused_only}
use Rattle.elf_form.proofs.ObjectAcceptance.{if_read, if_as, if_first}
use Rattle.elf_form.proofs.LinkableObjects.{if_linkable}
use Rattle.elf_form.proofs.object_reading.read_object.Goals as goal

pub returns-clause-object : goal.returns-clause-object
returns-clause-object c = if_read c.args.bytes.now c.object.result c.object.ensures

pub returns-clause-only : goal.returns-clause-only
returns-clause-only c = if_as c.args.bytes.now c.object.result c.object.ensures

pub returns-clause-first : goal.returns-clause-first
returns-clause-first c = if_first c.args.bytes.now c.object.result c.object.ensures

pub returns-clause-linkable : goal.returns-clause-linkable
returns-clause-linkable c = if_linkable c.args.bytes.now c.object.result c.object.ensures

pub returns-clause-refused : goal.returns-clause-refused
returns-clause-refused c = object_refused c.args.bytes.now c.object.result c.object.ensures

pub returns-clause-refused_only : goal.returns-clause-refused_only
returns-clause-refused_only c = object_refused_only c.args.bytes.now c.object.result c.object.ensures
