use Rattle.std.proofs.lemmas.Result.{IfOk-from_err}
use Rattle.elf_link.specs.declared.fault.LinkFault.TheVariants.{Memory}
use Rattle.elf_form.specs.ImageParts.{ImageParts}
use Rattle.elf_link.proofs.StepLaws.{gives_err}
use Rattle.elf_link.proofs.LinkLaws.{objects_fail}
use Rattle.elf_link.proofs.linking.linked.Goals as goal

pub returns-in_err-all-clause-exact : goal.returns-in_err-all-clause-exact
returns-in_err-all-clause-exact c =
    gives_err (λ (image : ImageParts). image) c.from_residual.result c.in_err-all.field-0.0 _ c.from_residual.ensures.1
    (objects_fail c.args.objects.now.items c.in_err-all.field-0.0 c.in_err-all.ensures.exact)

pub linked_by-requires-clause-plan : goal.linked_by-requires-clause-plan
linked_by-requires-clause-plan c = record { bases = c.in_ok-bases.ensures; globals = c.in_ok-all.ensures.globals }

pub returns-clause-exact : goal.returns-clause-exact
returns-clause-exact c = c.linked_by.ensures.exact

pub returns-in_err-all-clause-laid_out : goal.returns-in_err-all-clause-laid_out
returns-in_err-all-clause-laid_out c = IfOk-from_err c.from_residual.result _ c.from_residual.ensures.0

pub returns-in_err-all-clause-writable : goal.returns-in_err-all-clause-writable
returns-in_err-all-clause-writable c = IfOk-from_err c.from_residual.result _ c.from_residual.ensures.0

pub returns-in_err-all-clause-longs : goal.returns-in_err-all-clause-longs
returns-in_err-all-clause-longs c = IfOk-from_err c.from_residual.result _ c.from_residual.ensures.0

pub returns-in_err-bases-clause-laid_out : goal.returns-in_err-bases-clause-laid_out
returns-in_err-bases-clause-laid_out c = IfOk-from_err c.from_residual-in_err-bases.result _ c.from_residual-in_err-bases.ensures.0

pub returns-in_err-bases-clause-writable : goal.returns-in_err-bases-clause-writable
returns-in_err-bases-clause-writable c = IfOk-from_err c.from_residual-in_err-bases.result _ c.from_residual-in_err-bases.ensures.0

pub returns-in_err-bases-clause-longs : goal.returns-in_err-bases-clause-longs
returns-in_err-bases-clause-longs c = IfOk-from_err c.from_residual-in_err-bases.result _ c.from_residual-in_err-bases.ensures.0

pub returns-in_err-bases-clause-exact : goal.returns-in_err-bases-clause-exact
returns-in_err-bases-clause-exact c =
    gives_err (λ (image : ImageParts). image) c.from_residual-in_err-bases.result Memory _ c.from_residual-in_err-bases.ensures.1 tt

pub gather_all-requires-clause-few : goal.gather_all-requires-clause-few
gather_all-requires-clause-few c = c.requires.few

pub gather_all-requires-clause-linkable : goal.gather_all-requires-clause-linkable
gather_all-requires-clause-linkable c = c.requires.linkable

pub bases-requires : goal.bases-requires
bases-requires c = c.in_ok-all.ensures.within

pub linked_by-requires-clause-few : goal.linked_by-requires-clause-few
linked_by-requires-clause-few c = c.requires.few

pub linked_by-requires-clause-linkable : goal.linked_by-requires-clause-linkable
linked_by-requires-clause-linkable c = c.requires.linkable

pub linked_by-requires-clause-passed : goal.linked_by-requires-clause-passed
linked_by-requires-clause-passed c = c.in_ok-all.ensures.exact

pub linked_by-requires-clause-gathered : goal.linked_by-requires-clause-gathered
linked_by-requires-clause-gathered c =
    let all = c.in_ok-all.ensures in
    record { within = all.within; fits = all.fits; moved = all.sites; below = all.below; count = all.count; gaps = all.gaps }

pub returns-clause-laid_out : goal.returns-clause-laid_out
returns-clause-laid_out c = c.linked_by.ensures.laid_out

pub returns-clause-writable : goal.returns-clause-writable
returns-clause-writable c = c.linked_by.ensures.writable

pub returns-clause-longs : goal.returns-clause-longs
returns-clause-longs c = c.linked_by.ensures.longs
