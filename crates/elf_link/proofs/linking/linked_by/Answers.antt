use Rattle.std.proofs.lemmas.Result.{IfOk-from_err}
use Rattle.elf_link.specs.declared.fault.LinkFault.TheVariants.{Memory}
use Rattle.std.proofs.Common.{ℕ, Ok, Result, sym, ap, ◌∙◌, subst}
use Rattle.elf_form.specs.ImageParts.{ImageParts}
use Rattle.elf_link.specs.Refusals.{Refused}
use Rattle.elf_link.specs.Answers.{Fails}
use Rattle.elf_link.proofs.StepLaws.{gives_err}
use Rattle.elf_link.proofs.LinkLaws.{relocs_fail_all, start_fails, linked_ok, entered_same}
use Rattle.elf_link.proofs.linking.linked_by.Goals as goal

pub returns-in_err-relocs_tested-clause-exact : goal.returns-in_err-relocs_tested-clause-exact
returns-in_err-relocs_tested-clause-exact c =
    gives_err (λ (image : ImageParts). image) c.from_residual.result c.in_err-relocs_tested.field-0.0 _ c.from_residual.ensures.1
    (relocs_fail_all c.args.objects.now.items c.requires.passed c.in_err-relocs_tested.field-0.0 c.in_err-relocs_tested.ensures)

pub returns-in_err-entry-clause-exact : goal.returns-in_err-entry-clause-exact
returns-in_err-entry-clause-exact c =
    let same = entered_same c.args.objects.now.items c.args.plan.now.bases.items c.args.plan.now.globals c.requires.plan.bases
    c.requires.plan.globals in
    gives_err (λ (image : ImageParts). image) c.from_residual-in_err-entry.result c.in_err-entry.field-0.0 _
    c.from_residual-in_err-entry.ensures.1
    (start_fails c.args.objects.now.items c.requires.passed c.in_ok-relocs_tested.ensures c.in_err-entry.field-0.0
    (subst (λ (r : Result ℕ Refused). Fails c.in_err-entry.field-0.0 r) (sym same) c.in_err-entry.ensures))

pub placed-requires-clause-entry : goal.placed-requires-clause-entry
placed-requires-clause-entry c =
    let same = entered_same c.args.objects.now.items c.args.plan.now.bases.items c.args.plan.now.globals c.requires.plan.bases
    c.requires.plan.globals in
    let ok = linked_ok c.args.objects.now.items c.requires.passed c.in_ok-relocs_tested.ensures c.in_ok-entry.entry
    (same ∙ c.in_ok-entry.ensures) in
    ok.1

pub returns-clause-exact : goal.returns-clause-exact
returns-clause-exact c =
    let same = entered_same c.args.objects.now.items c.args.plan.now.bases.items c.args.plan.now.globals c.requires.plan.bases
    c.requires.plan.globals in
    let ok = linked_ok c.args.objects.now.items c.requires.passed c.in_ok-relocs_tested.ensures c.in_ok-entry.entry
    (same ∙ c.in_ok-entry.ensures) in
    ok.0 ∙ ap Ok (sym c.in_ok-placed.ensures.image)

pub returns-in_err-relocs_tested-clause-laid_out : goal.returns-in_err-relocs_tested-clause-laid_out
returns-in_err-relocs_tested-clause-laid_out c = IfOk-from_err c.from_residual.result _ c.from_residual.ensures.0

pub returns-in_err-relocs_tested-clause-writable : goal.returns-in_err-relocs_tested-clause-writable
returns-in_err-relocs_tested-clause-writable c = IfOk-from_err c.from_residual.result _ c.from_residual.ensures.0

pub returns-in_err-relocs_tested-clause-longs : goal.returns-in_err-relocs_tested-clause-longs
returns-in_err-relocs_tested-clause-longs c = IfOk-from_err c.from_residual.result _ c.from_residual.ensures.0

pub returns-in_err-entry-clause-laid_out : goal.returns-in_err-entry-clause-laid_out
returns-in_err-entry-clause-laid_out c = IfOk-from_err c.from_residual-in_err-entry.result _ c.from_residual-in_err-entry.ensures.0

pub returns-in_err-entry-clause-writable : goal.returns-in_err-entry-clause-writable
returns-in_err-entry-clause-writable c = IfOk-from_err c.from_residual-in_err-entry.result _ c.from_residual-in_err-entry.ensures.0

pub returns-in_err-entry-clause-longs : goal.returns-in_err-entry-clause-longs
returns-in_err-entry-clause-longs c = IfOk-from_err c.from_residual-in_err-entry.result _ c.from_residual-in_err-entry.ensures.0

pub returns-in_err-placed-clause-laid_out : goal.returns-in_err-placed-clause-laid_out
returns-in_err-placed-clause-laid_out c = IfOk-from_err c.from_residual-in_err-placed.result _ c.from_residual-in_err-placed.ensures.0

pub returns-in_err-placed-clause-writable : goal.returns-in_err-placed-clause-writable
returns-in_err-placed-clause-writable c = IfOk-from_err c.from_residual-in_err-placed.result _ c.from_residual-in_err-placed.ensures.0

pub returns-in_err-placed-clause-longs : goal.returns-in_err-placed-clause-longs
returns-in_err-placed-clause-longs c = IfOk-from_err c.from_residual-in_err-placed.result _ c.from_residual-in_err-placed.ensures.0

pub returns-in_err-placed-clause-exact : goal.returns-in_err-placed-clause-exact
returns-in_err-placed-clause-exact c =
    gives_err (λ (image : ImageParts). image) c.from_residual-in_err-placed.result Memory _ c.from_residual-in_err-placed.ensures.1 tt

pub relocs_tested-requires-clause-few : goal.relocs_tested-requires-clause-few
relocs_tested-requires-clause-few c = c.requires.few

pub relocs_tested-requires-clause-linkable : goal.relocs_tested-requires-clause-linkable
relocs_tested-requires-clause-linkable c = c.requires.linkable

pub relocs_tested-requires-clause-globals : goal.relocs_tested-requires-clause-globals
relocs_tested-requires-clause-globals c = c.requires.plan.globals

pub placed-requires-clause-few : goal.placed-requires-clause-few
placed-requires-clause-few c = c.requires.few

pub placed-requires-clause-linkable : goal.placed-requires-clause-linkable
placed-requires-clause-linkable c = c.requires.linkable

pub placed-requires-clause-gathered : goal.placed-requires-clause-gathered
placed-requires-clause-gathered c = c.requires.gathered

pub placed-requires-clause-plan : goal.placed-requires-clause-plan
placed-requires-clause-plan c = c.requires.plan

pub returns-clause-laid_out : goal.returns-clause-laid_out
returns-clause-laid_out c = c.in_ok-placed.ensures.laid_out

pub returns-clause-writable : goal.returns-clause-writable
returns-clause-writable c = c.in_ok-placed.ensures.writable

pub returns-clause-longs : goal.returns-clause-longs
returns-clause-longs c = c.in_ok-placed.ensures.longs
