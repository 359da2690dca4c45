use Rattle.std.proofs.Common.{ℕ, List, ◌∷◌, Result}
use Rattle.std.proofs.lemmas.Result.{IfOk-from_err}
use Rattle.elf_form.specs.declared.cause.ElfCause.{ElfCause}
use Rattle.elf_form.specs.declared.cause.ElfCause.TheVariants.{Sizes}
use Rattle.elf_form.specs.ImageParts.{ImageParts}
use Rattle.elf_form.specs.Faults.{Fault, tested}
use Rattle.elf_form.specs.Segments.{sizes}
use Rattle.elf_form.specs.Reading.{wrong_image, image_at}
use Rattle.elf_form.specs.Stages.{section_causes, identified, parts_by}
use Rattle.elf_form.proofs.FormLaws.{tested_none}
use Rattle.elf_form.proofs.TestSteps.{gives_err, fails_first, test_fails, test_passes, passes_first}
use Rattle.elf_form.proofs.reading.header_tested.Goals as goal

-- the tests after one, and the image
abbrev later : List ℕ → List ElfCause → Result ImageParts Fault
later bytes causes = tested (wrong_image bytes) causes (image_at bytes)

pub identified-requires : goal.identified-requires
identified-requires c = c.requires.header

pub sizes-requires : goal.sizes-requires
sizes-requires c = c.requires

pub test-requires : goal.test-requires
test-requires c = c.sizes.ensures.small

pub section_tested-requires : goal.section_tested-requires
section_tested-requires c =
    let none = tested_none Sizes c.sizes.result c.in_ok-test.ensures in
    record { whole = c.requires; limit = rw none at c.sizes.ensures.limit; memory = rw none at c.sizes.ensures.memory }

pub returns-in_err-identified-clause-exact : goal.returns-in_err-identified-clause-exact
returns-in_err-identified-clause-exact c =
    gives_err (parts_by c.args.bytes.now) c.from_residual.result c.in_err-identified.field-0.0 _ c.from_residual.ensures.1
    (fails_first c.in_err-identified.field-0.0 (identified 2 c.args.bytes.now) (later c.args.bytes.now (Sizes ∷ section_causes))
    c.in_err-identified.ensures)

pub returns-in_err-identified-clause-places : goal.returns-in_err-identified-clause-places
returns-in_err-identified-clause-places c = IfOk-from_err c.from_residual.result _ c.from_residual.ensures.0

pub returns-in_err-test-clause-exact : goal.returns-in_err-test-clause-exact
unfolding tested wrong_image
returns-in_err-test-clause-exact c =
    passes_first (parts_by c.args.bytes.now) c.from_residual-in_err-test.result (identified 2 c.args.bytes.now) tt
    (later c.args.bytes.now (Sizes ∷ section_causes)) c.in_ok-identified.ensures
    (test_fails (parts_by c.args.bytes.now) c.from_residual-in_err-test.result c.in_err-test.field-0.0 Sizes c.sizes.result
    (sizes c.args.bytes.now) (later c.args.bytes.now section_causes) c.from_residual-in_err-test.ensures.1 c.in_err-test.ensures
    c.sizes.ensures.place)

pub returns-in_err-test-clause-places : goal.returns-in_err-test-clause-places
returns-in_err-test-clause-places c = IfOk-from_err c.from_residual-in_err-test.result _ c.from_residual-in_err-test.ensures.0

pub returns-clause-exact : goal.returns-clause-exact
unfolding tested wrong_image
returns-clause-exact c =
    passes_first (parts_by c.args.bytes.now) c.section_tested.result (identified 2 c.args.bytes.now) tt
    (later c.args.bytes.now (Sizes ∷ section_causes)) c.in_ok-identified.ensures
    (test_passes (parts_by c.args.bytes.now) c.section_tested.result Sizes c.sizes.result (sizes c.args.bytes.now)
    (later c.args.bytes.now section_causes) c.in_ok-test.ensures c.sizes.ensures.place c.section_tested.ensures.exact)

pub returns-clause-places : goal.returns-clause-places
returns-clause-places c = c.section_tested.ensures.places
