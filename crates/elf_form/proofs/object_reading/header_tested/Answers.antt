use Rattle.std.proofs.Common.{ℕ, List, ◌∷◌, Result}
use Rattle.elf_form.specs.declared.cause.ElfCause.{ElfCause}
use Rattle.elf_form.specs.declared.cause.ElfCause.TheVariants.{Sizes}
use Rattle.elf_form.specs.ObjectParts.{ObjectParts}
use Rattle.elf_form.specs.Faults.{Fault, tested}
use Rattle.elf_form.specs.ObjectReading.{object_sizes, object_at, wrong_object}
use Rattle.elf_form.specs.Stages.{section_causes, identified}
use Rattle.elf_form.proofs.FormLaws.{tested_none}
use Rattle.elf_form.proofs.TestSteps.{gives_err, fails_first, test_fails, test_passes, passes_first}
use Rattle.elf_form.proofs.object_reading.header_tested.Goals as goal

-- the tests after one, and the object
abbrev later : List ℕ → List ElfCause → Result ObjectParts Fault
later bytes causes = tested (wrong_object bytes) causes (object_at bytes)

pub identified-requires : goal.identified-requires
identified-requires c = c.requires.header

pub object_sizes-requires : goal.object_sizes-requires
object_sizes-requires c = c.requires

pub test-requires : goal.test-requires
test-requires c = c.object_sizes.ensures.small

pub section_tested-requires : goal.section_tested-requires
section_tested-requires c =
    record { whole = c.requires; limit = rw (tested_none Sizes c.object_sizes.result c.in_ok-test.ensures) at c.object_sizes.ensures.limit }

pub returns-in_err-identified : goal.returns-in_err-identified
returns-in_err-identified c =
    gives_err (λ o. o) c.from_residual.result c.in_err-identified.field-0.0 _ c.from_residual.ensures.1
    (fails_first c.in_err-identified.field-0.0 (identified 1 c.args.bytes.now) (later c.args.bytes.now (Sizes ∷ section_causes))
    c.in_err-identified.ensures)

pub returns-in_err-test : goal.returns-in_err-test
unfolding tested wrong_object
returns-in_err-test c =
    passes_first (λ o. o) c.from_residual-in_err-test.result (identified 1 c.args.bytes.now) tt
    (later c.args.bytes.now (Sizes ∷ section_causes)) c.in_ok-identified.ensures
    (test_fails (λ o. o) c.from_residual-in_err-test.result c.in_err-test.field-0.0 Sizes c.object_sizes.result
    (object_sizes c.args.bytes.now) (later c.args.bytes.now section_causes) c.from_residual-in_err-test.ensures.1 c.in_err-test.ensures
    c.object_sizes.ensures.place)

pub returns : goal.returns
unfolding tested wrong_object
returns c =
    passes_first (λ o. o) c.section_tested.result (identified 1 c.args.bytes.now) tt (later c.args.bytes.now (Sizes ∷ section_causes))
    c.in_ok-identified.ensures
    (test_passes (λ o. o) c.section_tested.result Sizes c.object_sizes.result (object_sizes c.args.bytes.now)
    (later c.args.bytes.now section_causes) c.in_ok-test.ensures c.object_sizes.ensures.place c.section_tested.ensures)
