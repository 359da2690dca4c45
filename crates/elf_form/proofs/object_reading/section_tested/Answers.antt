use Rattle.std.proofs.Common.{ℕ, List, ◌∷◌, Result, length, arith, ◌^◌}
use Rattle.elf_form.specs.declared.cause.ElfCause.{ElfCause}
use Rattle.elf_form.specs.declared.cause.ElfCause.TheVariants.{SectionForm, Compressed, StringPlace}
use Rattle.elf_form.specs.ObjectParts.{ObjectParts}
use Rattle.elf_form.specs.Faults.{Fault, tested}
use Rattle.elf_form.specs.ObjectReading.{object_form, string_places, object_at, wrong_object}
use Rattle.elf_form.specs.Sections.{compressed}
use Rattle.elf_form.specs.Stages.{late_causes}
use Rattle.elf_form.proofs.LowerPlaces.{below_as}
use Rattle.elf_form.proofs.TestSteps.{test_fails, test_passes}
use Rattle.elf_form.proofs.object_reading.section_tested.Goals as goal

-- the tests after one, and the object
abbrev later : List ℕ → List ElfCause → Result ObjectParts Fault
later bytes causes = tested (wrong_object bytes) causes (object_at bytes)

pub object_form-requires : goal.object_form-requires
object_form-requires c = c.requires.whole

pub compressed-requires : goal.compressed-requires
compressed-requires c = c.requires.whole

pub string_places-requires : goal.string_places-requires
string_places-requires c = c.requires.whole

pub late_tested-requires : goal.late_tested-requires
late_tested-requires c = record { whole = c.requires.whole; limit = c.requires.limit }

pub test-requires : goal.test-requires
test-requires c = below_as (length c.args.bytes.now) (2 ^ 32) _ (omega (arith, c.requires.limit)) c.object_form.ensures.inside

pub test-requires-2 : goal.test-requires-2
test-requires-2 c = below_as (length c.args.bytes.now) (2 ^ 32) _ (omega (arith, c.requires.limit)) c.compressed.ensures.inside

pub test-requires-3 : goal.test-requires-3
test-requires-3 c = below_as (length c.args.bytes.now) (2 ^ 32) _ (omega (arith, c.requires.limit)) c.string_places.ensures.inside

pub returns-in_err-test : goal.returns-in_err-test
unfolding tested wrong_object
returns-in_err-test c =
    test_fails (λ o. o) c.from_residual.result c.in_err-test.field-0.0 SectionForm c.object_form.result (object_form c.args.bytes.now)
    (later c.args.bytes.now (Compressed ∷ StringPlace ∷ late_causes)) c.from_residual.ensures.1 c.in_err-test.ensures
    c.object_form.ensures.place

pub returns-in_err-test-2 : goal.returns-in_err-test-2
unfolding tested wrong_object
returns-in_err-test-2 c =
    test_passes (λ o. o) c.from_residual-in_err-test-2.result SectionForm c.object_form.result (object_form c.args.bytes.now)
    (later c.args.bytes.now (Compressed ∷ StringPlace ∷ late_causes)) c.in_ok-test.ensures c.object_form.ensures.place
    (test_fails (λ o. o) c.from_residual-in_err-test-2.result c.in_err-test-2.field-0.0 Compressed c.compressed.result
    (compressed c.args.bytes.now) (later c.args.bytes.now (StringPlace ∷ late_causes)) c.from_residual-in_err-test-2.ensures.1
    c.in_err-test-2.ensures c.compressed.ensures.place)

pub returns-in_err-test-3 : goal.returns-in_err-test-3
unfolding tested wrong_object
returns-in_err-test-3 c =
    test_passes (λ o. o) c.from_residual-in_err-test-3.result SectionForm c.object_form.result (object_form c.args.bytes.now)
    (later c.args.bytes.now (Compressed ∷ StringPlace ∷ late_causes)) c.in_ok-test.ensures c.object_form.ensures.place
    (test_passes (λ o. o) c.from_residual-in_err-test-3.result Compressed c.compressed.result (compressed c.args.bytes.now)
    (later c.args.bytes.now (StringPlace ∷ late_causes)) c.in_ok-test-2.ensures c.compressed.ensures.place
    (test_fails (λ o. o) c.from_residual-in_err-test-3.result c.in_err-test-3.field-0.0 StringPlace c.string_places.result
    (string_places c.args.bytes.now) (later c.args.bytes.now late_causes) c.from_residual-in_err-test-3.ensures.1 c.in_err-test-3.ensures
    c.string_places.ensures.place))

pub returns : goal.returns
unfolding tested wrong_object
returns c =
    test_passes (λ o. o) c.late_tested.result SectionForm c.object_form.result (object_form c.args.bytes.now)
    (later c.args.bytes.now (Compressed ∷ StringPlace ∷ late_causes)) c.in_ok-test.ensures c.object_form.ensures.place
    (test_passes (λ o. o) c.late_tested.result Compressed c.compressed.result (compressed c.args.bytes.now)
    (later c.args.bytes.now (StringPlace ∷ late_causes)) c.in_ok-test-2.ensures c.compressed.ensures.place
    (test_passes (λ o. o) c.late_tested.result StringPlace c.string_places.result (string_places c.args.bytes.now)
    (later c.args.bytes.now late_causes) c.in_ok-test-3.ensures c.string_places.ensures.place c.late_tested.ensures))
