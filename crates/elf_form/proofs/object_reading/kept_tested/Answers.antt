use Rattle.std.proofs.Common.{ℕ, List, [], ◌∷◌, Result, length, arith, ◌^◌}
use Rattle.elf_form.specs.declared.cause.ElfCause.{ElfCause}
use Rattle.elf_form.specs.declared.cause.ElfCause.TheVariants.{SymbolForm, RelocForm}
use Rattle.elf_form.specs.ObjectParts.{ObjectParts}
use Rattle.elf_form.specs.Faults.{Fault, tested}
use Rattle.elf_form.specs.ObjectReading.{symbol_form, reloc_form, object_at, wrong_object}
use Rattle.elf_form.proofs.LowerPlaces.{below_as}
use Rattle.elf_form.proofs.TestSteps.{test_fails, test_passes}
use Rattle.elf_form.proofs.object_reading.kept_tested.Goals as goal

-- the tests after one, and the object
abbrev later : List ℕ → List ElfCause → Result ObjectParts Fault
later bytes causes = tested (wrong_object bytes) causes (object_at bytes)

pub symbol_form-requires : goal.symbol_form-requires
symbol_form-requires c = record { whole = c.requires.whole; kept = c.requires.kept }

pub reloc_form-requires : goal.reloc_form-requires
reloc_form-requires c = record { whole = c.requires.whole; kept = c.requires.kept }

pub object_at-requires : goal.object_at-requires
object_at-requires c = record { whole = c.requires.whole; kept = c.requires.kept }

pub test-requires : goal.test-requires
test-requires c = below_as (length c.args.bytes.now) (2 ^ 32) _ (omega (arith, c.requires.limit)) c.symbol_form.ensures.inside

pub test-requires-2 : goal.test-requires-2
test-requires-2 c = below_as (length c.args.bytes.now) (2 ^ 32) _ (omega (arith, c.requires.limit)) c.reloc_form.ensures.inside

pub returns-in_err-test : goal.returns-in_err-test
unfolding tested wrong_object
returns-in_err-test c =
    test_fails (λ o. o) c.from_residual.result c.in_err-test.field-0.0 SymbolForm c.symbol_form.result (symbol_form c.args.bytes.now)
    (later c.args.bytes.now (RelocForm ∷ [])) c.from_residual.ensures.1 c.in_err-test.ensures c.symbol_form.ensures.place

pub returns-in_err-test-2 : goal.returns-in_err-test-2
unfolding tested wrong_object
returns-in_err-test-2 c =
    test_passes (λ o. o) c.from_residual-in_err-test-2.result SymbolForm c.symbol_form.result (symbol_form c.args.bytes.now)
    (later c.args.bytes.now (RelocForm ∷ [])) c.in_ok-test.ensures c.symbol_form.ensures.place
    (test_fails (λ o. o) c.from_residual-in_err-test-2.result c.in_err-test-2.field-0.0 RelocForm c.reloc_form.result
    (reloc_form c.args.bytes.now) (later c.args.bytes.now []) c.from_residual-in_err-test-2.ensures.1 c.in_err-test-2.ensures
    c.reloc_form.ensures.place)
