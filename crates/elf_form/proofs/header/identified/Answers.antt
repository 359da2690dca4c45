use Rattle.std.proofs.Common.{◌≡◌, ℕ, List, [], ◌∷◌, None, Option, Result, refl}
use Rattle.elf_form.specs.declared.cause.ElfCause.{ElfCause}
use Rattle.elf_form.specs.declared.cause.ElfCause.TheVariants.{Magic, Class, Encoding, Version, FileType, Machine}
use Rattle.elf_form.specs.Faults.{Fault, tested}
use Rattle.elf_form.specs.Header.{wrong_file}
use Rattle.elf_form.specs.Stages.{identified}
use Rattle.elf_form.proofs.TestSteps.{test_fails, test_passes}
use Rattle.elf_form.proofs.header.identified.Goals as goal

-- where the header is wrong by a cause, and the tests after one
abbrev wrong : ℕ → List ℕ → ElfCause → Option ℕ
wrong wanted bytes = wrong_file wanted (λ _. None) bytes

abbrev later : ℕ → List ℕ → List ElfCause → Result (Unit {0}) Fault
later wanted bytes causes = tested (wrong wanted bytes) causes tt

pub returns-in_err-test : goal.returns-in_err-test
unfolding identified tested
returns-in_err-test c =
    let is_magic : c.then_some.result ≡ wrong c.args.wanted c.args.bytes.now Magic = rw (c.then_some.ensures, c.word.ensures) refl in
    test_fails (λ x. tt {0}) c.from_residual.result c.in_err-test.field-0.0 Magic c.then_some.result
    (wrong c.args.wanted c.args.bytes.now Magic)
    (later c.args.wanted c.args.bytes.now (Class ∷ Encoding ∷ Version ∷ FileType ∷ Machine ∷ [])) c.from_residual.ensures.1
    c.in_err-test.ensures is_magic

pub returns-in_err-test-2 : goal.returns-in_err-test-2
unfolding identified tested
returns-in_err-test-2 c =
    let is_magic : c.then_some.result ≡ wrong c.args.wanted c.args.bytes.now Magic = rw (c.then_some.ensures, c.word.ensures) refl in
    let is_class : c.then_some-2.result ≡ wrong c.args.wanted c.args.bytes.now Class = rw (c.then_some-2.ensures, c.byte.ensures) refl in
    test_passes (λ x. tt {0}) c.from_residual-in_err-test-2.result Magic c.then_some.result (wrong c.args.wanted c.args.bytes.now Magic)
    (later c.args.wanted c.args.bytes.now (Class ∷ Encoding ∷ Version ∷ FileType ∷ Machine ∷ [])) c.in_ok-test.ensures is_magic
    (test_fails (λ x. tt {0}) c.from_residual-in_err-test-2.result c.in_err-test-2.field-0.0 Class c.then_some-2.result
    (wrong c.args.wanted c.args.bytes.now Class) (later c.args.wanted c.args.bytes.now (Encoding ∷ Version ∷ FileType ∷ Machine ∷ []))
    c.from_residual-in_err-test-2.ensures.1 c.in_err-test-2.ensures is_class)

pub returns-in_err-test-3 : goal.returns-in_err-test-3
unfolding identified tested
returns-in_err-test-3 c =
    let is_magic : c.then_some.result ≡ wrong c.args.wanted c.args.bytes.now Magic = rw (c.then_some.ensures, c.word.ensures) refl in
    let is_class : c.then_some-2.result ≡ wrong c.args.wanted c.args.bytes.now Class = rw (c.then_some-2.ensures, c.byte.ensures) refl in
    let is_encoding : c.then_some-3.result ≡ wrong c.args.wanted c.args.bytes.now Encoding =
    rw (c.then_some-3.ensures, c.byte-2.ensures) refl in
    test_passes (λ x. tt {0}) c.from_residual-in_err-test-3.result Magic c.then_some.result (wrong c.args.wanted c.args.bytes.now Magic)
    (later c.args.wanted c.args.bytes.now (Class ∷ Encoding ∷ Version ∷ FileType ∷ Machine ∷ [])) c.in_ok-test.ensures is_magic
    (test_passes (λ x. tt {0}) c.from_residual-in_err-test-3.result Class c.then_some-2.result (wrong c.args.wanted c.args.bytes.now Class)
    (later c.args.wanted c.args.bytes.now (Encoding ∷ Version ∷ FileType ∷ Machine ∷ [])) c.in_ok-test-2.ensures is_class
    (test_fails (λ x. tt {0}) c.from_residual-in_err-test-3.result c.in_err-test-3.field-0.0 Encoding c.then_some-3.result
    (wrong c.args.wanted c.args.bytes.now Encoding) (later c.args.wanted c.args.bytes.now (Version ∷ FileType ∷ Machine ∷ []))
    c.from_residual-in_err-test-3.ensures.1 c.in_err-test-3.ensures is_encoding))

pub returns-in_err-test-4 : goal.returns-in_err-test-4
unfolding identified tested
returns-in_err-test-4 c =
    let is_magic : c.then_some.result ≡ wrong c.args.wanted c.args.bytes.now Magic = rw (c.then_some.ensures, c.word.ensures) refl in
    let is_class : c.then_some-2.result ≡ wrong c.args.wanted c.args.bytes.now Class = rw (c.then_some-2.ensures, c.byte.ensures) refl in
    let is_encoding : c.then_some-3.result ≡ wrong c.args.wanted c.args.bytes.now Encoding =
    rw (c.then_some-3.ensures, c.byte-2.ensures) refl in
    let is_version : c.lower.result ≡ wrong c.args.wanted c.args.bytes.now Version =
    rw (c.lower.ensures, c.then_some-4.ensures, c.then_some-5.ensures, c.byte-3.ensures, c.word-2.ensures) refl in
    test_passes (λ x. tt {0}) c.from_residual-in_err-test-4.result Magic c.then_some.result (wrong c.args.wanted c.args.bytes.now Magic)
    (later c.args.wanted c.args.bytes.now (Class ∷ Encoding ∷ Version ∷ FileType ∷ Machine ∷ [])) c.in_ok-test.ensures is_magic
    (test_passes (λ x. tt {0}) c.from_residual-in_err-test-4.result Class c.then_some-2.result (wrong c.args.wanted c.args.bytes.now Class)
    (later c.args.wanted c.args.bytes.now (Encoding ∷ Version ∷ FileType ∷ Machine ∷ [])) c.in_ok-test-2.ensures is_class
    (test_passes (λ x. tt {0}) c.from_residual-in_err-test-4.result Encoding c.then_some-3.result
    (wrong c.args.wanted c.args.bytes.now Encoding) (later c.args.wanted c.args.bytes.now (Version ∷ FileType ∷ Machine ∷ []))
    c.in_ok-test-3.ensures is_encoding
    (test_fails (λ x. tt {0}) c.from_residual-in_err-test-4.result c.in_err-test-4.field-0.0 Version c.lower.result
    (wrong c.args.wanted c.args.bytes.now Version) (later c.args.wanted c.args.bytes.now (FileType ∷ Machine ∷ []))
    c.from_residual-in_err-test-4.ensures.1 c.in_err-test-4.ensures is_version)))

pub returns-in_err-test-5 : goal.returns-in_err-test-5
unfolding identified tested
returns-in_err-test-5 c =
    let is_magic : c.then_some.result ≡ wrong c.args.wanted c.args.bytes.now Magic = rw (c.then_some.ensures, c.word.ensures) refl in
    let is_class : c.then_some-2.result ≡ wrong c.args.wanted c.args.bytes.now Class = rw (c.then_some-2.ensures, c.byte.ensures) refl in
    let is_encoding : c.then_some-3.result ≡ wrong c.args.wanted c.args.bytes.now Encoding =
    rw (c.then_some-3.ensures, c.byte-2.ensures) refl in
    let is_version : c.lower.result ≡ wrong c.args.wanted c.args.bytes.now Version =
    rw (c.lower.ensures, c.then_some-4.ensures, c.then_some-5.ensures, c.byte-3.ensures, c.word-2.ensures) refl in
    let is_filetype : c.then_some-6.result ≡ wrong c.args.wanted c.args.bytes.now FileType =
    rw (c.then_some-6.ensures, c.half.ensures) refl in
    test_passes (λ x. tt {0}) c.from_residual-in_err-test-5.result Magic c.then_some.result (wrong c.args.wanted c.args.bytes.now Magic)
    (later c.args.wanted c.args.bytes.now (Class ∷ Encoding ∷ Version ∷ FileType ∷ Machine ∷ [])) c.in_ok-test.ensures is_magic
    (test_passes (λ x. tt {0}) c.from_residual-in_err-test-5.result Class c.then_some-2.result (wrong c.args.wanted c.args.bytes.now Class)
    (later c.args.wanted c.args.bytes.now (Encoding ∷ Version ∷ FileType ∷ Machine ∷ [])) c.in_ok-test-2.ensures is_class
    (test_passes (λ x. tt {0}) c.from_residual-in_err-test-5.result Encoding c.then_some-3.result
    (wrong c.args.wanted c.args.bytes.now Encoding) (later c.args.wanted c.args.bytes.now (Version ∷ FileType ∷ Machine ∷ []))
    c.in_ok-test-3.ensures is_encoding
    (test_passes (λ x. tt {0}) c.from_residual-in_err-test-5.result Version c.lower.result (wrong c.args.wanted c.args.bytes.now Version)
    (later c.args.wanted c.args.bytes.now (FileType ∷ Machine ∷ [])) c.in_ok-test-4.ensures is_version
    (test_fails (λ x. tt {0}) c.from_residual-in_err-test-5.result c.in_err-test-5.field-0.0 FileType c.then_some-6.result
    (wrong c.args.wanted c.args.bytes.now FileType) (later c.args.wanted c.args.bytes.now (Machine ∷ []))
    c.from_residual-in_err-test-5.ensures.1 c.in_err-test-5.ensures is_filetype))))
