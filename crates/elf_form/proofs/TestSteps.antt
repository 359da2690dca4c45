-- What a function gives that makes one test after the other: the fault of one that fails, and what follows one that passes.
use Rattle.std.proofs.Common.{◌≡◌, ℕ, Option, Result, Ok, Err, IsErrAnd, sym, ap, ◌∙◌, subst}
use Rattle.elf_form.specs.declared.cause.ElfCause.{ElfCause}
use Rattle.elf_form.specs.declared.cause.ElfFault.{ElfFault}
use Rattle.elf_form.specs.declared.cause.ElfFault.TheVariants as faults
use Rattle.elf_form.specs.Faults.{Fault, test, ◌>>=◌}
use Rattle.elf_form.specs.Answers.{Fails, Gives}
use Rattle.elf_form.proofs.FormLaws.{tested_none}

pub gives_err : {X Y : Type 0} (view : X → Y) (r : Result X ElfFault) (e : ElfFault) (wanted : Result Y Fault) → IsErrAnd r (λ d. d ≡ e)
    → Fails e wanted → Gives view r wanted
gives_err view (Ok x) e wanted is fails = absurd is
gives_err view (Err d) e wanted is fails = subst (λ (f : ElfFault). Fails f wanted) (sym is) fails

pub fails_first : {A B : Type 0} (e : ElfFault) (r : Result A Fault) (later : Result B Fault) → Fails e r → Fails e (r >>= λ _. later)
fails_first faults.Memory r later h = tt
fails_first {A} {B} (faults.At at cause) r later h = ap (λ (s : Result A Fault). s >>= λ _. later) h

pub test_fails : {X Y : Type 0} (view : X → Y) (r : Result X ElfFault) (e : ElfFault) (cause : ElfCause) (found wanted : Option ℕ)
    (later : Result Y Fault)
    → IsErrAnd r (λ d. d ≡ e) → Fails e (test cause found) → found ≡ wanted → Gives view r (test cause wanted >>= λ _. later)
test_fails view r e cause found wanted later is fails same =
    gives_err view r e (test cause wanted >>= λ _. later) is
    (fails_first e (test cause wanted) later (subst (λ (o : Option ℕ). Fails e (test cause o)) same fails))

pub test_passes : {X Y : Type 0} (view : X → Y) (r : Result X ElfFault) (cause : ElfCause) (found wanted : Option ℕ)
    (later : Result Y Fault)
    → test cause found ≡ Ok tt → found ≡ wanted → Gives view r later → Gives view r (test cause wanted >>= λ _. later)
test_passes view r cause found wanted later passed same gives =
    subst (λ (o : Option ℕ). Gives view r (test cause o >>= λ _. later)) (sym (tested_none cause found passed) ∙ same) gives

pub passes_first : {X A Y : Type 0} (view : X → Y) (r : Result X ElfFault) (first : Result A Fault) (x : A) (later : Result Y Fault)
    → first ≡ Ok x → Gives view r later → Gives view r (first >>= λ _. later)
passes_first {X} {A} {Y} view r first x later passed gives =
    subst (λ (s : Result A Fault). Gives view r (s >>= λ _. later)) (sym passed) gives
