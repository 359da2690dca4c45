-- The tests of an object give the first cause that holds, and an object exactly where none does.
use Rattle.std.proofs.Common.{◌≡◌, ℕ, List, Result, Ok, Err, sym, ap, ◌∙◌, subst}
use Rattle.std.specs.Prelude.{IfOk}
use Rattle.elf_form.specs.declared.cause.ElfFault.{ElfFault}
use Rattle.elf_form.specs.declared.cause.ElfFault.TheVariants as faults
use Rattle.elf_form.specs.declared.cause.ElfCause.{ElfCause}
use Rattle.elf_form.specs.ObjectParts.{ObjectParts}
use Rattle.elf_form.specs.Faults.{Fault, causes}
use Rattle.elf_form.specs.Order.{IsFirstOf}
use Rattle.elf_form.specs.Answers.{Gives}
use Rattle.elf_form.specs.ObjectReading.{object_at, object_in, wrong_object}
use Rattle.elf_form.specs.Accepted.{ObjectAs}
use Rattle.elf_form.proofs.TestLaws.{tested-err, first_tested, tested-ok, sound_tested}

read_as : (bytes : List ℕ) (object : ObjectParts) → object_in bytes ≡ Ok object → ObjectAs bytes object
unfolding object_in
read_as bytes object h = let ok =
    tested-ok ObjectParts (wrong_object bytes) (object_at bytes) object h in record { sound = ok.0; parts = sym ok.1 }

pub as_read : (bytes : List ℕ) (object : ObjectParts) → ObjectAs bytes object → object_in bytes ≡ Ok object
unfolding object_in
as_read bytes object is =
    sound_tested ObjectParts (wrong_object bytes) causes (object_at bytes) is.sound ∙ ap (λ (o : ObjectParts). Ok o) (sym is.parts)

pub if_read : (bytes : List ℕ) (r : Result ObjectParts ElfFault) → Gives (λ o. o) r (object_in bytes) → IfOk r (ObjectAs bytes)
if_read bytes (Ok object) given = read_as bytes object given
if_read bytes (Err e) given = tt

pub if_as : (bytes : List ℕ) (r : Result ObjectParts ElfFault) → Gives (λ o. o) r (object_in bytes) → (object : ObjectParts)
    → ObjectAs bytes object → Gives (λ o. o) r (Ok object)
if_as bytes r given object is = subst (λ (read : Result ObjectParts Fault). Gives (λ o. o) r read) (as_read bytes object is) given

pub object_first : (bytes : List ℕ) (e : Fault) → object_in bytes ≡ Err e → IsFirstOf (wrong_object bytes) causes e.at e.cause
unfolding object_in
object_first bytes e h = tested-err ObjectParts (wrong_object bytes) causes (object_at bytes) e h

pub object_by_first : (bytes : List ℕ) (e : Fault) → IsFirstOf (wrong_object bytes) causes e.at e.cause → object_in bytes ≡ Err e
unfolding object_in
object_by_first bytes e h = first_tested ObjectParts (wrong_object bytes) causes (object_at bytes) e h

pub if_first : (bytes : List ℕ) (r : Result ObjectParts ElfFault) → Gives (λ o. o) r (object_in bytes) → (at : ℕ) (cause : ElfCause)
    → r ≡ Err (faults.At at cause) → IsFirstOf (wrong_object bytes) causes at cause
if_first bytes r given at cause e = object_first bytes (record { at = at; cause = cause })
    (subst (λ (s : Result ObjectParts ElfFault). Gives (λ o. o) s (object_in bytes)) e given)
