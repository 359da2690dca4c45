-- What the check's answer says of the file.
use Rattle.std.proofs.Common.{◌≡◌, ℕ, List, Result, Ok, Err, refl, subst, ap, inl, inr, ◌⊎◌}
use Rattle.elf_form.specs.Faults.{Fault, ◌>>=◌}
use Rattle.elf_form.specs.Order.{IsFirstOf}
use Rattle.elf_form.specs.ImageParts.{ImageParts}
use Rattle.elf_form.specs.Reading.{image_in}
use Rattle.elf_form.specs.Accepted.{ImageAs}
use Rattle.elf_form.proofs.Acceptance.{read_as, as_read}
use Rattle.std.specs.Prelude.{IfOk}
use Rattle.ia32_rows.specs.Spells.{AreBytes}
use Rattle.image_check.specs.declared.fault.CheckCause.{CheckCause}
use Rattle.image_check.specs.declared.fault.CheckFault.{CheckFault}
use Rattle.image_check.specs.declared.fault.CheckFault.TheVariants as faults
use Rattle.image_check.specs.Image.{Image}
use Rattle.image_check.specs.Refusals.{Refusal, Form, Wrong}
use Rattle.image_check.specs.Answers.{Gives}
use Rattle.image_check.specs.Checking.{as_form, image_from, image_of}
use Rattle.image_check.specs.Accepts.{Accepts}
use Rattle.image_check.specs.Causes.{wrong, causes}
use Rattle.image_check.specs.Reasons.{IsRefused}
use Rattle.image_check.proofs.CauseLaws.{first_exact, not_image}
use Rattle.image_check.proofs.FileLimits.{text_bytes}
use Rattle.image_check.proofs.ReasonLaws.{refused_so, so_refused}
use Rattle.image_check.proofs.Acceptance.{image_accepts, accepts_image, form_read}

pub if_accepted : (bytes : List ℕ) (r : Result Image CheckFault) → AreBytes bytes → Gives (λ image. image) r (image_of bytes)
    → IfOk r (Accepts bytes)
if_accepted bytes (Ok image) fit given = image_accepts bytes image fit given
if_accepted bytes (Err e) fit given = tt

pub if_only : (bytes : List ℕ) (r : Result Image CheckFault) → AreBytes bytes → Gives (λ image. image) r (image_of bytes) → (image : Image)
    → Accepts bytes image → Gives (λ image. image) r (Ok image)
if_only bytes r fit given image h =
    subst (λ (wanted : Result Image Refusal). Gives (λ image. image) r wanted) (accepts_image bytes image fit h) given

as_given : (bytes : List ℕ) (r : Result Image CheckFault) → Gives (λ image. image) r (image_of bytes) → (wanted : Result Image Refusal)
    → image_of bytes ≡ wanted → Gives (λ image. image) r wanted
as_given bytes r given wanted e = subst (λ (w : Result Image Refusal). Gives (λ image. image) r w) e given

bind_err : (r : Result ImageParts Refusal) (refusal : Refusal) → (r >>= image_from) ≡ not_image refusal → (r ≡ Err refusal)
    ⊎ ((parts : ImageParts) × (r ≡ Ok parts) × (image_from parts ≡ not_image refusal))
bind_err (Ok parts) refusal e = inr (parts, refl, e)
bind_err (Err d) refusal e = let same : d ≡ refusal = cc in inl (ap (λ (f : Refusal). Err f) same)

no_form : (read : Result ImageParts Fault) (at : ℕ) (cause : CheckCause) → as_form read ≡ Err (Wrong at cause) → ⊥
no_form (Ok parts) at cause e = cc
no_form (Err fault) at cause e = cc

refused_first : (bytes : List ℕ) (at : ℕ) (cause : CheckCause) → image_of bytes ≡ not_image (Wrong at cause) → (parts : ImageParts)
    × ImageAs bytes parts × IsFirstOf (wrong parts) causes at cause
unfolding image_of
refused_first bytes at cause e =
    elim (bind_err (as_form (image_in bytes)) (Wrong at cause) e) [
      | inl form ↦ absurd (no_form (image_in bytes) at cause form)
      | inr goes ↦ (goes.0, read_as bytes goes.0 (form_read (image_in bytes) goes.0 goes.1), (first_exact goes.0 at cause).0 goes.2)
    ]

pub if_first : (bytes : List ℕ) (r : Result Image CheckFault) → Gives (λ image. image) r (image_of bytes) → (at : ℕ) (cause : CheckCause)
    → r ≡ Err (faults.At at cause) → (parts : ImageParts) × ImageAs bytes parts × IsFirstOf (wrong parts) causes at cause
if_first bytes r given at cause e =
    refused_first bytes at cause (subst (λ (s : Result Image CheckFault). Gives (λ image. image) s (image_of bytes)) e given)

first_refused : (bytes : List ℕ) (parts : ImageParts) (at : ℕ) (cause : CheckCause) → ImageAs bytes parts
    → IsFirstOf (wrong parts) causes at cause → image_of bytes ≡ not_image (Wrong at cause)
unfolding image_of
first_refused bytes parts at cause form first = rw (as_read bytes parts form) ((first_exact parts at cause).1 first)

pub if_first_only : (bytes : List ℕ) (r : Result Image CheckFault) → Gives (λ image. image) r (image_of bytes)
    → (parts : ImageParts) (at : ℕ) (cause : CheckCause) → ImageAs bytes parts → IsFirstOf (wrong parts) causes at cause
    → Gives (λ image. image) r (not_image (Wrong at cause))
if_first_only bytes r given parts at cause form first =
    as_given bytes r given (not_image (Wrong at cause)) (first_refused bytes parts at cause form first)

pub if_refused : (bytes : List ℕ) (r : Result Image CheckFault) → AreBytes bytes → Gives (λ image. image) r (image_of bytes)
    → (at : ℕ) (cause : CheckCause) → r ≡ Err (faults.At at cause) → (parts : ImageParts) × ImageAs bytes parts × IsRefused parts at cause
if_refused bytes r fit given at cause e =
    let h = if_first bytes r given at cause e in
    (h.0, h.1, refused_so h.0 (text_bytes bytes h.0 h.1 fit) at cause h.2)

pub if_refused_only : (bytes : List ℕ) (r : Result Image CheckFault) → AreBytes bytes → Gives (λ image. image) r (image_of bytes)
    → (parts : ImageParts) (at : ℕ) (cause : CheckCause) → ImageAs bytes parts → IsRefused parts at cause
    → Gives (λ image. image) r (not_image (Wrong at cause))
if_refused_only bytes r fit given parts at cause form h =
    if_first_only bytes r given parts at cause form (so_refused parts (text_bytes bytes parts form fit) at cause h)

form_refused : (bytes : List ℕ) (fault : Fault) → image_in bytes ≡ Err fault → image_of bytes ≡ not_image (Form fault)
unfolding image_of
form_refused bytes fault e = rw e refl

pub if_form : (bytes : List ℕ) (r : Result Image CheckFault) → Gives (λ image. image) r (image_of bytes) → (fault : Fault)
    → image_in bytes ≡ Err fault → Gives (λ image. image) r (not_image (Form fault))
if_form bytes r given fault e = as_given bytes r given (not_image (Form fault)) (form_refused bytes fault e)
