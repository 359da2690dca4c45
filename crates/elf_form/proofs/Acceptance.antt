-- The tests of an image give the first cause that holds, and an image exactly where none does.
use Rattle.std.proofs.Common.{◌≡◌, ℕ, List, [], ◌∷◌, None, Result, Ok, Err, refl, sym, ap, ◌∙◌, subst}
use Rattle.std.specs.Prelude.{filter, IfOk}
use Rattle.elf_form.specs.declared.cause.ElfFault.{ElfFault}
use Rattle.elf_form.specs.declared.cause.ElfFault.TheVariants as faults
use Rattle.elf_form.specs.declared.cause.ElfCause.{ElfCause}
use Rattle.elf_form.specs.declared.cause.ElfCause.TheVariants.{SectionForm}
use Rattle.elf_form.specs.declared.segments.Found.{Found}
use Rattle.elf_form.specs.declared.segments.Found.TheVariants.{Nothing, One, Two, More}
use Rattle.elf_form.specs.ImageParts.{ImageParts}
use Rattle.elf_form.specs.Faults.{Fault, causes}
use Rattle.elf_form.specs.Order.{IsFirstOf}
use Rattle.elf_form.specs.Answers.{Gives}
use Rattle.elf_form.specs.Tables.{found, first_of, second_of}
use Rattle.elf_form.specs.Header.{headers, sections}
use Rattle.elf_form.specs.Segments.{is_load, loads, order}
use Rattle.elf_form.specs.Sections.{names, is_sites, sites_sections, one_of}
use Rattle.elf_form.specs.Reading.{parts_at, section_form, wrong_image, image_at, image_in}
use Rattle.elf_form.specs.Accepted.{ImageAs}
use Rattle.elf_form.proofs.FormLaws.{lower_none}
use Rattle.elf_form.proofs.TestLaws.{tested-err, first_tested, tested-ok, sound_tested}

-- ---- two and one

two-is : (xs : List ℕ) (a b : ℕ) → found xs ≡ Two a b → xs ≡ a ∷ b ∷ []
unfolding found
two-is [] a b e = absurd cc
two-is (x ∷ []) a b e = absurd cc
two-is (x ∷ y ∷ []) a b e = cc
two-is (x ∷ y ∷ z ∷ rest) a b e = absurd cc

one-is : (xs : List ℕ) (a : ℕ) → found xs ≡ One a → xs ≡ a ∷ []
unfolding found
one-is [] a e = absurd cc
one-is (x ∷ []) a e = cc
one-is (x ∷ y ∷ []) a e = absurd cc
one-is (x ∷ y ∷ z ∷ rest) a e = absurd cc

two-form : (bytes : List ℕ) (f : Found) → order bytes f ≡ None → f ≡ Two (first_of f) (second_of f)
unfolding order
two-form bytes Nothing e = absurd cc
two-form bytes (One a) e = absurd cc
two-form bytes (Two a b) e = refl
two-form bytes (More a b) e = absurd cc

one-form : (g : Found) → one_of g ≡ None → g ≡ One (first_of g)
one-form Nothing e = absurd cc
one-form (One s) e = refl
one-form (Two s t) e = absurd cc
one-form (More s t) e = absurd cc

form_of : (bytes : List ℕ) → section_form bytes ≡ None → (order bytes (loads bytes) ≡ None) × (one_of (sites_sections bytes) ≡ None)
unfolding section_form
form_of bytes e = lower_none (order bytes (loads bytes)) (one_of (sites_sections bytes)) e

-- ---- the public laws

pub read_first : (bytes : List ℕ) (e : Fault) → image_in bytes ≡ Err e → IsFirstOf (wrong_image bytes) causes e.at e.cause
unfolding image_in
read_first bytes e h = tested-err ImageParts (wrong_image bytes) causes (image_at bytes) e h

pub read_by_first : (bytes : List ℕ) (e : Fault) → IsFirstOf (wrong_image bytes) causes e.at e.cause → image_in bytes ≡ Err e
unfolding image_in
read_by_first bytes e h = first_tested ImageParts (wrong_image bytes) causes (image_at bytes) e h

two_loads : (bytes : List ℕ) → loads bytes ≡ Two (first_of (loads bytes)) (second_of (loads bytes))
    → filter (is_load bytes) (headers bytes) ≡ first_of (loads bytes) ∷ second_of (loads bytes) ∷ []
unfolding loads
two_loads bytes e = two-is (filter (is_load bytes) (headers bytes)) _ _ e

one_site : (bytes : List ℕ) → sites_sections bytes ≡ One (first_of (sites_sections bytes))
    → filter (is_sites (names bytes) bytes) (sections bytes) ≡ first_of (sites_sections bytes) ∷ []
unfolding sites_sections
one_site bytes e = one-is (filter (is_sites (names bytes) bytes) (sections bytes)) _ e

pub read_as : (bytes : List ℕ) (image : ImageParts) → image_in bytes ≡ Ok image → ImageAs bytes image
unfolding image_in wrong_image
read_as bytes image h =
    let ok = tested-ok ImageParts (wrong_image bytes) (image_at bytes) image h in
    let forms = form_of bytes (ok.0 SectionForm) in
    record {
      sound = ok.0;
      text = first_of (loads bytes);
      init = second_of (loads bytes);
      sites = first_of (sites_sections bytes);
      loaded = two_loads bytes (two-form bytes (loads bytes) forms.0);
      annotated = one_site bytes (one-form (sites_sections bytes) forms.1);
      parts = sym ok.1;
    }

found_two : (bytes : List ℕ) (a b : ℕ) → filter (is_load bytes) (headers bytes) ≡ a ∷ b ∷ [] → loads bytes ≡ Two a b
unfolding loads found
found_two bytes a b e = ap found e

found_one : (bytes : List ℕ) (s : ℕ) → filter (is_sites (names bytes) bytes) (sections bytes) ≡ s ∷ [] → sites_sections bytes ≡ One s
unfolding sites_sections found
found_one bytes s e = ap found e

pub as_read : (bytes : List ℕ) (image : ImageParts) → ImageAs bytes image → image_in bytes ≡ Ok image
unfolding image_in
as_read bytes image is =
    let two = found_two bytes is.text is.init is.loaded in
    let one = found_one bytes is.sites is.annotated in
    let made : image_at bytes ≡ parts_at bytes is.text is.init is.sites = rw (two, one) refl in
    sound_tested ImageParts (wrong_image bytes) causes (image_at bytes) is.sound ∙ ap (λ (p : ImageParts). Ok p) (made ∙ sym is.parts)

-- ---- of what a function returned

pub if_read : (bytes : List ℕ) (r : Result ImageParts ElfFault) → Gives (λ image. image) r (image_in bytes) → IfOk r (ImageAs bytes)
if_read bytes (Ok image) given = read_as bytes image given
if_read bytes (Err e) given = tt

pub if_as : (bytes : List ℕ) (r : Result ImageParts ElfFault) → Gives (λ image. image) r (image_in bytes) → (image : ImageParts)
    → ImageAs bytes image → Gives (λ image. image) r (Ok image)
if_as bytes r given image is = subst (λ (read : Result ImageParts Fault). Gives (λ image. image) r read) (as_read bytes image is) given

pub if_first : (bytes : List ℕ) (r : Result ImageParts ElfFault) → Gives (λ image. image) r (image_in bytes) → (at : ℕ) (cause : ElfCause)
    → r ≡ Err (faults.At at cause) → IsFirstOf (wrong_image bytes) causes at cause
if_first bytes r given at cause e = read_first bytes (record { at = at; cause = cause })
    (subst (λ (s : Result ImageParts ElfFault). Gives (λ image. image) s (image_in bytes)) e given)
