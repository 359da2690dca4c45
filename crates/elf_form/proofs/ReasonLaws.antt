-- Each cause holds exactly where its condition does, and a refusal is the first cause that holds.
use Rattle.std.proofs.Common.{◌≡◌, ◌≢◌, ℕ, ◌+◌, ◌%◌, Bool, true, false, not, ◌&&◌, List, [], ◌∷◌, length, Option, Some, None, Result, Err, refl, sym, ◌∙◌, subst, inl, inr, ◌⊎◌, arith}
use Rattle.std.specs.Prelude.{◌↔◌, ◌==◌}
use Rattle.std.specs.Bool.{then_some}
use Rattle.std.proofs.lemmas.Bool.{eqb-true, eqb-false, eq-eqb, ne_eqb, and_parts, and_from, not-true, not_from_false, both_ways}
use Rattle.guest_ram.specs.Bytes.{byte, word16, word32}
use Rattle.elf_form.specs.declared.cause.ElfCause.{ElfCause}
use Rattle.elf_form.specs.declared.cause.ElfCause.TheVariants.{Truncated, Magic, Class, Encoding, Version, FileType, Machine, Sizes, SectionForm, Compressed, StringPlace, SymbolForm, RelocForm}
use Rattle.elf_form.specs.declared.cause.ElfFault.{ElfFault}
use Rattle.elf_form.specs.declared.cause.ElfFault.TheVariants as faults
use Rattle.elf_form.specs.ImageParts.{ImageParts}
use Rattle.elf_form.specs.ObjectParts.{ObjectParts}
use Rattle.elf_form.specs.Faults.{Fault, causes, ◌or_lower◌}
use Rattle.elf_form.specs.Order.{IsFirstOf, IsPast, IsFirstPast, IsLowest, HasPlace, IsRefused}
use Rattle.elf_form.specs.Header.{named_parts, cut, wrong_file}
use Rattle.elf_form.specs.Answers.{Gives}
use Rattle.elf_form.specs.Tables.{found}
use Rattle.elf_form.specs.Segments.{loads, is_executable, order}
use Rattle.elf_form.specs.Sections.{one_of, sites_sections}
use Rattle.elf_form.specs.Reading.{section_form, wrong_in_image, wrong_image, image_in}
use Rattle.elf_form.specs.ObjectReading.{object_in, wrong_in_object, wrong_object}
use Rattle.elf_form.specs.Reasons.{loaded, AreTwo, IsBadPart, IsBadVersion, IsBadFile, IsBadInObject, IsBadInImage, IsBadObject, IsBadImage, IsRefusedObject, IsRefusedImage, no_object, no_image}
use Rattle.elf_form.proofs.OrderLaws.{cut_exact, cut_none}
use Rattle.elf_form.proofs.Lowest.{Finds, finds_so, so_finds, finds_none, none_finds, finds_as, finds_lower, finds_field}
use Rattle.elf_form.proofs.BadSections.{object_form_finds, compressed_finds, nameless_finds, SitesPart, sites_finds}
use Rattle.elf_form.proofs.BadSizes.{object_sizes_finds, image_sizes_finds}
use Rattle.elf_form.proofs.BadSymbols.{string_places_finds, symbol_form_finds, reloc_form_finds}
use Rattle.elf_form.proofs.FirstCauses.{first_in_list, list_first}
use Rattle.elf_form.proofs.Acceptance.{if_first, read_by_first}
use Rattle.elf_form.proofs.ObjectAcceptance.{if_first as object_first, object_by_first}

-- ---- the program headers and the section of sites of an image

module _ (bytes : List ℕ) where
  abbrev NotTwo : ℕ → Type 0
  NotTwo k = (AreTwo bytes → ⊥) × (k ≡ 44)

  other_list : (xs : List ℕ) → loaded bytes ≡ xs → ((a b : ℕ) → xs ≡ a ∷ b ∷ [] → ⊥) → Finds (Some 44) NotTwo
  other_list xs e never = (((λ t. never t.text t.init (sym e ∙ t.are)), refl), λ k p. omega (arith, p.1))

  two_is : (a b : ℕ) → loaded bytes ≡ a ∷ b ∷ [] → (t : Bool) → (is_executable bytes a && not (is_executable bytes b)) ≡ t
      → Finds (then_some (not t) 44) NotTwo
  two_is a b e true is =
      let both = and_parts (is_executable bytes a) (not (is_executable bytes b)) is in
      let two : AreTwo bytes = record {
        text = a;
        init = b;
        are = e;
        executable = eqb-true (word32 bytes (a + 24) % 2) 1 both.0;
        other = eqb-false (word32 bytes (b + 24) % 2) 1 (not-true (is_executable bytes b) both.1);
      } in
      λ k p. p.0 two
  two_is a b e false is = (
    ((λ t. both_ways _ is (test t (same_text a b t (sym e ∙ t.are)) (same_init a b t (sym e ∙ t.are)))), refl),
    λ k p. omega (arith, p.1),
  ) where
    same_text : (a b : ℕ) (t : AreTwo bytes) → a ∷ b ∷ [] ≡ t.text ∷ t.init ∷ [] → t.text ≡ a
    same_text a b t h = cc

    same_init : (a b : ℕ) (t : AreTwo bytes) → a ∷ b ∷ [] ≡ t.text ∷ t.init ∷ [] → t.init ≡ b
    same_init a b t h = cc

    test : (t : AreTwo bytes) → t.text ≡ a → t.init ≡ b → (is_executable bytes a && not (is_executable bytes b)) ≡ true
    test t x y =
        and_from (is_executable bytes a) (not (is_executable bytes b))
        (subst (λ (h : ℕ). is_executable bytes h ≡ true) x (eq-eqb (word32 bytes (t.text + 24) % 2) 1 t.executable))
        (not_from_false (is_executable bytes b)
        (subst (λ (h : ℕ). is_executable bytes h ≡ false) y (ne_eqb (word32 bytes (t.init + 24) % 2) 1 t.other)))

  order_by : (xs : List ℕ) → loaded bytes ≡ xs → Finds (order bytes (found xs)) NotTwo
  unfolding order found
  order_by [] e = other_list [] e (λ a b h. absurd cc)
  order_by (a ∷ []) e = other_list (a ∷ []) e (λ c d h. absurd cc)
  order_by (a ∷ b ∷ []) e = two_is a b e (is_executable bytes a && not (is_executable bytes b)) refl
  order_by (a ∷ b ∷ c ∷ rest) e = other_list (a ∷ b ∷ c ∷ rest) e (λ d f h. absurd cc)

  order_finds : Finds (order bytes (loads bytes)) NotTwo
  unfolding loads
  order_finds = order_by (loaded bytes) refl

  abbrev PartAt : ℕ → Type 0
  PartAt k = NotTwo k ⊎ SitesPart bytes k

  part_to : (k : ℕ) → PartAt k → IsBadPart bytes k
  part_to k (inl (never, e)) = IsBadPart.program never e
  part_to k (inr (inl (never, e))) = IsBadPart.none never e
  part_to k (inr (inr (s, h, e))) = IsBadPart.sites s h e

  part_from : (k : ℕ) → IsBadPart bytes k → PartAt k
  part_from k (IsBadPart.program never e) = inl (never, e)
  part_from k (IsBadPart.none never e) = inr (inl (never, e))
  part_from k (IsBadPart.sites s h e) = inr (inr (s, h, e))

  section_form_finds : Finds (section_form bytes) (IsBadPart bytes)
  unfolding section_form
  section_form_finds = finds_as (section_form bytes) PartAt (IsBadPart bytes) part_to part_from
      (finds_lower (order bytes (loads bytes)) (one_of (sites_sections bytes)) NotTwo (SitesPart bytes) order_finds (sites_finds bytes))

  version_finds : Finds (then_some (not (byte bytes 6 == 1)) 6 or_lower then_some (not (word32 bytes 20 == 1)) 20) (IsBadVersion bytes)
  version_finds = finds_lower (then_some (not (byte bytes 6 == 1)) 6) (then_some (not (word32 bytes 20 == 1)) 20)
      (λ k. (byte bytes 6 ≢ 1) × (k ≡ 6)) (λ k. (word32 bytes 20 ≢ 1) × (k ≡ 20)) (finds_field (byte bytes 6) 1 6)
      (finds_field (word32 bytes 20) 1 20)

-- ---- all causes

-- what is computed has the cause's place, and none where no field is bad
pub record Meets (bytes : List ℕ) (o : Option ℕ) (place : ℕ → Type 0) (bad : ℕ → Type 0) : Type 0 where
  pub exact : (at : ℕ) → (o ≡ Some at) ↔ place at
  pub none : (o ≡ None) ↔ ((at : ℕ) → bad at → ⊥)

by_finding : (bytes : List ℕ) (o : Option ℕ) (P : ℕ → Type 0) → Finds o P → Meets bytes o (IsLowest P) P
by_finding bytes o P h = record {
  exact = λ at. ((λ e. finds_so o P at h e), (λ l. so_finds o P at h l));
  none = ((λ e. finds_none o P h e), (λ never. none_finds o P h never));
}

by_cut : (bytes : List ℕ) → Meets bytes (cut bytes) (IsFirstPast (length bytes) (named_parts bytes))
    (IsPast (length bytes) (named_parts bytes))
by_cut bytes = record { exact = cut_exact bytes; none = cut_none bytes }

file_meets : (wanted : ℕ) (other : ElfCause → Option ℕ) (bad : ElfCause → ℕ → Type 0) (bytes : List ℕ)
    → ((cause : ElfCause) → Finds (other cause) (bad cause)) → (cause : ElfCause)
    → Meets bytes (wrong_file wanted other bytes cause) (HasPlace (IsBadFile wanted bad bytes) bytes cause)
    (IsBadFile wanted bad bytes cause)
file_meets wanted other bad bytes finds Truncated = by_cut bytes
file_meets wanted other bad bytes finds Magic =
    by_finding bytes (wrong_file wanted other bytes Magic) (IsBadFile wanted bad bytes Magic) (finds_field (word32 bytes 0) 1179403647 0)
file_meets wanted other bad bytes finds Class =
    by_finding bytes (wrong_file wanted other bytes Class) (IsBadFile wanted bad bytes Class) (finds_field (byte bytes 4) 1 4)
file_meets wanted other bad bytes finds Encoding =
    by_finding bytes (wrong_file wanted other bytes Encoding) (IsBadFile wanted bad bytes Encoding) (finds_field (byte bytes 5) 1 5)
file_meets wanted other bad bytes finds Version =
    by_finding bytes (wrong_file wanted other bytes Version) (IsBadFile wanted bad bytes Version) (version_finds bytes)
file_meets wanted other bad bytes finds FileType = by_finding bytes (wrong_file wanted other bytes FileType)
    (IsBadFile wanted bad bytes FileType) (finds_field (word16 bytes 16) wanted 16)
file_meets wanted other bad bytes finds Machine =
    by_finding bytes (wrong_file wanted other bytes Machine) (IsBadFile wanted bad bytes Machine) (finds_field (word16 bytes 18) 3 18)
file_meets wanted other bad bytes finds Sizes = by_finding bytes (other Sizes) (bad Sizes) (finds Sizes)
file_meets wanted other bad bytes finds SectionForm = by_finding bytes (other SectionForm) (bad SectionForm) (finds SectionForm)
file_meets wanted other bad bytes finds Compressed = by_finding bytes (other Compressed) (bad Compressed) (finds Compressed)
file_meets wanted other bad bytes finds StringPlace = by_finding bytes (other StringPlace) (bad StringPlace) (finds StringPlace)
file_meets wanted other bad bytes finds SymbolForm = by_finding bytes (other SymbolForm) (bad SymbolForm) (finds SymbolForm)
file_meets wanted other bad bytes finds RelocForm = by_finding bytes (other RelocForm) (bad RelocForm) (finds RelocForm)

object_finds : (bytes : List ℕ) (cause : ElfCause) → Finds (wrong_in_object bytes cause) (IsBadInObject bytes cause)
object_finds bytes Sizes = object_sizes_finds bytes
object_finds bytes SectionForm = object_form_finds bytes
object_finds bytes Compressed = compressed_finds bytes
object_finds bytes StringPlace = string_places_finds bytes
object_finds bytes SymbolForm = symbol_form_finds bytes
object_finds bytes RelocForm = reloc_form_finds bytes
object_finds bytes _ = λ k never. never

image_finds : (bytes : List ℕ) (cause : ElfCause) → Finds (wrong_in_image bytes cause) (IsBadInImage bytes cause)
image_finds bytes Sizes = image_sizes_finds bytes
image_finds bytes SectionForm = section_form_finds bytes
image_finds bytes Compressed = compressed_finds bytes
image_finds bytes StringPlace = nameless_finds bytes
image_finds bytes _ = λ k never. never

object_meets : (bytes : List ℕ) (cause : ElfCause) → Meets bytes (wrong_object bytes cause) (HasPlace (IsBadObject bytes) bytes cause)
    (IsBadObject bytes cause)
unfolding wrong_object
object_meets bytes cause = file_meets 1 (wrong_in_object bytes) (IsBadInObject bytes) bytes (object_finds bytes) cause

image_meets : (bytes : List ℕ) (cause : ElfCause) → Meets bytes (wrong_image bytes cause) (HasPlace (IsBadImage bytes) bytes cause)
    (IsBadImage bytes cause)
unfolding wrong_image
image_meets bytes cause = file_meets 2 (wrong_in_image bytes) (IsBadInImage bytes) bytes (image_finds bytes) cause

pub object_exact : (bytes : List ℕ) (cause : ElfCause) (at : ℕ) → (wrong_object bytes cause ≡ Some at) ↔ HasPlace
    (IsBadObject bytes) bytes cause at
object_exact bytes cause at = (object_meets bytes cause).exact at

pub object_none : (bytes : List ℕ) (cause : ElfCause) → (wrong_object bytes cause ≡ None) ↔ ((at : ℕ) → IsBadObject bytes cause at → ⊥)
object_none bytes cause = (object_meets bytes cause).none

pub image_exact : (bytes : List ℕ) (cause : ElfCause) (at : ℕ)
    → (wrong_image bytes cause ≡ Some at) ↔ HasPlace (IsBadImage bytes) bytes cause at
image_exact bytes cause at = (image_meets bytes cause).exact at

pub image_none : (bytes : List ℕ) (cause : ElfCause) → (wrong_image bytes cause ≡ None) ↔ ((at : ℕ) → IsBadImage bytes cause at → ⊥)
image_none bytes cause = (image_meets bytes cause).none

-- ---- the order

module _ (bytes : List ℕ) (place_of : ElfCause → Option ℕ) (bad_by : ElfCause → ℕ → Type 0)
    (meets : (c : ElfCause) → Meets bytes (place_of c) (HasPlace bad_by bytes c) (bad_by c)) where
  first_so : (cs : List ElfCause) (at : ℕ) (cause : ElfCause) → IsFirstOf place_of cs at cause → IsRefused bad_by cs bytes at cause
  first_so cs at cause h =
      let f = first_in_list ElfCause place_of cs at cause h in
      record {
        index = f.index;
        there = f.there;
        place = ((meets cause).exact at).0 f.is;
        before = λ j c k lt there. (meets c).none.0 (f.before j c lt there) k;
      }

  so_first : (cs : List ElfCause) (at : ℕ) (cause : ElfCause) → IsRefused bad_by cs bytes at cause → IsFirstOf place_of cs at cause
  so_first cs at cause h =
      list_first ElfCause place_of cs at cause h.index h.there (((meets cause).exact at).1 h.place)
      (λ j c lt there. (meets c).none.1 (λ k. h.before j c k lt there))

  pub refused_exact : (cs : List ElfCause) (at : ℕ) (cause : ElfCause) → IsFirstOf place_of cs at cause ↔ IsRefused bad_by cs bytes at cause
  refused_exact cs at cause = (first_so cs at cause, so_first cs at cause)

-- ---- the readers

pub object_refused : (bytes : List ℕ) (r : Result ObjectParts ElfFault) → Gives (λ o. o) r (object_in bytes) → (at : ℕ) (cause : ElfCause)
    → r ≡ Err (faults.At at cause) → IsRefusedObject bytes at cause
object_refused bytes r given at cause e =
    (refused_exact bytes (wrong_object bytes) (IsBadObject bytes) (object_meets bytes) causes at cause).0
    (object_first bytes r given at cause e)

pub object_refused_only : (bytes : List ℕ) (r : Result ObjectParts ElfFault) → Gives (λ o. o) r (object_in bytes)
    → (at : ℕ) (cause : ElfCause) → IsRefusedObject bytes at cause → Gives (λ o. o) r (no_object at cause)
object_refused_only bytes r given at cause h =
    subst (λ (read : Result ObjectParts Fault). Gives (λ o. o) r read)
    (object_by_first bytes (record { at = at; cause = cause })
    ((refused_exact bytes (wrong_object bytes) (IsBadObject bytes) (object_meets bytes) causes at cause).1 h)) given

pub image_refused : (bytes : List ℕ) (r : Result ImageParts ElfFault) → Gives (λ image. image) r (image_in bytes)
    → (at : ℕ) (cause : ElfCause) → r ≡ Err (faults.At at cause) → IsRefusedImage bytes at cause
image_refused bytes r given at cause e =
    (refused_exact bytes (wrong_image bytes) (IsBadImage bytes) (image_meets bytes) causes at cause).0 (if_first bytes r given at cause e)

pub image_refused_only : (bytes : List ℕ) (r : Result ImageParts ElfFault) → Gives (λ image. image) r (image_in bytes)
    → (at : ℕ) (cause : ElfCause) → IsRefusedImage bytes at cause → Gives (λ image. image) r (no_image at cause)
image_refused_only bytes r given at cause h =
    subst (λ (read : Result ImageParts Fault). Gives (λ image. image) r read)
    (read_by_first bytes (record { at = at; cause = cause })
    ((refused_exact bytes (wrong_image bytes) (IsBadImage bytes) (image_meets bytes) causes at cause).1 h)) given

-- ---- what is read of a file

abbrev failed_object : ℕ → ElfCause → Result ObjectParts ElfFault
failed_object at cause = Err (faults.At at cause)

abbrev failed_image : ℕ → ElfCause → Result ImageParts ElfFault
failed_image at cause = Err (faults.At at cause)

pub objects_in_order : (bytes : List ℕ) (at : ℕ) (cause : ElfCause)
    → (object_in bytes ≡ no_object at cause) ↔ IsRefusedObject bytes at cause
objects_in_order bytes at cause = (
  (λ e. object_refused bytes (failed_object at cause) e at cause refl),
  (λ h. object_by_first bytes (record { at = at; cause = cause })
      ((refused_exact bytes (wrong_object bytes) (IsBadObject bytes) (object_meets bytes) causes at cause).1 h)),
)

pub images_in_order : (bytes : List ℕ) (at : ℕ) (cause : ElfCause) → (image_in bytes ≡ no_image at cause) ↔ IsRefusedImage bytes at cause
images_in_order bytes at cause = (
  (λ e. image_refused bytes (failed_image at cause) e at cause refl),
  (λ h. read_by_first bytes (record { at = at; cause = cause })
      ((refused_exact bytes (wrong_image bytes) (IsBadImage bytes) (image_meets bytes) causes at cause).1 h)),
)
