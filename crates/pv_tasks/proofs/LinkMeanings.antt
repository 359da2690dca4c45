-- The meaning of `link`.
use Rattle.std.proofs.Common.{◌≡◌, ℕ, zero, suc, List, [], ◌∷◌, Option, Some, Ok, Err, refl, sym, ap, subst, ◌∙◌}
use Rattle.pv_io.specs.Files.{FileMap}
use Rattle.elf_form.specs.Faults.{Fault}
use Rattle.elf_form.specs.ObjectParts.{ObjectParts}
use Rattle.elf_form.specs.ObjectReading.{object_in}
use Rattle.elf_form.specs.ImageParts.{ImageParts}
use Rattle.elf_form.specs.ImageLayout.{image_bytes}
use Rattle.elf_link.specs.Refusals.{Refused}
use Rattle.elf_link.specs.Linked.{linked_image}
use Rattle.pv_build.specs.Lines.{form_number, object_place_line, link_line}
use Rattle.pv_build.specs.Objects.{HasObject, HasNoObject, HasObjects, FindsObjects, FirstFault}
use Rattle.pv_build.specs.Images.{image_made_line}
use Rattle.pv_tasks.specs.Outcome.{Outcome, refused, stored_as}
use Rattle.pv_tasks.specs.Linking.{HasLinked, linked, Links, AllRead, NoObject}
use Rattle.pv_tasks.proofs.SameFiles.{same_file}

-- ---- what is made of them

pub no_object : (files : Option FileMap) (names : List (List ℕ)) (image line : List ℕ)
    → (i : ℕ) × (fault : Fault) × FirstFault files names i fault × (line ≡ object_place_line (form_number fault.cause) i fault.at)
    → Links files image names (refused line)
no_object files names image line h = NoObject h.0 h.1 h.2 (ap refused h.3)

pub not_linked : (files : Option FileMap) (names : List (List ℕ)) (image line : List ℕ) (os : List ObjectParts) (fault : Refused)
    → HasObjects files names os → linked_image os ≡ Err fault → line ≡ link_line fault.object fault.cause
    → Links files image names (refused line)
not_linked files names image line os fault all fails is = AllRead os all (ap refused is ∙ sym (ap (linked image) fails))

pub is_linked : (files : Option FileMap) (names : List (List ℕ)) (image bytes line : List ℕ)
    → (p : ImageParts) × HasLinked files names p × (bytes ≡ image_bytes p) × (line ≡ image_made_line p)
    → Links files image names (stored_as image bytes line)
is_linked files names image bytes line h =
    AllRead h.1.read h.1.holds
    (ap (λ (b : List ℕ). stored_as image b line) h.2 ∙ (ap (stored_as image (image_bytes h.0)) h.3 ∙ sym (ap (linked image) h.1.linked_is)))

-- ---- once

object_once : (told : FileMap) (name : List ℕ) (o p : ObjectParts) → HasObject (Some told) name o → HasObject (Some told) name p → o ≡ p
object_once told name o p h k =
    let same = same_file told name h.0 k.0 h.1 k.1 in
    let read = subst (λ (b : List ℕ). object_in b ≡ Ok o) same h.2 in
    cc (read, k.2)

object_or_not : (told : FileMap) (name : List ℕ) (o : ObjectParts) (fault : Fault) → HasObject (Some told) name o
    → HasNoObject (Some told) name fault → ⊥
object_or_not told name o fault h k =
    let same = same_file told name h.0 k.0 h.1 k.1 in
    let read = subst (λ (b : List ℕ). object_in b ≡ Ok o) same h.2 in
    cc (read, k.2)

no_object_once : (told : FileMap) (name : List ℕ) (f g : Fault) → HasNoObject (Some told) name f → HasNoObject (Some told) name g → f ≡ g
no_object_once told name f g h k =
    let same = same_file told name h.0 k.0 h.1 k.1 in
    let read = subst (λ (b : List ℕ). object_in b ≡ Err f) same h.2 in
    cc (read, k.2)

objects_once : (told : FileMap) (names : List (List ℕ)) (os ps : List ObjectParts) → HasObjects (Some told) names os
    → HasObjects (Some told) names ps → os ≡ ps
objects_once told [] [] [] h k = refl
objects_once told [] [] (p ∷ ps) h k = absurd k
objects_once told [] (o ∷ os) ps h k = absurd h
objects_once told (n ∷ names) [] ps h k = absurd h
objects_once told (n ∷ names) (o ∷ os) [] h k = absurd k
objects_once told (n ∷ names) (o ∷ os) (p ∷ ps) h k =
    let first = object_once told n o p h.0 k.0 in
    let rest = objects_once told names os ps h.1 k.1 in
    cc (first, rest)

all_or_fault : (told : FileMap) (names : List (List ℕ)) (os : List ObjectParts) (i : ℕ) (fault : Fault) → HasObjects (Some told) names os
    → FirstFault (Some told) names i fault → ⊥
all_or_fault told [] os i fault h k = k
all_or_fault told (n ∷ names) [] i fault h k = h
all_or_fault told (n ∷ names) (o ∷ os) zero fault h k = object_or_not told n o fault h.0 k
all_or_fault told (n ∷ names) (o ∷ os) (suc i) fault h k = all_or_fault told names os i fault h.1 k.2

first_once : (told : FileMap) (names : List (List ℕ)) (i j : ℕ) (f g : Fault) → FirstFault (Some told) names i f
    → FirstFault (Some told) names j g → (i ≡ j) × (f ≡ g)
first_once told [] i j f g h k = absurd h
first_once told (n ∷ names) zero zero f g h k = (refl, no_object_once told n f g h k)
first_once told (n ∷ names) zero (suc j) f g h k = absurd (object_or_not told n k.0 f k.1 h)
first_once told (n ∷ names) (suc i) zero f g h k = absurd (object_or_not told n h.0 g h.1 k)
first_once told (n ∷ names) (suc i) (suc j) f g h k =
    let rest = first_once told names i j f g h.2 k.2 in
    (ap suc rest.0, rest.1)

-- `link` has one outcome
pub links_once : (told : FileMap) (image : List ℕ) (names : List (List ℕ)) (w v : Outcome) → Links (Some told) image names w
    → Links (Some told) image names v → v ≡ w
links_once told image names w v (AllRead os all is) (AllRead ps every be) =
    be ∙ (ap (λ (x : List ObjectParts). linked image (linked_image x)) (objects_once told names ps os every all) ∙ sym is)
links_once told image names w v (AllRead os all is) (NoObject j g fault be) = absurd (all_or_fault told names os j g all fault)
links_once told image names w v (NoObject i f fault is) (AllRead ps every be) = absurd (all_or_fault told names ps i f every fault)
links_once told image names w v (NoObject i f fault is) (NoObject j g other be) =
    let once = first_once told names j i g f other fault in
    be ∙ (ap (λ (n : ℕ). refused (object_place_line (form_number g.cause) n g.at)) once.0
    ∙ (ap (λ (x : Fault). refused (object_place_line (form_number x.cause) i x.at)) once.1 ∙ sym is))

-- ---- what is held

-- where the objects are read, or one is refused, each name that is reached is held
finds_all : (told : FileMap) (names : List (List ℕ)) (os : List ObjectParts) → HasObjects (Some told) names os
    → FindsObjects (Some told) names
finds_all told [] os all = tt
finds_all told (n ∷ names) [] all = absurd all
finds_all told (n ∷ names) (o ∷ os) all = ((all.0.0, all.0.1), λ p has. finds_all told names os all.1)

finds_first : (told : FileMap) (names : List (List ℕ)) (i : ℕ) (fault : Fault) → FirstFault (Some told) names i fault
    → FindsObjects (Some told) names
finds_first told [] i fault first = tt
finds_first told (n ∷ names) zero fault first = ((first.0, first.1), λ p has. absurd (object_or_not told n p fault has first))
finds_first told (n ∷ names) (suc i) fault first = ((first.1.0, first.1.1), λ p has. finds_first told names i fault first.2)

pub links_found : (told : FileMap) (image : List ℕ) (names : List (List ℕ)) (w : Outcome) → Links (Some told) image names w
    → FindsObjects (Some told) names
links_found told image names w (AllRead os all is) = finds_all told names os all
links_found told image names w (NoObject i fault first is) = finds_first told names i fault first
