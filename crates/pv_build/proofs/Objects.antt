-- Objects that are read one after the other.
use Rattle.std.proofs.Common.{◌≡◌, ℕ, zero, suc, ◌<◌, List, [], ◌∷◌, ◌++◌, length, map, take, drop, get_or, Option, refl, sym, ap, subst, arith}
use Rattle.std.specs.Prelude.{All}
use Rattle.std.proofs.lemmas.List.Elements.{All-append}
use Rattle.pv_io.specs.Files.{FileMap, IsHeld}
use Rattle.elf_form.specs.Faults.{Fault}
use Rattle.elf_form.specs.ObjectParts.{ObjectParts}
use Rattle.pv_build.specs.Objects.{HasObject, HasNoObject, HasObjects, FindsObjects, FirstFault}

pub one_more : (files : Option FileMap) (names : List (List ℕ)) (os : List ObjectParts) (name : List ℕ) (o : ObjectParts)
    → HasObjects files names os → HasObject files name o → HasObjects files (names ++ name ∷ []) (os ++ o ∷ [])
one_more files [] [] name o all has = (has, tt)
one_more files [] (p ∷ os) name o all has = absurd all
one_more files (n ∷ names) [] name o all has = absurd all
one_more files (n ∷ names) (p ∷ os) name o all has = (all.0, one_more files names os name o all.1 has)

-- a file after them that is no object
pub first_fault : (files : Option FileMap) (before : List (List ℕ)) (os : List ObjectParts) (name : List ℕ)
    (later : List (List ℕ)) (fault : Fault)
    → HasObjects files before os → HasNoObject files name fault → FirstFault files (before ++ name ∷ later) (length before) fault
first_fault files [] os name later fault all has = has
first_fault files (n ∷ before) [] name later fault all has = absurd all
first_fault files (n ∷ before) (o ∷ os) name later fault all has = (o, all.0, first_fault files before os name later fault all.1 has)

-- ---- names of which the first are read

pub split_at : {A : Type 0} (f : A → List ℕ) (xs : List A) (i : ℕ) (x : A) → i < length xs → x ≡ get_or xs i x
    → map f xs ≡ map f (take i xs) ++ f x ∷ map f (drop (suc i) xs)
split_at f [] i x lt is = absurd (omega arith)
split_at f (y ∷ ys) zero x lt is = ap (λ z. f z ∷ map f ys) (sym is)
split_at f (y ∷ ys) (suc i) x lt is = ap (λ l. f y ∷ l) (split_at f ys i x (omega arith) is)

pub taken_on : {A : Type 0} (f : A → List ℕ) (xs : List A) (i : ℕ) (x : A) → i < length xs → x ≡ get_or xs i x
    → map f (take (suc i) xs) ≡ map f (take i xs) ++ f x ∷ []
taken_on f [] i x lt is = absurd (omega arith)
taken_on f (y ∷ ys) zero x lt is = ap (λ z. f z ∷ []) (sym is)
taken_on f (y ∷ ys) (suc i) x lt is = ap (λ l. f y ∷ l) (taken_on f ys i x (omega arith) is)

pub taken_length : {A : Type 0} (f : A → List ℕ) (xs : List A) (i : ℕ) → i < length xs → length (map f (take i xs)) ≡ i
taken_length f [] i lt = absurd (omega arith)
taken_length f (y ∷ ys) zero lt = refl
taken_length f (y ∷ ys) (suc i) lt = ap suc (taken_length f ys i (omega arith))

-- the name after names that hold objects is held where each name that is reached is
pub found_at : (files : Option FileMap) (before : List (List ℕ)) (os : List ObjectParts) (name : List ℕ) (later : List (List ℕ))
    → HasObjects files before os → FindsObjects files (before ++ name ∷ later) → IsHeld files name
found_at files [] os name later all finds = finds.0
found_at files (n ∷ before) [] name later all finds = absurd all
found_at files (n ∷ before) (o ∷ os) name later all finds = found_at files before os name later all.1 (finds.1 o all.0)

-- the next name, over the files as they are then
pub found_next : {A : Type 0} (f : A → List ℕ) (files now : Option FileMap) (xs : List A) (i : ℕ) (x : A) (name : List ℕ)
    (os : List ObjectParts) → i < length xs → x ≡ get_or xs i x → name ≡ f x
    → now ≡ files → HasObjects files (map f (take i xs)) os → FindsObjects files (map f xs) → IsHeld now name
found_next f files now xs i x name os lt at is same all finds =
    let here = subst (λ (l : List (List ℕ)). FindsObjects files l) (split_at f xs i x lt at) finds in
    let held = found_at files (map f (take i xs)) os (f x) (map f (drop (suc i) xs)) all here in
    subst (λ (m : Option FileMap). IsHeld m name) (sym same) (subst (λ (n : List ℕ). IsHeld files n) (sym is) held)

all_one : (P : ObjectParts → Type 0) (x : ObjectParts) → P x → (k : ℕ) (d : ObjectParts) → k < length (x ∷ []) → P (get_or (x ∷ []) k d)
all_one P x one zero d lt = one
all_one P x one (suc k) d lt = absurd (omega arith)

pub all_more : (P : ObjectParts → Type 0) (xs : List ObjectParts) (x : ObjectParts) → All P xs → P x → All P (xs ++ x ∷ [])
all_more P xs x all one = All-append P xs (x ∷ []) all (all_one P x one)
