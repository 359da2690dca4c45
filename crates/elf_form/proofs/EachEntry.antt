-- What each entry of a list has, and what tests say that found no place.
use Rattle.std.proofs.Common.{◌≡◌, ℕ, zero, suc, ◌<◌, List, [], ◌∷◌, ◌++◌, length, map, get_or, Option, None, arith}
use Rattle.std.specs.Prelude.{fold}
use Rattle.elf_form.specs.declared.object.Reloc.{Reloc}
use Rattle.elf_form.specs.declared.symbols.Entry.{Entry}
use Rattle.elf_form.specs.Faults.{◌or_lower◌}
use Rattle.elf_form.proofs.FormLaws.{lower_none}

-- ---- what stands in a list

-- each of its entries
abbrev pub Each : {A : Type 0} → (A → Type 0) → List A → Type 0
Each P [] = Unit {0}
Each P (x ∷ xs) = P x × Each P xs

pub each_append : {A : Type 0} (P : A → Type 0) (xs ys : List A) → Each P xs → Each P ys → Each P (xs ++ ys)
each_append P [] ys h k = k
each_append P (x ∷ xs) ys h k = (h.0, each_append P xs ys h.1 k)

pub each_map : {A B : Type 0} (f : A → B) (P : A → Type 0) (Q : B → Type 0) (xs : List A) → ((x : A) → P x → Q (f x))
    → Each P xs → Each Q (map f xs)
each_map f P Q [] to h = tt
each_map f P Q (x ∷ xs) to h = (to x h.0, each_map f P Q xs to h.1)

pub each_both : {A : Type 0} (P Q : A → Type 0) (xs : List A) → Each P xs → Each Q xs → Each (λ x. P x × Q x) xs
each_both P Q [] h k = tt
each_both P Q (x ∷ xs) h k = ((h.0, k.0), each_both P Q xs h.1 k.1)

pub each_all : (P : Reloc → Type 0) (xs : List Reloc) → Each P xs → (k : ℕ) (d : Reloc) → k < length xs → P (get_or xs k d)
each_all P [] h k d lt = absurd (omega arith)
each_all P (x ∷ xs) h zero d lt = h.0
each_all P (x ∷ xs) h (suc k) d lt = each_all P xs h.1 k d (omega arith)

-- ---- tests that found no place

pub fold_none : (t : Entry → Option ℕ) (a : Option ℕ) (es : List Entry) → fold (λ lowest e. lowest or_lower t e) a es ≡ None → (a ≡ None)
    × Each (λ e. t e ≡ None) es
fold_none t a [] h = (h, tt)
fold_none t a (e ∷ es) h =
    let rest = fold_none t (a or_lower t e) es h in
    let both = lower_none a (t e) rest.0 in
    (both.0, (both.1, rest.1))
