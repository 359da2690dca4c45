-- A name that is added is held, and so are those that were.
use Rattle.std.proofs.Common.{◌≡◌, ℕ, Bool, true, false, List, [], ◌∷◌, ◌++◌, refl, ◌∙◌, cond}
use Rattle.std.specs.Str.{bytes_eq}
use Rattle.std.proofs.lemmas.Bool.{or_left, or_right}
use Rattle.std.proofs.lemmas.Cmp.{nat_list_eq_equiv}
use Rattle.std.proofs.lemmas.List.Folds.{list_any-append}
use Rattle.asm_source.specs.Names.{holds, added}

pub holds_more : (ns : List (List ℕ)) (n q : List ℕ) → holds ns q ≡ true → holds (added ns n) q ≡ true
holds_more ns n q h = by_test (holds ns n)
  where
    by_test : (t : Bool) → holds (cond t ns (ns ++ n ∷ [])) q ≡ true
    by_test true = h
    by_test false = list_any-append (λ (m : List ℕ). bytes_eq q m) ns (n ∷ []) ∙ or_left (holds ns q) (holds (n ∷ []) q) h

pub added_holds : (ns : List (List ℕ)) (n : List ℕ) → holds (added ns n) n ≡ true
added_holds ns n = by_test (holds ns n) refl
  where
    by_test : (t : Bool) → holds ns n ≡ t → holds (cond t ns (ns ++ n ∷ [])) n ≡ true
    by_test true e = e
    by_test false e = list_any-append (λ (m : List ℕ). bytes_eq n m) ns (n ∷ [])
        ∙ or_right (holds ns n) (holds (n ∷ []) n) (or_left (bytes_eq n n) false (nat_list_eq_equiv.refl n))
