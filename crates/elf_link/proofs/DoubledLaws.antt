-- Names that are defined twice.
use Rattle.std.proofs.Common.{◌≡◌, ℕ, zero, suc, ◌<◌, Bool, true, false, cond, List, [], ◌∷◌, ◌++◌, take, Some, None, refl, ap, sym, ◌∙◌, slice_get, arith, append_assoc}
use Rattle.std.proofs.lemmas.List.{append-nil}
use Rattle.elf_link.specs.Doubled.{IsFirstDoubled}
use Rattle.elf_link.specs.Refusals.{holds, first_doubled}

next-to : (others : List (List ℕ)) (x n : List ℕ) (rest : List (List ℕ)) (b : Bool) → holds ((others ++ x ∷ []) ++ rest) n ≡ b
    → holds (others ++ x ∷ rest) n ≡ b
next-to others x n rest b h = ap (λ (ns : List (List ℕ)). holds ns n) (sym (append_assoc others (x ∷ []) rest)) ∙ h

fresh_before : (others : List (List ℕ)) (x : List ℕ) (xs : List (List ℕ)) (name : List ℕ) (rest : IsFirstDoubled (others ++ x ∷ []) xs name)
    → holds others x ≡ false → (m : ℕ) (n : List ℕ) → m < suc rest.index → slice_get (x ∷ xs) m ≡ Some n
    → holds (others ++ take m (x ∷ xs)) n ≡ false
fresh_before others x xs name rest e zero n lt at =
    let same : x ≡ n = cc in
    ap (λ (ns : List (List ℕ)). holds ns n) (append-nil others) ∙ (ap (λ (k : List ℕ). holds others k) (sym same) ∙ e)
fresh_before others x xs name rest e (suc m) n lt at = next-to others x n (take m xs) false (rest.fresh m n (omega arith) at)

pub doubled_found : (others names : List (List ℕ)) (name : List ℕ) → first_doubled others names ≡ Some name
    → IsFirstDoubled others names name
unfolding first_doubled
doubled_found others [] name h = absurd (cc)
doubled_found others (x ∷ xs) name h = by (doubled_found (others ++ x ∷ []) xs name) (holds others x) refl h where
  by : (first_doubled (others ++ x ∷ []) xs ≡ Some name → IsFirstDoubled (others ++ x ∷ []) xs name) → (b : Bool) → holds others x ≡ b
      → cond b (Some x) (first_doubled (others ++ x ∷ []) xs) ≡ Some name → IsFirstDoubled others (x ∷ xs) name
  by ih true e h =
      let same : x ≡ name = cc in
      record {
        index = 0;
        there = ap Some same;
        doubled = ap (λ (ns : List (List ℕ)). holds ns name) (append-nil others) ∙ (ap (λ (n : List ℕ). holds others n) (sym same) ∙ e);
        fresh = λ m n lt at. absurd (omega arith);
      }
  by ih false e h =
      let rest = ih h in
      record {
        index = suc rest.index;
        there = rest.there;
        doubled = next-to others x name (take rest.index xs) true rest.doubled;
        fresh = fresh_before others x xs name rest e;
      }

pub doubled_none : (others names : List (List ℕ)) → first_doubled others names ≡ None → (k : ℕ) (name : List ℕ)
    → slice_get names k ≡ Some name → holds (others ++ take k names) name ≡ false
unfolding first_doubled
doubled_none others [] h k name at = absurd (cc)
doubled_none others (x ∷ xs) h zero name at = by (holds others x) refl h where
  by : (b : Bool) → holds others x ≡ b → cond b (Some x) (first_doubled (others ++ x ∷ []) xs) ≡ None → holds (others ++ []) name ≡ false
  by true e h = absurd (cc)
  by false e h =
      let same : x ≡ name = cc in
      ap (λ (ns : List (List ℕ)). holds ns name) (append-nil others) ∙ (ap (λ (k : List ℕ). holds others k) (sym same) ∙ e)
doubled_none others (x ∷ xs) h (suc k) name at =
    next-to others x name (take k xs) false (doubled_none (others ++ x ∷ []) xs (by (holds others x) h) k name at) where
      by : (b : Bool) → cond b (Some x) (first_doubled (others ++ x ∷ []) xs) ≡ None → first_doubled (others ++ x ∷ []) xs ≡ None
      by true h = absurd (cc)
      by false h = h
