-- What holds of memory that a host lent.
use Rattle.std.proofs.Common.{◌≡◌, ℕ, List, sym, subst}

-- what holds of the memory that was lent, before and after, holds of the host's
pub lent : {H : Type 0} (bytes : H → List ℕ) (with_bytes : H → List ℕ → H) → ((h : H) (m : List ℕ) → bytes (with_bytes h m) ≡ m)
    → (h : H) (old new : List ℕ) → old ≡ bytes h → (fact : List ℕ → List ℕ → Type 0) → fact old new
    → fact (bytes h) (bytes (with_bytes h new))
lent bytes with_bytes changed h old new is fact known =
    subst (λ (k : List ℕ). fact (bytes h) k) (sym (changed h new)) (subst (λ (l : List ℕ). fact l new) is known)
