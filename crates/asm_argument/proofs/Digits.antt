-- A number that grows too large.
use Rattle.std.proofs.Common.{◌≡◌, ℕ, suc, ◌+◌, ◌*◌, ◌<◌, ◌≤◌, cond, ltb, List, [], ◌∷◌, length, drop, get_or, Option, Some, None, refl, sym, ap, ◌∙◌, arith, drop-cons}
use Rattle.std.proofs.Math.Nat.{mul-le-mul_left}
use Rattle.std.proofs.lemmas.Bool.{le-ltb, lt-ltb}
use Rattle.std.proofs.lemmas.List.{nil_from_length, length-drop}
use Rattle.asm_argument.specs.Terminals.{digit_of, digits_value}

pub grows : (base so_far : ℕ) (bs : List ℕ) → 1 ≤ base → so_far ≤ digits_value base so_far bs
grows base so_far [] h = omega arith
grows base so_far (b ∷ bs) h = omega (arith, mul-le-mul_left so_far h, grows base (so_far * base + digit_of b) bs h)

pub too_large : (base value total i : ℕ) (bytes : List ℕ) → 1 ≤ base → i < length bytes → digits_value base value (drop i bytes) ≡ total
    → (value * base + digit_of (get_or bytes i 0) < 4294967296 → ⊥)
    → ◌≡◌ {A = Option ℕ} None (cond (ltb total 4294967296) (Some total) None)
too_large base value total i bytes h lt e big =
    let rest : drop i bytes ≡ get_or bytes i 0 ∷ drop (suc i) bytes = drop-cons bytes i 0 lt in
    let is : digits_value base (value * base + digit_of (get_or bytes i 0)) (drop (suc i) bytes) ≡ total =
    ap (digits_value base value) (sym rest) ∙ e in
    let above : 4294967296 ≤ total = omega (arith, is, grows base (value * base + digit_of (get_or bytes i 0)) (drop (suc i) bytes) h) in
    rw (le-ltb _ _ above) refl

pub done_value : (base value total i : ℕ) (bytes : List ℕ) → length bytes ≤ i → digits_value base value (drop i bytes) ≡ total
    → value < 4294967296
    → ◌≡◌ {A = Option ℕ} (Some value) (cond (ltb total 4294967296) (Some total) None)
done_value base value total i bytes le e small =
    let is : value ≡ total = ap (digits_value base value) (sym (nil_from_length (drop i bytes) (omega (arith, length-drop i bytes)))) ∙ e in
    rw (← is, lt-ltb _ _ small) refl
