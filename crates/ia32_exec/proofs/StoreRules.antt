-- Memory after numbers were written.
use Rattle.std.proofs.Common.{◌≡◌, ◌⊎◌, ℕ, zero, suc, ◌+◌, ◌*◌, ◌/◌, ◌%◌, ◌^◌, ◌<◌, ◌≤◌, Bool, true, false, List, [], ◌∷◌, refl, ap, sym, ◌∙◌, subst, add-one, inl, inr, arith}
use Rattle.std.specs.Prelude.{slice_index, nat_le, nat_lt, ◌==◌, ◌&&◌, ◌-◌, if◌then◌else◌}
use Rattle.std.specs.List.{FoldsTo}
use Rattle.std.proofs.lemmas.Fn.{FoldsTo-push}
use Rattle.std.proofs.Math.Path.{fun_ext}
use Rattle.std.proofs.lemmas.Bool.{eq-eqb}
use Rattle.std.proofs.lemmas.Bool.Decides.{nat_tests}
use Rattle.ia32_types.specs.declared.size.Size.TheVariants.{Long}
use Rattle.ia32_types.specs.Size.{width}
use Rattle.ia32_exec.specs.declared.outcome.Store.{Store}
use Rattle.ia32_exec.specs.declared.outcome.Stores.{Stores}
use Rattle.ia32_exec.specs.declared.outcome.Stores.TheVariants.{Nothing, One, Eight}
use Rattle.ia32_exec.specs.Memory.{store}
use Rattle.ia32_exec.specs.Stored.{with_bytes, stored, all_stored}
use Rattle.ia32_exec.specs.Commit.{list_of, longs_to}
use Rattle.ia32_exec.specs.Outcomes.{IsKeptUnlessWritten}
use Rattle.ia32_exec.specs.Turns.{written, all_written}

-- one of eight more
pub folds_more : {M : Type 0} (R : M → Store → M → Type 0) (a b c : M) (k at : ℕ) (vs : List ℕ) → FoldsTo R a (longs_to k at vs) b
    → R b (store (at + 4 * k) Long (slice_index vs k)) c
    → FoldsTo R a (longs_to (k + 1) at vs) c
folds_more R a b c k at vs before now =
    rw (add-one k) (FoldsTo-push R a (longs_to k at vs) b (store (at + 4 * k) Long (slice_index vs k)) c before now)

module _ {M : Type 0} (byte : M → ℕ → ℕ) (same : M → ℕ → ℕ → Bool) where
  abbrev pub Writes : M → Store → M → Type 0
  Writes old w new = (byte new ≡ stored (same old) w (byte old)) × (same new ≡ same old)

  -- numbers that linear memory takes one after another
  pub linear : (a : M) (ws : List Store) (b : M) → FoldsTo Writes a ws b → (byte b ≡ all_stored (same a) ws (byte a)) × (same b ≡ same a)
  unfolding all_stored
  linear a [] b e = (ap byte (sym e), ap same (sym e))
  linear a (w ∷ ws) b (j, now, rest) =
      let ih = linear j ws b rest in (
        ih.0 ∙ (ap (λ (s : ℕ → ℕ → Bool). all_stored s ws (byte j)) now.1 ∙ ap (λ (m : ℕ → ℕ). all_stored (same a) ws m) now.0),
        ih.1 ∙ now.1,
      )

pub kept_unless : {M : Type 0} (R : M → Store → M → Type 0) (ws : Stores) (a b : M) → FoldsTo R a (list_of ws) b
    → IsKeptUnlessWritten ws a b
kept_unless R Nothing a b e = sym e
kept_unless R (One w) a b e = tt
kept_unless R (Eight at vs) a b e = tt

same_or_less : (k n : ℕ) → k ≤ n → (k ≡ n) ⊎ (k < n)
same_or_less k n le = grind (arith, nat_tests)

module _ (same : ℕ → ℕ → Bool) (at v : ℕ) (b : ℕ → ℕ) where
  pub others : (n x : ℕ) → ((k : ℕ) → k < n → same (at + k) x ≡ false) → with_bytes same n at v b x ≡ b x
  unfolding with_bytes
  others zero x h = refl
  others (suc n) x h = rw (h n (omega arith)) (others n x (λ k lt. h k (omega arith)))

  pub held : (n k : ℕ) → k < n → same (at + k) (at + k) ≡ true → ((j : ℕ) → k < j → j < n → same (at + j) (at + k) ≡ false)
      → with_bytes same n at v b (at + k) ≡ v / 2 ^ (8 * k) % 2 ^ 8
  unfolding with_bytes
  held zero k lt itself later = absurd (omega arith)
  held (suc n) k lt itself later =
      by (same_or_less k n (omega arith)) (λ below. held n k below itself (λ j a z. later j a (omega arith))) where
        by : (k ≡ n) ⊎ (k < n) → (k < n → with_bytes same n at v b (at + k) ≡ v / 2 ^ (8 * k) % 2 ^ 8)
            → with_bytes same (suc n) at v b (at + k) ≡ v / 2 ^ (8 * k) % 2 ^ 8
        by (inl e) ih = rw (ap (λ (j : ℕ). same (at + j) (at + k)) (sym e) ∙ itself) (ap (λ (j : ℕ). v / 2 ^ (8 * j) % 2 ^ 8) (sym e))
        by (inr below) ih = rw (later n below (omega arith)) (ih below)

-- where each address leads to a byte of its own
is_another : (m n : ℕ) → (m ≡ n → ⊥) → (m == n) ≡ false
is_another m n h = grind (arith, nat_tests, h)

later_is_another : (at j k : ℕ) → k < j → (at + j == at + k) ≡ false
later_is_another at j k lt = grind (arith, nat_tests)

in_range : (at n x : ℕ) → (nat_le at x && nat_lt x (at + n)) ≡ true → (at ≤ x) × (x < at + n)
in_range at n x e = (grind (arith, nat_tests), grind (arith, nat_tests))

out_of_range : (at n x k : ℕ) → (nat_le at x && nat_lt x (at + n)) ≡ false → k < n → (at + k == x) ≡ false
out_of_range at n x k e lt = grind (arith, nat_tests)

in_flat : (n at v : ℕ) (b : ℕ → ℕ) (x : ℕ)
    → with_bytes (λ i j. i == j) n at v b x ≡ (if nat_le at x && nat_lt x (at + n) then v / 2 ^ (8 * (x - at)) % 2 ^ 8 else b x)
in_flat n at v b x = by (nat_le at x && nat_lt x (at + n)) refl where
  by : (t : Bool) → (nat_le at x && nat_lt x (at + n)) ≡ t
      → with_bytes (λ i j. i == j) n at v b x ≡ (if t then v / 2 ^ (8 * (x - at)) % 2 ^ 8 else b x)
  by true e =
      let h = in_range at n x e in
      let whole : at + (x - at) ≡ x = omega arith in
      let P : ℕ → Type 0 = λ y. with_bytes (λ i j. i == j) n at v b y ≡ v / 2 ^ (8 * (x - at)) % 2 ^ 8 in
      subst P whole (held (λ i j. i == j) at v b n (x - at) (omega arith) (eq-eqb (at + (x - at)) (at + (x - at)) refl)
      (λ j a z. later_is_another at j (x - at) a))
  by false e = others (λ i j. i == j) at v b n x (λ k lt. out_of_range at n x k e lt)

pub flat : (ws : List Store) (b : ℕ → ℕ) → all_stored (λ i j. i == j) ws b ≡ all_written ws b
unfolding all_stored
flat [] b = refl
flat (w ∷ ws) b =
    let one : stored (λ i j. i == j) w b ≡ written w b = fun_ext (in_flat (width w.size / 8) w.at w.value b) in
    ap (all_stored (λ i j. i == j) ws) one ∙ flat ws (written w b)
