-- Numbers written one after another, by places that agree.
use Rattle.std.proofs.Common.{◌≡◌, ℕ, zero, suc, ◌+◌, ◌*◌, ◌/◌, ◌%◌, ◌<◌, List, [], ◌∷◌, ◌++◌, refl, sym, ap, subst, ◌∙◌, arith}
use Rattle.std.specs.Prelude.{slice_index}
use Rattle.std.specs.List.{FoldsTo}
use Rattle.guest_ram.specs.Bytes.{with_byte}
use Rattle.ia32_types.specs.declared.size.Size.{Size}
use Rattle.ia32_types.specs.declared.size.Size.TheVariants.{Byte, Word, Long}
use Rattle.ia32_exec.specs.declared.outcome.Store.{Store}
use Rattle.ia32_exec.specs.declared.outcome.Stores.{Stores}
use Rattle.ia32_exec.specs.declared.outcome.Stores.TheVariants.{Nothing, One, Eight}
use Rattle.ia32_exec.specs.Memory.{store}
use Rattle.ia32_exec.specs.Readable.{IsAllAt, AreAll}
use Rattle.ia32_exec.specs.Commit.{list_of, longs_to}
use Rattle.ia32_exec.specs.Outcomes.{AreStored}
use Rattle.paging.specs.Numbers.{number_stored}
use Rattle.host_cpl3.specs.declared.reach.Reach.{Reach}
use Rattle.host_cpl3.specs.KeptWalks.{SameBut}
use Rattle.host_cpl3.specs.Reaches.{placed}
use Rattle.host_cpl3.specs.Store.{all_stored}
use Rattle.host_cpl3.proofs.Writing.{but_refl, but_trans}

pub stored_more : (at : ℕ → ℕ) (m : List ℕ) (ws : List Store) (w : Store) → all_stored at m (ws ++ w ∷ []) ≡ number_stored at
    (all_stored at m ws) w.at w.size w.value
stored_more at m [] w = refl
stored_more at m (v ∷ ws) w = stored_more at (number_stored at m v.at v.size v.value) ws w

-- numbers that a range takes one after another
pub written_in : (x : Reach) (a : List ℕ) (ws : List Store) (b : List ℕ)
    → FoldsTo (λ (old : List ℕ) (w : Store) (new : List ℕ). (new ≡ number_stored (placed x) old w.at w.size w.value) × SameBut old new
    x.first x.last) a ws b
    → (b ≡ all_stored (placed x) a ws) × SameBut a b x.first x.last
written_in x a [] b e = (sym e, subst (λ (m : List ℕ). SameBut a m x.first x.last) e (but_refl a x.first x.last))
written_in x a (w ∷ ws) b (j, now, rest) =
    let ih = written_in x j ws b rest in
    (ih.0 ∙ ap (λ (m : List ℕ). all_stored (placed x) m ws) now.0, but_trans now.1 ih.1)

module _ (f g : ℕ → ℕ) where
  abbrev Same : ℕ → Type 0
  Same a = f a ≡ g a

  first_same : (a n : ℕ) → 0 < n → AreAll Same a n → f a ≡ g a
  first_same a n lt h = let z : a + 0 ≡ a = omega arith in subst Same z (h 0 lt)

  number_same : (m : List ℕ) (a : ℕ) (s : Size) (v : ℕ) → IsAllAt Same a s → number_stored f m a s v ≡ number_stored g m a s v
  number_same m a Byte v h = ap (λ p. with_byte m p (v % 256)) (first_same a 1 (omega arith) h)
  number_same m a Word v h =
      let x = first_same a 2 (omega arith) h in
      let y : f (a + 1) ≡ g (a + 1) = h 1 (omega arith) in
      ap (λ p. with_byte (with_byte m p (v % 256)) (f (a + 1)) (v / 256 % 256)) x
      ∙ ap (λ p. with_byte (with_byte m (g a) (v % 256)) p (v / 256 % 256)) y
  number_same m a Long v h =
      let w = first_same a 4 (omega arith) h in
      let x : f (a + 1) ≡ g (a + 1) = h 1 (omega arith) in
      let y : f (a + 2) ≡ g (a + 2) = h 2 (omega arith) in
      let z : f (a + 3) ≡ g (a + 3) = h 3 (omega arith) in
      let put : ℕ → ℕ → ℕ → ℕ → List ℕ = λ p q r s.
      with_byte (with_byte (with_byte (with_byte m p (v % 256)) q (v / 256 % 256)) r (v / 65536 % 256)) s (v / 16777216)
      in
      ap (λ p. put p (f (a + 1)) (f (a + 2)) (f (a + 3))) w
      ∙ ap (λ p. put (g a) p (f (a + 2)) (f (a + 3))) x
      ∙ ap (λ p. put (g a) (g (a + 1)) p (f (a + 3))) y
      ∙ ap (λ p. put (g a) (g (a + 1)) (g (a + 2)) p) z

  longs_same : (m : List ℕ) (n a : ℕ) (vs : List ℕ) → AreAll Same a (4 * n)
      → all_stored f m (longs_to n a vs) ≡ all_stored g m (longs_to n a vs)
  longs_same m zero a vs h = refl
  longs_same m (suc n) a vs h =
      let w : Store = store (a + 4 * n) Long (slice_index vs n) in
      let front : AreAll Same a (4 * n) = λ k lt. h k (omega (arith, lt)) in
      let back : IsAllAt Same (a + 4 * n) Long = λ k lt.
      let e : a + (4 * n + k) ≡ a + 4 * n + k = omega arith in
      subst Same e (h (4 * n + k) (omega (arith, lt)))
      in
      stored_more f m (longs_to n a vs) w
      ∙ number_same (all_stored f m (longs_to n a vs)) (a + 4 * n) Long (slice_index vs n) back
      ∙ ap (λ x. number_stored g x (a + 4 * n) Long (slice_index vs n)) (longs_same m n a vs front)
      ∙ sym (stored_more g m (longs_to n a vs) w)

  -- what is written is the same where the places of its addresses are
  pub stores_same : (m : List ℕ) (ws : Stores) → AreStored Same ws → all_stored f m (list_of ws) ≡ all_stored g m (list_of ws)
  stores_same m Nothing h = refl
  stores_same m (One w) h = number_same m w.at w.size w.value h
  stores_same m (Eight a vs) h = longs_same m 8 a vs h
