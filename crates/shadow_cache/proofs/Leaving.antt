-- A pair that leaves, among others that stay.
use Rattle.std.proofs.Common.{◌≡◌, ℕ, zero, suc, ◌+◌, ◌<◌, ◌≤◌, List, [], ◌∷◌, ◌++◌, ◌||◌, length, take, drop, slice_get, remove, filter, Bool, true, false, cond, eqb, Some, None, refl, sym, ap, ◌∙◌, subst, inl, inr, arith}
use Rattle.std.proofs.lemmas.Bool.{cases_lt}
use Rattle.std.proofs.lemmas.Bool.Decides.{eqb_tells}
use Rattle.std.proofs.lemmas.Option.{same_Some}
use Rattle.std.proofs.Math.Bool.{or-true}
use Rattle.frame_pool.specs.declared.Pool.{Pool}
use Rattle.frame_pool.specs.Held.{times, Owns, Moves}
use Rattle.frame_pool.proofs.Lengths.{times-append}
use Rattle.frame_pool.proofs.Held.{Owns-counts, Owns-part, Moves-counts_from, Moves-beside, SameIn-beside}
use Rattle.shadow_tables.specs.Slots.{held, IsShadow}
use Rattle.shadow_cache.specs.Pairs.{reads, any_reads, frames_of, AreShadows}
use Rattle.shadow_cache.specs.Others.{AreKept, one_later, place_of}
use Rattle.shadow_cache.specs.declared.pair.Pair.{Pair}
use Rattle.shadow_cache.specs.Laws.{times-frames, kept-same, kept-frames}

-- ---- lists

pub times-remove : (f : ℕ) (ps : List Pair) (i : ℕ) (p : Pair) (m : List ℕ) → slice_get ps i ≡ Some p
    → times f (frames_of ps m) ≡ times f (held p.shadow m) + times f (frames_of (remove ps i) m)
times-remove f [] i p m e = absurd cc
times-remove f (q ∷ qs) zero p m e =
    let t = times-frames f q qs m in let s = ap (λ (x : Pair). times f (held x.shadow m)) (same_Some q p e) in omega (arith, t, s)
times-remove f (q ∷ qs) (suc i) p m e =
    let t = times-frames f q qs m in let r = times-remove f qs i p m e in let u = times-frames f q (remove qs i) m in omega (arith, t, r, u)

pub shadows-at : (ps : List Pair) (i : ℕ) (p : Pair) (m : List ℕ) → slice_get ps i ≡ Some p → AreShadows ps m → IsShadow p.shadow m
shadows-at [] i p m e h = absurd cc
shadows-at (q ∷ qs) zero p m e h = subst (λ (x : Pair). IsShadow x.shadow m) (same_Some q p e) h.0
shadows-at (q ∷ qs) (suc i) p m e h = shadows-at qs i p m e h.1

pub shadows-remove : (ps : List Pair) (i : ℕ) (m : List ℕ) → AreShadows ps m → AreShadows (remove ps i) m
shadows-remove [] zero m h = tt
shadows-remove [] (suc i) m h = tt
shadows-remove (q ∷ qs) zero m h = h.1
shadows-remove (q ∷ qs) (suc i) m h = (h.0, shadows-remove qs i m h.1)

pub kept-refl : (ps : List Pair) (m : List ℕ) → AreShadows ps m → AreKept ps m m
kept-refl [] m h = tt
kept-refl (p ∷ ps) m h = (h.0, refl, λ page l. refl, kept-refl ps m h.1, λ side index l ne. ne)

pub kept-trans : (ps : List Pair) (m m1 m2 : List ℕ) → AreKept ps m m1 → AreKept ps m1 m2 → AreKept ps m m2
kept-trans [] m m1 m2 a b = tt
kept-trans (p ∷ ps) m m1 m2 a b = (
  b.0,
  b.1 ∙ a.1,
  λ page l. b.2 page l ∙ a.2 page l,
  kept-trans ps m m1 m2 a.3 b.3,
  λ side index l ne. b.4 side index l (a.4 side index l ne),
)

pub kept-remove : (ps : List Pair) (i : ℕ) (m m' : List ℕ) → AreKept ps m m' → AreKept (remove ps i) m m'
kept-remove [] zero m m' k = tt
kept-remove [] (suc i) m m' k = tt
kept-remove (q ∷ qs) zero m m' k = k.3
kept-remove (q ∷ qs) (suc i) m m' k = (k.0, k.1, k.2, kept-remove qs i m m' k.3, k.4)

-- ---- one leaves

module _ (p : Pool) (m : List ℕ) (ps : List Pair) (i : ℕ) (pair : Pair) (here : slice_get ps i ≡ Some pair) (h : AreShadows ps m)
    (o : Owns p m (frames_of ps m)) where
  counts : (f : ℕ) → times f (held pair.shadow m ++ frames_of (remove ps i) m) ≡ times f (frames_of ps m)
  counts f = times-append f (held pair.shadow m) (frames_of (remove ps i) m) ∙ sym (times-remove f ps i pair m here)

  split : Owns p m (held pair.shadow m ++ frames_of (remove ps i) m)
  split = Owns-counts p m (frames_of ps m) (held pair.shadow m ++ frames_of (remove ps i) m) counts o

  pub leaves-owns : Owns p m (held pair.shadow m)
  leaves-owns = Owns-part p m (held pair.shadow m) (frames_of (remove ps i) m) split

  module _ (p' : Pool) (m' : List ℕ) (v : Moves p p' m m' (held pair.shadow m) []) where
    pub leaves-kept : AreKept (remove ps i) m m'
    leaves-kept = kept-same (remove ps i) m m' (shadows-remove ps i m h)
        (SameIn-beside p p' m m' (held pair.shadow m) [] (frames_of (remove ps i) m) split v)

    pub leaves-moves : Moves p p' m m' (frames_of ps m) (frames_of (remove ps i) m')
    leaves-moves =
        subst (Moves p p' m m' (frames_of ps m)) (sym (kept-frames (remove ps i) m m' leaves-kept))
        (Moves-counts_from p p' m m' (held pair.shadow m ++ frames_of (remove ps i) m) (frames_of ps m) (frames_of (remove ps i) m)
        (λ f. sym (counts f))
        (Moves-beside p p' m m' (held pair.shadow m) [] (frames_of (remove ps i) m) v))

-- ---- all of which a test is false leave, the last first

abbrev pub pruned : (Pair → Bool) → List Pair → ℕ → List Pair
pruned test ps i = take i ps ++ filter test (drop i ps)

pub pruned-all : (test : Pair → Bool) (ps : List Pair) → pruned test ps (length ps) ≡ ps
pruned-all test [] = refl
pruned-all test (p ∷ ps) = ap (λ (qs : List Pair). p ∷ qs) (pruned-all test ps)

pub pruned-length : (test : Pair → Bool) (ps : List Pair) (i : ℕ) → i < length ps → i < length (pruned test ps (suc i))
pruned-length test [] i l = absurd (omega (arith, l))
pruned-length test (p ∷ ps) zero l = omega arith
pruned-length test (p ∷ ps) (suc i) l = let e = pruned-length test ps i (omega (arith, l)) in omega (arith, e)

pub pruned-stays : (test : Pair → Bool) (ps : List Pair) (i : ℕ) (p : Pair) → i < length ps → slice_get (pruned test ps (suc i)) i ≡ Some p
    → test p ≡ true → pruned test ps (suc i) ≡ pruned test ps i
pruned-stays test [] i p l e t = absurd (omega (arith, l))
pruned-stays test (q ∷ qs) zero p l e t = sym (ap (λ b. cond b (q ∷ filter test qs) (filter test qs)) (ap test (same_Some q p e) ∙ t))
pruned-stays test (q ∷ qs) (suc i) p l e t = ap (λ (xs : List Pair). q ∷ xs) (pruned-stays test qs i p (omega (arith, l)) e t)

pub pruned-goes : (test : Pair → Bool) (ps : List Pair) (i : ℕ) (p : Pair) → i < length ps → slice_get (pruned test ps (suc i)) i ≡ Some p
    → test p ≡ false → remove (pruned test ps (suc i)) i ≡ pruned test ps i
pruned-goes test [] i p l e t = absurd (omega (arith, l))
pruned-goes test (q ∷ qs) zero p l e t = sym (ap (λ b. cond b (q ∷ filter test qs) (filter test qs)) (ap test (same_Some q p e) ∙ t))
pruned-goes test (q ∷ qs) (suc i) p l e t = ap (λ (xs : List Pair). q ∷ xs) (pruned-goes test qs i p (omega (arith, l)) e t)

-- ---- no pair

pub none-left : (ps : List Pair) → length ps ≤ 0 → ps ≡ []
none-left [] h = refl
none-left (p ∷ ps) h = absurd (omega (arith, h))

pub none-frames : (m : List ℕ) → frames_of [] m ≡ []
unfolding frames_of
none-frames m = refl

-- ---- a pair that is looked for

pub any-at : (ps : List Pair) (i frame : ℕ) (p : Pair) → slice_get ps i ≡ Some p → reads p frame ≡ true → any_reads ps frame ≡ true
any-at [] i frame p e t = absurd cc
any-at (q ∷ qs) zero frame p e t = ap (λ b. b || any_reads qs frame) (ap (λ (x : Pair). reads x frame) (same_Some q p e) ∙ t)
any-at (q ∷ qs) (suc i) frame p e t = ap (λ b. reads q frame || b) (any-at qs i frame p e t) ∙ or-true (reads q frame)

pub any-none : (ps : List Pair) (n frame : ℕ) → length ps ≤ n
    → ((k : ℕ) (p : Pair) → k < n → slice_get ps k ≡ Some p → reads p frame ≡ false) → any_reads ps frame ≡ false
any-none [] n frame l h = refl
any-none (q ∷ qs) n frame l h =
    ap (λ b. b || any_reads qs frame) (h 0 q (omega (arith, l)) refl)
    ∙ any-none qs (length qs) frame (omega arith) (λ k p b e. h (suc k) p (omega (arith, l, b)) e)

pub place-at : (cr3 : ℕ) (ps : List Pair) (i : ℕ) (p : Pair) → slice_get ps i ≡ Some p → p.cr3 ≡ cr3
    → ((k : ℕ) (q : Pair) → k < i → slice_get ps k ≡ Some q → eqb q.cr3 cr3 ≡ false) → place_of cr3 ps ≡ Some i
place-at cr3 [] i p e t h = absurd cc
place-at cr3 (q ∷ qs) zero p e t h =
    elim (eqb_tells q.cr3 cr3) [
      | inl x ↦ ap (λ b. cond b (Some 0) (one_later (place_of cr3 qs))) x.0
      | inr x ↦ absurd (x.1 (ap (λ (y : Pair). y.cr3) (same_Some q p e) ∙ t))
    ]
place-at cr3 (q ∷ qs) (suc i) p e t h =
    ap (λ b. cond b (Some 0) (one_later (place_of cr3 qs))) (h 0 q (omega arith) refl)
    ∙ ap one_later (place-at cr3 qs i p e t (λ k x l y. h (suc k) x (omega (arith, l)) y))

pub place-none : (cr3 : ℕ) (ps : List Pair) (n : ℕ) → length ps ≤ n
    → ((k : ℕ) (p : Pair) → k < n → slice_get ps k ≡ Some p → eqb p.cr3 cr3 ≡ false) → place_of cr3 ps ≡ None
place-none cr3 [] n l h = refl
place-none cr3 (q ∷ qs) n l h =
    ap (λ b. cond b (Some 0) (one_later (place_of cr3 qs))) (h 0 q (omega (arith, l)) refl)
    ∙ ap one_later (place-none cr3 qs (length qs) (omega arith) (λ k p b e. h (suc k) p (omega (arith, l, b)) e))

-- one more that isn't it
pub none-more : (test : Pair → Bool) (ps : List Pair) (i : ℕ) (p : Pair) → slice_get ps i ≡ Some p → test p ≡ false
    → ((k : ℕ) (q : Pair) → k < i → slice_get ps k ≡ Some q → test q ≡ false) → (k : ℕ) (q : Pair) → k < i + 1
    → slice_get ps k ≡ Some q → test q ≡ false
none-more test ps i p e t h k q l x =
    elim (cases_lt k i) [
      | inl y ↦ h k q y x
      | inr y ↦
          let same : k ≡ i = omega (arith, y, l) in
          subst (λ (z : Pair). test z ≡ false) (same_Some p q (sym e ∙ ap (slice_get ps) (sym same) ∙ x)) t
    ]
