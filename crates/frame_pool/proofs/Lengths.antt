-- Counting the frames of a list.
use Rattle.std.proofs.Common.{◌≡◌, ◌≢◌, ℕ, zero, suc, ◌+◌, ◌<◌, ◌≤◌, ◌⊎◌, List, [], ◌∷◌, ◌++◌, length, cond, eqb, refl, sym, ap, ◌∙◌, subst, inl, inr, arith}
use Rattle.std.proofs.lemmas.Bool.Decides.{eqb_tells}
use Rattle.frame_pool.specs.Frames.{IsNotIn, AreDistinct, AreWithin}
use Rattle.frame_pool.specs.Held.{hit, times}

pub zero-or : (n : ℕ) → (n ≡ 0) ⊎ (1 ≤ n)
zero-or zero = inl refl
zero-or (suc n) = inr (omega arith)

pub hit-is : (f g : ℕ) → ((f ≡ g) × (hit f g ≡ 1)) ⊎ ((f ≢ g) × (hit f g ≡ 0))
unfolding hit
hit-is f g =
    elim (eqb_tells f g) [
      | inl t ↦ inl (t.1, ap (λ b. cond b 1 0) t.0)
      | inr n ↦ inr (n.1, ap (λ b. cond b 1 0) n.0)
    ]

pub hit-self : (f : ℕ) → hit f f ≡ 1
hit-self f = elim (hit-is f f) [ inl t ↦ t.1 | inr n ↦ absurd (n.0 refl) ]

pub hit-other : (f g : ℕ) → f ≢ g → hit f g ≡ 0
hit-other f g ne = elim (hit-is f g) [ inl t ↦ absurd (ne t.0) | inr n ↦ n.1 ]

pub times-cons : (f g : ℕ) (gs : List ℕ) → times f (g ∷ gs) ≡ hit f g + times f gs
unfolding times
times-cons f g gs = refl

pub times-none : (f : ℕ) → times f [] ≡ 0
unfolding times
times-none f = refl

pub times-append : (f : ℕ) (gs hs : List ℕ) → times f (gs ++ hs) ≡ times f gs + times f hs
unfolding times
times-append f [] hs = omega arith
times-append f (g ∷ gs) hs = let e = times-append f gs hs in omega (arith, e)

pub IsNotIn-times : (f : ℕ) (gs : List ℕ) → times f gs ≡ 0 → IsNotIn f gs
unfolding times
IsNotIn-times f [] h = tt
IsNotIn-times f (g ∷ gs) h =
    elim (hit-is f g) [
      | inl t ↦ let e = t.1 in absurd (omega (arith, e, h))
      | inr n ↦ (n.0, IsNotIn-times f gs (omega (arith, h)))
    ]

pub times-IsNotIn : (f : ℕ) (gs : List ℕ) → IsNotIn f gs → times f gs ≡ 0
unfolding times
times-IsNotIn f [] h = refl
times-IsNotIn f (g ∷ gs) h = let e = hit-other f g h.0 in let r = times-IsNotIn f gs h.1 in omega (arith, e, r)

pub times-distinct : (f : ℕ) (gs : List ℕ) → AreDistinct gs → times f gs ≤ 1
unfolding times
times-distinct f [] h = omega arith
times-distinct f (g ∷ gs) h =
    elim (hit-is f g) [
      | inl t ↦ let e = t.1 in let r = times-IsNotIn f gs (subst (λ x. IsNotIn x gs) (sym t.0) h.0) in omega (arith, e, r)
      | inr n ↦ let e = n.1 in let r = times-distinct f gs h.1 in omega (arith, e, r)
    ]

pub times-within : (b n f : ℕ) (gs : List ℕ) → AreWithin b n gs → 1 ≤ times f gs → (b ≤ f) × (f < b + n)
unfolding times
times-within b n f [] w h = absurd (omega (arith, h))
times-within b n f (g ∷ gs) w h =
    elim (hit-is f g) [
      | inl t ↦ (subst (λ x. b ≤ x) (sym t.0) w.0, subst (λ x. x < b + n) (sym t.0) w.1)
      | inr m ↦ let e = m.1 in times-within b n f gs w.2 (omega (arith, e, h))
    ]

-- ---- lists with the same frames are as long

-- without the first f
abbrev less : ℕ → List ℕ → List ℕ
less f [] = []
less f (g ∷ gs) = cond (eqb f g) gs (g ∷ less f gs)

less-first : (f g : ℕ) (gs : List ℕ) → f ≡ g → less f (g ∷ gs) ≡ gs
less-first f g gs e = elim (eqb_tells f g) [ inl t ↦ ap (λ b. cond b gs (g ∷ less f gs)) t.0 | inr n ↦ absurd (n.1 e) ]

less-later : (f g : ℕ) (gs : List ℕ) → f ≢ g → less f (g ∷ gs) ≡ g ∷ less f gs
less-later f g gs ne = elim (eqb_tells f g) [ inl t ↦ absurd (ne t.1) | inr n ↦ ap (λ b. cond b gs (g ∷ less f gs)) n.0 ]

length-less : (f : ℕ) (gs : List ℕ) → 1 ≤ times f gs → length gs ≡ suc (length (less f gs))
length-less f [] h = absurd (let z = times-none f in omega (arith, z, h))
length-less f (g ∷ gs) h =
    elim (hit-is f g) [
      | inl t ↦ ap (λ (x : List ℕ). suc (length x)) (sym (less-first f g gs t.0))
      | inr n ↦
          let c = times-cons f g gs in let e = n.1 in
          ap suc (length-less f gs (omega (arith, c, e, h))) ∙ ap (λ (x : List ℕ). suc (length x)) (sym (less-later f g gs n.0))
    ]

times-less : (f h : ℕ) (gs : List ℕ) → 1 ≤ times f gs → times h gs ≡ hit h f + times h (less f gs)
times-less f h [] k = absurd (let z = times-none f in omega (arith, z, k))
times-less f h (g ∷ gs) k =
    let c = times-cons h g gs in
    elim (hit-is f g) [
      | inl t ↦ let e = ap (hit h) t.0 in let d = ap (times h) (less-first f g gs t.0) in omega (arith, c, e, d)
      | inr n ↦
          let e = n.1 in let b = times-cons f g gs in
          let i = times-less f h gs (omega (arith, b, e, k)) in
          let d = ap (times h) (less-later f g gs n.0) in
          let q = times-cons h g (less f gs) in omega (arith, c, i, d, q)
    ]

pub length-counts : (fs gs : List ℕ) → ((f : ℕ) → times f fs ≡ times f gs) → length fs ≡ length gs
length-counts [] [] h = refl
length-counts [] (g ∷ gs) h = absurd (
    let e = h g in let z = times-none g in let c = times-cons g g gs in let s = hit-self g in omega (arith, e, z, c, s))
length-counts (f ∷ fs) gs h =
    let e = h f in let c = times-cons f f fs in let s = hit-self f in
    let one : 1 ≤ times f gs = omega (arith, e, c, s) in
    let rest = length-counts fs (less f gs) (λ x.
    let a = h x in let b = times-cons x f fs in let d = times-less f x gs one in omega (arith, a, b, d)) in
    ap suc rest ∙ sym (length-less f gs one)
