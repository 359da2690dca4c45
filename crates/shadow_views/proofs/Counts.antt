-- The words of tables, and what one write changes.
use Rattle.std.proofs.Common.{◌≡◌, ◌≢◌, ℕ, zero, suc, ◌+◌, ◌*◌, ◌/◌, ◌<◌, ◌≤◌, ◌⊎◌, List, [], ◌∷◌, ◌++◌, refl, sym, ap, ◌∙◌, subst, inl, inr, arith}
use Rattle.std.proofs.lemmas.Bool.{cases_lt}
use Rattle.std.proofs.lemmas.Bool.Decides.{eqb_tells}
use Rattle.guest_ram.specs.Bytes.{word32}
use Rattle.frame_pool.specs.Held.{hit, times}
use Rattle.shadow_views.specs.Tables.{dir, by_dir, with_table, tables, owned, IsIn}
use Rattle.frame_pool.proofs.Lengths.{hit-self, times-cons, times-append}

-- ---- a word that names a table

pub by_dir-none : (m : List ℕ) (w i : ℕ) → w ≡ 0 → by_dir m w i ≡ 0
by_dir-none m zero i e = refl
by_dir-none m (suc w) i e = absurd (omega (arith, e))

pub by_dir-some : (m : List ℕ) (w i : ℕ) → w ≢ 0 → by_dir m w i ≡ word32 m (4096 * (w / 4096) + 4 * i)
by_dir-some m zero i ne = absurd (ne refl)
by_dir-some m (suc w) i ne = refl

with_table-none : (w : ℕ) (fs : List ℕ) → w ≡ 0 → with_table w fs ≡ fs
with_table-none zero fs e = refl
with_table-none (suc w) fs e = absurd (omega (arith, e))

with_table-some : (w : ℕ) (fs : List ℕ) → w ≢ 0 → with_table w fs ≡ (w / 4096) ∷ fs
with_table-some zero fs ne = absurd (ne refl)
with_table-some (suc w) fs ne = refl

times-table : (f w : ℕ) (fs : List ℕ) → w ≢ 0 → times f (with_table w fs) ≡ hit f (w / 4096) + times f fs
times-table f w fs ne = ap (times f) (with_table-some w fs ne) ∙ times-cons f (w / 4096) fs

times-more : (f w : ℕ) (fs : List ℕ) → times f fs ≤ times f (with_table w fs)
times-more f zero fs = omega arith
times-more f (suc w) fs = let c = times-cons f (suc w / 4096) fs in omega (arith, c)

last-or : (d n : ℕ) → d < suc n → (d < n) ⊎ (d ≡ n)
last-or d n h = elim (cases_lt d n) [ inl l ↦ inl l | inr g ↦ inr (omega (arith, g, h)) ]

-- ---- the tables of one view

pub tables-one : (m : List ℕ) (r n d f : ℕ) → d < n → dir m r d ≢ 0 → f ≡ dir m r d / 4096 → 1 ≤ times f (tables m r n)
unfolding tables
tables-one m r zero d f h ne e = absurd (omega (arith, h))
tables-one m r (suc n) d f h ne e =
    elim (last-or d n h) [
      | inl l ↦ let i = tables-one m r n d f l ne e in let k = times-more f (dir m r n) (tables m r n) in omega (arith, i, k)
      | inr q ↦
          let ne' : dir m r n ≢ 0 = subst (λ x. dir m r x ≢ 0) q ne in
          let e' : f ≡ dir m r n / 4096 = e ∙ ap (λ x. dir m r x / 4096) q in
          let k = times-table f (dir m r n) (tables m r n) ne' in
          let s : hit f (dir m r n / 4096) ≡ 1 = ap (hit f) (sym e') ∙ hit-self f in
          omega (arith, k, s)
    ]

tables-two_last : (m : List ℕ) (r n d f : ℕ) → d < n → dir m r d ≢ 0 → f ≡ dir m r d / 4096 → dir m r n ≢ 0 → f ≡ dir m r n / 4096
    → 2 ≤ times f (with_table (dir m r n) (tables m r n))
tables-two_last m r n d f h ne e ne' e' =
    let i = tables-one m r n d f h ne e in
    let k = times-table f (dir m r n) (tables m r n) ne' in
    let s : hit f (dir m r n / 4096) ≡ 1 = ap (hit f) (sym e') ∙ hit-self f in
    omega (arith, i, k, s)

pub tables-two : (m : List ℕ) (r n d e f : ℕ) → d < n → e < n → d ≢ e → dir m r d ≢ 0 → f ≡ dir m r d / 4096 → dir m r e ≢ 0
    → f ≡ dir m r e / 4096 → 2 ≤ times f (tables m r n)
unfolding tables
tables-two m r zero d e f h k ne a b a' b' = absurd (omega (arith, h))
tables-two m r (suc n) d e f h k ne a b a' b' =
    elim (last-or d n h) [
      | inl l ↦ elim (last-or e n k) [
        | inl l' ↦ let i =
            tables-two m r n d e f l l' ne a b a' b' in let j = times-more f (dir m r n) (tables m r n) in omega (arith, i, j)
        | inr q' ↦ tables-two_last m r n d f l a b (subst (λ x. dir m r x ≢ 0) q' a') (b' ∙ ap (λ x. dir m r x / 4096) q')
      ]
      | inr q ↦ elim (last-or e n k) [
        | inl l' ↦ tables-two_last m r n e f l' a' b' (subst (λ x. dir m r x ≢ 0) q a) (b ∙ ap (λ x. dir m r x / 4096) q)
        | inr q' ↦ absurd (ne (q ∙ sym q'))
      ]
    ]

pub tables-same : (m m' : List ℕ) (r n : ℕ) → ((d : ℕ) → d < n → dir m' r d ≡ dir m r d) → tables m' r n ≡ tables m r n
unfolding tables
tables-same m m' r zero h = refl
tables-same m m' r (suc n) h =
    ap (λ w. with_table w (tables m' r n)) (h n (omega arith))
    ∙ ap (with_table (dir m r n)) (tables-same m m' r n (λ d l. h d (omega (arith, l))))

-- one more table, under the PDE e
pub tables-grow : (m m' : List ℕ) (r n e f : ℕ) → e < n → ((d : ℕ) → d < n → d ≢ e → dir m' r d ≡ dir m r d) → dir m r e ≡ 0
    → dir m' r e ≢ 0 → times f (tables m' r n) ≡ hit f (dir m' r e / 4096) + times f (tables m r n)
unfolding tables
tables-grow m m' r zero e f l h z s = absurd (omega (arith, l))
tables-grow m m' r (suc n) e f l h z s =
    elim (last-or e n l) [
      | inl k ↦
          let i = tables-grow m m' r n e f k (λ d b ne. h d (omega (arith, b)) ne) z s in
          let w : dir m' r n ≡ dir m r n = h n (omega arith) (λ q. omega (arith, q, k)) in
          let a : times f (with_table (dir m' r n) (tables m' r n)) ≡ times f (with_table (dir m r n) (tables m' r n)) =
          ap (λ x. times f (with_table x (tables m' r n))) w in
          a ∙ elim (eqb_tells (dir m r n) 0) [
            | inl t ↦ ap (times f) (with_table-none _ (tables m' r n) t.1) ∙ i ∙ ap (λ x. hit f (dir m' r e / 4096) + times f x)
                (sym (with_table-none _ (tables m r n) t.1))
            | inr t ↦
                let b = times-table f (dir m r n) (tables m' r n) t.1 in
                let c = times-table f (dir m r n) (tables m r n) t.1 in
                omega (arith, i, b, c)
          ]
      | inr q ↦
          let s' : dir m' r n ≢ 0 = subst (λ x. dir m' r x ≢ 0) q s in
          let z' : dir m r n ≡ 0 = subst (λ x. dir m r x ≡ 0) q z in
          let same = tables-same m m' r n (λ d b. h d (omega (arith, b)) (λ k. omega (arith, k, q, b))) in
          let k = times-table f (dir m' r n) (tables m' r n) s' in
          let g = ap (times f) same in
          let v = ap (times f) (with_table-none (dir m r n) (tables m r n) z') in
          let u : hit f (dir m' r e / 4096) ≡ hit f (dir m' r n / 4096) = ap (λ x. hit f (dir m' r x / 4096)) q in
          omega (arith, k, g, v, u)
    ]

-- ---- the frames of all views

pub owned-cons : (m : List ℕ) (f r : ℕ) (rs : List ℕ) → times f (owned m (r ∷ rs)) ≡ hit f r
    + (times f (tables m r 1024) + times f (owned m rs))
unfolding owned
owned-cons m f r rs =
    times-cons f r (tables m r 1024 ++ owned m rs) ∙ ap (λ n. hit f r + n) (times-append f (tables m r 1024) (owned m rs))

pub owned-root : (m : List ℕ) (r : ℕ) (rs : List ℕ) → IsIn r rs → 1 ≤ times r (owned m rs)
owned-root m r [] i = absurd i
owned-root m r (s ∷ rs) i =
    let c = owned-cons m r s rs in
    elim i [
      | inl e ↦ let h : hit r s ≡ 1 = ap (hit r) (sym e) ∙ hit-self r in omega (arith, c, h)
      | inr j ↦ let k = owned-root m r rs j in omega (arith, c, k)
    ]

pub owned-table : (m : List ℕ) (r d f : ℕ) (rs : List ℕ) → IsIn r rs → d < 1024 → dir m r d ≢ 0 → f ≡ dir m r d / 4096
    → 1 ≤ times f (owned m rs)
owned-table m r d f [] i l ne e = absurd i
owned-table m r d f (s ∷ rs) i l ne e =
    let c = owned-cons m f s rs in
    elim i [
      | inl q ↦
          let k = tables-one m s 1024 d f l (subst (λ x. dir m x d ≢ 0) q ne) (e ∙ ap (λ x. dir m x d / 4096) q) in omega (arith, c, k)
      | inr j ↦ let k = owned-table m r d f rs j l ne e in omega (arith, c, k)
    ]

-- no table is a root
pub owned-both : (m : List ℕ) (r s d : ℕ) (rs : List ℕ) → IsIn r rs → IsIn s rs → d < 1024 → dir m s d ≢ 0 → r ≡ dir m s d / 4096
    → 2 ≤ times r (owned m rs)
owned-both m r s d [] i j l ne e = absurd i
owned-both m r s d (t ∷ rs) i j l ne e =
    let c = owned-cons m r t rs in
    elim i [
      | inl q ↦
          let h : hit r t ≡ 1 = ap (hit r) (sym q) ∙ hit-self r in
          elim j [
            | inl p ↦ let k =
                tables-one m t 1024 d r l (subst (λ x. dir m x d ≢ 0) p ne) (e ∙ ap (λ x. dir m x d / 4096) p) in omega (arith, c, h, k)
            | inr v ↦ let k = owned-table m s d r rs v l ne e in omega (arith, c, h, k)
          ]
      | inr u ↦ elim j [
        | inl p ↦
            let k = tables-one m t 1024 d r l (subst (λ x. dir m x d ≢ 0) p ne) (e ∙ ap (λ x. dir m x d / 4096) p) in
            let h = owned-root m r rs u in omega (arith, c, h, k)
        | inr v ↦ let k = owned-both m r s d rs u v l ne e in omega (arith, c, k)
      ]
    ]

-- a table is of one PDE alone
pub owned-sole : (m : List ℕ) (f r s d e : ℕ) (rs : List ℕ) → IsIn r rs → IsIn s rs → d < 1024 → e < 1024 → dir m r d ≢ 0
    → f ≡ dir m r d / 4096 → dir m s e ≢ 0 → f ≡ dir m s e / 4096 → times f (owned m rs) ≤ 1 → (s ≡ r) × (e ≡ d)
owned-sole m f r s d e [] i j ld le a b a' b' once = absurd i
owned-sole m f r s d e (t ∷ rs) i j ld le a b a' b' once =
    let c = owned-cons m f t rs in
    elim i [
      | inl q ↦
          let a1 : dir m t d ≢ 0 = subst (λ x. dir m x d ≢ 0) q a in
          let b1 : f ≡ dir m t d / 4096 = b ∙ ap (λ x. dir m x d / 4096) q in
          elim j [
            | inl p ↦
                let a2 : dir m t e ≢ 0 = subst (λ x. dir m x e ≢ 0) p a' in
                let b2 : f ≡ dir m t e / 4096 = b' ∙ ap (λ x. dir m x e / 4096) p in
                elim (eqb_tells e d) [
                  | inl k ↦ (p ∙ sym q, k.1)
                  | inr k ↦ absurd (let two = tables-two m t 1024 d e f ld le (λ z. k.1 (sym z)) a1 b1 a2 b2 in omega (arith, c, two, once))
                ]
            | inr v ↦ absurd (
                let k = tables-one m t 1024 d f ld a1 b1 in let h = owned-table m s e f rs v le a' b' in omega (arith, c, k, h, once))
          ]
      | inr u ↦ elim j [
        | inl p ↦ absurd (
            let k = tables-one m t 1024 e f le (subst (λ x. dir m x e ≢ 0) p a') (b' ∙ ap (λ x. dir m x e / 4096) p) in
            let h = owned-table m r d f rs u ld a b in omega (arith, c, k, h, once))
        | inr v ↦ owned-sole m f r s d e rs u v ld le a b a' b' (omega (arith, c, once))
      ]
    ]

pub owned-same : (m m' rs : List ℕ) → ((s d : ℕ) → IsIn s rs → d < 1024 → dir m' s d ≡ dir m s d) → owned m' rs ≡ owned m rs
unfolding owned
owned-same m m' [] h = refl
owned-same m m' (r ∷ rs) h =
    ap (λ (fs : List ℕ). r ∷ (fs ++ owned m' rs)) (tables-same m m' r 1024 (λ d l. h r d (inl refl) l))
    ∙ ap (λ (fs : List ℕ). r ∷ (tables m r 1024 ++ fs)) (owned-same m m' rs (λ s d i l. h s d (inr i) l))

pub IsIn-times : (r : ℕ) (rs : List ℕ) → IsIn r rs → 1 ≤ times r rs
IsIn-times r [] i = absurd i
IsIn-times r (s ∷ rs) i =
    let c = times-cons r s rs in
    elim i [
      | inl e ↦ let h : hit r s ≡ 1 = ap (hit r) (sym e) ∙ hit-self r in omega (arith, c, h)
      | inr j ↦ let k = IsIn-times r rs j in omega (arith, c, k)
    ]

pub roots-le : (m : List ℕ) (f : ℕ) (rs : List ℕ) → times f rs ≤ times f (owned m rs)
unfolding owned
roots-le m f [] = omega arith
roots-le m f (s ∷ rs) = let c = times-cons f s rs in let d = owned-cons m f s rs in let k = roots-le m f rs in omega (arith, c, d, k)

pub owned-grow : (m m' : List ℕ) (r e f : ℕ) (rs : List ℕ) → IsIn r rs → e < 1024 → times r rs ≤ 1
    → ((s d : ℕ) → IsIn s rs → d < 1024 → (s ≡ r → d ≡ e → ⊥) → dir m' s d ≡ dir m s d) → dir m r e ≡ 0 → dir m' r e ≢ 0
    → times f (owned m' rs) ≡ hit f (dir m' r e / 4096) + times f (owned m rs)
owned-grow m m' r e f [] i l once h z s = absurd i
owned-grow m m' r e f (t ∷ rs) i l once h z s =
    let c = owned-cons m f t rs in let c' = owned-cons m' f t rs in let o = times-cons r t rs in
    elim i [
      | inl q ↦
          let one : hit r t ≡ 1 = ap (hit r) (sym q) ∙ hit-self r in
          let rest = owned-same m m' rs (λ u d j b. h u d (inr j) b (λ w x.
          let k = IsIn-times u rs j in let k' = ap (λ y. times y rs) w in omega (arith, o, one, k, k', once))) in
          let g = tables-grow m m' t 1024 e f l (λ d b ne. h t d (inl refl) b (λ w x. ne x)) (subst (λ x. dir m x e ≡ 0) q z)
          (subst (λ x. dir m' x e ≢ 0) q s) in
          let v : hit f (dir m' r e / 4096) ≡ hit f (dir m' t e / 4096) = ap (λ x. hit f (dir m' x e / 4096)) q in
          let y = ap (times f) rest in
          omega (arith, c, c', g, v, y)
      | inr j ↦
          let k = IsIn-times r rs j in
          let ne : t ≢ r = λ w. (let one : hit r t ≡ 1 = ap (hit r) w ∙ hit-self r in omega (arith, o, one, k, once)) in
          let g = owned-grow m m' r e f rs j l (omega (arith, o, once)) (λ u d a b n. h u d (inr a) b n) z s in
          let y = ap (times f) (tables-same m m' t 1024 (λ d b. h t d (inl refl) b (λ w x. ne w))) in
          omega (arith, c, c', g, y)
    ]

pub tables-none : (m : List ℕ) (r n : ℕ) → ((d : ℕ) → d < n → dir m r d ≡ 0) → tables m r n ≡ []
unfolding tables
tables-none m r zero h = refl
tables-none m r (suc n) h =
    with_table-none (dir m r n) (tables m r n) (h n (omega arith)) ∙ tables-none m r n (λ d l. h d (omega (arith, l)))
