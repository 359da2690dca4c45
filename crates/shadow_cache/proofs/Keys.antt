-- Pairs under keys, and what one change of the slab does to them.
use Rattle.std.proofs.Common.{◌≡◌, ◌≢◌, ℕ, zero, suc, ◌+◌, ◌<◌, List, [], ◌∷◌, length, get_or, slice_get, remove, Option, Some, None, IsSome, refl, sym, ap, ◌∙◌, subst, rules, arith}
use Rattle.frame_pool.specs.Frames.{IsNotIn, AreDistinct}
use Rattle.slab.specs.Slab.{Slab, get, slab_len, Updates}
use Rattle.shadow_cache.specs.declared.pair.Pair.{Pair}
use Rattle.shadow_cache.specs.Keyed.{with_some, listed, AreThere, IsKeyed}

some-is : (p : Pair) → IsSome (Some p)
some-is p = search rules

some-length : (o : Option Pair) (ps : List Pair) → IsSome o → length (with_some o ps) ≡ suc (length ps)
some-length None ps h = absurd cc
some-length (Some p) ps h = refl

pub listed-length : (slab : Slab Pair) (keys : List ℕ) → AreThere slab keys → length (listed slab keys) ≡ length keys
listed-length slab [] h = refl
listed-length slab (k ∷ ks) h = some-length (get slab k) (listed slab ks) h.0 ∙ ap suc (listed-length slab ks h.1)

pub there-at : (slab : Slab Pair) (keys : List ℕ) (i : ℕ) → AreThere slab keys → i < length keys → IsSome (get slab (get_or keys i 0))
there-at slab [] i h l = absurd (omega (arith, l))
there-at slab (k ∷ ks) zero h l = h.0
there-at slab (k ∷ ks) (suc i) h l = there-at slab ks i h.1 (omega (arith, l))

some-first : (o : Option Pair) (ps : List Pair) → IsSome o → slice_get (with_some o ps) 0 ≡ o
some-first None ps h = absurd cc
some-first (Some p) ps h = refl

some-later : (o : Option Pair) (ps : List Pair) (i : ℕ) → IsSome o → slice_get (with_some o ps) (suc i) ≡ slice_get ps i
some-later None ps i h = absurd cc
some-later (Some p) ps i h = refl

pub listed-at : (slab : Slab Pair) (keys : List ℕ) (i : ℕ) → AreThere slab keys → i < length keys
    → slice_get (listed slab keys) i ≡ get slab (get_or keys i 0)
listed-at slab [] i h l = absurd (omega (arith, l))
listed-at slab (k ∷ ks) zero h l = some-first (get slab k) (listed slab ks) h.0
listed-at slab (k ∷ ks) (suc i) h l = some-later (get slab k) (listed slab ks) i h.0 ∙ listed-at slab ks i h.1 (omega (arith, l))

-- ---- another key

pub not-in : (slab : Slab Pair) (key : ℕ) (keys : List ℕ) → get slab key ≡ None → AreThere slab keys → IsNotIn key keys
not-in slab key [] e h = tt
not-in slab key (k ∷ ks) e h = (
  (λ q. absurd (let x : IsSome (get slab key) = subst (λ y. IsSome (get slab y)) (sym q) h.0 in let y = subst IsSome e x in cc)),
  not-in slab key ks e h.1,
)

module _ (old new : Slab Pair) (key : ℕ) (slot : Option Pair) (u : Updates old new key slot) where
  pub listed-same : (keys : List ℕ) → IsNotIn key keys → listed new keys ≡ listed old keys
  listed-same [] n = refl
  listed-same (k ∷ ks) n =
      ap (λ o. with_some o (listed new ks)) (u.others k (λ e. n.0 (sym e))) ∙ ap (with_some (get old k)) (listed-same ks n.1)

  pub there-same : (keys : List ℕ) → IsNotIn key keys → AreThere old keys → AreThere new keys
  there-same [] n h = tt
  there-same (k ∷ ks) n h = (subst IsSome (sym (u.others k (λ e. n.0 (sym e)))) h.0, there-same ks n.1 h.1)

not-at : (keys : List ℕ) (k i : ℕ) → IsNotIn k keys → i < length keys → get_or keys i 0 ≢ k
not-at [] k i n l = absurd (omega (arith, l))
not-at (j ∷ js) k zero n l = λ e. n.0 (sym e)
not-at (j ∷ js) k (suc i) n l = not-at js k i n.1 (omega (arith, l))

-- ---- a key that goes

remove-first : (o : Option Pair) (ps qs : List Pair) → IsSome o → qs ≡ ps → qs ≡ remove (with_some o ps) 0
remove-first None ps qs h e = absurd cc
remove-first (Some q) ps qs h e = e

remove-later : (o : Option Pair) (ps qs : List Pair) (i : ℕ) → IsSome o → qs ≡ remove ps i
    → with_some o qs ≡ remove (with_some o ps) (suc i)
remove-later None ps qs i h e = absurd cc
remove-later (Some q) ps qs i h e = ap (λ (xs : List Pair). q ∷ xs) e

pub listed-remove : (old new : Slab Pair) (keys : List ℕ) (i : ℕ) → AreThere old keys → AreDistinct keys → i < length keys
    → Updates old new (get_or keys i 0) None → listed new (remove keys i) ≡ remove (listed old keys) i
listed-remove old new [] i h d l u = absurd (omega (arith, l))
listed-remove old new (k ∷ ks) zero h d l u =
    remove-first (get old k) (listed old ks) (listed new ks) h.0 (listed-same old new k None u ks d.0)
listed-remove old new (k ∷ ks) (suc i) h d l u =
    ap (λ o. with_some o (listed new (remove ks i))) (u.others k (λ e. not-at ks k i d.0 (omega (arith, l)) (sym e)))
    ∙ remove-later (get old k) (listed old ks) (listed new (remove ks i)) i h.0 (listed-remove old new ks i h.1 d.1 (omega (arith, l)) u)

not-removed : (keys : List ℕ) (k i : ℕ) → IsNotIn k keys → IsNotIn k (remove keys i)
not-removed [] k zero n = tt
not-removed [] k (suc i) n = tt
not-removed (j ∷ js) k zero n = n.1
not-removed (j ∷ js) k (suc i) n = (n.0, not-removed js k i n.1)

pub distinct-remove : (keys : List ℕ) (i : ℕ) → AreDistinct keys → AreDistinct (remove keys i)
distinct-remove [] zero d = tt
distinct-remove [] (suc i) d = tt
distinct-remove (k ∷ ks) zero d = d.1
distinct-remove (k ∷ ks) (suc i) d = (not-removed ks k i d.0, distinct-remove ks i d.1)

pub there-remove : (old new : Slab Pair) (keys : List ℕ) (i : ℕ) → AreThere old keys → AreDistinct keys → i < length keys
    → Updates old new (get_or keys i 0) None → AreThere new (remove keys i)
there-remove old new [] i h d l u = absurd (omega (arith, l))
there-remove old new (k ∷ ks) zero h d l u = there-same old new k None u ks d.0 h.1
there-remove old new (k ∷ ks) (suc i) h d l u = (
  subst IsSome (sym (u.others k (λ e. not-at ks k i d.0 (omega (arith, l)) (sym e)))) h.0,
  there-remove old new ks i h.1 d.1 (omega (arith, l)) u,
)

-- ---- the calls

pub default : (keys : List ℕ) (i d e : ℕ) → i < length keys → get_or keys i d ≡ get_or keys i e
default [] i d e l = absurd (omega (arith, l))
default (k ∷ ks) zero d e l = refl
default (k ∷ ks) (suc i) d e l = default ks i d e (omega (arith, l))

pub within : (slab : Slab Pair) (keys : List ℕ) (ps : List Pair) (i : ℕ) → IsKeyed slab keys → listed slab keys ≡ ps
    → i < length ps → i < length keys
within slab keys ps i k e l = let n =
    listed-length slab keys k.there in let q = ap (λ (xs : List Pair). length xs) e in omega (arith, n, q, l)

pub pushed : (old new : Slab Pair) (keys keys' : List ℕ) (key : ℕ) (p : Pair) → IsKeyed old keys → get old key ≡ None
    → Updates old new key (Some p) → slab_len new ≡ slab_len old + 1 → new.capacity ≡ old.capacity → keys' ≡ key ∷ keys → IsKeyed new keys'
    × (listed new keys' ≡ p ∷ listed old keys)
pushed old new keys keys' key p k v u n room e =
    let apart = not-in old key keys v k.there in
    let count = k.count in let r = k.room in
    subst (λ (xs : List ℕ). IsKeyed new xs × (listed new xs ≡ p ∷ listed old keys)) (sym e) (
      record {
        there = (subst IsSome (sym u.changed) (some-is p), there-same old new key (Some p) u keys apart k.there);
        distinct = (apart, k.distinct);
        count = omega (arith, n, count);
        room = omega (arith, room, r);
      },
      ap (λ o. with_some o (listed new keys)) u.changed ∙ ap (λ (xs : List Pair). p ∷ xs) (listed-same old new key (Some p) u keys apart),
    )

pub removed : (old new : Slab Pair) (keys keys' : List ℕ) (i key : ℕ) → IsKeyed old keys → i < length keys → key ≡ get_or keys i 0
    → Updates old new key None → slab_len new + 1 ≡ slab_len old → new.capacity ≡ old.capacity → keys' ≡ remove keys i → length keys'
    + 1 ≡ length keys → IsKeyed new keys' × (listed new keys' ≡ remove (listed old keys) i)
removed old new keys keys' i key k l q v n room e m =
    let u : Updates old new (get_or keys i 0) None = subst (λ x. Updates old new x None) q v in
    let count = k.count in let r = k.room in (
      record {
        there = subst (AreThere new) (sym e) (there-remove old new keys i k.there k.distinct l u);
        distinct = subst AreDistinct (sym e) (distinct-remove keys i k.distinct);
        count = omega (arith, n, count, m);
        room = omega (arith, room, r);
      },
      ap (listed new) e ∙ listed-remove old new keys i k.there k.distinct l u,
    )
