-- The words of both views, and what a change of other frames leaves as it was.
use Rattle.std.proofs.Common.{◌≡◌, ◌≢◌, ℕ, ◌^◌, ◌<◌, ◌⊎◌, ◌/◌, ◌%◌, List, refl, sym, ap, ◌∙◌, subst, inl, inr}
use Rattle.std.proofs.lemmas.Bool.Decides.{eqb_tells}
use Rattle.frame_pool.specs.Held.{Holds, SameIn}
use Rattle.shadow_views.specs.Tables.{dir, at, IsIn}
use Rattle.frame_pool.proofs.Held.{Holds-writes}
use Rattle.shadow_views.proofs.Counts.{owned-root, owned-table, owned-same}
use Rattle.shadow_views.proofs.Changes.{dir-frame, at-same, high}
use Rattle.shadow_tables.specs.Slots.{roots, root_of, held, slot_at, by_words, IsMarked, IsShadow}
use Rattle.shadow_tables.specs.declared.shadow.Shadow.{Shadow}
use Rattle.shadow_tables.specs.declared.words.Side.{Side}
use Rattle.shadow_tables.specs.declared.words.Side.TheVariants.{Kernel, User}

pub in-kernel : (s : Shadow) → IsIn s.kernel (roots s)
in-kernel s = inl refl

pub in-user : (s : Shadow) → IsIn s.user (roots s)
in-user s = inr (inl refl)

pub in-root : (s : Shadow) (side : Side) → IsIn (root_of s side) (roots s)
in-root s Kernel = inl refl
in-root s User = inr (inl refl)

pub slot-same : (s : Shadow) (m m' : List ℕ) (q : ℕ) → at m' s.kernel q ≡ at m s.kernel q → at m' s.user q ≡ at m s.user q
    → slot_at s m' q ≡ slot_at s m q
unfolding slot_at
slot-same s m m' q a b = ap (λ x. by_words q x (at m' s.user q)) a ∙ ap (by_words q (at m s.kernel q)) b

pub Holds-along : (m fs fs' : List ℕ) → fs' ≡ fs → Holds m fs → Holds m fs'
Holds-along m fs fs' e h = subst (Holds m) (sym e) h

abbrev pub word_in : Side → ℕ → ℕ → ℕ
word_in Kernel k u = k
word_in User k u = u

pub at-side : (s : Shadow) (m : List ℕ) (side : Side) (q : ℕ) → at m (root_of s side) q ≡ word_in side (at m s.kernel q) (at m s.user q)
at-side s m Kernel q = refl
at-side s m User q = refl

-- one of both is 0, stated in two ways
pub one-none : (k u : ℕ) → (k ≢ 0 → u ≡ 0) → (k ≡ 0) ⊎ (u ≡ 0)
one-none k u h = elim (eqb_tells k 0) [ inl t ↦ inl t.1 | inr n ↦ inr (h n.1) ]

pub none-one : (k u : ℕ) → (k ≡ 0) ⊎ (u ≡ 0) → k ≢ 0 → u ≡ 0
none-one k u h ne = elim h [ inl e ↦ absurd (ne e) | inr e ↦ e ]

-- ---- writes elsewhere

module _ (s : Shadow) (m m' : List ℕ) (h : IsShadow s m) (e : SameIn (held s m) m m') where
  apart-dirs : (r d : ℕ) → IsIn r (roots s) → d < 1024 → dir m' r d ≡ dir m r d
  apart-dirs r d i l = dir-frame m m' r d (e.frames r (owned-root m r (roots s) i)) l

  apart-words : (r q : ℕ) → IsIn r (roots s) → q < 2 ^ 20 → at m' r q ≡ at m r q
  apart-words r q i l =
      at-same m m' r q (apart-dirs r (q / 1024) i (high q l))
      (λ ne. e.frames (dir m r (q / 1024) / 4096) (owned-table m r (q / 1024) (dir m r (q / 1024) / 4096) (roots s) i (high q l) ne refl))

  pub held-stays : held s m' ≡ held s m
  held-stays = owned-same m m' (roots s) apart-dirs

  pub slot_at-stays : (q : ℕ) → q < 2 ^ 20 → slot_at s m' q ≡ slot_at s m q
  slot_at-stays q l = slot-same s m m' q (apart-words s.kernel q (in-kernel s) l) (apart-words s.user q (in-user s) l)

  pub IsShadow-stays : IsShadow s m'
  IsShadow-stays =
      record {
        holds = Holds-along m' (held s m) (held s m') held-stays (Holds-writes (held s m) m m' h.holds e.size);
        apart = λ q l ne. (let e = apart-words s.kernel q (in-kernel s) l in
            apart-words s.user q (in-user s) l ∙ h.apart q l (λ z. ne (e ∙ z)));
        shape = λ r d i l ne. (let e' = apart-dirs r d i l in subst (λ x. x % 4096 ≡ 7) (sym e') (h.shape r d i l (λ z. ne (e' ∙ z))));
        marks = λ r q i l ne. (let e' = apart-words r q i l in subst IsMarked (sym e') (h.marks r q i l (λ z. ne (e' ∙ z))));
      }
