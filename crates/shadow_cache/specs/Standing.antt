-- The laws of `Roots` with the list of their frames. They stand here since an impl of the trait may name this folder alone.
use Rattle.std.proofs.Common.{◌≡◌, ℕ, List}
use Rattle.std.proofs.Math.Logic.{∥∥₁_elim, ∥∥₁_map}
use Rattle.frame_pool.specs.Held.{SameIn}
use Rattle.shadow_tables.specs.OtherRoot.{AreSame}
use Rattle.shadow_tables.specs.Slots.{slot_at, SameSlots}
use Rattle.shadow_cache.specs.OtherRoots.{other_roots_of}
use Rattle.shadow_cache.specs.Pairs.{frames_of, IsRoots}
use Rattle.shadow_cache.specs.Roots.{pairs_of, is_barred, IsStanding}
use Rattle.shadow_cache.specs.Laws.{AllBarWrites-prop, IsRoots-prop, roots-stay, kept-same, kept-barred, same-frames, same-slots, same-other_roots}
use Rattle.shadow_cache.specs.declared.roots.Roots.{Roots}

IsStanding-prop : (r : Roots) (m : List ℕ) → IsProp (IsStanding r m)
IsStanding-prop r m x y = λ i. record {
  roots = IsRoots-prop (pairs_of r) m x.roots y.roots i;
  barred = AllBarWrites-prop (is_barred r) (pairs_of r) m x.barred y.barred i;
}

pub stood : (r : Roots) (m : List ℕ) → ∥ IsStanding r m ∥₁ → IsStanding r m
stood r m h = ∥∥₁_elim h (IsStanding-prop r m) (λ x. x)

pub roots_in : (r : Roots) (m : List ℕ) → ∥ IsStanding r m ∥₁ → ∥ IsRoots (pairs_of r) m ∥₁
roots_in r m h = ∥∥₁_map h (λ x. x.roots)

pub stays_in : (r : Roots) (m m' : List ℕ) → ∥ IsStanding r m ∥₁ → SameIn (frames_of (pairs_of r) m) m m' → ∥ IsStanding r m' ∥₁
stays_in r m m' h e =
    ∥∥₁_map h (λ x.
    record {
      roots = roots-stay (pairs_of r) m m' x.roots e;
      barred = kept-barred (is_barred r) (pairs_of r) m m' (kept-same (pairs_of r) m m' x.roots.shadows e) x.barred;
    })

pub frames_in : (r : Roots) (m m' : List ℕ) → ∥ IsStanding r m ∥₁ → SameIn (frames_of (pairs_of r) m) m m'
    → frames_of (pairs_of r) m' ≡ frames_of (pairs_of r) m
frames_in r m m' h e = same-frames (pairs_of r) m m' (roots_in r m h) e

pub slots_in : (r : Roots) (m m' : List ℕ) → ∥ IsStanding r m ∥₁ → SameIn (frames_of (pairs_of r) m) m m'
    → SameSlots (slot_at r.present.shadow m) (slot_at r.present.shadow m')
slots_in r m m' h e = same-slots r.present r.others m m' (roots_in r m h) e

pub other_roots_in : (r : Roots) (m m' : List ℕ) → ∥ IsStanding r m ∥₁ → SameIn (frames_of (pairs_of r) m) m m'
    → AreSame (other_roots_of r.others m) (other_roots_of r.others m')
other_roots_in r m m' h e = same-other_roots r.present r.others m m' (roots_in r m h) e
