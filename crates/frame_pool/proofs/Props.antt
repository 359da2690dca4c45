-- Facts on pools that have at most one proof, so that a ghost field which holds one truncated gives it back.
use Rattle.std.proofs.Common.{◌≢◌, ℕ, ◌+◌, ◌*◌, ◌<◌, ◌≤◌, List, [], ◌∷◌, length}
use Rattle.std.proofs.Props.{props}
use Rattle.std.specs.Coded.{Unit-prop}
use mathlib.Core.HLevel.{Π_prop, ×_prop, ×₃_prop}
use Rattle.frame_pool.specs.Frames.{IsNotIn, AreDistinct, AreWithin}
use Rattle.frame_pool.specs.Pool.{free_list, Stands, IsOut}
use Rattle.frame_pool.specs.declared.Pool.{Pool}
use Rattle.frame_pool.specs.Held.{times, Holds, Owns}

IsNotIn-prop : (f : ℕ) (gs : List ℕ) → IsProp (IsNotIn f gs)
IsNotIn-prop f [] = Unit-prop
IsNotIn-prop f (g ∷ gs) = let here : IsProp (f ≢ g) = Prim.hlevel props in ×_prop here (IsNotIn-prop f gs)

AreDistinct-prop : (gs : List ℕ) → IsProp (AreDistinct gs)
AreDistinct-prop [] = Unit-prop
AreDistinct-prop (g ∷ gs) = ×_prop (IsNotIn-prop g gs) (AreDistinct-prop gs)

AreWithin-prop : (b n : ℕ) (gs : List ℕ) → IsProp (AreWithin b n gs)
AreWithin-prop b n [] = Unit-prop
AreWithin-prop b n (g ∷ gs) =
    let low : IsProp (b ≤ g) = Prim.hlevel props in
    let high : IsProp (g < b + n) = Prim.hlevel props in
    ×₃_prop low high (AreWithin-prop b n gs)

pub Stands-prop : (p : Pool) (m : List ℕ) → IsProp (Stands p m)
Stands-prop p m x y =
    let room_prop : IsProp (4096 * (p.base + p.count) ≤ length m) = Prim.hlevel props in
    λ i. record {
      room = room_prop x.room y.room i;
      within = AreWithin-prop p.base p.count (free_list p m) x.within y.within i;
      distinct = AreDistinct-prop (free_list p m) x.distinct y.distinct i;
    }

pub IsOut-prop : (p : Pool) (m : List ℕ) (f : ℕ) → IsProp (IsOut p m f)
IsOut-prop p m f x y =
    let low_prop : IsProp (p.base ≤ f) = Prim.hlevel props in
    let high_prop : IsProp (f < p.base + p.count) = Prim.hlevel props in
    λ i. record { low = low_prop x.low y.low i; high = high_prop x.high y.high i; out = IsNotIn-prop f (free_list p m) x.out y.out i }

pub Holds-prop : (m fs : List ℕ) → IsProp (Holds m fs)
Holds-prop m fs x y =
    let room_prop : IsProp ((f : ℕ) → 1 ≤ times f fs → 4096 * f + 4096 ≤ length m) = Prim.hlevel props in
    let once_prop : IsProp ((f : ℕ) → times f fs ≤ 1) = Prim.hlevel props in
    λ i. record { room = room_prop x.room y.room i; once = once_prop x.once y.once i }

pub Owns-prop : (p : Pool) (m fs : List ℕ) → IsProp (Owns p m fs)
Owns-prop p m fs x y =
    let out_prop : IsProp ((f : ℕ) → 1 ≤ times f fs → IsOut p m f) = Π_prop (λ f. Π_prop (λ h. IsOut-prop p m f)) in
    let once_prop : IsProp ((f : ℕ) → times f fs ≤ 1) = Prim.hlevel props in
    λ i. record { stands = Stands-prop p m x.stands y.stands i; out = out_prop x.out y.out i; once = once_prop x.once y.once i }
