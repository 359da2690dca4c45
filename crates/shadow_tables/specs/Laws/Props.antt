-- What holds of a memory of shadows has at most one proof.
use Rattle.std.proofs.Common.{◌≡◌, ◌≢◌, ℕ, ◌/◌, ◌%◌, ◌^◌, ◌<◌, List}
use Rattle.std.proofs.Props.{props}
use mathlib.Core.HLevel.{Π_prop}
use Rattle.frame_pool.proofs.Props.{Holds-prop}
use Rattle.shadow_views.specs.Tables.{dir, at, IsIn}
use Rattle.shadow_tables.specs.Slots.{roots, held, IsMarked, IsShadow}
use Rattle.shadow_tables.specs.declared.shadow.Shadow.{Shadow}

IsMarked-prop : (word : ℕ) → IsProp (IsMarked word)
IsMarked-prop word x y =
    let user_prop : IsProp (word / 4 % 2 ≡ 1) = Prim.hlevel props in
    let reads_prop : IsProp (word / 2 % 2 ≡ 1 → word % 2 ≡ 1) = Prim.hlevel props in
    let plain_prop : IsProp (word / 8 % 64 ≡ 0) = Prim.hlevel props in
    let fits_prop : IsProp (word < 2 ^ 32) = Prim.hlevel props in
    λ i. record {
      user = user_prop x.user y.user i;
      reads = reads_prop x.reads y.reads i;
      plain = plain_prop x.plain y.plain i;
      fits = fits_prop x.fits y.fits i;
    }

pub IsShadow-prop : (s : Shadow) (m : List ℕ) → IsProp (IsShadow s m)
IsShadow-prop s m x y =
    let apart_prop : IsProp ((page : ℕ) → page < 2 ^ 20 → at m s.kernel page ≢ 0 → at m s.user page ≡ 0) = Prim.hlevel props in
    let seven : (r d : ℕ) → IsProp (dir m r d % 4096 ≡ 7) = λ r d. Prim.hlevel props in
    let shape_prop : IsProp ((r d : ℕ) → IsIn r (roots s) → d < 1024 → dir m r d ≢ 0 → dir m r d % 4096 ≡ 7) =
    Π_prop (λ r. Π_prop (λ d. Π_prop (λ _. Π_prop (λ _. Π_prop (λ _. seven r d))))) in
    let marks_prop : IsProp ((r page : ℕ) → IsIn r (roots s) → page < 2 ^ 20 → at m r page ≢ 0 → IsMarked (at m r page)) =
    Π_prop (λ r. Π_prop (λ page. Π_prop (λ _. Π_prop (λ _. Π_prop (λ _. IsMarked-prop (at m r page)))))) in
    λ i. record {
      holds = Holds-prop m (held s m) x.holds y.holds i;
      apart = apart_prop x.apart y.apart i;
      shape = shape_prop x.shape y.shape i;
      marks = marks_prop x.marks y.marks i;
    }
