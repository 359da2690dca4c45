-- Three calls in a row: frames are only noted, then reported, then filled.
use Rattle.std.proofs.Common.{◌≡◌, ℕ, List}
use Rattle.frame_pool.specs.Held.{Owns, Moves, Writes}
use Rattle.frame_pool.specs.declared.Pool.{Pool}
use Rattle.frame_pool.proofs.Held.{Owns-moves, Moves-trans, Moves-kept}

module _ (p p2 p3 : Pool) (m m1 m2 m3 fs fs1 fs2 fs3 : List ℕ) (o : Owns p m fs) (e : fs1 ≡ fs) (w : Writes fs m m1) where
  read_from : Moves p p m m1 fs fs1
  read_from = Moves-kept p m m1 fs fs1 o e w

  pub owns-read_from : Owns p m1 fs1
  owns-read_from = Owns-moves p p m m1 fs fs1 o read_from

  pub owns-told : Moves p p2 m1 m2 fs1 fs2 → Owns p2 m2 fs2
  owns-told v = Owns-moves p p2 m1 m2 fs1 fs2 owns-read_from v

  pub moves-all : Moves p p2 m1 m2 fs1 fs2 → Moves p2 p3 m2 m3 fs2 fs3 → Moves p p3 m m3 fs fs3
  moves-all v u = Moves-trans p p2 p3 m m2 m3 fs fs2 fs3 (Moves-trans p p p2 m m1 m2 fs fs1 fs2 read_from v) u

  pub owns-all : Moves p p2 m1 m2 fs1 fs2 → Moves p2 p3 m2 m3 fs2 fs3 → Owns p3 m3 fs3
  owns-all v u = Owns-moves p p3 m m3 fs fs3 o (moves-all v u)
