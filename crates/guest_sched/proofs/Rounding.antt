-- One round more.
use Rattle.std.proofs.Common.{ℕ, List, [], ◌∷◌, ◌++◌, refl, subst}
use Rattle.guest_sched.specs.Pieces.{Piece}
use Rattle.guest_sched.specs.Rounds.{GoesRound, AreRounds}
use Rattle.guest_sched.specs.Since.{Since}
use Rattle.guest_sched.specs.Stages.{Stage}
use Rattle.guest_sched.specs.declared.kernel.Kernel.{Kernel}
use Rattle.guest_sched.specs.declared.schedule.Slice.{Slice}

pub rounds_on : (kernels : List Kernel) (frames : ℕ) (slices : List Slice) (pieces : List Piece) (slice : Slice) (p : Piece)
    (first between last : Stage) (a b c : ℕ → Since)
    → AreRounds kernels frames slices pieces first between a b → GoesRound kernels frames slice p between last b c
    → AreRounds kernels frames (slices ++ slice ∷ []) (pieces ++ p ∷ []) first last a c
rounds_on kernels frames [] [] slice p first between last a b c h next = (
  last,
  c,
  subst (λ (s : Stage). GoesRound kernels frames slice p s last a c) h.0
      (subst (λ (x : ℕ → Since). GoesRound kernels frames slice p between last x c) h.1 next),
  (refl, refl),
)
rounds_on kernels frames [] (q ∷ pieces) slice p first between last a b c h next = absurd h
rounds_on kernels frames (s ∷ slices) [] slice p first between last a b c h next = absurd h
rounds_on kernels frames (s ∷ slices) (q ∷ pieces) slice p first between last a b c h next =
    (h.0, h.1, h.2, rounds_on kernels frames slices pieces slice p h.0 between last h.1 b c h.3 next)
