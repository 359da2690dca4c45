-- What stands after the turns of several kernels, and where their output failed.
use Rattle.std.specs.Prelude.{◌≡◌, ℕ, ◌≤◌, List, [], ◌∷◌, ◌++◌, length, Option}
use Rattle.std.specs.List.{flat_map}
use Rattle.pv_io.specs.Sink.{Appends, AppendsFront}
use Rattle.run_trace.specs.declared.items.Ended.{Ended}
use Rattle.wedge_core.specs.Counts.{Counts}
use Rattle.guest_sched.specs.declared.kernel.Kernel.{Kernel}
use Rattle.guest_sched.specs.declared.schedule.Slice.{Slice}
use Rattle.guest_sched.specs.Pieces.{Piece, AreTurns, piece_text, shared_text, counts_over}
use Rattle.guest_sched.specs.Shared.{EachRan, sites_in, LinesAreAlone, EachBegan}
use Rattle.guest_sched.specs.OwnEnds.{EachHasOwnEnd}
use Rattle.guest_sched.specs.Rounds.{EndsRound, HasBegunRound}

-- The turns are those of the schedule, in its order. Each kernel's turns make a run of it alone, with its own set at the end,
-- and the host's counts follow all of them. Before each turn no more parked kernels were released than it needed.
pub record SharedRun (kernels : List Kernel) (slices : List Slice) (frames : ℕ) (before after : Counts) (memory text : List ℕ)
    (ended : List Ended) : Type 0 where
  pub pieces : List Piece
  pub turns : AreTurns [] slices pieces
  pub each : EachRan 0 frames slices pieces kernels ended
  pub own : EachHasOwnEnd 0 frames slices pieces kernels ended each memory
  pub text_is : text ≡ shared_text pieces ended
  pub lines : LinesAreAlone 0 text pieces ended
  pub counts : after ≡ counts_over (sites_in kernels) before pieces
  pub rounds : EndsRound kernels frames slices pieces memory ended

-- The sink has failed in a turn: it has taken the text of the turns before, and a front of what the first steps of this one
-- give. Before this turn too no more parked kernels were released than it needed.
pub record FailsInTurn (kernels : List Kernel) (slices : List Slice) (frames : ℕ) (old new : Option (List ℕ)) : Type 0 where
  pub done : List Slice
  pub slice : Slice
  pub rest : List Slice
  pub slices_are : slices ≡ done ++ slice ∷ rest
  pub pieces : List Piece
  pub last : Piece
  pub turns : AreTurns [] done pieces
  pub kernel_is : last.kernel ≡ slice.kernel
  pub few : length last.reports ≤ slice.steps
  pub each : EachBegan 0 frames (pieces ++ last ∷ []) kernels
  pub between : Option (List ℕ)
  pub text : Appends old between (flat_map piece_text pieces)
  pub front : AppendsFront between new (piece_text last)
  pub rounds : HasBegunRound kernels frames done pieces slice last

-- The sink has failed in the last lines, after all turns.
pub record FailsAtEnd (kernels : List Kernel) (slices : List Slice) (frames : ℕ) (memory : List ℕ)
    (old new : Option (List ℕ)) : Type 0 where
  pub pieces : List Piece
  pub ended : List Ended
  pub turns : AreTurns [] slices pieces
  pub each : EachRan 0 frames slices pieces kernels ended
  pub rounds : EndsRound kernels frames slices pieces memory ended
  pub front : AppendsFront old new (shared_text pieces ended)
