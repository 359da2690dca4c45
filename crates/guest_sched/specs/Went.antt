-- A kernel's turn with its last line, where it met a stop.
use Rattle.std.specs.Prelude.{◌≡◌, ℕ, ◌+◌, ◌*◌, ◌≤◌, List, length, Option, Some, None, IfSome, Ok}
use Rattle.frame_pool.specs.declared.Pool.{Pool}
use Rattle.pv_io.specs.Sink.{Appends, AppendsFront}
use Rattle.run_trace.specs.Text.{end_line}
use Rattle.run_trace.specs.declared.items.End.TheVariants as end
use Rattle.run_trace.specs.declared.pause.Pause.{Pause}
use Rattle.run_trace.specs.declared.pause.Pause.TheVariants.{Reached, Stopped}
use Rattle.machine_model.specs.Run.{Set, Steps, StopHolds}
use Rattle.machine_model.specs.State.{State, wedge}
use Rattle.wedge_core.specs.OfRoots.{of_roots}
use Rattle.wedge_core.specs.Slices.{Outward}
use Rattle.wedge_step.specs.Filled.{pages_kept}
use Rattle.wedge_step.specs.Scene.{scene}
use Rattle.wedge_step.specs.Standing.{state_of}
use Rattle.guest_sched.specs.Pieces.{Piece, piece_text}
use Rattle.guest_sched.specs.Tags.{tag_of, tagged}
use Rattle.guest_sched.specs.Turns.{TurnAs, TurnKept, knowing_in}
use Rattle.guest_sched.specs.declared.kernel.Kernel.{Kernel}
use Rattle.guest_sched.specs.declared.tenants.Tenant.{Tenant}

abbrev pub EndsSo : ℕ → Tenant → Option (List ℕ) → Option (List ℕ) → Pause → Type 0
EndsSo number new taken tells Reached = (new.stop ≡ None) × (tells ≡ taken)
EndsSo number new taken tells (Stopped stop) =
    (new.stop ≡ Some stop) × Appends taken tells (tagged (tag_of number) (end_line new.guest.step (end.Stopped stop)))

-- The steps of a turn were made, all of them or those up to a stop, whose line stands after theirs.
pub record HasTurned (kernel : Kernel) (number steps : ℕ) (pool : Pool) (host host' : List ℕ) (old new : Tenant)
    (out : Outward) : Type 0 where
  pub pause : Pause
  pub between : Option (List ℕ)
  pub turn : TurnAs (wedge kernel.image kernel.script.list old.guest.frames) (tag_of number) (old.guest.step + steps)
      (state_of of_roots (wedge kernel.image kernel.script.list old.guest.frames) old.guest host)
      (state_of of_roots (wedge kernel.image kernel.script.list old.guest.frames) new.guest host')
      (record out { tells = between })
      (record {
        pages = pages_kept of_roots old.guest.shadows host;
        fills = old.guest.fills;
        filled = new.guest.fills;
      }) (Ok pause)
  pub kept : TurnKept (wedge kernel.image kernel.script.list old.guest.frames)
      (state_of of_roots (wedge kernel.image kernel.script.list old.guest.frames) old.guest host) turn.sets turn.last turn.end
      (knowing_in (wedge kernel.image kernel.script.list old.guest.frames) kernel (scene old.guest pool host) (scene new.guest pool host'))
      (Ok pause)
  pub ends : EndsSo number new between out.tells pause
  pub few : new.guest.fills ≤ 128 * new.guest.step

-- The sink has failed: some first steps of the turn, and the stop after them if its line was begun, with a front of their text.
pub record HasFailed (kernel : Kernel) (number steps : ℕ) (host : List ℕ) (old : Tenant) (taken tells : Option (List ℕ)) : Type 0 where
  pub sets : List Set
  pub piece : Piece
  pub last : State
  pub number_is : piece.kernel ≡ number
  pub steps_are : Steps (wedge kernel.image kernel.script.list old.guest.frames)
      (state_of of_roots (wedge kernel.image kernel.script.list old.guest.frames) old.guest host) sets piece.reports last
  pub few : length piece.reports ≤ steps
  pub count : piece.steps ≡ last.step
  pub stops : IfSome piece.stop (StopHolds (wedge kernel.image kernel.script.list old.guest.frames) last)
  pub front : AppendsFront taken tells (piece_text piece)
