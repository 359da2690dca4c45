-- What is known of several kernels between two of their turns.
use Rattle.std.specs.Prelude.{◌≡◌, ℕ, ◌+◌, ◌*◌, ◌^◌, ◌≤◌, ◌<◌, suc, true, false, List, [], ◌∷◌, ◌++◌, length, map, Option, Some, None, Result, Ok, Err}
use Rattle.std.specs.List.{All, flat_map}
use Rattle.ia32_types.specs.declared.stop.Stop.{Stop}
use Rattle.frame_pool.specs.Pool.{count_of}
use Rattle.frame_pool.specs.declared.Pool.{Pool}
use Rattle.pv_io.specs.Sink.{Appends}
use Rattle.run_trace.specs.declared.items.End.TheVariants.{Stopped}
use Rattle.run_trace.specs.Text.{lines_of, text_of}
use Rattle.machine_model.specs.Run.{trace_of}
use Rattle.wedge_core.specs.OfRoots.{of_roots}
use Rattle.wedge_step.specs.Standing.{state_of}
use Rattle.wedge_core.specs.Slices.{Counts, Outward}
use Rattle.guest_sched.specs.Admitting.{IsAdmitted}
use Rattle.guest_sched.specs.Apart.{Seat, AreApart}
use Rattle.guest_sched.specs.Known.{AreKnown}
use Rattle.guest_sched.specs.Legs.{HasRun, HasStopped}
use Rattle.guest_sched.specs.Pieces.{Piece, AreTurns, has_stopped, piece_text, reports_of, own_text, counts_over}
use Rattle.guest_sched.specs.Bounds.{bound_of}
use Rattle.guest_sched.specs.Rounds.{GoesRound, HasGoneRound}
use Rattle.guest_sched.specs.Schedules.{IsSchedule}
use Rattle.guest_sched.specs.Seating.{seats_from}
use Rattle.guest_sched.specs.Shared.{alone, sites_in, AllFit, FirstTooSmall}
use Rattle.guest_sched.specs.SharedRuns.{FailsInTurn}
use Rattle.guest_sched.specs.Since.{Since, none_since}
use Rattle.guest_sched.specs.Stages.{Stage, stage}
use Rattle.guest_sched.specs.declared.kernel.Kernel.{Kernel}
use Rattle.guest_sched.specs.declared.kernel.SharedFault.{SharedFault}
use Rattle.guest_sched.specs.declared.kernel.SharedFault.TheVariants as fault
use Rattle.guest_sched.specs.declared.schedule.Slice.{Slice}
use Rattle.guest_sched.specs.declared.tenants.Tenant.{Tenant}
use Rattle.guest_sched.specs.declared.tenants.Tenants.{Tenants}

-- How far the run of a kernel alone has come by these turns, and its text. One that has met a stop goes no further.
abbrev pub StandsSo : ℕ → ℕ → List Slice → List Slice → List Piece → Kernel → Seat → Option Stop → Type 0
StandsSo number frames whole done pieces kernel seat None =
    HasRun (alone kernel frames) (reports_of number pieces) seat.running.fills
    (state_of of_roots (alone kernel frames) seat.running seat.memory)
    × (seat.running.step ≡ bound_of number done) × (own_text number pieces ≡ lines_of (trace_of (reports_of number pieces)))
    × (has_stopped number pieces ≡ false)
StandsSo number frames whole done pieces kernel seat (Some stop) =
    HasStopped (alone kernel frames) (bound_of number whole) (reports_of number pieces) seat.running.fills stop seat.running.step
    × (own_text number pieces ≡ text_of (trace_of (reports_of number pieces)) seat.running.step (Stopped stop))
    × (has_stopped number pieces ≡ true)

-- so of each kernel, from this number on
abbrev pub EachStands : ℕ → ℕ → List Slice → List Slice → List Piece → List Kernel → List Seat → List (Option Stop) → Type 0
EachStands number frames whole done pieces [] [] [] = Unit {0}
EachStands number frames whole done pieces (kernel ∷ kernels) (seat ∷ seats) (stop ∷ stops) =
    StandsSo number frames whole done pieces kernel seat stop × EachStands (suc number) frames whole done pieces kernels seats stops
EachStands number frames whole done pieces kernels seats stops = ⊥

-- the stop that each has met, if any
abbrev pub stops_of : List Tenant → List (Option Stop)
stops_of tenants = map (λ (t : Tenant). t.stop) tenants

-- There are so many kernels, with room for their memory, and a pool for their shadows.
pub record HaveRoom (kernels : List Kernel) (frames : ℕ) (tenants : List Tenant) (pool : Pool) (present : ℕ) (host : List ℕ) : Type 0 where
  pub len : length tenants ≡ length kernels
  pub four : length kernels ≤ 4
  pub there : present < length tenants
  pub size : (2048 ≤ frames) × (frames ≤ 16384)
  pub room : 4096 * frames ≤ length host
  pub theirs : All (λ (t : Tenant). 4096 * frames ≤ length t.ram) tenants
  pub pool_is : count_of pool ≡ 512

-- Between two turns of a whole schedule, of which some are done: the kernels are apart, each one's run alone has come so far, the
-- sink has taken the text of the turns, and the host's counts follow them.
pub record IsBetween (kernels : List Kernel) (frames : ℕ) (whole done : List Slice) (pieces : List Piece) (s : Stage)
    (out : Outward) : Type 0 where
  pub rooms : HaveRoom kernels frames s.tenants s.pool s.present s.memory
  pub apart : AreApart frames s.pool s.memory (seats_from frames s.memory s.present 0 kernels s.tenants)
  pub turns : AreTurns [] done pieces
  pub each : EachStands 0 frames whole done pieces kernels (seats_from frames s.memory s.present 0 kernels s.tenants) (stops_of s.tenants)
  pub text : Appends out.told out.tells (flat_map piece_text pieces)
  pub counts : out.after ≡ counts_over (sites_in kernels) out.before pieces
  pub retired : out.after.retired ≤ out.before.retired + length done * 2 ^ 40

-- the slice whose turn comes next in a schedule for so many kernels
pub record IsNext (count : ℕ) (whole done : List Slice) (slice : Slice) : Type 0 where
  pub rest : List Slice
  pub whole_is : whole ≡ done ++ slice ∷ rest
  pub schedule : IsSchedule count whole

-- what is known before a turn
pub record StandsNext (kernels : List Kernel) (frames : ℕ) (slice : Slice) (s : Stage) (now : Counts) (new : Option (List ℕ)) : Type 0 where
  pub whole : List Slice
  pub done : List Slice
  pub pieces : List Piece
  pub before : Counts
  pub old : Option (List ℕ)
  pub next : IsNext (length kernels) whole done slice
  pub between : IsBetween kernels frames whole done pieces s (record { before = before; after = now; told = old; tells = new })
  pub few : before.retired ≤ 2 ^ 63

-- This turn goes its round, and what is known between two turns goes on over it, of translations too.
abbrev pub TurnGoes : List Kernel → ℕ → Slice → Stage → Stage → Outward → Type 0
TurnGoes kernels frames slice old new out =
    (whole done : List Slice) (pieces : List Piece) (before : Counts) (was : Option (List ℕ)) → IsNext (length kernels) whole done slice
    → IsBetween kernels frames whole done pieces old (record { before = before; after = out.before; told = was; tells = out.told })
    → (p : Piece) × IsBetween kernels frames whole (done ++ slice ∷ []) (pieces ++ p ∷ []) new
    (record { before = before; after = out.after; told = was; tells = out.tells })
    × ((since : ℕ → Since) → AreKnown kernels frames since old
    → (then_ : ℕ → Since) × GoesRound kernels frames slice p old new since then_ × AreKnown kernels frames then_ new)

-- the sink has failed in it
abbrev pub TurnFails : List Kernel → ℕ → Slice → Stage → Outward → Type 0
TurnFails kernels frames slice old out =
    (whole done : List Slice) (pieces : List Piece) (before : Counts) (was : Option (List ℕ)) → IsNext (length kernels) whole done slice
    → IsBetween kernels frames whole done pieces old (record { before = before; after = out.before; told = was; tells = out.told })
    → (since : ℕ → Since) → HasGoneRound kernels frames done pieces old since → FailsInTurn kernels whole frames was out.tells

-- Kernels that were admitted stand before the first turn of any schedule, with nothing put; or one of them has no room.
abbrev pub AdmitRefused : List Kernel → ℕ → SharedFault → Type 0
AdmitRefused kernels frames fault.Write = ⊥
AdmitRefused kernels frames (fault.TooSmall small) = FirstTooSmall frames kernels small
AdmitRefused kernels frames fault.Memory = Unit {0}

abbrev pub AdmitsAs : List Kernel → ℕ → List ℕ → Result Tenants SharedFault → Type 0
AdmitsAs kernels frames host (Ok tenants) =
    AllFit frames kernels × (tenants.frames ≡ frames)
    × IsAdmitted kernels frames tenants.list.items tenants.pool tenants.present host
    × AreKnown kernels frames none_since (stage tenants host)
    × ((whole : List Slice) (counts : Counts) (taken : Option (List ℕ)) → IsBetween kernels frames whole [] [] (stage tenants host)
    (record { before = counts; after = counts; told = taken; tells = taken }))
AdmitsAs kernels frames host (Err refusal) = AdmitRefused kernels frames refusal
