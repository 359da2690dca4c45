-- The turns of kernels that share a host, with what each does to all of them: who comes into the host's memory, which parked
-- kernels are released, and how the one whose turn it is goes on.
use Rattle.std.specs.Prelude.{◌≡◌, ◌⊎◌, ℕ, ◌+◌, List, [], ◌∷◌, ◌++◌, length, map, slice_index_or, slice_set, Some, None, IfSome, Ok}
use Rattle.std.specs.FinMap.{len}
use Rattle.frame_pool.specs.Pool.{free_list}
use Rattle.std.specs.List.{All}
use Rattle.ia32_types.specs.declared.stop.Stop.{Stop}
use Rattle.run_trace.specs.declared.items.Ended.{Ended}
use Rattle.run_trace.specs.declared.pause.Pause.{Pause}
use Rattle.run_trace.specs.Pauses.{IfReached, end_of}
use Rattle.machine_model.specs.Run.{Set, Steps, StopHolds}
use Rattle.machine_model.specs.State.{Setting, State}
use Rattle.machine_model.specs.Taken.{Taken, steps_by}
use Rattle.machine_model.specs.Keeping.{Roomy, IsLeftBehind}
use Rattle.shadow_cache.specs.Views as roots
use Rattle.wedge_core.specs.KeptAfter.{KeptAfter}
use Rattle.wedge_core.specs.OfRoots.{of_roots}
use Rattle.wedge_core.specs.Slices.{PausesAs}
use Rattle.wedge_step.specs.Filled.{CountsFills, pages_kept}
use Rattle.wedge_step.specs.Pools.{Keeps}
use Rattle.wedge_step.specs.Standing.{state_of}
use Rattle.guest_sched.specs.Admitting.{IsAdmitted}
use Rattle.guest_sched.specs.Pieces.{Piece}
use Rattle.guest_sched.specs.Releases.{IsRoomMade}
use Rattle.guest_sched.specs.Seating.{HasBrought}
use Rattle.guest_sched.specs.Shared.{alone}
use Rattle.guest_sched.specs.Since.{Since, none_since, released_since, since_in, since_then, turned_since}
use Rattle.guest_sched.specs.Stages.{Stage, end_with, ended_of}
use Rattle.guest_sched.specs.declared.kernel.Kernel.{Kernel}
use Rattle.guest_sched.specs.declared.schedule.Slice.{Slice}
use Rattle.guest_sched.specs.declared.tenants.Tenant.{Tenant}

-- The kernel of a slice, which has met no stop, comes into the host's memory, and parked kernels are released.
pub record ComesIn (frames : ℕ) (slice : Slice) (old ready : Stage) : Type 0 where
  pub live : (d : Tenant) → (slice_index_or old.tenants slice.kernel d).stop ≡ None
  pub brought : Stage
  pub bring : HasBrought frames old.memory brought.memory old.present brought.present old.tenants brought.tenants
  pub same_pool : brought.pool ≡ old.pool
  pub present : brought.present ≡ slice.kernel
  pub room : IsRoomMade brought ready

-- what the rule lets be left after the last of these steps, if the run is roomy by then
abbrev pub IsLeftAfter : Setting → (past steps : List Taken) → State → Set → Type 0
IsLeftAfter m past steps last end = Roomy (past ++ steps) → IsLeftBehind m (past ++ steps) last end

-- The kernel that stands in the host's memory makes its turn, from the translations that it keeps. Frames move between it and
-- the free ones. All other kernels are as they were. Of the steps that it has made since its shadows were dropped, as long as
-- 464 frames were free or its own in each of these turns, the sets keep the rule for kept translations: those of this turn, by
-- all of these steps, and what is left after it.
pub record MakesTurn (kernels : List Kernel) (frames : ℕ) (slice : Slice) (p : Piece) (old new : Stage)
    (since since' : ℕ → Since) : Type 0 where
  pub number : (p.kernel ≡ old.present) × (new.present ≡ old.present)
  pub kernel : Kernel
  pub kernel_is : (d : Kernel) → slice_index_or kernels old.present d ≡ kernel
  pub tenant : Tenant
  pub tenant_is : (d : Tenant) → slice_index_or old.tenants old.present d ≡ tenant
  pub then_ : Tenant
  pub others : new.tenants ≡ slice_set old.tenants old.present then_
  pub ram : then_.ram ≡ tenant.ram
  pub keeps : Keeps old.pool new.pool old.memory new.memory (roots.frames tenant.guest.shadows old.memory)
      (roots.frames then_.guest.shadows new.memory)
  pub sets : List Set
  pub last : State
  pub end : Set
  pub pause : Pause
  pub steps : Steps (alone kernel frames) (state_of of_roots (alone kernel frames) tenant.guest old.memory) sets p.reports last
  pub ends : PausesAs (alone kernel frames) (tenant.guest.step + slice.steps) last
      (state_of of_roots (alone kernel frames) then_.guest new.memory) end (Ok pause)
  pub filled : All (λ (set : Set). CountsFills (pages_kept of_roots tenant.guest.shadows old.memory) (len set) tenant.guest.fills
      then_.guest.fills) (sets ++ end ∷ [])
  pub piece : (p.steps ≡ then_.guest.step) × (p.stop ≡ then_.stop)
  pub stop_is : end_with then_.stop ≡ end_of pause
  pub since_now : Since
  pub since_is : since_now ≡ since_in (length (free_list old.pool old.memory) + tenant.guest.held) (since old.present)
  pub kept : IfSome since_now
      (λ past. KeptAfter (alone kernel frames) past (state_of of_roots (alone kernel frames) tenant.guest old.memory) (sets ++ end ∷ []))
  pub left : IfSome since_now
      (λ past. IfReached (Ok pause) (IsLeftAfter (alone kernel frames) past
      (steps_by (alone kernel frames) (state_of of_roots (alone kernel frames) tenant.guest old.memory) sets) last end))
  pub since_goes : since' ≡ turned_since old.present
      (since_then (steps_by (alone kernel frames) (state_of of_roots (alone kernel frames) tenant.guest old.memory) sets) since_now) since

-- It makes some first steps of its turn, from the translations that it keeps. Where the line of a stop was begun, it stops
-- after them.
pub record BeginsTurn (kernels : List Kernel) (frames : ℕ) (p : Piece) (old : Stage) : Type 0 where
  pub number : p.kernel ≡ old.present
  pub kernel : Kernel
  pub kernel_is : (d : Kernel) → slice_index_or kernels old.present d ≡ kernel
  pub tenant : Tenant
  pub tenant_is : (d : Tenant) → slice_index_or old.tenants old.present d ≡ tenant
  pub sets : List Set
  pub last : State
  pub steps : Steps (alone kernel frames) (state_of of_roots (alone kernel frames) tenant.guest old.memory) sets p.reports last
  pub count : p.steps ≡ last.step
  pub stops : IfSome p.stop (StopHolds (alone kernel frames) last)

-- It comes in and makes its turn.
pub record IsRound (kernels : List Kernel) (frames : ℕ) (slice : Slice) (p : Piece) (old new : Stage) (since since' : ℕ → Since)
    : Type 0 where
  pub ready : Stage
  pub comes : ComesIn frames slice old ready
  pub turn : MakesTurn kernels frames slice p ready new (released_since comes.room.count ready.present since) since'

-- In the turn of one that has met a stop nothing is done.
pub record IsIdle (slice : Slice) (old new : Stage) (since since' : ℕ → Since) : Type 0 where
  pub stop : Stop
  pub met : (d : Tenant) → (slice_index_or old.tenants slice.kernel d).stop ≡ Some stop
  pub same : new ≡ old
  pub same_since : since' ≡ since

abbrev pub GoesRound : List Kernel → ℕ → Slice → Piece → Stage → Stage → (since since' : ℕ → Since) → Type 0
GoesRound kernels frames slice p old new since since' =
    IsIdle slice old new since since' ⊎ IsRound kernels frames slice p old new since since'

-- so the turns of slices, in their order
abbrev pub AreRounds : List Kernel → ℕ → List Slice → List Piece → Stage → Stage → (since since' : ℕ → Since) → Type 0
AreRounds kernels frames [] [] old new since since' = (new ≡ old) × (since' ≡ since)
AreRounds kernels frames [] (p ∷ pieces) old new since since' = ⊥
AreRounds kernels frames (slice ∷ slices) [] old new since since' = ⊥
AreRounds kernels frames (slice ∷ slices) (p ∷ pieces) old new since since' =
    (between : Stage) × (there : ℕ → Since) × GoesRound kernels frames slice p old between since there
    × AreRounds kernels frames slices pieces between new there since'

-- from kernels that were taken in, each where its run begins and with two frames of the pool, which has 512
pub record HasGoneRound (kernels : List Kernel) (frames : ℕ) (slices : List Slice) (pieces : List Piece) (last : Stage)
    (since : ℕ → Since) : Type 0 where
  pub first : Stage
  pub admitted : IsAdmitted kernels frames first.tenants first.pool first.present first.memory
  pub rounds : AreRounds kernels frames slices pieces first last none_since since

-- to a turn in which the output failed, after these
pub record HasBegunRound (kernels : List Kernel) (frames : ℕ) (slices : List Slice) (pieces : List Piece) (slice : Slice)
    (p : Piece) : Type 0 where
  pub between : Stage
  pub since : ℕ → Since
  pub gone : HasGoneRound kernels frames slices pieces between since
  pub ready : Stage
  pub comes : ComesIn frames slice between ready
  pub turn : BeginsTurn kernels frames p ready

-- to kernels that ended so, with the host's memory
pub record EndsRound (kernels : List Kernel) (frames : ℕ) (slices : List Slice) (pieces : List Piece) (memory : List ℕ)
    (ended : List Ended) : Type 0 where
  pub last : Stage
  pub since : ℕ → Since
  pub gone : HasGoneRound kernels frames slices pieces last since
  pub memory_is : last.memory ≡ memory
  pub ended_are : ended ≡ map ended_of last.tenants
