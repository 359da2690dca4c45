-- Which parked kernels are released before a turn.
use Rattle.std.specs.Prelude.{◌≡◌, ◌≢◌, ℕ, zero, suc, ◌+◌, ◌≤◌, ◌<◌, length, slice_index_or}
use Rattle.frame_pool.specs.Pool.{free_list}
use Rattle.guest_sched.specs.Seating.{OneReleased}
use Rattle.guest_sched.specs.Stages.{Stage}
use Rattle.guest_sched.specs.declared.tenants.Tenant.{Tenant}

-- the frames that the present kernel's turn has: the free ones and its own
abbrev pub frames_for : Tenant → Stage → ℕ
frames_for d s = length (free_list s.pool s.memory) + (slice_index_or s.tenants s.present d).guest.held

-- Kernel n gives way, since there are fewer than 16 frames: it is released, or left as it is where it is the present one.
pub record GivesWay (n : ℕ) (old new : Stage) : Type 0 where
  pub present : new.present ≡ old.present
  pub few : (d : Tenant) → frames_for d old < 16
  pub here : n ≡ old.present → new ≡ old
  pub parked : n ≢ old.present → OneReleased n old new

-- so the first n kernels, in their order
abbrev pub FirstGiveWay : ℕ → Stage → Stage → Type 0
FirstGiveWay zero old new = new ≡ old
FirstGiveWay (suc n) old new = (between : Stage) × FirstGiveWay n old between × GivesWay n between new

-- They give way in their order until there are 16 frames, and no further.
pub record IsRoomMade (old new : Stage) : Type 0 where
  pub count : ℕ
  pub within : count ≤ length old.tenants
  pub first : FirstGiveWay count old new
  pub enough : (d : Tenant) → 16 ≤ frames_for d new
