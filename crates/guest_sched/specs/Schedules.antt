-- What a list of slices meets.
use Rattle.std.specs.Prelude.{ℕ, ◌≤◌, ◌<◌, List, length}
use Rattle.std.specs.List.{All}
use Rattle.guest_sched.specs.declared.schedule.Slice.{Slice}
use Rattle.guest_sched.specs.Bounds.{max_slices, max_steps, bound_of}

-- a schedule as contracts see it
pub record SliceList : Type 0 where
  pub list : List Slice

-- one of so many kernels, and a number of steps
pub record IsSlice (kernels : ℕ) (slice : Slice) : Type 0 where
  pub known : slice.kernel < kernels
  pub some : 1 ≤ slice.steps
  pub most : slice.steps ≤ max_steps

-- as `read_schedule` gives it
pub record IsSchedule (kernels : ℕ) (slices : List Slice) : Type 0 where
  pub few : length slices ≤ max_slices
  pub each : All (IsSlice kernels) slices
  pub sums : (kernel : ℕ) → bound_of kernel slices ≤ max_steps
