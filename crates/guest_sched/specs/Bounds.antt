-- How long a schedule is at most, and the bound that it sets a kernel's run.
use Rattle.std.specs.Prelude.{ℕ, ◌+◌, ◌^◌, ◌==◌, List, [], ◌∷◌, if◌then◌else◌}
use Rattle.guest_sched.specs.declared.schedule.Slice.{Slice}

abbrev pub max_slices : ℕ
max_slices = 1024

-- the most steps of a slice, and of all slices of a kernel together
abbrev pub max_steps : ℕ
max_steps = 2 ^ 40

-- how many steps a kernel makes in all of its slices: the bound of its run
abbrev pub bound_of : ℕ → List Slice → ℕ
bound_of kernel [] = 0
bound_of kernel (slice ∷ rest) = (if slice.kernel == kernel then slice.steps else 0) + bound_of kernel rest
