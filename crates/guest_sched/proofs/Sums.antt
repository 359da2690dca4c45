-- The steps of a kernel in its slices, slice by slice.
use Rattle.std.proofs.Common.{◌≡◌, ℕ, ◌+◌, ◌<◌, true, false, List, [], ◌∷◌, ◌++◌, length, get_or, drop, refl, arith, add-one, drop-cons}
use Rattle.std.specs.Prelude.{◌==◌, if◌then◌else◌}
use Rattle.guest_sched.specs.declared.schedule.Slice.{Slice}
use Rattle.guest_sched.specs.Bounds.{bound_of}

abbrev pub steps_for : ℕ → Slice → ℕ
steps_for kernel slice = if slice.kernel == kernel then slice.steps else 0

pub bound_append : (kernel : ℕ) (xs ys : List Slice) → bound_of kernel (xs ++ ys) ≡ bound_of kernel xs + bound_of kernel ys
bound_append kernel [] ys = omega arith
bound_append kernel (x ∷ xs) ys = let rest = bound_append kernel xs ys in omega (arith, rest)

-- the slice at i, and those after it
pub bound_at : (kernel : ℕ) (slices : List Slice) (i : ℕ) (other : Slice) → i < length slices →
    bound_of kernel (drop i slices) ≡ steps_for kernel (get_or slices i other) + bound_of kernel (drop (i + 1) slices)
bound_at kernel slices i other within = rw (add-one, drop-cons slices i other within) refl

pub for_mine : (kernel : ℕ) (slice : Slice) → (slice.kernel == kernel) ≡ true → steps_for kernel slice ≡ slice.steps
for_mine kernel slice is = rw is refl

pub for_another : (kernel : ℕ) (slice : Slice) → (slice.kernel == kernel) ≡ false → steps_for kernel slice ≡ 0
for_another kernel slice isnt = rw isnt refl
