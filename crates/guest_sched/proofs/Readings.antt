-- Schedules that grow by a slice.
use Rattle.std.proofs.Common.{ℕ, ◌+◌, ◌<◌, ◌≤◌, List, [], ◌∷◌, ◌++◌, length, subst, inl, inr, arith, length-append}
use Rattle.std.proofs.lemmas.List.Elements.{All-append, All-cons, All-nil}
use Rattle.std.proofs.lemmas.Bool.Decides.{eqb_tells}
use Rattle.guest_sched.proofs.Sums.{bound_append, for_mine, for_another}
use Rattle.guest_sched.specs.declared.schedule.Slice.{Slice}
use Rattle.guest_sched.specs.Bounds.{max_steps, max_slices, bound_of}
use Rattle.guest_sched.specs.Schedules.{IsSlice, IsSchedule}

-- one slice more
sum_grown : (xs : List Slice) (s : Slice) → (kernel : ℕ) → bound_of kernel xs ≤ max_steps → bound_of s.kernel xs + s.steps ≤ max_steps →
    bound_of kernel (xs ++ s ∷ []) ≤ max_steps
sum_grown xs s kernel few own =
    let more = bound_append kernel xs (s ∷ []) in
    elim (eqb_tells s.kernel kernel) [
      | inl (is, same) ↦ omega (arith, more, for_mine kernel s is, few, subst (λ (k : ℕ). bound_of k xs + s.steps ≤ max_steps) same own)
      | inr (isnt, differ) ↦ omega (arith, more, for_another kernel s isnt, few)
    ]

pub grown : (kernels : ℕ) (xs : List Slice) (s : Slice) → IsSchedule kernels xs → IsSlice kernels s → length xs < max_slices →
    bound_of s.kernel xs + s.steps ≤ max_steps → IsSchedule kernels (xs ++ s ∷ [])
grown kernels xs s reading fits room own = record {
  few = omega (arith, length-append xs (s ∷ []), room);
  each = All-append (IsSlice kernels) xs (s ∷ []) reading.each (All-cons (IsSlice kernels) s [] fits (All-nil (IsSlice kernels)));
  sums = λ kernel. sum_grown xs s kernel (reading.sums kernel) own;
}
