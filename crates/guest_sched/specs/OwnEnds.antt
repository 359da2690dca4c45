-- Whose set bounds what each kernel of a shared run has filled.
use Rattle.std.specs.Prelude.{◌≡◌, ℕ, suc, ◌*◌, List, [], ◌∷◌, drop}
use Rattle.run_trace.specs.declared.items.Ended.{Ended}
use Rattle.run_trace.specs.declared.items.End.{End}
use Rattle.run_trace.specs.declared.items.End.TheVariants.{Bound, Stopped}
use Rattle.machine_model.specs.State.{Setting, State}
use Rattle.machine_model.specs.Run.{EndsIn, Set}
use Rattle.wedge_core.specs.Guests.{HasGuest}
use Rattle.guest_sched.specs.declared.kernel.Kernel.{Kernel}
use Rattle.guest_sched.specs.declared.schedule.Slice.{Slice}
use Rattle.guest_sched.specs.Bounds.{bound_of}
use Rattle.guest_sched.specs.Pieces.{Piece}
use Rattle.guest_sched.specs.Shared.{alone, EachRan}

-- The set at the end of such a run: that by which it stops, or after its last step the guest's own. The guest stands there
-- over the kernel's memory, which goes on past its frames as the host's does, and has filled so many pages.
abbrev pub HasOwnEnd : (m : Setting) (n : ℕ) (last : State) (end : End) → EndsIn m n last end → Set → ℕ → List ℕ → Type 0
HasOwnEnd m n last Bound ends set fills host =
    (memory : List ℕ) × (drop (4096 * m.frames) memory ≡ drop (4096 * m.frames) host) × HasGuest m last Bound set fills memory
HasOwnEnd m n last (Stopped stop) ends set fills host = set ≡ ends.1.set

-- so of each kernel: the set to which its fills are compared is its own
abbrev pub EachHasOwnEnd : (number frames : ℕ) (slices : List Slice) (pieces : List Piece) (kernels : List Kernel) (ended : List Ended)
    → EachRan number frames slices pieces kernels ended → List ℕ → Type 0
EachHasOwnEnd number frames slices pieces [] [] each host = Unit {0}
EachHasOwnEnd number frames slices pieces [] (ended ∷ more) each host = ⊥
EachHasOwnEnd number frames slices pieces (kernel ∷ kernels) [] each host = ⊥
EachHasOwnEnd number frames slices pieces (kernel ∷ kernels) (ended ∷ more) each host =
    HasOwnEnd (alone kernel frames) (bound_of number slices) each.0.last ended.end each.0.run.ends each.0.fills.end ended.fills host
    × EachHasOwnEnd (suc number) frames slices pieces kernels more each.1 host
