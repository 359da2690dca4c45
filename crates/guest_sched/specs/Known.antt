-- What is known of the translations of several kernels between two of their turns.
use Rattle.std.specs.Prelude.{◌≡◌, ◌⊎◌, ℕ, suc, true, List, [], ◌∷◌, Some, None}
use Rattle.std.specs.FinMap.{empty}
use Rattle.machine_model.specs.Keeping.{Roomy}
use Rattle.shadow_tables.specs.Entries.{entries_of}
use Rattle.shadow_cache.specs.Views as roots
use Rattle.wedge_core.specs.OfRoots.{of_roots}
use Rattle.wedge_step.specs.Carried.{IsCarried}
use Rattle.wedge_step.specs.Standing.{state_of}
use Rattle.guest_sched.specs.Apart.{Seat}
use Rattle.guest_sched.specs.Seating.{seats_from}
use Rattle.guest_sched.specs.Shared.{alone}
use Rattle.guest_sched.specs.Since.{Since}
use Rattle.guest_sched.specs.Stages.{Stage}
use Rattle.guest_sched.specs.declared.kernel.Kernel.{Kernel}

-- nothing is kept, and two frames are held
abbrev pub IsBare : Seat → Type 0
IsBare s = (entries_of (roots.slots s.running.shadows s.memory) ≡ empty) × (s.running.held ≡ 2)

-- After these steps, of a kernel that may go on: it is bare, and has made none of them; or all is known that its run carries from
-- step to step, while it is roomy.
abbrev pub IsKnownSince : ℕ → Kernel → Seat → Since → Type 0
IsKnownSince frames kernel s None = Unit {0}
IsKnownSince frames kernel s (Some past) =
    s.live ≡ true
    → ((past ≡ []) × IsBare s)
    ⊎ (Roomy past → IsCarried of_roots (alone kernel frames) past (state_of of_roots (alone kernel frames) s.running s.memory)
    s.running.shadows s.memory)

-- so of each kernel from this number on
abbrev pub EachKnown : (number frames : ℕ) → (ℕ → Since) → List Kernel → List Seat → Type 0
EachKnown number frames since [] seats = Unit {0}
EachKnown number frames since (kernel ∷ kernels) [] = Unit {0}
EachKnown number frames since (kernel ∷ kernels) (s ∷ seats) =
    IsKnownSince frames kernel s (since number) × EachKnown (suc number) frames since kernels seats

abbrev pub AreKnown : List Kernel → ℕ → (ℕ → Since) → Stage → Type 0
AreKnown kernels frames since s = EachKnown 0 frames since kernels (seats_from frames s.memory s.present 0 kernels s.tenants)
