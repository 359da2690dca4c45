-- What is said of turns and of what is between them, over each of its parts.
use Rattle.std.specs.Prelude.{ℕ, List, Option, Result}
use Rattle.frame_pool.specs.declared.Pool.{Pool}
use Rattle.pv_io.specs.declared.answer.Failed.{Failed}
use Rattle.run_trace.specs.declared.pause.Pause.{Pause}
use Rattle.machine_model.specs.State.{Setting, State}
use Rattle.wedge_core.specs.Counts.{Counts}
use Rattle.guest_sched.specs.Between as between
use Rattle.guest_sched.specs.Pieces.{Piece}
use Rattle.guest_sched.specs.Turns as turns
use Rattle.guest_sched.specs.Went as went
use Rattle.guest_sched.specs.declared.kernel.Kernel.{Kernel}
use Rattle.guest_sched.specs.declared.schedule.Slice.{Slice}
use Rattle.guest_sched.specs.declared.tenants.Tenant.{Tenant}

abbrev pub TurnAs : Setting → List ℕ → ℕ → State → State → Counts → Counts → Option (List ℕ) → Option (List ℕ) → ℕ → ℕ → ℕ
    → Result Pause Failed → Type 0
TurnAs m tag bound old new before after taken tells pages fills filled result =
    turns.TurnAs m tag bound old new (record { before = before; after = after; told = taken; tells = tells })
    (record { pages = pages; fills = fills; filled = filled }) result

abbrev pub HasTurned : Kernel → ℕ → ℕ → Pool → List ℕ → List ℕ → Tenant → Tenant → Counts → Counts → Option (List ℕ) → Option (List ℕ)
    → Type 0
HasTurned kernel number steps pool host host' old new before after taken tells =
    went.HasTurned kernel number steps pool host host' old new (record { before = before; after = after; told = taken; tells = tells })

abbrev pub IsBetween : List Kernel → ℕ → List Slice → List Slice → List Piece → List Tenant → Pool → ℕ → List ℕ → Counts → Counts
    → Option (List ℕ) → Option (List ℕ) → Type 0
IsBetween kernels frames whole done pieces tenants pool present host before now old new =
    between.IsBetween kernels frames whole done pieces (record { tenants = tenants; pool = pool; present = present; memory = host })
    (record { before = before; after = now; told = old; tells = new })

abbrev pub StandsNext : List Kernel → ℕ → Slice → List Tenant → Pool → ℕ → List ℕ → Counts → Option (List ℕ) → Type 0
StandsNext kernels frames slice tenants pool present host now new =
    between.StandsNext kernels frames slice (record { tenants = tenants; pool = pool; present = present; memory = host }) now new
