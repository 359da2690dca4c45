-- A slice by each thing that it reports.
use Rattle.std.proofs.Common.{ℕ, Bool, List, Option, Result}
use Rattle.pv_io.specs.declared.answer.Failed.{Failed}
use Rattle.run_trace.specs.declared.pause.Pause.{Pause}
use Rattle.run_trace.specs.Notes.{Note}
use Rattle.machine_model.specs.State.{Setting, State}
use Rattle.wedge_core.specs.Counts.{Counts}
use Rattle.wedge_core.specs.Slices as slices
use Rattle.wedge_core.specs.Slices.{Knowing}

abbrev pub SliceAs : Setting → ℕ → State → State → Counts → Counts → Option (List ℕ) → Option (List ℕ) → ℕ → ℕ → ℕ → Bool
    → (List Note → Type 0) → Knowing → Result Pause Failed → Type 0
SliceAs m bound old new before after told tells pages fills filled notes_wanted on knows result =
    slices.SliceAs m bound old new (record { before = before; after = after; told = told; tells = tells })
    (record { pages = pages; fills = fills; filled = filled }) (record { notes_wanted = notes_wanted; on = on }) knows result
