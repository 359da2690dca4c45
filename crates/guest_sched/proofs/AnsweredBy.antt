-- What `run_shared` answers, over each part of what is around it.
use Rattle.std.specs.Prelude.{ℕ, List, Option, Result, Vec}
use Rattle.std.specs.declared.alloc.Global.{Global}
use Rattle.run_trace.specs.declared.items.Ended.{Ended}
use Rattle.wedge_core.specs.Counts.{Counts}
use Rattle.guest_sched.specs.Answers as answers
use Rattle.guest_sched.specs.declared.kernel.Kernel.{Kernel}
use Rattle.guest_sched.specs.declared.kernel.SharedFault.{SharedFault}
use Rattle.guest_sched.specs.declared.schedule.Slice.{Slice}

abbrev pub SharedAnswers : List Kernel → List Slice → ℕ → Option (List ℕ) → Option (List ℕ) → ℕ → ℕ → Counts → Counts → List ℕ
    → Result (Vec Ended Global) SharedFault → Type 0
SharedAnswers kernels slices frames old new before now counts counts_after memory result =
    answers.SharedAnswers kernels slices frames
    (record { taken = old; taken_after = new; faults = before; faults_after = now; counts = counts; counts_after = counts_after }) memory
    result
