-- What `run_shared` answers.
use Rattle.std.specs.Prelude.{◌⊎◌, ℕ, ◌≡◌, List, Result, Ok, Err, Vec}
use Rattle.std.specs.declared.alloc.Global.{Global}
use Rattle.pv_io.specs.Causes.{Rose}
use Rattle.pv_io.specs.Sink.{Appends}
use Rattle.run_trace.specs.declared.items.Ended.{Ended}
use Rattle.wedge_core.specs.Surroundings.{Around, IsUntouched}
use Rattle.guest_sched.specs.Shared.{AllFit, FirstTooSmall}
use Rattle.guest_sched.specs.SharedRuns.{FailsAtEnd, FailsInTurn, SharedRun}
use Rattle.guest_sched.specs.declared.kernel.Kernel.{Kernel}
use Rattle.guest_sched.specs.declared.kernel.SharedFault.{SharedFault}
use Rattle.guest_sched.specs.declared.kernel.SharedFault.TheVariants as fault
use Rattle.guest_sched.specs.declared.schedule.Slice.{Slice}

-- what stands after a refusal, with the host's memory
abbrev pub SharedRefused : List Kernel → List Slice → ℕ → Around → List ℕ → SharedFault → Type 0
SharedRefused kernels slices frames a memory fault.Write =
    AllFit frames kernels × (FailsInTurn kernels slices frames a.taken a.taken_after ⊎ FailsAtEnd kernels slices frames memory
    a.taken a.taken_after)
    × Rose a.faults a.faults_after
SharedRefused kernels slices frames a memory (fault.TooSmall small) = FirstTooSmall frames kernels small × IsUntouched a
SharedRefused kernels slices frames a memory fault.Memory = IsUntouched a

-- what stands after the turns, with the host's memory
abbrev pub SharedAnswers : List Kernel → List Slice → ℕ → Around → List ℕ → Result (Vec Ended Global) SharedFault → Type 0
SharedAnswers kernels slices frames a memory (Ok ended) =
    (text : List ℕ) × SharedRun kernels slices frames a.counts a.counts_after memory text ended.items × AllFit frames kernels
    × Appends a.taken a.taken_after text × (a.faults_after ≡ a.faults)
SharedAnswers kernels slices frames a memory (Err refusal) = SharedRefused kernels slices frames a memory refusal
