-- What is read of several kernels and their schedule, and why nothing is shared.
use Rattle.std.specs.Prelude.{◌≡◌, ℕ, true, List, length, Option, Err}
use Rattle.std.specs.List.{All}
use Rattle.pv_io.specs.Files.{FileMap, Holds, IsHeld}
use Rattle.board.specs.ScriptForm.{is_script}
use Rattle.guest_sched.specs.declared.kernel.Kernel.{Kernel}
use Rattle.guest_sched.specs.declared.fault.ScheduleCause.{ScheduleCause}
use Rattle.guest_sched.specs.Texts.{schedule_of}
use Rattle.pv_share.specs.ScheduleLines.{schedule_line}
use Rattle.pv_words.specs.Words.{KernelNames}
use Rattle.pv_share.specs.Kernels.{HasKernels, FindsKernels, NoKernel}

-- kernels with scripts in the form, which the names hold
pub record AreKernels (files : Option FileMap) (names : List KernelNames) (kernels : List Kernel) : Type 0 where
  pub has : HasKernels files names kernels
  pub scripts : All (λ (kernel : Kernel). is_script kernel.script.list ≡ true) kernels

-- each name that is reached is held
abbrev pub FindsShared : Option FileMap → List ℕ → List KernelNames → Type 0
FindsShared files schedule names = IsHeld files schedule × FindsKernels files names

-- why nothing is shared: the first kernel that there is not, or then the schedule
pub data NoShared (files : Option FileMap) (schedule : List ℕ) (names : List KernelNames) (line : List ℕ) : Type 0 where
  NoneRead : (text : List ℕ) → Holds files schedule text → NoKernel files names line → NoShared files schedule names line
  NoSchedule : (text : List ℕ) (kernels : List Kernel) (at : ℕ) (cause : ScheduleCause) → Holds files schedule text
      → HasKernels files names kernels
      → schedule_of (length kernels) text ≡ Err (at, cause) → line ≡ schedule_line at cause → NoShared files schedule names line
