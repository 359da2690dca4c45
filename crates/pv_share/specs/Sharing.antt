-- The work of `share`: several kernels run on one host, in the turns of a schedule.
use Rattle.std.specs.Prelude.{◌≡◌, ℕ, ◌≤◌, Bool, true, false, List, [], ◌∷◌, ◌++◌, length, Option, Result, Ok, Err, if◌then◌else◌}
use Rattle.std.specs.List.{list_any, flat_map}
use Rattle.pv_io.specs.Files.{FileMap, Holds, IsHeld}
use Rattle.image_load.specs.declared.boot.TooSmall.{TooSmall}
use Rattle.run_trace.specs.declared.items.End.{End}
use Rattle.run_trace.specs.declared.items.End.TheVariants.{Bound, Stopped}
use Rattle.run_trace.specs.declared.items.Ended.{Ended}
use Rattle.guest_sched.specs.declared.kernel.Kernel.{Kernel}
use Rattle.guest_sched.specs.declared.schedule.Slice.{Slice}
use Rattle.guest_sched.specs.declared.fault.ScheduleCause.{ScheduleCause}
use Rattle.guest_sched.specs.Texts.{schedule_of}
use Rattle.guest_sched.specs.Pieces.{Piece, AreTurns, piece_text, shared_text, counts_over}
use Rattle.guest_sched.specs.Rounds.{EndsRound, HasBegunRound}
use Rattle.guest_sched.specs.Shared.{sites_in, EachRan, EachBegan, LinesAreAlone, FirstTooSmall, AllFit}
use Rattle.pv_build.specs.Lines.{too_small_line}
use Rattle.pv_share.specs.ScheduleLines.{schedule_line}
use Rattle.pv_words.specs.Words.{KernelNames}
use Rattle.pv_share.specs.Kernels.{HasKernels, NoKernel, IsShared, FindsKernels}
use Rattle.pv_build.specs.declared.status.Status.{Status}
use Rattle.pv_build.specs.declared.status.Status.TheVariants as status
use Rattle.pv_tasks.specs.Outcome.{Outcome, Turns, refused, told}
use Rattle.pv_tasks.specs.Tasks.{Task, plain}

abbrev pub is_stopped : End → Bool
is_stopped Bound = false
is_stopped (Stopped stop) = true

abbrev pub has_stopped : Ended → Bool
has_stopped ended = is_stopped ended.end

-- stopped, exactly where a kernel ended at a stop
abbrev pub status_of_all : List Ended → Status
status_of_all ended = if list_any has_stopped ended then status.Stopped else status.Done

-- The turns are those of the schedule, in its order. Each kernel's turns make a run of it alone, up to the sum of their steps.
-- Their text is printed, with the kernel's number before each line: the lines with a kernel's number, without it, are the text
-- of its run. Before each turn no more parked kernels were released than it needed.
pub record SharesTurns (frames : ℕ) (kernels : List Kernel) (slices : List Slice) (w : Outcome) : Type 0 where
  pub pieces : List Piece
  pub ended : List Ended
  pub turns : AreTurns [] slices pieces
  pub each : EachRan 0 frames slices pieces kernels ended
  pub lines : LinesAreAlone 0 (shared_text pieces ended) pieces ended
  pub rounds : (memory : List ℕ) × EndsRound kernels frames slices pieces memory ended
  pub comes : w ≡ told (status_of_all ended) (shared_text pieces ended) (Turns (λ before. counts_over (sites_in kernels) before pieces))

-- over what the schedule says: the first kernel for which there aren't frames enough is printed, or they run
pub data SharesOn (frames : ℕ) (kernels : List Kernel) (slices : List Slice) (w : Outcome) : Type 0 where
  Ran : AllFit frames kernels → SharesTurns frames kernels slices w → SharesOn frames kernels slices w
  Small : (small : TooSmall) → FirstTooSmall frames kernels small → w ≡ refused (too_small_line small.need small.have)
      → SharesOn frames kernels slices w

abbrev pub BySchedule : ℕ → List Kernel → Result (List Slice) (ℕ × ScheduleCause) → Outcome → Type 0
BySchedule frames kernels (Ok slices) w = SharesOn frames kernels slices w
BySchedule frames kernels (Err (line, cause)) w = w ≡ refused (schedule_line line cause)

-- The schedule's file is loaded first. Then come image by image and script, each read before the next is loaded. The schedule
-- is read last.
pub data Shares (files : Option FileMap) (schedule : List ℕ) (frames : ℕ) (names : List KernelNames) (w : Outcome) : Type 0 where
  NoneShared : (text line : List ℕ) → Holds files schedule text → NoKernel files names line → w ≡ refused line
      → Shares files schedule frames names w
  AllRead : (text : List ℕ) (kernels : List Kernel) → Holds files schedule text → HasKernels files names kernels
      → BySchedule frames kernels (schedule_of (length kernels) text) w
      → Shares files schedule frames names w

-- The text of the turns of the first slices, and of the first steps of one more: where the output fails in a turn, it fails
-- within such a text. Before each of these turns, that one too, no more parked kernels were released than it needed.
pub record SharesText (files : Option FileMap) (schedule : List ℕ) (frames : ℕ) (names : List KernelNames) (text : List ℕ) : Type 0 where
  pub kernels : List Kernel
  pub slices : List Slice
  pub shared : IsShared files schedule names kernels slices
  pub fit : AllFit frames kernels
  pub done : List Slice
  pub slice : Slice
  pub rest : List Slice
  pub slices_are : slices ≡ done ++ slice ∷ rest
  pub pieces : List Piece
  pub last : Piece
  pub turns : AreTurns [] done pieces
  pub kernel_is : last.kernel ≡ slice.kernel
  pub few : length last.reports ≤ slice.steps
  pub each : EachBegan 0 frames (pieces ++ last ∷ []) kernels
  pub text_is : text ≡ flat_map piece_text pieces ++ piece_text last
  pub rounds : HasBegunRound kernels frames done pieces slice last

-- what `share` asks for; it begins with the first turns
abbrev pub share_task : List ℕ → ℕ → List KernelNames → Task
share_task schedule frames kernels =
    record (plain (λ files w. Shares files schedule frames kernels w) (λ files. IsHeld files schedule × FindsKernels files kernels)) {
      begins = λ files text. SharesText files schedule frames kernels text;
      on_host = true;
    }
