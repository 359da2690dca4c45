-- What each command comes to, where no load, store or put failed and memory was found. All of it follows from `complete`, a
-- clause of `top`; of `work`, which needs no files that tell, from `meaning` and `untouched`.
use Rattle.std.specs.Prelude.{◌≡◌, ◌≢◌, ◌≤◌, ℕ, List, Some, Ok}
use Rattle.pv_io.specs.Causes.{Rose}
use Rattle.pv_io.specs.Files.{FileMap}
use Rattle.pv_io.specs.Sink.{Appends}
use Rattle.kernel_gen.specs.Kernels.{kernel_text}
use Rattle.board.specs.Scripts.{Events}
use Rattle.elf_form.specs.ObjectParts.{ObjectParts}
use Rattle.elf_form.specs.ObjectLayout.{object_bytes}
use Rattle.elf_form.specs.ImageParts.{ImageParts}
use Rattle.elf_form.specs.ImageLayout.{image_bytes}
use Rattle.elf_link.specs.Linked.{linked_image}
use Rattle.image_check.specs.Image.{Image}
use Rattle.image_load.specs.Boot.{need}
use Rattle.guest_sched.specs.declared.kernel.Kernel.{Kernel}
use Rattle.guest_sched.specs.declared.schedule.Slice.{Slice}
use Rattle.guest_sched.specs.Shared.{AllFit}
use Rattle.checkpoint.specs.declared.state.State.{State}
use Rattle.checkpoint.specs.Fits.{fits_of}
use Rattle.trace_check.specs.declared.list.Choice.{Choice}
use Rattle.trace_check.specs.Judged.{judged}
use Rattle.pv_prove.specs.CertificateLines.{verdict_line}
use Rattle.pv_build.specs.Objects.{HasObjects, object_made_line}
use Rattle.pv_build.specs.Images.{HasImage, accepted_line, image_made_line}
use Rattle.pv_build.specs.Building.{Builds}
use Rattle.pv_share.specs.Kernels.{IsShared}
use Rattle.pv_save.specs.Checkpoints.{HasState}
use Rattle.pv_prove.specs.Certificates.{HasChoices}
use Rattle.pv_build.specs.declared.status.Status.{Status}
use Rattle.pv_build.specs.declared.status.Status.TheVariants as status
use Rattle.pv_words.specs.Words.{KernelNames, Command, Burn, Link, Check, RunBare, RunWedge, Work, Share, Save, SaveFrom, Continue, Prove, Replay, Asks}
use Rattle.pv_tasks.specs.Outside.{Outside}
use Rattle.pv_tasks.specs.Outcome.{Outcome, printed, stored_as}
use Rattle.pv_tasks.specs.Burning.{HasBurnt}
use Rattle.pv_tasks.specs.Running.{RunsBare}
use Rattle.pv_tasks.specs.Working.{Works}
use Rattle.pv_save.specs.Saving.{SavesBoot, SavesOn, is_wedge}
use Rattle.pv_save.specs.Continuing.{ContinuesOn}
use Rattle.pv_share.specs.Sharing.{SharesTurns}
use Rattle.pv_tasks.specs.Tasks.{NoFault, ComesTo, ComesToOne}
use Rattle.pv_tool.specs.Asked.{task_of}
use Rattle.pv_tool.specs.Headline.{HasRunnable, IsHeadline}
use Rattle.pv_tool.specs.Comparison.{IsComparison}
use Rattle.pv_tool.specs.Certified.{IsProof}
use Rattle.pv_words.specs.declared.mode.RunMode.{RunMode}
use Rattle.pv_tool.specs.Top.{Meaning, LoadsNone, Completes}

-- The words ask for the command, the files tell what they hold, no load, store or put failed, and memory was found.
pub record Unhindered (words : List (List ℕ)) (command : Command) (told : FileMap) (o : Outside) (st : Status) : Type 0 where
  pub asks : Asks words command
  pub files : o.before.files ≡ Some told
  pub no_fault : NoFault (task_of command) o
  pub memory : st ≢ status.Memory

-- work that is refused is reported so by its line, and changes no file
abbrev pub RefusesWork : List (List ℕ) → Outside → Status → Type 0
RefusesWork words o st =
    (command : Command) (told : FileMap) (w : Outcome)
    → Unhindered words command told o st → (task_of command).gives (Some told) w → w.status ≡ status.Refused
    → (st ≡ status.Refused) × (o.after.files ≡ o.before.files) × Appends o.before.taken o.after.taken w.text

-- ---- of one kernel

-- a source that is burnt is stored as its object
abbrev pub BurnsAll : List (List ℕ) → Outside → Status → Type 0
BurnsAll words o st =
    (source object : List ℕ) (told : FileMap) (p : ObjectParts)
    → Unhindered words (Burn source object) told o st → HasBurnt (Some told) source p
    → ComesTo (stored_as object (object_bytes p) (object_made_line p)) o st

-- objects that are linked are stored as their image
abbrev pub LinksAll : List (List ℕ) → Outside → Status → Type 0
LinksAll words o st =
    (image : List ℕ) (objects : List (List ℕ)) (told : FileMap) (os : List ObjectParts) (p : ImageParts)
    → Unhindered words (Link image objects) told o st → HasObjects (Some told) objects os → linked_image os ≡ Ok p
    → ComesTo (stored_as image (image_bytes p) (image_made_line p)) o st

-- an accepted image is reported as one
abbrev pub ChecksAll : List (List ℕ) → Outside → Status → Type 0
ChecksAll words o st =
    (image : List ℕ) (told : FileMap) (program : Image)
    → Unhindered words (Check image) told o st → HasImage (Some told) image program
    → ComesTo (printed (accepted_line program)) o st

-- the run of an accepted image, under a script that is read, in memory that is large enough, is printed
abbrev pub RunsOnBare : List (List ℕ) → Outside → Status → Type 0
RunsOnBare words o st =
    (image script : List ℕ) (frames n : ℕ) (told : FileMap) (program : Image) (events : Events)
    → Unhindered words (RunBare image script frames n) told o st → HasRunnable (Some told) image script program events
    → need program ≤ frames → ComesToOne (RunsBare frames n program events) o st

-- and that of a patched one, with the headline
abbrev pub RunsOnHost : List (List ℕ) → Outside → Status → Type 0
RunsOnHost words o st =
    (image script : List ℕ) (frames n : ℕ) (told : FileMap) (program : Image) (events : Events)
    → Unhindered words (RunWedge image script frames n) told o st → HasRunnable (Some told) image script program events
    → need program ≤ frames → IsHeadline program events frames n o st

-- `work` is done where its kernel is built, there are frames enough, no put failed and memory was found
abbrev pub WorkDone : List (List ℕ) → Outside → Status → Type 0
WorkDone words o st =
    (number : ℕ) (program : Image) → Asks words (Work number) → Builds (kernel_text number) (Ok program) → need program ≤ 4096
    → (Rose o.before.puts o.after.puts → ⊥) → st ≢ status.Memory → (st ≡ status.Done) × IsComparison number program o

-- or it is refused, where a part refuses the kernel
abbrev pub WorkRefused : List (List ℕ) → Outside → Status → Type 0
WorkRefused words o st =
    (number : ℕ) (w : Outcome) → Asks words (Work number) → Works number w → w.status ≡ status.Refused
    → (Rose o.before.puts o.after.puts → ⊥) → st ≢ status.Memory → ComesTo w o st

-- ---- of several kernels, checkpoints and certificates

-- several kernels, for each of which there are frames enough, run in the turns of their schedule
abbrev pub SharesAll : List (List ℕ) → Outside → Status → Type 0
SharesAll words o st =
    (schedule : List ℕ) (frames : ℕ) (names : List KernelNames) (told : FileMap) (kernels : List Kernel) (slices : List Slice)
    → Unhindered words (Share schedule frames names) told o st → IsShared (Some told) schedule names kernels slices → AllFit frames kernels
    → ComesToOne (SharesTurns frames kernels slices) o st

-- an image's state is saved after n steps, or its run ends at a stop
abbrev pub SavesAll : List (List ℕ) → Outside → Status → Type 0
SavesAll words o st =
    (on : RunMode) (image script : List ℕ) (frames n : ℕ) (file : List ℕ) (told : FileMap) (program : Image) (events : Events)
    → Unhindered words (Save on image script frames n file) told o st → HasRunnable (Some told) image script program events
    → need program ≤ frames → ComesToOne (SavesBoot on frames n file program events) o st

-- so is that of a run from a checkpoint that fits
abbrev pub SavesAgain : List (List ℕ) → Outside → Status → Type 0
SavesAgain words o st =
    (on : RunMode) (image script file : List ℕ) (n : ℕ) (new : List ℕ) (told : FileMap) (program : Image) (events : Events) (s : State)
    → Unhindered words (SaveFrom on image script file n new) told o st → HasRunnable (Some told) image script program events
    → HasState (Some told) file s → fits_of s program (is_wedge on) n ≡ Ok tt
    → ComesToOne (SavesOn on n new program events s) o st

-- a run goes on from a checkpoint that fits, to its end
abbrev pub ContinuesAll : List (List ℕ) → Outside → Status → Type 0
ContinuesAll words o st =
    (on : RunMode) (image script file : List ℕ) (n : ℕ) (told : FileMap) (program : Image) (events : Events) (s : State)
    → Unhindered words (Continue on image script file n) told o st → HasRunnable (Some told) image script program events
    → HasState (Some told) file s → fits_of s program (is_wedge on) n ≡ Ok tt
    → ComesToOne (ContinuesOn on n program events s) o st

-- the run of an accepted image, under a script that is read, in memory that is large enough, is printed, and its proof stored
abbrev pub ProvesAll : List (List ℕ) → Outside → Status → Type 0
ProvesAll words o st =
    (image script : List ℕ) (frames n : ℕ) (certificate : List ℕ) (told : FileMap) (program : Image) (events : Events)
    → Unhindered words (Prove image script frames n certificate) told o st → HasRunnable (Some told) image script program events
    → need program ≤ frames → IsProof program events frames n certificate o st

-- a text is judged where the files hold it, and all that it is judged by
abbrev pub JudgesAll : List (List ℕ) → Outside → Status → Type 0
JudgesAll words o st =
    (image script : List ℕ) (frames n : ℕ) (certificate text : List ℕ) (told : FileMap) (program : Image) (events : Events)
    (list : List Choice) (bytes : List ℕ)
    → Unhindered words (Replay image script frames n certificate text) told o st
    → HasRunnable (Some told) image script program events → HasChoices (Some told) certificate list → told text ≡ Some bytes
    → need program ≤ frames
    → ComesTo (printed (verdict_line (judged program events frames n list bytes))) o st

-- ---- as laws

-- so it is of all words, by what is said of complete work
abbrev pub Follows : (List (List ℕ) → Outside → Status → Type 0) → Type 0
Follows says = (words : List (List ℕ)) (o : Outside) (st : Status) → Completes words o st → says words o st

-- and so by what the status says, where work that reads no file doesn't end as a read fault
abbrev pub FollowsUnread : (List (List ℕ) → Outside → Status → Type 0) → Type 0
FollowsUnread says = (words : List (List ℕ)) (o : Outside) (st : Status) → Meaning words o st → LoadsNone words st → says words o st
