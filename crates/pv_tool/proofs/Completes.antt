-- Where no fault came and memory was found, valid files lead to the end of the work.
use Rattle.std.proofs.Common.{◌≡◌, ℕ, ◌≤◌, List, Some, Result, Ok, refl, sym, ap, subst}
use Rattle.pv_io.specs.Files.{FileMap}
use Rattle.board.specs.Scripts.{Events}
use Rattle.elf_form.specs.ObjectLayout.{object_bytes}
use Rattle.elf_form.specs.ImageLayout.{image_bytes}
use Rattle.image_check.specs.Image.{Image}
use Rattle.image_load.specs.Boot.{need}
use Rattle.guest_sched.specs.declared.schedule.Slice.{Slice}
use Rattle.guest_sched.specs.declared.fault.ScheduleCause.{ScheduleCause}
use Rattle.checkpoint.specs.declared.state.State.{State}
use Rattle.checkpoint.specs.Fits.{fits_of}
use Rattle.pv_build.specs.Objects.{object_made_line}
use Rattle.pv_build.specs.Images.{HasImage, accepted_line, image_made_line}
use Rattle.pv_build.specs.Scripts.{HasScript}
use Rattle.pv_save.specs.Checkpoints.{HasState}
use Rattle.pv_build.specs.declared.status.Status.{Status}
use Rattle.pv_words.specs.Words.{Command, Burn, Link, Check, RunBare, Share, Save, SaveFrom, Continue}
use Rattle.pv_tasks.specs.Outside.{Outside}
use Rattle.pv_tasks.specs.Outcome.{Outcome, printed, stored_as}
use Rattle.pv_tasks.specs.Linking.{linked, Links, AllRead}
use Rattle.pv_tasks.specs.Checking.{checked}
use Rattle.pv_tasks.specs.Running.{RunsBare, Reads, Runs}
use Rattle.pv_save.specs.Saving.{SavesBoot, SavesOn, FromFile, is_wedge}
use Rattle.pv_save.specs.Continuing.{ContinuesOn}
use Rattle.pv_share.specs.Sharing.{BySchedule}
use Rattle.pv_tasks.specs.Tasks.{ComesTo}
use Rattle.pv_tool.specs.Asked.{task_of}
use Rattle.pv_tool.specs.Top.{Completes}
use Rattle.pv_tool.specs.Outcomes.{BurnsAll, LinksAll, ChecksAll, RunsOnBare, SharesAll, SavesAll, SavesAgain, ContinuesAll}
use Rattle.pv_words.specs.declared.mode.RunMode.{RunMode}
use Rattle.pv_tasks.proofs.BurnMeanings.{is_burnt, burns_once}
use Rattle.pv_tasks.proofs.LinkMeanings.{links_once}
use Rattle.pv_tasks.proofs.Works.{WithFrames, reads_both, ran}
use Rattle.pv_share.proofs.ShareLaws.{shares_read, turns_of}
use Rattle.pv_save.proofs.RestLaws.{from_state}
use Rattle.pv_tool.proofs.CommandLaws.{Came, came_over, comes_to, checks_once}

-- ---- commands that have one outcome

pub burn_completes : (words : List (List ℕ)) (o : Outside) (st : Status) → Completes words o st → BurnsAll words o st
burn_completes words o st complete source object told parts free has =
    let w = stored_as object (object_bytes parts) (object_made_line parts) in
    let gives = is_burnt (Some told) source object (object_bytes parts) (object_made_line parts) parts has refl refl in
    comes_to (Burn source object) o told w st (λ v k. burns_once told source object w v gives k)
    (came_over words (Burn source object) told o st complete free)

pub link_completes : (words : List (List ℕ)) (o : Outside) (st : Status) → Completes words o st → LinksAll words o st
link_completes words o st complete image objects told os parts free all made =
    let w = stored_as image (image_bytes parts) (image_made_line parts) in
    let gives : Links (Some told) image objects w = AllRead os all (sym (ap (linked image) made)) in
    comes_to (Link image objects) o told w st (λ v k. links_once told image objects w v gives k)
    (came_over words (Link image objects) told o st complete free)

pub check_completes : (words : List (List ℕ)) (o : Outside) (st : Status) → Completes words o st → ChecksAll words o st
check_completes words o st complete image told program free has =
    let w = printed (accepted_line program) in
    comes_to (Check image) o told w st (λ v k. checks_once told image w v (has.0, has.1, sym (ap checked has.2)) k)
    (came_over words (Check image) told o st complete free)

-- ---- runs

-- of a run with so many frames
pub run_came : (command : Command) (runs : Image → Events → Outcome → Type 0) (frames : ℕ) (image script : List ℕ) (o : Outside)
    (told : FileMap) (program : Image) (events : Events) (st : Status)
    → ((w : Outcome) → (task_of command).gives (Some told) w → Runs runs frames (Some told) image script w)
    → HasImage (Some told) image program → HasScript (Some told) script events → need program ≤ frames
    → Came command o told st → (w : Outcome) × runs program events w × ComesTo w o st
run_came command runs frames image script o told program events st gives has says le c = (
  c.0,
  ran runs frames program events c.0 le
      (reads_both (WithFrames runs frames) told image script program events c.0 has says (gives c.0 c.1)),
  c.2,
)

-- of a run from a checkpoint
rest_came : (command : Command) (goes : Image → Events → State → Outcome → Type 0) (on : RunMode) (n : ℕ) (image script file : List ℕ)
    (o : Outside) (told : FileMap) (program : Image) (events : Events) (s : State) (st : Status)
    → ((w : Outcome) → (task_of command).gives (Some told) w → Reads (FromFile goes on n (Some told) file) (Some told) image script w)
    → HasImage (Some told) image program → HasScript (Some told) script events → HasState (Some told) file s
    → fits_of s program (is_wedge on) n ≡ Ok tt
    → Came command o told st → (w : Outcome) × goes program events s w × ComesTo w o st
rest_came command goes on n image script file o told program events s st gives has says state fit c =
    let from = reads_both (FromFile goes on n (Some told) file) told image script program events c.0 has says (gives c.0 c.1) in
    (c.0, from_state goes on n told file program events s c.0 state fit from, c.2)

pub run_completes : (words : List (List ℕ)) (o : Outside) (st : Status) → Completes words o st → RunsOnBare words o st
run_completes words o st complete image script frames n told program events free has le =
    let command = RunBare image script frames n in
    run_came command (RunsBare frames n) frames image script o told program events st (λ w g. g) has.image_held has.script_held le
    (came_over words command told o st complete free)

pub save_completes : (words : List (List ℕ)) (o : Outside) (st : Status) → Completes words o st → SavesAll words o st
save_completes words o st complete on image script frames n file told program events free has le =
    let command = Save on image script frames n file in
    run_came command (SavesBoot on frames n file) frames image script o told program events st (λ w g. g) has.image_held has.script_held le
    (came_over words command told o st complete free)

pub save_from_completes : (words : List (List ℕ)) (o : Outside) (st : Status) → Completes words o st → SavesAgain words o st
save_from_completes words o st complete on image script file n new told program events s free has state fit =
    let command = SaveFrom on image script file n new in
    rest_came command (SavesOn on n new) on n image script file o told program events s st (λ w g. g) has.image_held has.script_held state
    fit (came_over words command told o st complete free)

pub continue_completes : (words : List (List ℕ)) (o : Outside) (st : Status) → Completes words o st → ContinuesAll words o st
continue_completes words o st complete on image script file n told program events s free has state fit =
    let command = Continue on image script file n in
    rest_came command (ContinuesOn on n) on n image script file o told program events s st (λ w g. g) has.image_held has.script_held state
    fit (came_over words command told o st complete free)

pub share_completes : (words : List (List ℕ)) (o : Outside) (st : Status) → Completes words o st → SharesAll words o st
share_completes words o st complete schedule frames names told kernels slices free shared fit =
    let c = came_over words (Share schedule frames names) told o st complete free in
    let by = shares_read told schedule shared.text frames names kernels c.0 shared.holds shared.has c.1 in
    let on = subst (λ (r : Result (List Slice) (ℕ × ScheduleCause)). BySchedule frames kernels r c.0) shared.says by in
    (c.0, turns_of frames kernels slices c.0 fit on, c.2)
