-- The outcomes of `save` and `continue`.
use Rattle.std.proofs.Common.{◌≡◌, false, ℕ, List, Option, Some, Result, Ok, Err, refl, sym, subst, ◌∙◌}
use Rattle.pv_io.specs.Files.{FileMap}
use Rattle.board.specs.Scripts.{Events}
use Rattle.image_check.specs.Image.{Image}
use Rattle.machine_model.specs.State as model
use Rattle.machine_model.specs.State.{Setting}
use Rattle.checkpoint.specs.declared.state.State.{State}
use Rattle.checkpoint.specs.declared.state.CheckpointCause.{CheckpointCause}
use Rattle.checkpoint.specs.declared.state.CheckpointCause.TheVariants as checkpoint
use Rattle.checkpoint.specs.States.{checkpoint_in}
use Rattle.checkpoint.specs.Fits.{fits_of}
use Rattle.pv_build.specs.Lines.{place_line}
use Rattle.pv_save.specs.Checkpoints.{HasState, FindsState, checkpoint_number}
use Rattle.pv_build.specs.declared.status.Status.TheVariants as status
use Rattle.pv_tasks.specs.Outcome.{Outcome, refused, HasEnded}
use Rattle.pv_tasks.specs.Running.{Reads}
use Rattle.pv_save.specs.Saving.{SavesRun, Rested, Stopped, SavesBoot, WhereFits, OnState, FromFile, is_wedge}
use Rattle.pv_save.specs.Continuing.{ContinuesOn}
use Rattle.pv_words.specs.declared.mode.RunMode.{RunMode}
use Rattle.pv_words.specs.declared.mode.RunMode.TheVariants as mode
use Rattle.pv_tasks.proofs.SameFiles.{same_file}
use Rattle.pv_tasks.proofs.Works.{IsSaved, IsTold, IsOnce, AreEnds, ended_not_refused, reads_both, reads_found}
use Rattle.pv_tasks.proofs.RunMeanings.{has_ended}

pub bare_mode : (on : RunMode) → is_wedge on ≡ false → on ≡ mode.Bare
bare_mode mode.Bare is = refl
bare_mode mode.Wedge is = cc

-- ---- runs that are to be saved

pub saves_ended : (on : RunMode) (m : Setting) (n : ℕ) (old : model.State) (name : List ℕ) (w : Outcome)
    → SavesRun on m n old name w → HasEnded w.status
saves_ended on m n old name w (Rested h) = subst (λ (v : Outcome). HasEnded v.status) (sym h.comes) tt
saves_ended on m n old name w (Stopped h) = subst (λ (v : Outcome). HasEnded v.status) (sym h.comes) tt

pub saves_saved : (on : RunMode) (m : Setting) (n : ℕ) (old : model.State) (name : List ℕ) (w : Outcome) → SavesRun on m n old name w
    → IsSaved (Some name) w.stored
saves_saved on m n old name w (Rested h) = subst (λ (v : Outcome). IsSaved (Some name) v.stored) (sym h.comes) refl
saves_saved on m n old name w (Stopped h) = subst (λ (v : Outcome). IsSaved (Some name) v.stored) (sym h.comes) tt

pub boot_ends : (on : RunMode) (frames n : ℕ) (name : List ℕ) → AreEnds (SavesBoot on frames n name)
boot_ends on frames n name image events w h = saves_ended on _ n _ name w h

pub continues_ended : (on : RunMode) (n : ℕ) (image : Image) (events : Events) (s : State) (w : Outcome)
    → ContinuesOn on n image events s w → HasEnded w.status
continues_ended on n image events s w h = subst (λ (v : Outcome). HasEnded v.status) (sym h.comes) (has_ended h.end)

pub continues_told : (on : RunMode) (n : ℕ) (image : Image) (events : Events) (s : State) (w : Outcome)
    → ContinuesOn on n image events s w → IsTold w
continues_told on n image events s w h = subst IsTold (sym h.comes) refl

-- ---- from a checkpoint

fits_all : (P : Outcome → Type 0) (goes : State → Outcome → Type 0) (s : State) (r : Result Unit (ℕ × CheckpointCause)) (w : Outcome)
    → ((line : List ℕ) → P (refused line)) → ((s : State) (w : Outcome) → goes s w → P w) → WhereFits goes s r w → P w
fits_all P goes s (Ok fit) w of_line of_work h = of_work s w h
fits_all P goes s (Err (at, cause)) w of_line of_work h = subst P (sym h) (of_line (place_line (checkpoint_number cause) at))

state_all : (P : Outcome → Type 0) (goes : State → Outcome → Type 0) (on : RunMode) (n : ℕ) (image : Image)
    (r : Result State ℕ) (w : Outcome)
    → ((line : List ℕ) → P (refused line)) → ((s : State) (w : Outcome) → goes s w → P w) → OnState goes on n image r w → P w
state_all P goes on n image (Ok s) w of_line of_work h = fits_all P goes s (fits_of s image (is_wedge on) n) w of_line of_work h
state_all P goes on n image (Err at) w of_line of_work h = subst P (sym h) (of_line (place_line (checkpoint_number checkpoint.Form) at))

-- what holds of each refusal and of all that the work goes on to holds of its outcome
pub from_all : (P : Outcome → Type 0) (goes : Image → Events → State → Outcome → Type 0) (on : RunMode) (n : ℕ) (files : Option FileMap)
    (name : List ℕ) (image : Image) (events : Events) (w : Outcome)
    → ((line : List ℕ) → P (refused line)) → ((image : Image) (events : Events) (s : State) (w : Outcome) → goes image events s w → P w)
    → FromFile goes on n files name image events w → P w
from_all P goes on n files name image events w of_line of_work h =
    state_all P (goes image events) on n image (checkpoint_in h.0) w of_line (of_work image events) h.2

-- such outcomes are ends of runs
abbrev pub AreEndsOn : (Image → Events → State → Outcome → Type 0) → Type 0
AreEndsOn goes = (image : Image) (events : Events) (s : State) (w : Outcome) → goes image events s w → HasEnded w.status

fits_once : (goes : State → Outcome → Type 0) (s : State) (r : Result Unit (ℕ × CheckpointCause)) (w v : Outcome)
    → ((s : State) (w : Outcome) → goes s w → HasEnded w.status) → w.status ≡ status.Refused
    → WhereFits goes s r w → WhereFits goes s r v → v ≡ w
fits_once goes s (Ok fit) w v are is h k = absurd (ended_not_refused w.status (are s w h) is)
fits_once goes s (Err (at, cause)) w v are is h k = k ∙ sym h

state_once : (goes : State → Outcome → Type 0) (on : RunMode) (n : ℕ) (image : Image) (r : Result State ℕ) (w v : Outcome)
    → ((s : State) (w : Outcome) → goes s w → HasEnded w.status) → w.status ≡ status.Refused
    → OnState goes on n image r w → OnState goes on n image r v → v ≡ w
state_once goes on n image (Ok s) w v are is h k = fits_once goes s (fits_of s image (is_wedge on) n) w v are is h k
state_once goes on n image (Err at) w v are is h k = k ∙ sym h

pub from_once : (goes : Image → Events → State → Outcome → Type 0) (on : RunMode) (n : ℕ) (told : FileMap) (name : List ℕ) → AreEndsOn goes
    → IsOnce (FromFile goes on n (Some told) name)
from_once goes on n told name are image events w v is h k =
    let same = same_file told name k.0 h.0 k.1 h.1 in
    state_once (goes image events) on n image (checkpoint_in h.0) w v (are image events) is h.2
    (subst (λ (f : List ℕ). OnState (goes image events) on n image (checkpoint_in f) v) same k.2)

pub from_found : (goes : Image → Events → State → Outcome → Type 0) (on : RunMode) (n : ℕ) (told : FileMap)
    (image script file : List ℕ) (w : Outcome)
    → Reads (FromFile goes on n (Some told) file) (Some told) image script w → FindsState (Some told) image script file
from_found goes on n told image script file w h = (
  reads_found (FromFile goes on n (Some told) file) told image script w h,
  λ program events has says.
      let f = reads_both (FromFile goes on n (Some told) file) told image script program events w has says h in
      (f.0, f.1),
)

-- over a checkpoint that is held and fits the work goes on
pub from_state : (goes : Image → Events → State → Outcome → Type 0) (on : RunMode) (n : ℕ) (told : FileMap) (name : List ℕ) (image : Image)
    (events : Events) (s : State) (w : Outcome)
    → HasState (Some told) name s → fits_of s image (is_wedge on) n ≡ Ok tt → FromFile goes on n (Some told) name image events w
    → goes image events s w
from_state goes on n told name image events s w has fit h =
    let same = same_file told name h.0 has.0 h.1 has.1 in
    let of_file = subst (λ (f : List ℕ). OnState (goes image events) on n image (checkpoint_in f) w) same h.2 in
    let of_state = subst (λ (r : Result State ℕ). OnState (goes image events) on n image r w) has.2 of_file in
    subst (λ (r : Result Unit (ℕ × CheckpointCause)). WhereFits (goes image events) s r w) fit of_state

-- and to where it goes on it comes
pub with_state : (goes : Image → Events → State → Outcome → Type 0) (on : RunMode) (n : ℕ) (files : Option FileMap) (name : List ℕ)
    (image : Image) (events : Events) (s : State) (w : Outcome)
    → HasState files name s → fits_of s image (is_wedge on) n ≡ Ok tt → goes image events s w → FromFile goes on n files name image events w
with_state goes on n files name image events s w has fit h = (
  has.0,
  has.1,
  subst (λ (r : Result State ℕ). OnState (goes image events) on n image r w) (sym has.2)
      (subst (λ (r : Result Unit (ℕ × CheckpointCause)). WhereFits (goes image events) s r w) (sym fit) h),
)
