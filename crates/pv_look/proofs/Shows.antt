-- The meaning of `state`, `walk`, `memory` and `file`.
use Rattle.std.proofs.Common.{◌≡◌, ℕ, ◌<◌, ◌≤◌, Bool, List, Option, refl, sym, ap, ◌∙◌}
use Rattle.pv_io.specs.Files.{FileMap}
use Rattle.board.specs.Scripts.{Events}
use Rattle.image_check.specs.Image.{Image}
use Rattle.image_load.specs.Boot.{need}
use Rattle.run_trace.specs.declared.items.End.{End}
use Rattle.checkpoint.specs.declared.state.State.{State}
use Rattle.pv_build.specs.Lines.{too_small_line, place_line}
use Rattle.pv_build.specs.Statuses.{status_of}
use Rattle.pv_build.specs.Telling.{Says, HaltsAs, RefusesAs}
use Rattle.pv_build.specs.Images.{HasImage}
use Rattle.pv_build.specs.Scripts.{HasScript, NoRun}
use Rattle.pv_build.specs.declared.halt.Halt.{Halt}
use Rattle.pv_build.specs.declared.halt.Halt.TheVariants as halt
use Rattle.pv_build.specs.declared.status.Status.{Status}
use Rattle.pv_build.specs.declared.status.Status.TheVariants as status
use Rattle.pv_tasks.specs.Outside.{Outside}
use Rattle.pv_tasks.specs.Outcome.{refused, printed, ended}
use Rattle.pv_tasks.specs.Running.{Ran, Small, Unread, BothRead}
use Rattle.pv_tasks.specs.Tasks.{Means}
use Rattle.run_trace.specs.declared.items.End.TheVariants.{Bound, Stopped}
use Rattle.pv_tasks.proofs.Works.{IsEnd}
use Rattle.pv_tasks.proofs.Deliveries.{says}
use Rattle.look_words.specs.Words.{RunAsked, Aspect}
use Rattle.pv_look.specs.Before.{ShowsEach, before_task}
use Rattle.pv_look.specs.Onward.{watch_bare}
use Rattle.pv_look.specs.Files.{HasState, HasNoState, ShowsFile, no_checkpoint, shown, state_in_text, file_task}

-- a refusal without a cause in the files is not of a read
pub no_read : (told : List ℕ → Type 0) (held : Type 0) (sure : Bool) (before now : ℕ) (h : Halt) → RefusesAs told h
    → HaltsAs told held sure before now h
no_read told held sure before now (halt.Refused line) r = r
no_read told held sure before now halt.ReadFault r = absurd r
no_read told held sure before now halt.Memory r = tt

-- nothing to run
pub shows_no_run : (run : RunAsked) (steps : List ℕ) (of : Aspect) (files : Option FileMap) (line : List ℕ)
    → NoRun files run.image run.script line
    → (before_task run steps of).gives files (refused line)
shows_no_run run steps of files line none = Unread line none refl

-- memory that is too small
pub shows_too_small : (run : RunAsked) (steps : List ℕ) (of : Aspect) (files : Option FileMap) (image : Image) (events : Events)
    → HasImage files run.image image → HasScript files run.script events → (line : List ℕ) → (run.frames < need image) ×
    (line ≡ too_small_line (need image) run.frames)
    → (before_task run steps of).gives files (refused line)
shows_too_small run steps of files image events has said line small = BothRead image events has said (Small small.0 (ap refused small.1))

is_end : (end : End) → IsEnd (status_of end)
is_end Bound = tt
is_end (Stopped stop) = tt

-- what was printed of a run
pub shows_run : (run : RunAsked) (steps : List ℕ) (of : Aspect) (o : Outside) (image : Image) (events : Events) (text : List ℕ)
    (end : End) (st : Status)
    → HasImage o.before.files run.image image → HasScript o.before.files run.script events → o.after.files ≡ o.before.files →
    o.after.completed ≡ o.before.completed
    → need image ≤ run.frames → ShowsEach (watch_bare image events run.frames of) steps text end
    → Says text (status_of end) o.before.taken o.after.taken o.before.puts o.after.puts st → Means (before_task run steps of) o st
shows_run run steps of o image events text end st has said same none fits shows says_it =
    says (before_task run steps of) o (ended end text) st (is_end end) refl
    (BothRead image events has said (Ran fits (record { text = text; end = end; shows = shows; comes = refl }))) same (λ is. none) says_it

-- a file that is no checkpoint
pub shows_no_file : (name : List ℕ) (of : Aspect) (files : Option FileMap) (line : List ℕ)
    → (at : ℕ) × HasNoState files name at × (line ≡ place_line no_checkpoint at)
    → ShowsFile files name of (refused line)
shows_no_file name of files line h = (h.1.0, h.1.1, ap refused h.2 ∙ sym (ap (shown of) h.1.2))

-- what was printed of a checkpoint
pub shows_file : (name : List ℕ) (of : Aspect) (o : Outside) (state : State) (st : Status) → HasState o.before.files name state
    → o.after.files ≡ o.before.files
    → o.after.completed ≡ o.before.completed → Says (state_in_text of state) status.Done o.before.taken o.after.taken o.before.puts
    o.after.puts st → Means (file_task name of) o st
shows_file name of o state st has same none said = says (file_task name of) o (printed (state_in_text of state)) st tt refl
    (has.0, has.1, sym (ap (shown of) has.2)) same (λ is. none) said
