-- A kernel that moves: it is saved, goes on from what was saved and is saved anew, on either machine each time, and at last goes
-- on to its end, or to a stop before it could be saved again.
use Rattle.std.specs.Prelude.{◌≡◌, ◌⊎◌, ℕ, List, [], ◌∷◌, ◌++◌, Some, Ok}
use Rattle.std.specs.List.{flat_map}
use Rattle.pv_io.specs.Files.{FileMap}
use Rattle.board.specs.Scripts.{Events}
use Rattle.image_check.specs.Image.{Image}
use Rattle.paging.specs.Space.{Mode}
use Rattle.run_trace.specs.declared.items.End.{End}
use Rattle.run_trace.specs.Text.{lines_of, text_of}
use Rattle.machine_model.specs.State as model
use Rattle.machine_model.specs.State.{boot}
use Rattle.machine_model.specs.Run.{Run, Steps, trace_of, with_set, Set}
use Rattle.machine_model.specs.OnBare.{bound_on_bare, end_on_bare}
use Rattle.bare_machine.specs.Settings.{bare}
use Rattle.checkpoint.specs.declared.state.State.{State}
use Rattle.checkpoint.specs.States.{checkpoint_bytes, checkpoint_in}
use Rattle.checkpoint.specs.Moved.{kept_of}
use Rattle.checkpoint.specs.Legs.{Leg, in_mode, sets_of, reports_of}
use Rattle.pv_build.specs.Images.{HasImage}
use Rattle.pv_build.specs.Scripts.{HasScript}
use Rattle.pv_save.specs.Checkpoints.{HasState}
use Rattle.pv_build.specs.Statuses.{status_of}
use Rattle.pv_build.specs.declared.status.Status.TheVariants as status
use Rattle.pv_words.specs.Words.{Save, SaveFrom, Continue}
use Rattle.pv_tasks.specs.Outcome.{Outcome, HasEnded}
use Rattle.pv_save.specs.Saving.{setting_on}
use Rattle.pv_tool.specs.Asked.{task_of}
use Rattle.pv_words.specs.declared.mode.RunMode.{RunMode}

-- A command of such a chain: its machine, the names of image, script and checkpoint, the count of steps up to which it goes, and
-- the name at which it stores; what the files hold then, and the outcome of its work.
pub record Move : Type 0 where
  pub on : RunMode
  pub image : List ℕ
  pub script : List ℕ
  pub file : List ℕ
  pub n : ℕ
  pub new : List ℕ
  pub told : FileMap
  pub work : Outcome

-- the names hold this image and this script
pub record IsOver (program : Image) (events : Events) (move : Move) : Type 0 where
  pub image_held : HasImage (Some move.told) move.image program
  pub script_held : HasScript (Some move.told) move.script events

-- it is done, and its file is the checkpoint of this state
pub record Leaves (move : Move) (s : State) : Type 0 where
  pub done : move.work.status ≡ status.Done
  pub stored : move.work.stored ≡ Some (move.new, checkpoint_bytes s)
  pub read : checkpoint_in (checkpoint_bytes s) ≡ Ok s

-- the first: the kernel is saved from the start
pub record IsFirst (program : Image) (events : Events) (frames : ℕ) (move : Move) (s : State) : Type 0 where
  pub over : IsOver program events move
  pub gives : (task_of (Save move.on move.image move.script frames move.n move.new)).gives (Some move.told) move.work
  pub leaves : Leaves move s

-- one that goes on: the name holds the checkpoint of the state, wherever its file comes from
pub record IsNext (program : Image) (events : Events) (s : State) (move : Move) (t : State) : Type 0 where
  pub over : IsOver program events move
  pub state_held : HasState (Some move.told) move.file s
  pub gives : (task_of (SaveFrom move.on move.image move.script move.file move.n move.new)).gives (Some move.told) move.work
  pub leaves : Leaves move t

abbrev pub AreNext : Image → Events → State → List Move → State → Type 0
AreNext program events s [] t = t ≡ s
AreNext program events s (move ∷ moves) t = (mid : State) × IsNext program events s move mid × AreNext program events mid moves t

-- it goes on to its end
pub record GoesOn (move : Move) : Type 0 where
  pub gives : (task_of (Continue move.on move.image move.script move.file move.n)).gives (Some move.told) move.work
  pub ended : HasEnded move.work.status

-- or it is to be saved anew, and a stop comes before
pub record StopsShort (move : Move) : Type 0 where
  pub gives : (task_of (SaveFrom move.on move.image move.script move.file move.n move.new)).gives (Some move.told) move.work
  pub stopped : move.work.status ≡ status.Stopped

-- and the last, after which nothing is stored
pub record IsLast (program : Image) (events : Events) (s : State) (move : Move) : Type 0 where
  pub over : IsOver program events move
  pub state_held : HasState (Some move.told) move.file s
  pub ends : GoesOn move ⊎ StopsShort move

-- the rules of a machine
abbrev pub rules_of : RunMode → Image → Events → ℕ → Mode
rules_of on program events frames = (setting_on on program events frames).mode

-- The part that a command that saves has of a run.
pub record IsPart (program : Image) (events : Events) (frames : ℕ) (move : Move) (old : model.State) (part : Leg)
    (new : model.State) : Type 0 where
  -- it follows the rules of the command's machine
  pub rules : part.mode ≡ rules_of move.on program events frames
  -- by which its steps lead on
  pub steps : Steps (in_mode (bare program events frames) part.mode) old part.sets part.reports new
  -- what is seen in it is what the command printed before its file
  pub lines : move.work.first ≡ lines_of (trace_of part.reports)
  -- it ends where as many steps are done in all as the command names
  pub ends_at : new.step ≡ move.n
  -- and the file that the command stored is the checkpoint of the state in which it ends
  pub file : move.work.stored ≡ Some (move.new, checkpoint_bytes (kept_of new))

-- a part for each such command, each from where the one before ended
abbrev pub AreParts : Image → Events → ℕ → List Move → model.State → List Leg → model.State → Type 0
AreParts program events frames [] old [] new = new ≡ old
AreParts program events frames (move ∷ moves) old (part ∷ parts) new =
    (mid : model.State) × IsPart program events frames move old part mid
    × AreParts program events frames moves mid parts new
AreParts program events frames _ old _ new = ⊥

-- The part of the last command.
pub record IsLastPart (program : Image) (events : Events) (frames : ℕ) (move : Move) (old : model.State) (part : Leg)
    (last : model.State) (end : End) : Type 0 where
  -- it follows the rules of the command's machine
  pub rules : part.mode ≡ rules_of move.on program events frames
  -- by which it ends, at the number of steps that the command names or at a stop before
  pub run : Run (in_mode (bare program events frames) part.mode) move.n old part.sets part.reports last end
  -- what the command printed is its text
  pub text : move.work.text ≡ text_of (trace_of part.reports) last.step end
  -- and its status is that of this end
  pub status_is : move.work.status ≡ status_of end

-- Commands that save, and one that goes on to the end or to a stop, have one run from boot.
pub record AreOneRun (program : Image) (events : Events) (frames : ℕ) (moves : List Move) (move : Move)
    (printed : List ℕ) : Type 0 where
  pub parts : List Leg
  pub part : Leg
  pub mid : model.State
  pub last : model.State
  pub whole : Set
  pub end : End
  -- the parts of those that save
  pub saved : AreParts program events frames moves (boot (bare program events frames)) parts mid
  -- and the part of the last
  pub ended : IsLastPart program events frames move mid part last end
  -- their steps, one after the other, are a run of the bare machine, up to a stop of the monitor's own
  pub bare_run : Run (bare program events frames) (bound_on_bare move.n last end) (boot (bare program events frames))
      (sets_of parts ++ part.sets) (reports_of parts ++ part.reports) (with_set last whole) (end_on_bare end)
  -- and what they all print, but for the lines about a file, is the text of what is seen in it and of the end
  pub text : printed ≡ text_of (trace_of (reports_of parts ++ part.reports)) last.step end

-- so it is of each such chain over one image and script, whose commands go on from what the one before stored
abbrev pub MovesAreOneRun : Type 0
MovesAreOneRun =
    (program : Image) (events : Events) (frames : ℕ) (first : Move) (moves : List Move) (last : Move) (s t : State)
    → IsFirst program events frames first s → AreNext program events s moves t → IsLast program events t last
    → AreOneRun program events frames (first ∷ moves) last
    (first.work.first ++ flat_map (λ (m : Move). m.work.first) moves ++ last.work.text)
