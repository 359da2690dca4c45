-- The work of `save`: a run rests after n steps, and its state is stored. It begins at the start, or goes on from a checkpoint.
use Rattle.std.specs.Prelude.{◌≡◌, ◌≤◌, ℕ, ◌*◌, ◌/◌, Bool, true, false, List, length, Option, Some, Result, Ok, Err}
use Rattle.pv_io.specs.Files.{FileMap, Holds}
use Rattle.ia32_types.specs.declared.stop.Stop as stops
use Rattle.board.specs.Scripts.{Events}
use Rattle.image_load.specs.Boot.{need}
use Rattle.image_check.specs.Image.{Image}
use Rattle.machine_model.specs.State as model
use Rattle.machine_model.specs.State.{Setting, boot, wedge}
use Rattle.machine_model.specs.Step.{Report}
use Rattle.machine_model.specs.Run.{Set, Run, trace_of}
use Rattle.run_trace.specs.declared.items.End.{End}
use Rattle.run_trace.specs.declared.items.End.TheVariants as ends
use Rattle.run_trace.specs.Text.{lines_of, text_of}
use Rattle.bare_machine.specs.Settings.{bare}
use Rattle.checkpoint.specs.declared.state.State.{State}
use Rattle.checkpoint.specs.declared.state.CheckpointCause.{CheckpointCause}
use Rattle.checkpoint.specs.declared.state.CheckpointCause.TheVariants as checkpoint
use Rattle.checkpoint.specs.States.{checkpoint_bytes, checkpoint_in}
use Rattle.checkpoint.specs.Moved.{kept_of, rested_from}
use Rattle.checkpoint.specs.Fits.{fits_of}
use Rattle.checkpoint.specs.Rested.{RestsTo}
use Rattle.pv_build.specs.Lines.{place_line}
use Rattle.pv_build.specs.Images.{HasImage}
use Rattle.pv_build.specs.Scripts.{HasScript}
use Rattle.pv_save.specs.Checkpoints.{checkpoint_number, saved_line, HasState}
use Rattle.pv_build.specs.declared.status.Status.TheVariants as status
use Rattle.pv_tasks.specs.Outcome.{Outcome, HostPart, Nothing, SomeSteps, refused, told}
use Rattle.pv_words.specs.declared.mode.RunMode.{RunMode}
use Rattle.pv_words.specs.declared.mode.RunMode.TheVariants as mode

-- what an image runs with on a machine, with so many frames
abbrev pub setting_on : RunMode → Image → Events → ℕ → Setting
setting_on mode.Bare image events frames = bare image events frames
setting_on mode.Wedge image events frames = wedge image events frames

-- of steps on the bare machine the host does nothing
abbrev pub steps_on : RunMode → Setting → List Report → HostPart
steps_on mode.Bare m reports = Nothing
steps_on mode.Wedge m reports = SomeSteps m reports

-- the lines are printed, then the file is stored, and then it is printed after how many steps
abbrev pub saved_as : List ℕ → List ℕ → ℕ → List ℕ → HostPart → Outcome
saved_as name bytes steps lines hosted =
    record { status = status.Done; first = lines; stored = Some (name, bytes); text = saved_line steps; hosted = hosted }

-- All steps were done, from this state on, and the last state is read back from its file.
pub record SavesRest (on : RunMode) (m : Setting) (n : ℕ) (old : model.State) (name : List ℕ) (w : Outcome) : Type 0 where
  pub sets : List Set
  pub reports : List Report
  pub last : model.State
  pub run : Run m n old sets reports last ends.Bound
  pub size : length last.ram ≡ 4096 * m.frames
  pub back : checkpoint_in (checkpoint_bytes (kept_of last)) ≡ Ok (kept_of last)
  pub comes : w ≡ saved_as name (checkpoint_bytes (kept_of last)) n (lines_of (trace_of reports)) (steps_on on m reports)

-- A stop came before: nothing is stored.
pub record SavesNone (on : RunMode) (m : Setting) (n : ℕ) (old : model.State) (w : Outcome) : Type 0 where
  pub sets : List Set
  pub reports : List Report
  pub last : model.State
  pub stop : stops.Stop
  pub run : Run m n old sets reports last (ends.Stopped stop)
  pub comes : w ≡ told status.Stopped (text_of (trace_of reports) last.step (ends.Stopped stop)) (steps_on on m reports)

-- a run from this state, that is to be saved after n steps in all
pub data SavesRun (on : RunMode) (m : Setting) (n : ℕ) (old : model.State) (name : List ℕ) (w : Outcome) : Type 0 where
  Rested : SavesRest on m n old name w → SavesRun on m n old name w
  Stopped : SavesNone on m n old w → SavesRun on m n old name w

-- what such a run puts, whether it comes to a checkpoint or to a stop
abbrev pub RestsText : Setting → ℕ → model.State → List ℕ → Type 0
RestsText m n old text = (last : model.State) × (end : End) × RestsTo m n old (λ reports. Unit {0}) text last end

-- from boot
abbrev pub SavesBoot : RunMode → ℕ → ℕ → List ℕ → Image → Events → Outcome → Type 0
SavesBoot on frames n name image events w =
    SavesRun on (setting_on on image events frames) n (boot (setting_on on image events frames)) name w

-- from a checkpoint's state, with its frames
abbrev pub frames_of : State → ℕ
frames_of s = length s.ram / 4096

abbrev pub SavesOn : RunMode → ℕ → List ℕ → Image → Events → State → Outcome → Type 0
SavesOn on n name image events s w = SavesRun on (setting_on on image events (frames_of s)) n (rested_from s) name w

abbrev pub is_wedge : RunMode → Bool
is_wedge mode.Bare = false
is_wedge mode.Wedge = true

-- Work that goes on so from a state: where it fits the image, the machine and the bound.
abbrev pub WhereFits : (State → Outcome → Type 0) → State → Result Unit (ℕ × CheckpointCause) → Outcome → Type 0
WhereFits goes s (Ok fit) w = goes s w
WhereFits goes s (Err (at, cause)) w = w ≡ refused (place_line (checkpoint_number cause) at)

-- over what the checkpoint's file is
abbrev pub OnState : (State → Outcome → Type 0) → RunMode → ℕ → Image → Result State ℕ → Outcome → Type 0
OnState goes on n image (Ok s) w = WhereFits goes s (fits_of s image (is_wedge on) n) w
OnState goes on n image (Err at) w = w ≡ refused (place_line (checkpoint_number checkpoint.Form) at)

-- what work comes to that goes on from a state, with an image and events
abbrev pub FromState : Type 1
FromState = Image → Events → State → Outcome → Type 0

-- the outcome of an image and events that go on so from the checkpoint that a name holds
abbrev pub FromFile : FromState → RunMode → ℕ → Option FileMap → List ℕ → Image → Events → Outcome → Type 0
FromFile goes on n files name image events w =
    (file : List ℕ) × Holds files name file × OnState (goes image events) on n image (checkpoint_in file) w

-- what is so of the runs from boot of an image and a script that files hold, where there are frames enough
abbrev pub FromBoot : (Setting → model.State → Type 0) → RunMode → ℕ → Option FileMap → List ℕ → List ℕ → Type 0
FromBoot holds on frames files image script =
    (program : Image) × (events : Events) × HasImage files image program × HasScript files script events × (need program ≤ frames)
    × holds (setting_on on program events frames) (boot (setting_on on program events frames))

-- and of those that go on from a checkpoint which fits
abbrev pub FromHeld : (Setting → model.State → Type 0) → RunMode → ℕ → Option FileMap → List ℕ → List ℕ → List ℕ → Type 0
FromHeld holds on n files image script file =
    (program : Image) × (events : Events) × (s : State) × HasImage files image program × HasScript files script events
    × HasState files file s
    × (fits_of s program (is_wedge on) n ≡ Ok tt) × holds (setting_on on program events (frames_of s)) (rested_from s)
