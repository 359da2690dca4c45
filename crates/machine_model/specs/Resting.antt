-- Steps in which a halted processor has nothing to do.
use Rattle.std.specs.Prelude.{◌≡◌, ℕ, suc, ◌+◌, ◌<◌, true, false, List, [], ◌∷◌, replicate, None}
use Rattle.descriptors.specs.declared.cpu.Cpu.{Cpu}
use Rattle.board.specs.declared.devices.Board.{Board}
use Rattle.board.specs.Boards.{board_step, with_timer_edge}
use Rattle.board.specs.Quiet.{board_steps, comes_within, event_within}
use Rattle.board.specs.Scripts.{Events}
use Rattle.machine_model.specs.State.{Setting, State, Loosened}
use Rattle.machine_model.specs.Step.{Report, Went, step_of, interrupt_of}
use Rattle.machine_model.specs.Run.{Set, Steps, trace_of}

-- the processor is halted, and takes no interrupt where none is held off
pub record IsResting (cpu : Cpu) (board : Board) : Type 0 where
  pub halted : cpu.halted ≡ true
  pub none : interrupt_of (record cpu { held = false }) board ≡ None

-- No event comes in the n steps after t, and the processor rests in each of them, whatever edges of the timer come.
pub record SleepsThrough (cpu : Cpu) (board : Board) (script : Events) (t n : ℕ) : Type 0 where
  pub no_event : event_within t n script ≡ false
  pub rests : (i : ℕ) → i < n → IsResting cpu (board_steps i board)

-- the state with such a processor, after a step that holds off nothing
abbrev pub resting : Cpu → List ℕ → Set → Board → ℕ → State
resting cpu ram set board step = record { cpu = record cpu { held = false }; ram = ram; set = set; board = board; step = step }

-- nothing is seen in such a step, and nothing is used or written
abbrev pub nothing : Report
nothing = record { items = []; completed = None; pages = []; tables = []; wrote = [] }

-- the step after t: the board alone goes on, and the processor rests in the j steps after it too
pub record RestsOn (s : Setting) (cpu : Cpu) (ram : List ℕ) (board : Board) (t j : ℕ) : Type 0 where
  pub goes : (whole set : Set) → step_of s (resting cpu ram whole board (t + 1)) set ≡ Went nothing
      (resting cpu ram set (board_step board) (t + 1 + 1))
  pub later : SleepsThrough cpu (board_step board) s.script (t + 1) j

-- So is each of the steps that it sleeps through.
abbrev pub EachRests : Type 0
EachRests = (s : Setting) (cpu : Cpu) (ram : List ℕ) (board : Board) (t j : ℕ) → SleepsThrough cpu board s.script t (suc j)
    → RestsOn s cpu ram board t j

-- all these steps, with the same translations in each
abbrev pub AllRest : Type 0
AllRest =
    (k : ℕ) (s : Setting) (cpu : Cpu) (ram : List ℕ) (whole set : Set) (board : Board) (t : ℕ) → SleepsThrough cpu board s.script t (suc k)
    → Loosened s (resting cpu ram whole board (t + 1)) set
    → Steps s (resting cpu ram whole board (t + 1)) (set ∷ replicate k set) (nothing ∷ replicate k nothing)
    (resting cpu ram set (board_steps (suc k) board) (t + 1 + suc k))

abbrev pub NothingIsSeen : Type 0
NothingIsSeen = (k : ℕ) → trace_of (replicate k nothing) ≡ []

-- A resting processor sleeps through all steps up to the next edge or event; and where it would rest after an edge of the timer
-- too, up to the next event, however many edges come.
abbrev pub QuietSteps : Type 0
QuietSteps = (n : ℕ) (cpu : Cpu) (board : Board) (script : Events) (t : ℕ) → IsResting cpu board → comes_within board script t n ≡ false
    → SleepsThrough cpu board script t n

abbrev pub StepsWithEdges : Type 0
StepsWithEdges = (n : ℕ) (cpu : Cpu) (board : Board) (script : Events) (t : ℕ) → IsResting cpu board → IsResting cpu (with_timer_edge board)
    → event_within t n script ≡ false → SleepsThrough cpu board script t n

pub record HaltedSteps : Type 0 where
  pub each : EachRests
  pub all : AllRest
  pub silent : NothingIsSeen
  pub quiet : QuietSteps
  pub with_edges : StepsWithEdges
