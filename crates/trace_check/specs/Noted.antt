-- What a patched run answers of which the notes are kept.
use Rattle.std.specs.Prelude.{◌≡◌, ℕ, ◌≤◌, true, List, Result, Ok, Err, IsSome}
use Rattle.std.specs.FinMap.{get}
use Rattle.std.specs.List.{list_any}
use Rattle.pv_io.specs.Sink.{Appends}
use Rattle.board.specs.Scripts.{Events}
use Rattle.image_check.specs.Image.{Image}
use Rattle.image_load.specs.Boot.{need}
use Rattle.image_load.specs.declared.fault.RunFault.{RunFault}
use Rattle.run_trace.specs.declared.items.End.{End}
use Rattle.run_trace.specs.declared.items.Ended.{Ended}
use Rattle.run_trace.specs.Notes.{Note}
use Rattle.run_trace.specs.Text.{text_of}
use Rattle.machine_model.specs.State.{State, boot, wedge}
use Rattle.machine_model.specs.Step.{Report}
use Rattle.machine_model.specs.Run.{Set, Run, trace_of}
use Rattle.machine_model.specs.Notes.{AreTold, AreNotes, is_dropped, set_told}
use Rattle.wedge_core.specs.Surroundings.{Around, RefusedWedge}
use Rattle.wedge_core.specs.Counts.{CountsOn}
use Rattle.wedge_core.specs.Guests.{HasGuest}
use Rattle.wedge_core.specs.Promises.{HasMemory, HasFills}
use Rattle.trace_check.specs.NotesKept.{KeptChoices, AreKept}
use Rattle.trace_check.specs.Runs.{StopsTold}
use Rattle.trace_check.specs.Proved.{IsProved}

-- a page that is dropped after the last step is one that the set which this step left holds
abbrev pub AreHeldBehind : State → List Note → Type 0
AreHeldBehind last notes = (page : ℕ) → list_any (is_dropped last.step page) notes ≡ true → IsSome (get last.set page)

-- The notes report the translations that each step of a run used, the one that stops included, and are kept.
pub record TellsSets (image : Image) (script : Events) (frames : ℕ) (sets : List Set) (last : State) (end : End) (kept : KeptChoices)
    (notes : List Note) : Type 0 where
  pub are_kept : AreKept kept notes
  pub told : AreTold (wedge image script frames) (boot (wedge image script frames)) sets notes
  pub are : AreNotes (wedge image script frames) (boot (wedge image script frames)) sets last.step notes
  pub stops : StopsTold (wedge image script frames) last notes end
  pub behind : AreHeldBehind last notes

-- One run from the start has this text, count of steps and end. The host completed exactly its direct instructions, and where
-- it has done all its steps, its memory is the host's first frames with the text patched, and a guest stands there that keeps what its
-- notes leave of the last set. Its notes are kept, and prove its text.
pub record NotedRun (image : Image) (script : Events) (frames n : ℕ) (text : List ℕ) (ended : Ended) (a : Around) (memory : List ℕ)
    (kept : KeptChoices) : Type 0 where
  pub sets : List Set
  pub reports : List Report
  pub last : State
  pub run : Run (wedge image script frames) n (boot (wedge image script frames)) sets reports last ended.end
  pub count_is : ended.steps ≡ last.step
  pub text_is : text ≡ text_of (trace_of reports) ended.steps ended.end
  pub counts : CountsOn (wedge image script frames) reports a.counts a.counts_after
  pub memory_is : HasMemory (wedge image script frames) last ended.end memory
  pub notes : List Note
  pub tells : TellsSets image script frames sets last ended.end kept notes
  pub left : HasGuest (wedge image script frames) last ended.end (set_told notes last.step last.set) ended.fills memory
  pub proved : IsProved image script frames n text ended.end notes

-- What stands after such a run, with the notes that are kept and the host's memory. Where no put failed the sink's
-- count of faults is as it was, and where one failed it rose.
abbrev pub NotedAnswers : Image → Events → ℕ → ℕ → KeptChoices → Around → List ℕ → Result Ended RunFault → Type 0
NotedAnswers image script frames n kept a memory (Ok ended) =
    (text : List ℕ) × (run : NotedRun image script frames n text ended a memory kept) × (need image ≤ frames)
    × HasFills (wedge image script frames) run.sets run.last ended.fills × Appends a.taken a.taken_after text × (a.faults_after ≡ a.faults)
NotedAnswers image script frames n kept a memory (Err fault) = RefusedWedge image script frames n a fault
