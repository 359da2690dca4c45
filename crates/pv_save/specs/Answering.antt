-- What runs answer that rest, or go on from a checkpoint to their end.
use Rattle.std.specs.Prelude.{◌≡◌, ℕ, List, Result, Ok, Err}
use Rattle.board.specs.Scripts.{Events}
use Rattle.image_check.specs.Image.{Image}
use Rattle.image_load.specs.declared.fault.RunFault.{RunFault}
use Rattle.run_trace.specs.declared.items.Ended.{Ended}
use Rattle.machine_model.specs.State.{wedge}
use Rattle.machine_model.specs.Step.{Report}
use Rattle.bare_machine.specs.Answers.{WholeAs}
use Rattle.bare_machine.specs.Settings.{bare}
use Rattle.wedge_core.specs.Surroundings.{Around}
use Rattle.checkpoint.specs.declared.state.State.{State}
use Rattle.checkpoint.specs.declared.rested.Rested.{Rested}
use Rattle.checkpoint.specs.declared.rested.Rested.TheVariants as rest
use Rattle.checkpoint.specs.InForm.{IsInForm}
use Rattle.checkpoint.specs.Moved.{rested_from}
use Rattle.checkpoint.specs.RestAnswers.{RestsAs, RestsFromStart}
use Rattle.checkpoint.specs.Continued.{WedgeGoesTo}
use Rattle.pv_tasks.specs.Outcome.{HostDid}
use Rattle.pv_save.specs.Saving.{setting_on, steps_on, frames_of}
use Rattle.pv_words.specs.declared.mode.RunMode.{RunMode}
use Rattle.pv_words.specs.declared.mode.RunMode.TheVariants as mode

-- the host has done its part of such steps
abbrev pub HostStepped : RunMode → Image → Events → ℕ → Around → List ℕ → List Report → Type 0
HostStepped on image events frames a memory reports =
    HostDid (steps_on on (setting_on on image events frames) reports) a.counts a.counts_after memory

-- what a run answers that rests: from the start, or from a checkpoint's state
abbrev pub AnswersStart : RunMode → ℕ → ℕ → Image → Events → Around → List ℕ → Result Rested RunFault → Type 0
AnswersStart on frames n image events a memory result =
    RestsFromStart (setting_on on image events frames) n (HostStepped on image events frames a memory) a.taken a.taken_after a.faults
    a.faults_after result

abbrev pub AnswersState : RunMode → ℕ → Image → Events → State → Around → List ℕ → Result Rested RunFault → Type 0
AnswersState on n image events s a memory result =
    RestsAs (setting_on on image events (frames_of s)) n (rested_from s) (HostStepped on image events (frames_of s) a memory) a.taken
    a.taken_after a.faults
    a.faults_after result

-- what a run answers that goes on from a checkpoint's state to its end
abbrev pub AnswersOnwards : RunMode → ℕ → Image → Events → State → Around → List ℕ → Result Ended RunFault → Type 0
AnswersOnwards mode.Bare n image events s a memory result =
    WholeAs (bare image events (frames_of s)) n (rested_from s) a.taken a.taken_after a.faults a.faults_after result
    × (a.counts_after ≡ a.counts)
AnswersOnwards mode.Wedge n image events s a memory result =
    WedgeGoesTo (wedge image events (frames_of s)) n (rested_from s) a memory result

-- a checkpoint can be made of the state, where there is one
abbrev pub HasForm : Result Rested RunFault → Type 0
HasForm (Ok (rest.At state)) = IsInForm state
HasForm (Ok (rest.Stopped ended)) = Unit {0}
HasForm (Err why) = Unit {0}
