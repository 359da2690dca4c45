-- What runs answer to `run`.
use Rattle.std.specs.Prelude.{◌≡◌, ℕ, List, Result}
use Rattle.board.specs.Scripts.{Events}
use Rattle.image_check.specs.Image.{Image}
use Rattle.image_load.specs.declared.fault.RunFault.{RunFault}
use Rattle.run_trace.specs.declared.items.Ended.{Ended}
use Rattle.bare_machine.specs.Buffered.{buffered_run}
use Rattle.bare_machine.specs.FreshTexts.{CourseAnswers}
use Rattle.wedge_core.specs.Answers.{WedgeAnswers}
use Rattle.wedge_core.specs.Surroundings.{Around}
use Rattle.pv_words.specs.declared.mode.RunMode.{RunMode}
use Rattle.pv_words.specs.declared.mode.RunMode.TheVariants as mode

-- the run of an image: on the bare machine the host does nothing
abbrev pub AnswersOn : RunMode → ℕ → ℕ → Image → Events → Around → List ℕ → Result Ended RunFault → Type 0
AnswersOn mode.Bare frames n image events a memory result =
    CourseAnswers image frames (buffered_run image events frames n) a.taken a.taken_after a.faults a.faults_after result
    × (a.counts_after ≡ a.counts)
AnswersOn mode.Wedge frames n image events a memory result = WedgeAnswers image events frames n 512 a memory result
