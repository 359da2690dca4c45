-- What is printed of a checkpoint.
use Rattle.std.specs.Prelude.{◌≡◌, ℕ, ◌/◌, List, Option, Result, Ok, Err, length}
use Rattle.pv_io.specs.Files.{FileMap, Holds, IsHeld}
use Rattle.checkpoint.specs.declared.state.State.{State}
use Rattle.checkpoint.specs.States.{checkpoint_in}
use Rattle.checkpoint.specs.Moved.{rested_from}
use Rattle.pv_build.specs.Lines.{place_line}
use Rattle.pv_tasks.specs.Outcome.{Outcome, refused, printed}
use Rattle.pv_tasks.specs.Tasks.{Task, plain}
use Rattle.look_words.specs.Words.{Aspect}
use Rattle.pv_look.specs.Moments.{moment_text}

-- the number of a file that is no checkpoint, as `continue` has it
abbrev pub no_checkpoint : ℕ
no_checkpoint = 110

-- the name holds the checkpoint of a state, or a file that is none
abbrev pub HasState : Option FileMap → List ℕ → State → Type 0
HasState files name state = (file : List ℕ) × Holds files name file × (checkpoint_in file ≡ Ok state)

abbrev pub HasNoState : Option FileMap → List ℕ → ℕ → Type 0
HasNoState files name at = (file : List ℕ) × Holds files name file × (checkpoint_in file ≡ Err at)

-- a checkpoint has no cached translations
abbrev pub state_in_text : Aspect → State → List ℕ
state_in_text of s = moment_text of (length s.ram / 4096) (rested_from s)

abbrev pub shown : Aspect → Result State ℕ → Outcome
shown of (Ok s) = printed (state_in_text of s)
shown of (Err at) = refused (place_line no_checkpoint at)

abbrev pub ShowsFile : Option FileMap → List ℕ → Aspect → Outcome → Type 0
ShowsFile files name of w = (file : List ℕ) × Holds files name file × (w ≡ shown of (checkpoint_in file))

-- what `file` asks for
abbrev pub file_task : List ℕ → Aspect → Task
file_task name of = plain (λ files w. ShowsFile files name of w) (λ files. IsHeld files name)
