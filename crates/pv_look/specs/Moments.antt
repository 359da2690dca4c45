-- A machine between two steps, as text.
use Rattle.std.specs.Prelude.{ℕ, List, ◌++◌, codes, decimal}
use Rattle.machine_model.specs.State.{State}
use Rattle.linear_view.specs.View.{View, view_of}
use Rattle.machine_text.specs.Shown.{state_text}
use Rattle.machine_text.specs.Walks.{walk_text}
use Rattle.machine_text.specs.Dump.{memory_text}
use Rattle.look_words.specs.Words.{Aspect}
use Rattle.look_words.specs.Words as aspect

-- memory as the machine reaches it
abbrev pub memory_at : ℕ → State → View
memory_at frames b = view_of b.ram frames b.cpu b.set

abbrev pub aspect_text : Aspect → ℕ → State → List ℕ
aspect_text aspect.Whole frames b = state_text b.cpu (memory_at frames b) b.board
aspect_text (aspect.Walk address) frames b = walk_text (memory_at frames b) address
aspect_text (aspect.Memory address len) frames b = memory_text (memory_at frames b) address len

abbrev pub step_line : ℕ → List ℕ
step_line step = codes "step    " ++ decimal step ++ codes "\n"

-- after a line with the count of steps before it
unfoldable pub moment_text : Aspect → ℕ → State → List ℕ
moment_text of frames b = step_line b.step ++ aspect_text of frames b
