-- What a patched run promises of which the notes are kept: its text is judged yes by their choices.
use Rattle.std.specs.Prelude.{◌≡◌, ℕ, ◌≤◌, ◌<◌, List, length}
use Rattle.board.specs.Scripts.{Events}
use Rattle.image_check.specs.Image.{Image}
use Rattle.run_trace.specs.declared.items.End.{End}
use Rattle.run_trace.specs.Notes.{Note}
use Rattle.trace_check.specs.Form.{AreChoices, most_choices}
use Rattle.trace_check.specs.ChoicesTold.{choices_of}
use Rattle.trace_check.specs.Judged.{judged}
use Rattle.trace_check.specs.Runs.{verdict_of}

-- The text is judged yes by the choices of the notes, or yes before the stop where that is one of a monitor's own. They have
-- the form of a file where they are few enough, as they always are in so few steps: at most two are reported of a step, and
-- of the one after the last.
pub record IsProved (image : Image) (script : Events) (frames n : ℕ) (text : List ℕ) (end : End) (notes : List Note) : Type 0 where
  pub is_judged : judged image script frames n (choices_of notes) text ≡ verdict_of end
  pub form : length notes ≤ most_choices → AreChoices (choices_of notes)
  pub few : n < 524288 → length notes ≤ most_choices
