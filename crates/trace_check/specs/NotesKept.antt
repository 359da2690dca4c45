-- What is kept of notes.
use Rattle.std.specs.Prelude.{◌≡◌, Bool, List, take, length, nat_lt}
use Rattle.run_trace.specs.Notes.{Note}
use Rattle.trace_check.specs.declared.list.Choice.{Choice}
use Rattle.trace_check.specs.Form.{most_choices}
use Rattle.trace_check.specs.ChoicesTold.{choices_of}

-- the choices that are kept, and whether more were reported
pub record KeptChoices : Type 0 where
  pub list : List Choice
  pub more : Bool

-- these notes were reported so far: the first of them are kept
pub record AreKept (kept : KeptChoices) (notes : List Note) : Type 0 where
  pub list : kept.list ≡ take most_choices (choices_of notes)
  pub more : kept.more ≡ nat_lt most_choices (length notes)
