-- A list of choices as contracts see it.
use Rattle.std.specs.Prelude.{ℕ, List}
use Rattle.trace_check.specs.declared.list.Choice.{Choice}

-- the choices, and for how many there is room
pub record ChoiceList : Type 0 where
  pub list : List Choice
  pub room : ℕ
