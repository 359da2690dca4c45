-- What reading choices answers.
use Rattle.std.specs.Prelude.{◌≡◌, ℕ, List, Result, Ok, Err}
use Rattle.trace_check.specs.declared.list.Choice.{Choice}
use Rattle.trace_check.specs.declared.list.ChoicesFault.{ChoicesFault}
use Rattle.trace_check.specs.declared.list.ChoicesFault.TheVariants as faults
use Rattle.trace_check.specs.Lists.{ChoiceList}

-- what was answered is what reading gives, unless memory ran out
abbrev pub Fails : ChoicesFault → Result (List Choice) ℕ → Type 0
Fails faults.Memory read = Unit {0}
Fails (faults.Form at) read = read ≡ Err at

abbrev pub Gives : Result ChoiceList ChoicesFault → Result (List Choice) ℕ → Type 0
Gives (Ok choices) read = read ≡ Ok choices.list
Gives (Err fault) read = Fails fault read
