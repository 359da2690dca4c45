-- What the lines of a script's text say, each by itself after those before it.
use Rattle.std.specs.Prelude.{ℕ, List, Result, Ok, Err}
use Rattle.text_lines.specs.Lines.{LinesSay}
use Rattle.board.specs.declared.script.Script.{Script}
use Rattle.board.specs.declared.fault.ScriptFault.{ScriptFault}
use Rattle.board.specs.declared.fault.ScriptFault.TheVariants.{At, Memory}
use Rattle.board.specs.Texts.{script_rule}

-- an answer says which lines are good and what they say, unless memory ran out
abbrev pub FaultSays : List (List ℕ) → ScriptFault → Type 0
FaultSays lines (At line cause) = LinesSay script_rule lines (Err (line, cause))
FaultSays lines Memory = Unit {0}

abbrev pub AnswerSays : List (List ℕ) → Result Script ScriptFault → Type 0
AnswerSays lines (Ok script) = LinesSay script_rule lines (Ok script.list)
AnswerSays lines (Err fault) = FaultSays lines fault
