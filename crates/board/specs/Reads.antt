-- What reading a script answers.
use Rattle.std.specs.Prelude.{◌≡◌, ℕ, Result, Ok, Err}
use Rattle.board.specs.declared.script.Script.{Script}
use Rattle.board.specs.declared.fault.ScriptCause.{ScriptCause}
use Rattle.board.specs.Scripts.{Events}
use Rattle.board.specs.declared.fault.ScriptFault.{ScriptFault}
use Rattle.board.specs.declared.fault.ScriptFault.TheVariants.{At, Memory}

-- an answer says what a text says, unless memory ran out
abbrev pub FaultAs : ScriptFault → Result (Events) (ℕ × ScriptCause) → Type 0
FaultAs (At line cause) read = read ≡ Err (line, cause)
FaultAs Memory read = Unit {0}

abbrev pub ReadAs : Result Script ScriptFault → Result (Events) (ℕ × ScriptCause) → Type 0
ReadAs (Ok script) read = read ≡ Ok script.list
ReadAs (Err fault) read = FaultAs fault read
