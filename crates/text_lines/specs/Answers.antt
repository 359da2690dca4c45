-- What reading a text answers.
use Rattle.std.specs.Prelude.{◌≡◌, ℕ, List, Option, Some, Result, Ok, Err, Vec}
use Rattle.std.specs.declared.alloc.Global.{Global}
use Rattle.text_lines.specs.declared.lines.LineFault.{LineFault}
use Rattle.text_lines.specs.declared.lines.LineFault.TheVariants.{At, Memory}

-- an answer says what a text says, unless memory ran out
abbrev pub FaultAs : {A C : Type 0} → LineFault C → Result (List A) (ℕ × C) → Type 0
FaultAs (At line cause) read = read ≡ Err (line, cause)
FaultAs Memory read = Unit {0}

abbrev pub ReadAs : {A C : Type 0} → Result (Vec A Global) (LineFault C) → Result (List A) (ℕ × C) → Type 0
ReadAs (Ok items) read = read ≡ Ok items.items
ReadAs (Err fault) read = FaultAs fault read

-- the line with this number is bad, or memory ran out
abbrev pub IsRefused : {C : Type 0} → ℕ → Option C → LineFault C → Type 0
IsRefused n bad (At line cause) = (line ≡ n) × (bad ≡ Some cause)
IsRefused n bad Memory = Unit {0}
