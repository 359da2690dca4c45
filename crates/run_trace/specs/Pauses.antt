-- What a slice of a run has put where it pauses, and what holds there.
use Rattle.std.specs.Prelude.{ℕ, List, Option, Result, Ok, Err}
use Rattle.pv_io.specs.declared.answer.Failed.{Failed}
use Rattle.pv_io.specs.Sink.{Appends, AppendsFront}
use Rattle.run_trace.specs.declared.items.End.{End}
use Rattle.run_trace.specs.declared.items.End.TheVariants.{Bound, Stopped}
use Rattle.run_trace.specs.declared.pause.Pause.{Pause}
use Rattle.run_trace.specs.declared.pause.Pause.TheVariants as pause

-- the end of a run whose last slice paused so
abbrev pub end_of : Pause → End
end_of pause.Reached = Bound
end_of (pause.Stopped stop) = Stopped stop

-- the text was put, or a front of it where the sink failed
abbrev pub PutsAs : List ℕ → Option (List ℕ) → Option (List ℕ) → Result Pause Failed → Type 0
PutsAs text old new (Ok pause) = Appends old new text
PutsAs text old new (Err failed) = AppendsFront old new text

-- what holds where all steps were done
abbrev pub IfReached : Result Pause Failed → Type 0 → Type 0
IfReached (Ok pause.Reached) fact = fact
IfReached (Ok (pause.Stopped stop)) fact = Unit {0}
IfReached (Err failed) fact = Unit {0}
