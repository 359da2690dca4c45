-- What a list of events meets.
use Rattle.std.specs.Prelude.{ℕ, Bool, true, ◌&&◌, nat_le, [], ◌∷◌, length}
use Rattle.board.specs.declared.script.Event.{Event}
use Rattle.board.specs.declared.script.Event.TheVariants.{Rx, Line}
use Rattle.board.specs.Scripts.{Events, max_events, max_step, is_free_line}

abbrev pub event_fits : Event → Bool
event_fits (Rx byte) = true
event_fits (Line n) = is_free_line n

-- the steps don't fall, from a step on, and are small
abbrev pub is_script_from : ℕ → Events → Bool
is_script_from low [] = true
is_script_from low (event ∷ rest) =
    nat_le low event.0 && nat_le event.0 max_step && event_fits event.1 && is_script_from event.0 rest

-- as `read_script` gives it
abbrev pub is_script : Events → Bool
is_script events = nat_le (length events) max_events && is_script_from 0 events
