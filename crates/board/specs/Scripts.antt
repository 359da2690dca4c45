-- Events of a script, and its bounds.
use Rattle.std.specs.Prelude.{ℕ, ◌^◌, Bool, ◌&&◌, not, ◌==◌, nat_le, List}
use Rattle.board.specs.declared.script.Event.{Event}

-- events in order, each with its step
abbrev pub Events : Type 0
Events = List (ℕ × Event)

abbrev pub max_events : ℕ
max_events = 65536

abbrev pub max_step : ℕ
max_step = 2 ^ 40

-- lines that a script may raise: 1, 3 and 5 to 15
abbrev pub is_free_line : ℕ → Bool
is_free_line n = nat_le 1 n && nat_le n 15 && not (n == 2) && not (n == 4)
