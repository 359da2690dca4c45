-- Tests of the board's bytes that tie its numbers, each by itself, as the program makes them.
use Rattle.std.specs.Prelude.{ℕ, ◌*◌, Bool, true, ◌&&◌, ◌||◌, ◌==◌, nat_lt, nat_le, if◌then◌else◌}
use Rattle.pic8259.specs.Phases.{phase_fits}
use Rattle.pit8254.specs.Timers.{steps_per_tick}
use Rattle.board.specs.Restored.{phase_of}

abbrev pub fits_phase : ℕ → ℕ → Bool
fits_phase phase once_ready = phase_fits (phase_of phase) (once_ready == 1)

abbrev pub low_fits : ℕ → ℕ → Bool
low_fits phase low = phase == 2 || low == 0

abbrev pub next_fits : ℕ → ℕ → Bool
next_fits period next_period = if period == 0 then next_period == 0 else true

abbrev pub left_fits : ℕ → ℕ → Bool
left_fits period left = if period == 0 then left == 0 else nat_lt 0 left && nat_le left (steps_per_tick * period)
