-- Channel 0 of an 8254: its control word, its count, and one step of it (Intel 8254 data sheet: control word format,
-- write operations, mode 2, mode 3). Profile: both modes have the same edges, low byte then high byte, binary counting.
use Rattle.std.specs.Prelude.{ℕ, ◌+◌, ◌-◌, ◌*◌, Bool, false, ◌==◌, ◌&&◌, ◌||◌, nat_le, Option, Some, None, unwrap_or, if◌then◌else◌}
use Rattle.std.specs.Option.{option_map}
use Rattle.ia32_types.specs.declared.stop.Did.{Did}
use Rattle.ia32_types.specs.declared.stop.Did.TheVariants.{Done, Stop}
use Rattle.pit8254.specs.declared.timer.Phase.{Phase}
use Rattle.pit8254.specs.declared.timer.Phase.TheVariants.{AwaitsControlWord, AwaitsLow, AwaitsHigh}
use Rattle.pit8254.specs.declared.timer.Count.{Count}
use Rattle.pit8254.specs.declared.timer.Timer.{Timer}

-- profile: board steps for one tick of the counter
abbrev pub steps_per_tick : ℕ
steps_per_tick = 8

-- a period is 2 to 65,536
abbrev pub is_period : ℕ → Bool
is_period period = nat_le 2 period && nat_le period 65536

-- a counter that starts anew with a period
unfoldable pub fresh : ℕ → Count
fresh period = record { period = period; next_period = None; left = steps_per_tick * period }

-- before any control word
abbrev pub at_reset : Timer
at_reset = record { phase = AwaitsControlWord; count = None }

-- a count of 0 means 65,536
unfoldable pub period_of : ℕ → ℕ → ℕ
period_of low high = if 256 * high + low == 0 then 65536 else 256 * high + low

-- a count that runs takes the new period at its next edge, and a stopped one starts with it
abbrev pub counting : Option Count → ℕ → Count
counting None period = fresh period
counting (Some count) period = record count { next_period = Some period }

-- a byte at the control port: mode 2 or mode 3 of channel 0, low byte first. None where it isn't served
unfoldable pub control_word_written : Timer → ℕ → Option Timer
control_word_written timer v = if v == 0x34 || v == 0x36 then Some (record { phase = AwaitsLow; count = None }) else None

-- a byte at the count port, by what is awaited
abbrev pub count_written : Phase → Option Count → ℕ → Option Timer
count_written AwaitsControlWord count v = None
count_written AwaitsLow count v = Some (record { phase = AwaitsHigh v; count = count })
count_written (AwaitsHigh low) count v =
    if period_of low v == 1 then None else Some (record { phase = AwaitsLow; count = Some (counting count (period_of low v)) })

abbrev pub is_port : ℕ → Bool
is_port port = port == 0x40 || port == 0x43

-- a byte that isn't served changes nothing
abbrev pub answer : Timer → Option Timer → Did × Timer
answer timer None = (Stop, timer)
answer timer (Some new) = (Done, new)

-- a write to a port: one that isn't the timer's is ignored
unfoldable pub written : Timer → ℕ → ℕ → Did × Timer
written timer port v =
    if port == 0x43 then answer timer (control_word_written timer v)
    else if port == 0x40 then answer timer (count_written timer.phase timer.count v)
    else (Done, timer)

-- one step of a counter: at 0 it starts anew
unfoldable pub count_step : Count → Count
count_step count =
    if count.left == 1 then fresh (unwrap_or count.next_period count.period)
    else record count { left = count.left - 1 }

-- one step of the timer
unfoldable pub timer_step : Timer → Timer
timer_step timer = record timer { count = option_map count_step timer.count }

-- the next step of the timer has an edge
abbrev pub count_edge : Option Count → Bool
count_edge None = false
count_edge (Some count) = count.left == 1

abbrev pub edge_comes : Timer → Bool
edge_comes timer = count_edge timer.count
