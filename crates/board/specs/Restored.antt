-- The board that 64 bytes say, and what these meet where they are those of a board.
use Rattle.std.specs.Prelude.{ℕ, ◌+◌, ◌*◌, ◌%◌, Bool, true, ◌&&◌, ◌||◌, ◌==◌, nat_lt, nat_le, List, [], ◌∷◌, ◌++◌, slice_index, slice_range, Option, Some, None, if◌then◌else◌}
use Rattle.std.specs.List.{list_all}
use Rattle.std.specs.Int.{from_le_bytes, w32, w64}
use Rattle.pic8259.specs.declared.phase.Phase.{Phase as ChipPhase}
use Rattle.pic8259.specs.declared.phase.Phase.TheVariants.{Never, AwaitsBase, AwaitsCascade, AwaitsMode, Ready}
use Rattle.pic8259.specs.declared.chip.Selected.{Selected}
use Rattle.pic8259.specs.declared.chip.Selected.TheVariants.{InterruptRequest, InService}
use Rattle.pic8259.specs.declared.chip.Chip.{Chip}
use Rattle.pic8259.specs.declared.pair.Pair.{Pair}
use Rattle.pic8259.specs.Phases.{phase_fits}
use Rattle.pic8259.specs.Pairs.{stands_for_slave}
use Rattle.pit8254.specs.declared.timer.Phase.{Phase as TimerPhase}
use Rattle.pit8254.specs.declared.timer.Phase.TheVariants.{AwaitsControlWord, AwaitsLow, AwaitsHigh}
use Rattle.pit8254.specs.declared.timer.Count.{Count}
use Rattle.pit8254.specs.declared.timer.Timer.{Timer}
use Rattle.pit8254.specs.Timers.{steps_per_tick, is_period}
use Rattle.uart16550.specs.Registers.{Registers, room}
use Rattle.board.specs.declared.devices.Board.{Board}

-- numbers of four and eight bytes, the lowest first
abbrev pub four_at : List ℕ → ℕ → ℕ
four_at bytes o = from_le_bytes w32 (slice_range bytes o (o + 4))

abbrev pub eight_at : List ℕ → ℕ → ℕ
eight_at bytes o = from_le_bytes w64 (slice_range bytes o (o + 8))

-- names for numbers

abbrev pub phase_of : ℕ → ChipPhase
phase_of n =
    if n == 0 then Never else if n == 1 then AwaitsBase else if n == 2 then AwaitsCascade
    else if n == 3 then AwaitsMode else Ready

abbrev pub selected_of : ℕ → Selected
selected_of n = if n == 0 then InterruptRequest else InService

abbrev pub timer_phase_of : ℕ → ℕ → TimerPhase
timer_phase_of n low = if n == 0 then AwaitsControlWord else if n == 1 then AwaitsLow else AwaitsHigh low

abbrev pub period_of : ℕ → Option ℕ
period_of n = if n == 0 then None else Some n

abbrev pub count_of : ℕ → ℕ → ℕ → Option Count
count_of period next left =
    if period == 0 then None else Some (record { period = period; next_period = period_of next; left = left })

-- what the bytes say

abbrev pub chip_at : List ℕ → ℕ → Chip
chip_at bytes o = record {
  phase = phase_of (slice_index bytes o);
  once_ready = slice_index bytes (o + 1) == 1;
  interrupt_request = slice_index bytes (o + 2);
  in_service = slice_index bytes (o + 3);
  interrupt_mask = slice_index bytes (o + 4);
  base = slice_index bytes (o + 5);
  selected = selected_of (slice_index bytes (o + 6));
}

abbrev pub controllers_at : List ℕ → Pair
controllers_at bytes = record { master = chip_at bytes 0; slave = chip_at bytes 7 }

abbrev pub timer_at : List ℕ → Timer
timer_at bytes = record {
  phase = timer_phase_of (slice_index bytes 14) (slice_index bytes 15);
  count = count_of (four_at bytes 16) (four_at bytes 20) (eight_at bytes 24);
}

abbrev pub waiting_at : List ℕ → List ℕ
waiting_at bytes = slice_range bytes 39 (39 + slice_index bytes 38)

abbrev pub registers_at : List ℕ → Registers
registers_at bytes = record {
  interrupt_enable = slice_index bytes 32 == 1;
  line_control = slice_index bytes 33;
  modem_control = slice_index bytes 34;
  scratch = slice_index bytes 35;
  divisor_latch_low = slice_index bytes 36;
  divisor_latch_high = slice_index bytes 37;
  kept = waiting_at bytes;
}

unfoldable pub board_at : List ℕ → Board
board_at bytes = record {
  pics = controllers_at bytes;
  pit = timer_at bytes;
  uart = registers_at bytes;
}

-- what the bytes meet, each with the place that is bad where it isn't met

abbrev pub Demands : Type 0
Demands = List (ℕ × Bool)

abbrev pub are_zero : List ℕ → Bool
are_zero bytes = list_all (λ b. b == 0) bytes

abbrev pub chip_demands : List ℕ → ℕ → Demands
chip_demands bytes o =
    (o, nat_le (slice_index bytes o) 4)
    ∷ (o + 1, nat_le (slice_index bytes (o + 1)) 1)
    ∷ (o + 1, phase_fits (phase_of (slice_index bytes o)) (slice_index bytes (o + 1) == 1))
    ∷ (o + 5, slice_index bytes (o + 5) % 8 == 0)
    ∷ (o + 6, nat_le (slice_index bytes (o + 6)) 1)
    ∷ []

-- the master's IR2 is set exactly while the slave has something to raise, which its mask is the last to decide
abbrev pub pair_demands : List ℕ → Demands
pair_demands bytes = (11, stands_for_slave (controllers_at bytes)) ∷ []

abbrev pub is_period_or_none : ℕ → Bool
is_period_or_none n = n == 0 || is_period n

abbrev pub timer_demands : List ℕ → Demands
timer_demands bytes =
    (14, nat_le (slice_index bytes 14) 2)
    ∷ (15, slice_index bytes 14 == 2 || slice_index bytes 15 == 0)
    ∷ (16, is_period_or_none (four_at bytes 16))
    ∷ (20, is_period_or_none (four_at bytes 20))
    ∷ (20, if four_at bytes 16 == 0 then four_at bytes 20 == 0 else true)
    ∷ (
      24,
      if four_at bytes 16 == 0 then eight_at bytes 24 == 0 else
          nat_lt 0 (eight_at bytes 24) && nat_le (eight_at bytes 24) (steps_per_tick * four_at bytes 16),
    )
    ∷ []

abbrev pub port_demands : List ℕ → Demands
port_demands bytes =
    (32, nat_le (slice_index bytes 32) 1)
    ∷ (34, nat_lt (slice_index bytes 34) 16)
    ∷ (38, nat_le (slice_index bytes 38) room)
    ∷ (39, are_zero (slice_range bytes (39 + slice_index bytes 38) 55))
    ∷ (55, are_zero (slice_range bytes 55 64))
    ∷ []

unfoldable pub demands : List ℕ → Demands
demands bytes =
    chip_demands bytes 0 ++ chip_demands bytes 7 ++ pair_demands bytes ++ timer_demands bytes ++ port_demands bytes
