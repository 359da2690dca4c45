-- A board as 64 bytes. The places and the numbers are this project's own; numbers of several bytes have the lowest
-- first.
--
--   0 to 6      the master: phase, once ready, the interrupt request, in-service and interrupt mask registers, base,
--               selected register
--   7 to 13     the slave, in the same order
--   14, 15      the timer's phase, the low byte that it has
--   16, 20, 24  period (4), next period (4), left (8); 0 for none
--   32 to 38    the serial port: the interrupt enable, line control, modem control and scratch registers, the divisor
--               latch's low and high byte, the number of bytes that wait
--   39 to 63    the bytes that wait, oldest first, which are 16 at most, then zeros
use Rattle.std.specs.Prelude.{ℕ, ◌-◌, List, [], ◌∷◌, ◌++◌, length, Option, Some, None, unwrap_or, replicate}
use Rattle.std.specs.Int.{to_le_bytes, w32, w64}
use Rattle.ia32_types.specs.Bits.{worth}
use Rattle.pic8259.specs.declared.phase.Phase.{Phase as ChipPhase}
use Rattle.pic8259.specs.declared.phase.Phase.TheVariants.{Never, AwaitsBase, AwaitsCascade, AwaitsMode, Ready}
use Rattle.pic8259.specs.declared.chip.Selected.{Selected}
use Rattle.pic8259.specs.declared.chip.Selected.TheVariants.{InterruptRequest, InService}
use Rattle.pic8259.specs.declared.chip.Chip.{Chip}
use Rattle.pit8254.specs.declared.timer.Phase.{Phase as TimerPhase}
use Rattle.pit8254.specs.declared.timer.Phase.TheVariants.{AwaitsControlWord, AwaitsLow, AwaitsHigh}
use Rattle.pit8254.specs.declared.timer.Count.{Count}
use Rattle.pit8254.specs.declared.timer.Timer.{Timer}
use Rattle.uart16550.specs.Registers.{Registers}
use Rattle.board.specs.declared.devices.Board.{Board}

-- numbers for what has names

abbrev pub phase_number : ChipPhase → ℕ
phase_number Never = 0
phase_number AwaitsBase = 1
phase_number AwaitsCascade = 2
phase_number AwaitsMode = 3
phase_number Ready = 4

abbrev pub selected_number : Selected → ℕ
selected_number InterruptRequest = 0
selected_number InService = 1

-- the timer's phase, and the low byte that it has
abbrev pub phase_numbers : TimerPhase → ℕ × ℕ
phase_numbers AwaitsControlWord = (0, 0)
phase_numbers AwaitsLow = (1, 0)
phase_numbers (AwaitsHigh low) = (2, low)

-- the period, the next one, and the steps that are left
abbrev pub count_numbers : Option Count → ℕ × ℕ × ℕ
count_numbers None = (0, 0, 0)
count_numbers (Some count) = (count.period, unwrap_or count.next_period 0, count.left)

-- the bytes, in the order of the table

abbrev pub chip_bytes : Chip → List ℕ
chip_bytes chip =
    phase_number chip.phase ∷ worth chip.once_ready ∷ chip.interrupt_request ∷ chip.in_service ∷ chip.interrupt_mask ∷ chip.base
    ∷ selected_number chip.selected ∷ []

abbrev pub timer_bytes : Timer → List ℕ
timer_bytes timer =
    (phase_numbers timer.phase).0 ∷ (phase_numbers timer.phase).1 ∷ to_le_bytes w32 (count_numbers timer.count).0
    ++ to_le_bytes w32 (count_numbers timer.count).1 ++ to_le_bytes w64 (count_numbers timer.count).2

abbrev pub set_bytes : Registers → List ℕ
set_bytes r =
    worth r.interrupt_enable ∷ r.line_control ∷ r.modem_control ∷ r.scratch ∷ r.divisor_latch_low ∷ r.divisor_latch_high ∷ length
    r.kept ∷ []

abbrev pub waiting_bytes : List ℕ → List ℕ
waiting_bytes kept = kept ++ replicate (25 - length kept) 0

unfoldable pub saved : Board → List ℕ
saved board =
    chip_bytes board.pics.master ++ chip_bytes board.pics.slave ++ timer_bytes board.pit ++ set_bytes board.uart
    ++ waiting_bytes board.uart.kept
