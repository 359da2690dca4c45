-- The devices, by the 64 bytes of a board (board, specs/Saved).
use Rattle.std.specs.Prelude.{ℕ, ◌+◌, List, ◌++◌, codes, take, drop, slice_index}
use Rattle.run_trace.specs.Text.{hex2}
use Rattle.board.specs.declared.devices.Board.{Board}
use Rattle.board.specs.Saved.{saved}
use Rattle.machine_text.specs.Numbers.{field, bytes_text}

-- an 8259A, whose seven bytes begin at a place: how far its start has come, whether it was ever ready, and its registers
abbrev pub chip_start : List ℕ → ℕ → List ℕ
chip_start b at =
    field (codes "phase ") (slice_index b at) ++ field (codes " ready ") (slice_index b (at + 1))
    ++ field (codes " irr ") (slice_index b (at + 2))
    ++ field (codes " isr ") (slice_index b (at + 3))

abbrev pub chip_end : List ℕ → ℕ → List ℕ
chip_end b at =
    field (codes " imr ") (slice_index b (at + 4)) ++ field (codes " base ") (slice_index b (at + 5))
    ++ field (codes " reads ") (slice_index b (at + 6)) ++ codes "\n"

abbrev pub chip_text : List ℕ → List ℕ → ℕ → List ℕ
chip_text name b at = name ++ chip_start b at ++ chip_end b at

-- four bytes, the lowest first, as one number
abbrev pub four_text : List ℕ → ℕ → List ℕ
four_text b at = hex2 (slice_index b (at + 3)) ++ hex2 (slice_index b (at + 2)) ++ hex2 (slice_index b (at + 1)) ++ hex2 (slice_index b at)

abbrev pub periods_text : List ℕ → List ℕ
periods_text b = codes " period " ++ four_text b 16 ++ codes " next " ++ four_text b 20

abbrev pub left_text : List ℕ → List ℕ
left_text b = codes " left " ++ four_text b 28 ++ four_text b 24 ++ codes "\n"

-- the 8254: what it awaits, the low byte that it has, its period, the next one, and the steps that are left to the next edge
abbrev pub timer_text : List ℕ → List ℕ
timer_text b =
    field (codes "pit     phase ") (slice_index b 14) ++ field (codes " low ") (slice_index b 15) ++ periods_text b ++ left_text b

-- the bytes that wait, oldest first
abbrev pub waiting : List ℕ → List ℕ
waiting b = take (slice_index b 38) (drop 39 b)

abbrev pub serial_front : List ℕ → List ℕ
serial_front b =
    field (codes "uart    ier ") (slice_index b 32) ++ field (codes " lcr ") (slice_index b 33) ++ field (codes " mcr ") (slice_index b 34)

abbrev pub serial_back : List ℕ → List ℕ
serial_back b =
    field (codes " scr ") (slice_index b 35) ++ field (codes " dll ") (slice_index b 36) ++ field (codes " dlm ") (slice_index b 37)

abbrev pub waiting_text : List ℕ → List ℕ
waiting_text b = codes " waiting" ++ bytes_text (waiting b) ++ codes "\n"

-- the 16550
abbrev pub serial_text : List ℕ → List ℕ
serial_text b = serial_front b ++ serial_back b ++ waiting_text b

abbrev pub board_bytes_text : List ℕ → List ℕ
board_bytes_text b = chip_text (codes "pic1    ") b 0 ++ chip_text (codes "pic2    ") b 7 ++ timer_text b ++ serial_text b

unfoldable pub devices_text : Board → List ℕ
devices_text board = board_bytes_text (saved board)
