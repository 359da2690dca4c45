-- What an access to a port does. Profile: a port that no device has reads all ones and ignores what is written, and a
-- 32-bit access that reaches a device is not served.
use Rattle.std.specs.Prelude.{ℕ, ◌+◌, ◌%◌, Bool, ◌==◌, ◌||◌, if◌then◌else◌}
use Rattle.ia32_types.specs.declared.stop.Did.{Did}
use Rattle.ia32_types.specs.declared.stop.Did.TheVariants.{Done, Stop}
use Rattle.pic8259.specs.Pairs.{is_port as is_pic_port, written as pics_written, read_at as pics_read}
use Rattle.pit8254.specs.Timers.{is_port as is_pit_port, written as pit_written}
use Rattle.uart16550.specs.Ports.{is_port as is_uart_port, written as uart_written, read_at as uart_read, after_read}
use Rattle.board.specs.declared.devices.Board.{Board}
use Rattle.board.specs.declared.devices.PortRead.{PortRead}
use Rattle.board.specs.declared.devices.PortRead.TheVariants.{Value, Stop as Refused}
use Rattle.board.specs.Boards.{with_uart}

abbrev pub is_listed : ℕ → Bool
is_listed port = is_pic_port port || is_pit_port port || is_uart_port port

-- a 32-bit access reaches four ports
abbrev pub reaches_listed : ℕ → Bool
reaches_listed port = is_listed port || is_listed (port + 1) || is_listed (port + 2) || is_listed (port + 3)

-- what a read gives, and the board after it. The timer's count isn't read
unfoldable pub port_read : Board → ℕ → Bool → PortRead × Board
port_read board port wide =
    if wide then (if reaches_listed port then (Refused, board) else (Value 0xFFFFFFFF, board))
    else if is_pic_port port then (Value (pics_read board.pics port), board)
    else if port == 0x40 then (Refused, board)
    else if is_uart_port port then (Value (uart_read board.uart port), record board { uart = after_read board.uart port })
    else (Value 0xFF, board)

-- what a write does, and the board after it. An 8-bit access writes the value's low byte
unfoldable pub port_written : Board → ℕ → Bool → ℕ → Did × Board
port_written board port wide value =
    if wide then (if reaches_listed port then (Stop, board) else (Done, board))
    else if is_pic_port port then
    ((pics_written board.pics port (value % 256)).0, record board { pics = (pics_written board.pics port (value % 256)).1 })
    else if is_pit_port port then
    ((pit_written board.pit port (value % 256)).0, record board { pit = (pit_written board.pit port (value % 256)).1 })
    else if is_uart_port port then
    ((uart_written board.uart port (value % 256)).0, with_uart board (uart_written board.uart port (value % 256)).1)
    else (Done, board)
