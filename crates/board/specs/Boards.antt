-- One step of the board, what reaches it from outside, and the interrupt that it requests.
use Rattle.std.specs.Prelude.{ℕ, Bool, true, ◌&&◌, not, ◌==◌, [], ◌∷◌, Option, if◌then◌else◌}
use Rattle.pic8259.specs.Chips.{unstarted}
use Rattle.pic8259.specs.Pairs.{with_edge, vector as pics_vector, acknowledged as pics_acknowledged}
use Rattle.pic8259.specs.declared.pics.Pics.{Pics}
use Rattle.pit8254.specs.Timers.{at_reset as timer_at_reset, timer_step, edge_comes}
use Rattle.uart16550.specs.Ports.{at_reset as port_at_reset, received, interrupt_line}
use Rattle.uart16550.specs.declared.uart.Uart.{Uart}
use Rattle.board.specs.declared.script.Event.{Event}
use Rattle.board.specs.declared.script.Event.TheVariants.{Rx, Line}
use Rattle.board.specs.declared.devices.Board.{Board}
use Rattle.board.specs.Scripts.{Events}

-- the lines of the timer and of the serial port
abbrev pub timer_line : ℕ
timer_line = 0

abbrev pub serial_line : ℕ
serial_line = 4

-- before anything was written or came
abbrev pub at_reset : Board
at_reset = record { pics = record { master = unstarted; slave = unstarted }; pit = timer_at_reset; uart = port_at_reset }

-- an edge at a line, where there is one
unfoldable pub edged : Pics → ℕ → Bool → Pics
edged pics line comes = if comes then with_edge pics line else pics

-- with an edge of the timer
abbrev pub with_timer_edge : Board → Board
with_timer_edge board = record board { pics = edged board.pics timer_line true }

-- one step of the board: that of the timer, whose edge is line 0's
unfoldable pub board_step : Board → Board
board_step board = record board {
  pics = edged board.pics timer_line (edge_comes board.pit);
  pit = timer_step board.pit;
}

-- a new state of the serial port: line 4 has an edge where the port begins to ask for an interrupt
unfoldable pub with_uart : Board → Uart → Board
with_uart board uart = record board {
  pics = edged board.pics serial_line (interrupt_line uart && not (interrupt_line board.uart));
  uart = uart;
}

-- an event
abbrev pub happened : Board → Event → Board
happened board (Rx byte) = with_uart board (received board.uart byte)
happened board (Line n) = record board { pics = with_edge board.pics n }

-- the events of a step, in the script's order
unfoldable pub given : Board → Events → ℕ → Board
given board [] step = board
given board (event ∷ rest) step = given (if event.0 == step then happened board event.1 else board) rest step

-- the vector that would be delivered
unfoldable pub vector : Board → Option ℕ
vector board = pics_vector board.pics

-- the board after that was acknowledged
unfoldable pub acknowledged : Board → Board
acknowledged board = record board { pics = pics_acknowledged board.pics }
