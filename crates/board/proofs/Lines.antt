-- The serial port's line, where the port stays as it was.
use Rattle.std.proofs.Common.{◌≡◌, Bool, true, false, refl, ap}
use Rattle.std.specs.Prelude.{◌&&◌, not}
use Rattle.pic8259.specs.declared.pics.Pics.{Pics}
use Rattle.uart16550.specs.Ports.{interrupt_line}
use Rattle.uart16550.specs.declared.uart.Uart.{Uart}
use Rattle.board.specs.declared.devices.Board.{Board}
use Rattle.board.specs.Boards.{serial_line, edged}

-- what is true already does not become true
no_rise : (pics : Pics) (asks : Bool) → edged pics serial_line (asks && not asks) ≡ pics
unfolding edged
no_rise pics true = refl
no_rise pics false = refl

pub port_stays : (board : Board) (uart : Uart) (asked : Bool) → uart ≡ board.uart → asked ≡ interrupt_line board.uart →
    record { pics = edged board.pics serial_line (interrupt_line uart && not asked); pit = board.pit; uart = uart } ≡ board
port_stays board uart asked same before =
    rw (same, before) (ap (λ (pics : Pics). record { pics = pics; pit = board.pit; uart = board.uart })
    (no_rise board.pics (interrupt_line board.uart)))
