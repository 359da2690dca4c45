-- Which 64 bytes are those of a board, and what the serial port is set to by them.
use Rattle.std.specs.Prelude.{ℕ, Bool, List, Option, Some, None, if◌then◌else◌}
use Rattle.std.specs.List.{list_all}
use Rattle.uart16550.specs.declared.settings.Settings.{Settings}
use Rattle.uart16550.specs.States.{settings_of}
use Rattle.board.specs.declared.devices.Board.{Board}
use Rattle.board.specs.Restored.{registers_at, board_at, Demands, demands}

abbrev pub settings_at : List ℕ → Settings
settings_at bytes = settings_of (registers_at bytes)

abbrev pub all_met : Demands → Bool
all_met demands = list_all (λ d. d.1) demands

-- the bytes are those of a board
unfoldable pub board_form : List ℕ → Bool
board_form bytes = all_met (demands bytes)

abbrev pub restored : List ℕ → Option Board
restored bytes = if board_form bytes then Some (board_at bytes) else None
