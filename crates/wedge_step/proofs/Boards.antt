-- Steps of the board.
use Rattle.std.proofs.Common.{◌≡◌, ℕ, [], refl}
use Rattle.board.specs.declared.devices.Board.{Board}
use Rattle.board.specs.Boards.{given}

pub none_given : (board : Board) (step : ℕ) → given board [] step ≡ board
unfolding given
none_given board step = refl
