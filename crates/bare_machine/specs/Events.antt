-- Steps in which no event of a script comes.
use Rattle.std.specs.Prelude.{◌≡◌, ℕ, ◌≤◌, ◌<◌}
use Rattle.board.specs.declared.devices.Board.{Board}
use Rattle.board.specs.Scripts.{Events}
use Rattle.board.specs.Boards.{given}

-- From a step on no event comes before another, whatever the board then is.
abbrev pub NoneComes : Events → ℕ → ℕ → Type 0
NoneComes script from next = (any : Board) (s : ℕ) → from ≤ s → s < next → given any script s ≡ any
