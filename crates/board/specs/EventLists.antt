-- A script as contracts see it, and its events after a step.
use Rattle.std.specs.Prelude.{◌≡◌, ℕ, nat_le, [], ◌∷◌, if◌then◌else◌}
use Rattle.board.specs.declared.devices.Board.{Board}
use Rattle.board.specs.Scripts.{Events}
use Rattle.board.specs.Boards.{given}

-- a script as contracts see it
pub record EventList : Type 0 where
  pub list : Events

-- the events from the first one after a step on
unfoldable pub later : ℕ → Events → Events
later step [] = []
later step (event ∷ rest) = if nat_le event.0 step then later step rest else event ∷ rest

-- two lists have the same events of a step
abbrev pub SameEvents : ℕ → Events → Events → Type 0
SameEvents step xs ys = (board : Board) → given board ys step ≡ given board xs step
