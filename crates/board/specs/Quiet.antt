-- Steps of the board, how soon something reaches it, and steps in which nothing does.
use Rattle.std.specs.Prelude.{◌≡◌, ℕ, zero, suc, ◌+◌, Bool, false, ◌&&◌, ◌||◌, nat_lt, nat_le, [], ◌∷◌, if◌then◌else◌}
use Rattle.pit8254.specs.Edges.{edge_within}
use Rattle.board.specs.declared.devices.Board.{Board}
use Rattle.board.specs.Scripts.{Events}
use Rattle.board.specs.Boards.{given, board_step, vector, with_timer_edge}

-- k steps
unfoldable pub board_steps : ℕ → Board → Board
board_steps zero board = board
board_steps (suc k) board = board_steps k (board_step board)

-- an event lies in the n steps after a step
abbrev pub event_within : ℕ → ℕ → Events → Bool
event_within step n [] = false
event_within step n (event ∷ rest) = (nat_lt step event.0 && nat_le event.0 (step + n)) || event_within step n rest

-- after n steps or fewer an edge or an event has come, where the events of this step were given
unfoldable pub comes_within : Board → Events → ℕ → ℕ → Bool
comes_within board script step n = edge_within n board.pit || event_within step n script

-- The first step after t has no event, whatever the board then is, and leaves the vector that would be delivered; nor
-- does anything come in the j steps after it.
pub record IsQuiet (board : Board) (script : Events) (t j : ℕ) : Type 0 where
  pub no_event : (any : Board) → given any script (t + 1) ≡ any
  pub same_vector : vector (board_step board) ≡ vector board
  pub later : comes_within (board_step board) script (t + 1) j ≡ false

-- so is each step up to the next edge or event
abbrev pub StepsAreQuiet : Type 0
StepsAreQuiet = (board : Board) (script : Events) (t j : ℕ) → comes_within board script t (suc j) ≡ false → IsQuiet board script t j

-- The first step after t has no event, whatever the board then is, and none comes in the j steps after it.
pub record NoneReaches (script : Events) (t j : ℕ) : Type 0 where
  pub no_event : (any : Board) → given any script (t + 1) ≡ any
  pub later : event_within (t + 1) j script ≡ false

-- so is each step up to the next event
abbrev pub EventsComeLater : Type 0
EventsComeLater = (script : Events) (t j : ℕ) → event_within t (suc j) script ≡ false → NoneReaches script t j

-- However many edges of the timer come, the vector that would be delivered is the one after a single edge.
abbrev pub EdgesAreOne : Type 0
EdgesAreOne = (k : ℕ) (board : Board)
    → vector (board_steps k board) ≡ (if edge_within k board.pit then vector (with_timer_edge board) else vector board)
