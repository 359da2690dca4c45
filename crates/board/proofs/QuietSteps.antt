-- Steps of the board up to the next edge or event.
use Rattle.std.proofs.Common.{◌≡◌, ℕ, suc, ◌+◌, Bool, true, false, [], ◌∷◌, refl, ap, ◌∙◌, arith}
use Rattle.std.specs.Prelude.{◌&&◌, ◌||◌, ◌==◌, nat_lt, nat_le, if◌then◌else◌}
use Rattle.std.proofs.lemmas.Bool.Decides.{nat_tests}
use Rattle.std.proofs.lemmas.Bool.{or_parts}
use Rattle.pit8254.specs.Timers.{edge_comes, timer_step}
use Rattle.pit8254.specs.Edges.{edge_within}
use Rattle.board.specs.declared.devices.Board.{Board}
use Rattle.board.specs.Scripts.{Events}
use Rattle.board.specs.Boards.{edged, given, board_step, vector, with_timer_edge}
use Rattle.board.specs.Quiet.{board_steps, event_within, comes_within, StepsAreQuiet, EventsComeLater, EdgesAreOne}
use Rattle.board.proofs.Steps.{steps_are}

-- no event in some steps after t: none in the first of them
given_quiet : (t j : ℕ) (script : Events) → event_within t (suc j) script ≡ false → (board : Board) → given board script (t + 1) ≡ board
unfolding given
given_quiet t j [] h board = refl
given_quiet t j (x ∷ xs) h board =
    let parts = or_parts (nat_lt t x.0 && nat_le x.0 (t + suc j)) (event_within t (suc j) xs) h in
    let other : (x.0 == t + 1) ≡ false = grind (arith, nat_tests, parts.0) in
    rw other (given_quiet t j xs parts.1 board)

-- and none in the others
pub quiet_later : (t j : ℕ) (script : Events) → event_within t (suc j) script ≡ false → event_within (t + 1) j script ≡ false
quiet_later t j [] h = refl
quiet_later t j (x ∷ xs) h =
    let parts = or_parts (nat_lt t x.0 && nat_le x.0 (t + suc j)) (event_within t (suc j) xs) h in
    let out : (nat_lt (t + 1) x.0 && nat_le x.0 (t + 1 + j)) ≡ false = grind (arith, nat_tests, parts.0) in
    rw out (quiet_later t j xs parts.1)

-- a step without an edge changes no vector
pub vector_same : (board : Board) → edge_comes board.pit ≡ false → vector (board_step board) ≡ vector board
unfolding vector board_step edged
vector_same board h = rw h refl

pub quiet_from : StepsAreQuiet
unfolding comes_within edge_within board_step
quiet_from board script t j h =
    let both = or_parts (edge_comes board.pit || edge_within j (timer_step board.pit)) (event_within t (suc j) script) h in
    let edges = or_parts (edge_comes board.pit) (edge_within j (timer_step board.pit)) both.0 in
    record {
      no_event = given_quiet t j script both.1;
      same_vector = vector_same board edges.0;
      later = rw (edges.1, quiet_later t j script both.1) refl;
    }

pub no_step : (board : Board) → board_steps 0 board ≡ board
unfolding board_steps
no_step board = refl

-- one step of the board
pub one_step : (board : Board) → board_steps 1 board ≡ board_step board
unfolding board_steps
one_step board = refl

pub events_later : EventsComeLater
events_later script t j h = record { no_event = given_quiet t j script h; later = quiet_later t j script h }

-- an edge, or none
edge_or_none : (board : Board) (comes : Bool) → vector (record board { pics = edged board.pics 0 comes })
    ≡ (if comes then vector (with_timer_edge board) else vector board)
unfolding vector edged
edge_or_none board true = refl
edge_or_none board false = refl

pub edges_are_one : EdgesAreOne
unfolding vector
edges_are_one k board = ap vector (steps_are k board) ∙ edge_or_none board (edge_within k board.pit)
