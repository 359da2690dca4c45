-- Steps of a halted processor, one after the other.
use Rattle.std.proofs.Common.{◌≡◌, ℕ, zero, suc, ◌+◌, ◌<◌, Bool, true, false, cond, [], ◌∷◌, replicate, Option, None, refl, ap, subst, ◌∙◌, inl, arith}
use Rattle.std.specs.Prelude.{◌&&◌, not, if◌then◌else◌}
use Rattle.std.proofs.lemmas.Bool.{or_parts}
use Rattle.board.specs.declared.devices.Board.{Board}
use Rattle.board.specs.Boards.{board_step, vector, with_timer_edge}
use Rattle.board.specs.Quiet.{board_steps, comes_within, event_within, StepsAreQuiet, EventsComeLater, EdgesAreOne}
use Rattle.board.specs.Scripts.{Events}
use Rattle.descriptors.specs.declared.cpu.Cpu.{Cpu}
use Rattle.paging.specs.Fresh.{has}
use Rattle.paging.specs.Space.{Space}
use Rattle.machine_model.specs.State.{Setting, State, space_at_start}
use Rattle.machine_model.specs.Step.{concluded, worked, begins_next, step_of, stepped, by_interrupt, unheld}
use Rattle.machine_model.specs.Run.{Steps}
use Rattle.machine_model.specs.Resting.{IsResting, SleepsThrough, resting, nothing, EachRests, AllRest, NothingIsSeen, QuietSteps, StepsWithEdges, HaltedSteps}

pub halted_works : (m : Setting) (b : State) (s : Space) → b.cpu.halted ≡ true → worked m b s ≡ concluded [] None b b.cpu b.board s
unfolding worked
halted_works m b s e = ap (λ (h : Bool). cond h (concluded [] None b b.cpu b.board s) (begins_next m b s)) e

-- a board that would deliver the same vector changes nothing
rests_still : (cpu : Cpu) (board next : Board) → vector next ≡ vector board → IsResting cpu board → IsResting cpu next
rests_still cpu board next same h = record {
  halted = h.halted;
  none = ap (λ (v : Option ℕ). if has cpu.regs.flags.bits 512 && not false then v else None) same ∙ h.none;
}

rests_first : (n : ℕ) (cpu : Cpu) (board : Board) (script : Events) (t : ℕ) → 0 < n → SleepsThrough cpu board script t n
    → IsResting cpu board
unfolding board_steps
rests_first n cpu board script t some h = h.rests 0 some

sleeps_later : EventsComeLater → (cpu : Cpu) (board : Board) (script : Events) (t j : ℕ) → SleepsThrough cpu board script t (suc j)
    → SleepsThrough cpu (board_step board) script (t + 1) j
unfolding board_steps
sleeps_later later cpu board script t j h =
    record { no_event = (later script t j h.no_event).later; rests = λ i l. h.rests (suc i) (omega (arith, l)) }

each_rests : EventsComeLater → EachRests
unfolding step_of
each_rests later s cpu ram board t j h =
    let first = rests_first (suc j) cpu board s.script t (omega arith) h in
    record {
      goes = λ whole set.
          let b = resting cpu ram whole board (t + 1) in
          let space = space_at_start s.mode s.frames b.cpu ram set in
          ap (λ (d : Board). stepped s (record b { board = d; set = set })) ((later s.script t j h.no_event).no_event board)
          ∙ (ap (λ (o : Option ℕ). by_interrupt s o (unheld (record b { set = set })) space) first.none ∙ halted_works s
          (unheld (record b { set = set })) space first.halted);
      later = sleeps_later later cpu board s.script t j h;
    }

all_rest : EachRests → AllRest
unfolding Steps board_steps
all_rest each zero s cpu ram whole set board t h allowed = (
  resting cpu ram set (board_step board) (t + 1 + 1),
  nothing,
  [],
  allowed,
  (each s cpu ram board t 0 h).goes whole set,
  (refl, refl),
  refl,
)
all_rest each (suc k) s cpu ram whole set board t h allowed =
    let now = each s cpu ram board t (suc k) h in
    let rest = all_rest each k s cpu ram set set (board_step board) (t + 1) now.later (record { each = λ page e is. inl is }) in (
      resting cpu ram set (board_step board) (t + 1 + 1),
      nothing,
      nothing ∷ replicate k nothing,
      allowed,
      now.goes whole set,
      subst (λ (n : ℕ). Steps s (resting cpu ram set (board_step board) (t + 1 + 1)) (set ∷ replicate k set) (nothing ∷ replicate k nothing)
          (resting cpu ram set (board_steps (suc k) (board_step board)) n)) (omega arith) rest,
      refl,
    )

nothing_is_seen : NothingIsSeen
nothing_is_seen zero = refl
nothing_is_seen (suc k) = nothing_is_seen k

rests_before : StepsAreQuiet → (i n : ℕ) (cpu : Cpu) (board : Board) (script : Events) (t : ℕ) → IsResting cpu board
    → comes_within board script t n ≡ false → i < n → IsResting cpu (board_steps i board)
unfolding board_steps
rests_before quiet zero n cpu board script t h none l = h
rests_before quiet (suc i) zero cpu board script t h none l = absurd (omega (arith, l))
rests_before quiet (suc i) (suc j) cpu board script t h none l =
    let q = quiet board script t j none in
    rests_before quiet i j cpu (board_step board) script (t + 1) (rests_still cpu board (board_step board) q.same_vector h)
    q.later (omega (arith, l))

quiet_steps : StepsAreQuiet → QuietSteps
unfolding comes_within
quiet_steps quiet n cpu board script t h none = record {
  no_event = (or_parts _ (event_within t n script) none).1;
  rests = λ i l. rests_before quiet i n cpu board script t h none l;
}

rests_by : (cpu : Cpu) (board next : Board) (edge : Bool) → IsResting cpu board → IsResting cpu (with_timer_edge board)
    → vector next ≡ (if edge then vector (with_timer_edge board) else vector board) → IsResting cpu next
rests_by cpu board next true h e is = rests_still cpu (with_timer_edge board) next is e
rests_by cpu board next false h e is = rests_still cpu board next is h

steps_with_edges : EdgesAreOne → StepsWithEdges
steps_with_edges edges n cpu board script t h e none = record {
  no_event = none;
  rests = λ i l. rests_by cpu board (board_steps i board) _ h e (edges i board);
}

pub halted_steps : StepsAreQuiet → EventsComeLater → EdgesAreOne → HaltedSteps
halted_steps quiet later edges = record {
  each = each_rests later;
  all = all_rest (each_rests later);
  silent = nothing_is_seen;
  quiet = quiet_steps quiet;
  with_edges = steps_with_edges edges;
}
