-- The steps before the next event or edge.
use Rattle.std.proofs.Common.{◌≡◌, ℕ, zero, suc, ◌+◌, ◌<◌, ◌≤◌, false, Some, None, subst, ◌∙◌, inl, inr, arith}
use Rattle.std.specs.Prelude.{nat_le}
use Rattle.std.proofs.lemmas.Bool.{cases_lt}
use Rattle.std.proofs.lemmas.Bool.Decides.{nat_tests}
use Rattle.ia32_types.specs.Firsts.{IsFirst}
use Rattle.board.specs.declared.devices.Board.{Board}
use Rattle.board.specs.Scripts.{Events}
use Rattle.board.specs.Boards.{given, board_step}
use Rattle.board.specs.Quiet.{comes_within, StepsAreQuiet}
use Rattle.bare_machine.specs.Events.{NoneComes}

-- where nothing comes in some steps after one, no event comes in them
pub none_within : StepsAreQuiet → (n : ℕ) (board : Board) (script : Events) (t : ℕ) → comes_within board script t n ≡ false
    → (any : Board) (s : ℕ) → t < s → s ≤ t + n → given any script s ≡ any
none_within law zero board script t h any s lt le = absurd (omega arith)
none_within law (suc n) board script t h any s lt le =
    let quiet = law board script t n h in
    elim (cases_lt (t + 1) s) [
      | inl past ↦ none_within law n (board_step board) script (t + 1) quiet.later any s past (omega arith)
      | inr here ↦ (let same : t + 1 ≡ s = omega arith in subst (λ k. given any script k ≡ any) same (quiet.no_event any))
    ]

-- none comes at all
pub never : StepsAreQuiet → (board : Board) (script : Events) (t next : ℕ) → IsFirst (comes_within board script t) None
    → NoneComes script (t + 1) next
never law board script t next none = λ any s from before. none_within law s board script t (none s) any s (omega arith) (omega arith)

not_yet : (first n : ℕ) → n < first → nat_le first n ≡ false
not_yet first n lt = grind (arith, nat_tests)

-- the next is that many steps away
pub until : StepsAreQuiet → (board : Board) (script : Events) (t n next : ℕ) → IsFirst (comes_within board script t) (Some n) → next ≤ t + n
    → NoneComes script (t + 1) next
until law board script t zero next first le = λ any s from before. absurd (omega arith)
until law board script t (suc n) next first le = λ any s from before.
    none_within law n board script t (first n ∙ not_yet (suc n) n (omega arith)) any s (omega arith) (omega arith)

-- later on too
pub none_later : (script : Events) (from to next : ℕ) → from ≤ to → NoneComes script from next → NoneComes script to next
none_later script from to next le none = λ any s past before. none any s (omega arith) before

-- nothing is said of the steps before the first
pub none_before : (script : Events) (from : ℕ) → NoneComes script from 0
none_before script from = λ any s past before. absurd (omega arith)
