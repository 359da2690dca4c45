use Rattle.std.proofs.Common.{◌≡◌, drop, true}
use Rattle.board.specs.ScriptForm.{is_script_from}
use Rattle.board.specs.Boards.{given}
use Rattle.board.proofs.devices.Board.begin.Given as goal

abbrev pub invariant-loop-at : goal.invariant-loop-at
invariant-loop-at l = record {
  left : given l.self (drop l.at-index l.rest) l.step ≡ given l.fn.self l.fn.script.list l.step;
  order : is_script_from l.step (drop l.at-index l.rest) ≡ true;
}
