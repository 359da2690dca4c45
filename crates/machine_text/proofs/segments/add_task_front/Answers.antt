use Rattle.std.specs.Prelude.{codes}
use Rattle.run_trace.specs.Text.{hex4, hex8}
use Rattle.machine_text.proofs.Pieces.{four_pieces}
use Rattle.machine_text.proofs.segments.add_task_front.Goals as goal

pub returns-clause-text : goal.returns-clause-text
returns-clause-text c =
    four_pieces c.args.line.now.items (codes "tr      ") (hex4 c.args.task.sel) (codes " base ") (hex8 c.args.task.base) _ _ _ _
    c.add.ensures c.four_digits.ensures.text c.add-2.ensures c.eight_digits.ensures.text
