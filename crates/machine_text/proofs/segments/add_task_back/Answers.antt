use Rattle.std.specs.Prelude.{codes, not}
use Rattle.run_trace.specs.Text.{hex8}
use Rattle.machine_text.specs.Numbers.{where_so}
use Rattle.machine_text.proofs.Pieces.{four_pieces}
use Rattle.machine_text.proofs.segments.add_task_back.Goals as goal

pub returns : goal.returns
returns c =
    four_pieces c.args.line.now.items (codes " limit ") (hex8 c.args.task.limit) (where_so (not c.args.task.loaded) (codes " never loaded"))
    (codes "\n") _ _ _ _
    c.add.ensures c.eight_digits.ensures.text c.add_where.ensures.text c.add-2.ensures
