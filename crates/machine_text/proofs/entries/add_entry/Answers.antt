use Rattle.std.specs.Prelude.{codes}
use Rattle.run_trace.specs.Text.{hex8}
use Rattle.machine_text.specs.Numbers.{where_so}
use Rattle.machine_text.proofs.Pieces.{five_pieces}
use Rattle.machine_text.proofs.entries.add_entry.Goals as goal

pub returns-clause-text : goal.returns-clause-text
returns-clause-text c =
    let e = c.args.entry.now in
    five_pieces c.args.line.now.items (codes "frame ") (hex8 e.frame) (where_so e.user (codes " user")) (where_so e.write (codes " write"))
    (where_so e.dirty (codes " dirty")) _ _ _ _ _
    c.add.ensures c.eight_digits.ensures.text c.add_where.ensures.text c.add_where-2.ensures.text c.add_where-3.ensures.text
