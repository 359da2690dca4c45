use Rattle.std.specs.Prelude.{codes}
use Rattle.machine_text.specs.Devices.{four_text}
use Rattle.machine_text.proofs.Pieces.{four_pieces}
use Rattle.machine_text.proofs.devices.add_periods.Goals as goal

pub returns-clause-text : goal.returns-clause-text
returns-clause-text c =
    four_pieces c.args.line.now.items (codes " period ") (four_text c.args.bytes.now 16) (codes " next ")
    (four_text c.args.bytes.now 20) _ _ _ _
    c.add.ensures c.add_four.ensures.text c.add-2.ensures c.add_four-2.ensures.text
