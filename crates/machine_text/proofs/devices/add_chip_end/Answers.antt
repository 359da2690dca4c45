use Rattle.std.specs.Prelude.{◌+◌, codes, slice_index}
use Rattle.machine_text.specs.Numbers.{field}
use Rattle.machine_text.proofs.Pieces.{four_pieces}
use Rattle.machine_text.proofs.devices.add_chip_end.Goals as goal

pub returns-clause-text : goal.returns-clause-text
returns-clause-text c =
    let b = c.args.bytes.now in
    let at = c.args.at in
    four_pieces c.args.line.now.items (field (codes " imr ") (slice_index b (at + 4))) (field (codes " base ") (slice_index b (at + 5)))
    (field (codes " reads ") (slice_index b (at + 6)))
    (codes "\n") _ _ _ _
    c.add_field.ensures.text c.add_field-2.ensures.text c.add_field-3.ensures.text c.add.ensures
