use Rattle.std.proofs.Common.{ℕ, List, ◌++◌}
use Rattle.std.specs.Prelude.{codes}
use Rattle.run_trace.specs.Text.{hex8}
use Rattle.step_text.specs.Stored.{digits_of}
use Rattle.ia32_text.proofs.LinePieces.{four_pieces}
use Rattle.step_text.proofs.stored.put_range.Goals as goal

pub returns-clause-text : goal.returns-clause-text
returns-clause-text c =
    four_pieces c.args.line.now.items (codes "  [") (hex8 c.args.at) (codes "] ") (digits_of c.args.bytes.now) _ _ _ _ c.add.ensures
    c.eight_digits.ensures.text c.add-2.ensures c.put_bytes.ensures.text
