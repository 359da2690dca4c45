use Rattle.std.proofs.Common.{ℕ, ◌++◌, ap, ◌∙◌}
use Rattle.std.specs.Prelude.{codes}
use Rattle.run_trace.specs.Text.{hex8}
use Rattle.pv_look.specs.Lines.{bytes_text}
use Rattle.pv_look.proofs.Pieces.{three_pieces}
use Rattle.pv_look.proofs.comment.put_place.Goals as goal

pub returns-clause-text : goal.returns-clause-text
returns-clause-text c =
    three_pieces c.args.line.now.items (codes " # ") (hex8 c.linear.result) (bytes_text c.args.bytes.now) _ _ _ c.add.ensures
    c.eight_digits.ensures.text c.put_bytes.ensures.text
    ∙ ap (λ (n : ℕ). c.args.line.now.items ++ (codes " # " ++ hex8 n ++ bytes_text c.args.bytes.now)) c.linear.ensures
