use Rattle.std.proofs.Common.{◌≡◌, ℕ, Bool, ◌++◌, subst, sym, ap, ◌∙◌}
use Rattle.std.specs.Prelude.{codes}
use Rattle.run_trace.specs.Text.{hex8}
use Rattle.pv_look.specs.Lines.{place_label}
use Rattle.pv_look.proofs.Pieces.{three_pieces}
use Rattle.pv_look.proofs.line.put_place_label.Goals as goal

pub returns-then-labelled-clause-text : goal.returns-then-labelled-clause-text
returns-then-labelled-clause-text c =
    subst (λ (b : Bool). c.add-then-labelled.new.line.items ≡ c.args.line.now.items ++ place_label b c.args.at) (sym c.if-labelled.true)
    (three_pieces c.args.line.now.items (codes "L") (hex8 c.linear.result) (codes ":\n") _ _ _ c.add.ensures c.eight_digits.ensures.text
    c.add-then-labelled.ensures
    ∙ ap (λ (n : ℕ). c.args.line.now.items ++ (codes "L" ++ hex8 n ++ codes ":\n")) c.linear.ensures)
