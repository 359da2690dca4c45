use Rattle.std.proofs.Common.{ℕ, ap, ◌∙◌}
use Rattle.pv_build.specs.Lines.{place_line}
use Rattle.pv_build.proofs.Halts.{refuses_as, line_is}
use Rattle.pv_build.proofs.image.form_refusal.Goals as goal

pub returns-in-At : goal.returns-in-At
returns-in-At c =
    refuses_as _ _ c.refused.result
    (λ line ok. (
      record { at = c.in-At.at; cause = c.in-At.cause },
      c.in-At.is,
      line_is _ line _ c.place_line.ensures ok ∙ ap (λ (n : ℕ). place_line n c.in-At.at) c.number_of_form.ensures,
    )) c.refused.ensures
