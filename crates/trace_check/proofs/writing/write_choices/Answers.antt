use Rattle.std.proofs.Common.{◌≡◌, ap, ◌∙◌}
use Rattle.trace_check.specs.Form.{choices_bytes}
use Rattle.trace_check.specs.Reading.{choices_in}
use Rattle.trace_check.proofs.Inverse.{laid_read}
use Rattle.trace_check.proofs.writing.write_choices.Goals as goal

pub returns-clause-read : goal.returns-clause-read
returns-clause-read c =
    let same : c.deref.result.now ≡ c.args.choices.now.list = c.deref.ensures.value ∙ ap (λ v. v.list) c.choices.view_is in
    ap choices_in (c.in_ok-out.ensures ∙ ap choices_bytes same) ∙ laid_read c.args.choices.now.list c.requires
