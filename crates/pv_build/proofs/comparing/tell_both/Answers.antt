use Rattle.std.proofs.Common.{rules, ap, length, ◌∙◌, ◌-◌, List, ℕ}
use Rattle.trace_check.specs.Lines.{lines}
use Rattle.pv_build.proofs.WorkLines.{tells_both, work_line_is}
use Rattle.pv_build.proofs.comparing.tell_both.Goals as goal

pub returns : goal.returns
returns g c =
    tells_both c.in-Ok.line _ c.args.texts.now.first.items c.args.texts.now.second.items _ _ c.in-Ok-compared.compared _ _
    _ _ c.put_both.result
    (c.in-Ok.ensures ∙ work_line_is c.args.number _ _ _ _ _ _ c.args.texts.now.fills
    (ap (λ (l : List ℕ). length l) c.text.ensures.text) (search rules)
    (c.saturating_sub.ensures ∙ ap (λ (k : ℕ). k - 1)
    (c.count_lines.ensures ∙ ap (λ (l : List ℕ). length (lines l)) c.deref.ensures.value)))
    c.deref-in-Ok.ensures.value c.deref-in-Ok-2.ensures.value c.in-Ok-compared.ensures c.put_both.ensures
