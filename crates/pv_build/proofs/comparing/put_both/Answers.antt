use Rattle.std.proofs.Common.{◌∙◌}
use Rattle.pv_build.proofs.WorkLines.{cut_first, cut_second}
use Rattle.pv_build.proofs.comparing.put_both.Goals as goal

pub returns-in-Err : goal.returns-in-Err
returns-in-Err g c = cut_first _ _ c.args.first.now c.args.second.now _ _ _ (c.deref.ensures.value ∙ c.first.view_is)
    c.in-Err.ensures.failed c.in-Err.ensures.cause

pub returns-in-Err-put : goal.returns-in-Err-put
returns-in-Err-put g c =
    cut_second _ _ _ c.args.first.now c.args.second.now _ _ _ _ _ (c.deref.ensures.value ∙ c.first.view_is)
    (c.deref-in-Ok.ensures.value ∙ c.second.view_is) c.in-Ok.ensures.ok c.in-Ok.ensures.kept c.in-Err-put.ensures.failed
    c.in-Err-put.ensures.cause
