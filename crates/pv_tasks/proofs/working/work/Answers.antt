use Rattle.std.proofs.Common.{refl}
use Rattle.pv_tasks.proofs.WorkMeanings.{work_ends, refuses_kernel, too_large, work_tells}
use Rattle.pv_tasks.proofs.working.work.Goals as goal

pub returns-in-Err : goal.returns-in-Err
returns-in-Err g c =
    work_ends c.args.number _ c.in-Err.halt _ _ _ _ _ _ _ c.end.result c.in-Err.ensures.refused
    (λ line told. (refuses_kernel c.args.number line told, refl)) c.end.ensures

pub returns-in-Err-both : goal.returns-in-Err-both
returns-in-Err-both g c =
    work_ends c.args.number _ c.in-Err-both.halt _ _ _ _ _ _ _ c.end-in-Err-both.result c.in-Err-both.ensures.refused
    (λ line told. too_large c.args.number _ _ _ line c.in-Ok.ensures.image told) c.end-in-Err-both.ensures

pub returns : goal.returns
returns g c =
    work_tells c.args.number _ c.in-Ok-both.texts.first.items c.in-Ok-both.texts.second.items c.in-Ok-both.texts.fills _ _ _ _ _ _ _
    c.tell_both.result c.in-Ok.ensures.image c.in-Ok-both.ensures.texts c.tell_both.ensures
