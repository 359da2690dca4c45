use Rattle.std.proofs.Common.{sym, subst}
use Rattle.std.specs.Prelude.{Result, Vec}
use Rattle.std.specs.declared.alloc.Global.{Global}
use Rattle.run_trace.specs.declared.items.Ended.{Ended}
use Rattle.guest_sched.specs.declared.kernel.SharedFault.{SharedFault}
use Rattle.pv_share.specs.Told.{SharedToldAs}
use Rattle.pv_share.proofs.ShareMeanings.{told_fault}
use Rattle.pv_share.proofs.sharing.tell_shared.Goals as goal

pub returns-in-Err : goal.returns-in-Err
returns-in-Err g c =
    subst (λ (r : Result (Vec Ended Global) SharedFault). SharedToldAs r (g.S.Sink.taken c.args.out.now) (g.S.Sink.taken c.tell_run.new.out)
    (g.S.Sink.faults c.args.out.now) (g.S.Sink.faults c.tell_run.new.out) c.tell_run.result) (sym c.in-Err.is)
    (told_fault c.in-Err.fault _ _ _ _ _ c.run_fault.result c.run_fault.ensures c.tell_run.ensures)
