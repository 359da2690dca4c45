use Rattle.std.proofs.Common.{refl}
use Rattle.pv_build.specs.declared.status.Status.TheVariants as status
use Rattle.pv_tasks.specs.Checking.{check_task}
use Rattle.pv_tasks.proofs.Deliveries.{halts, counts_read}
use Rattle.pv_tasks.proofs.CheckMeanings.{refuses_image, tells_image}
use Rattle.pv_tasks.proofs.Faults.{puts_said, ends_same, ends_halted}
use Rattle.pv_tasks.proofs.checking.check.Goals as goal

pub returns-in-Err-clause-meaning : goal.returns-in-Err-clause-meaning
returns-in-Err-clause-meaning g c = λ completed memory.
    halts _ _ (check_task c.args.name.now) _ c.end.result c.in-Err.halt (λ line told. refuses_image _ c.args.name.now line told)
    (λ held. held) c.in-Err.ensures.read.held
    refl c.in-Err.ensures.halted c.end.ensures

pub returns-clause-meaning : goal.returns-clause-meaning
returns-clause-meaning g c = λ completed memory.
    tells_image c.args.name.now c.in-Ok-accepted_line.line c.in-Ok.image _ c.print.result c.in-Ok.ensures.image
    c.in-Ok-accepted_line.ensures c.in-Ok.ensures.read.held refl c.print.ensures

pub returns-in-Err-clause-counts : goal.returns-in-Err-clause-counts
returns-in-Err-clause-counts g c = λ completed memory. counts_read g.F.Files g.S.Sink (check_task c.args.name.now) c.args.files.now
    c.accepted.new.files c.args.out.now c.end.new.out completed memory c.in-Err.ensures.read

pub returns-clause-counts : goal.returns-clause-counts
returns-clause-counts g c = λ completed memory. counts_read g.F.Files g.S.Sink (check_task c.args.name.now) c.args.files.now
    c.accepted.new.files c.args.out.now c.print.new.out completed memory c.in-Ok.ensures.read

pub returns-in-Err-clause-ends : goal.returns-in-Err-clause-ends
returns-in-Err-clause-ends g c =
    ends_halted g.F.Files g.S.Sink c.args.files.now c.accepted.new.files c.args.out.now c.end.new.out c.in-Err.halt
    (g.S.Sink.taken c.args.out.now) (g.S.Sink.taken c.end.new.out)
    c.end.result c.in-Err.ensures.kept c.in-Err.ensures.read.same_stores c.end.ensures

pub returns-in-Err-accepted_line-clause-ends : goal.returns-in-Err-accepted_line-clause-ends
returns-in-Err-accepted_line-clause-ends g c =
    ends_same g.F.Files g.S.Sink c.args.files.now c.accepted.new.files c.args.out.now c.args.out.now status.Memory c.in-Ok.ensures.kept
    c.in-Ok.ensures.read.same_stores (λ write. refl)

pub returns-clause-ends : goal.returns-clause-ends
returns-clause-ends g c =
    ends_same g.F.Files g.S.Sink c.args.files.now c.accepted.new.files c.args.out.now c.print.new.out c.print.result c.in-Ok.ensures.kept
    c.in-Ok.ensures.read.same_stores
    (puts_said c.in-Ok-accepted_line.line status.Done _ _ _ _ c.print.result c.print.ensures)
