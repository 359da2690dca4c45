use Rattle.std.proofs.Common.{refl}
use Rattle.wedge_core.specs.Counts.{counts_of}
use Rattle.pv_tasks.specs.Outside.{outside}
use Rattle.pv_build.specs.declared.status.Status.TheVariants as status
use Rattle.pv_tasks.proofs.Faults.{ends_none, ends_behind}
use Rattle.pv_prove.proofs.ProveMeanings.{proved, unproved, proved_puts, unproved_puts}
use Rattle.pv_prove.proofs.proving.prove_found.Goals as goal

pub returns-in-Err-run_noted-clause-meaning : goal.returns-in-Err-run_noted-clause-meaning
returns-in-Err-run_noted-clause-meaning g c = λ image script has read.
    let o = outside g.F.Files g.S.Sink g.H.Host (c.args.files.now, c.args.files.now) (c.args.out.now, c.tell_run.new.out)
    (c.args.host.now, c.run_noted.new.host) in
    unproved image script c.args.frames c.args.n c.args.certificate.now c.args.found.now.image c.args.found.now.script.list o
    (g.S.Sink.taken c.run_noted.new.out) (g.S.Sink.faults c.run_noted.new.out)
    c.in-Err-run_noted.fault c.run_noted.new.notes c.tell_run.result has read c.in-Err-run_noted.ensures.run refl c.tell_run.ensures

pub returns-clause-meaning : goal.returns-clause-meaning
returns-clause-meaning g c = λ image script has read.
    let o = outside g.F.Files g.S.Sink g.H.Host (c.args.files.now, c.certify.new.files) (c.args.out.now, c.certify.new.out)
    (c.args.host.now, c.run_noted.new.host) in
    proved image script c.args.frames c.args.n c.args.certificate.now c.args.found.now.image c.args.found.now.script.list o
    (g.S.Sink.taken c.run_noted.new.out) (g.S.Sink.faults c.run_noted.new.out)
    c.in-Ok-run_noted.ended c.run_noted.new.notes c.status_of.result c.certify.result has read
    c.in-Ok-run_noted.ensures.run c.status_of.ensures
    (c.certify.ensures.certified (counts_of g.H.Host c.run_noted.new.host) (g.H.Host.bytes c.run_noted.new.host))

pub returns-in-Err-clause-ends : goal.returns-in-Err-clause-ends
returns-in-Err-clause-ends g c = ends_none g.F.Files g.S.Sink c.args.files.now c.args.out.now c.args.out.now status.Memory (λ write. refl)

pub returns-in-Err-run_noted-clause-ends : goal.returns-in-Err-run_noted-clause-ends
returns-in-Err-run_noted-clause-ends g c =
    let o = outside g.F.Files g.S.Sink g.H.Host (c.args.files.now, c.args.files.now) (c.args.out.now, c.tell_run.new.out)
    (c.args.host.now, c.run_noted.new.host) in
    ends_none g.F.Files g.S.Sink c.args.files.now c.args.out.now c.tell_run.new.out c.tell_run.result
    (unproved_puts c.args.found.now.image c.args.found.now.script.list c.args.frames c.args.n o (g.S.Sink.taken c.run_noted.new.out)
    (g.S.Sink.faults c.run_noted.new.out) c.in-Err-run_noted.fault c.run_noted.new.notes
    c.tell_run.result c.in-Err-run_noted.ensures.run c.tell_run.ensures)

pub returns-clause-ends : goal.returns-clause-ends
returns-clause-ends g c =
    let o = outside g.F.Files g.S.Sink g.H.Host (c.args.files.now, c.certify.new.files) (c.args.out.now, c.certify.new.out)
    (c.args.host.now, c.run_noted.new.host) in
    ends_behind g.F.Files g.S.Sink c.args.files.now c.args.files.now c.certify.new.files c.args.out.now c.run_noted.new.out
    c.certify.new.out c.certify.result refl refl
    (proved_puts c.args.found.now.image c.args.found.now.script.list c.args.frames c.args.n o (g.S.Sink.taken c.run_noted.new.out)
    (g.S.Sink.faults c.run_noted.new.out) c.in-Ok-run_noted.ended c.run_noted.new.notes
    c.certify.result c.in-Ok-run_noted.ensures.run) c.certify.ensures.ends
