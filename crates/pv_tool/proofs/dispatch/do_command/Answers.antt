use Rattle.wedge_core.specs.Counts.{counts_of}
use Rattle.std.proofs.Common.{refl}
use Rattle.pv_words.specs.Words.{Work}
use Rattle.pv_build.proofs.Readings.{read_none}
use Rattle.pv_tasks.proofs.Deliveries.{counts_host}
use Rattle.pv_save.proofs.RestLaws.{bare_mode}
use Rattle.pv_tasks.proofs.Faults.{ends_none}
use Rattle.pv_tasks.proofs.WorkMeanings.{work_means, work_no_read, work_puts}
use Rattle.pv_tool.specs.Asked.{task_of}
use Rattle.pv_tool.proofs.dispatch.do_command.Goals as goal

pub returns-in-Burn-clause-meaning : goal.returns-in-Burn-clause-meaning
returns-in-Burn-clause-meaning g c =
    rw c.in-Burn.is (c.burn.ensures.meaning (counts_of g.H.Host c.args.host.now) (g.H.Host.bytes c.args.host.now))

pub returns-in-Burn-clause-counts : goal.returns-in-Burn-clause-counts
returns-in-Burn-clause-counts g c =
    rw c.in-Burn.is (c.burn.ensures.counts (counts_of g.H.Host c.args.host.now) (g.H.Host.bytes c.args.host.now))

pub returns-in-Link-clause-meaning : goal.returns-in-Link-clause-meaning
returns-in-Link-clause-meaning g c =
    rw c.in-Link.is (c.link.ensures.meaning (counts_of g.H.Host c.args.host.now) (g.H.Host.bytes c.args.host.now))

pub returns-in-Link-clause-counts : goal.returns-in-Link-clause-counts
returns-in-Link-clause-counts g c =
    rw c.in-Link.is (c.link.ensures.counts (counts_of g.H.Host c.args.host.now) (g.H.Host.bytes c.args.host.now))

pub returns-in-Check-clause-meaning : goal.returns-in-Check-clause-meaning
returns-in-Check-clause-meaning g c =
    rw c.in-Check.is (c.check.ensures.meaning (counts_of g.H.Host c.args.host.now) (g.H.Host.bytes c.args.host.now))

pub returns-in-Check-clause-counts : goal.returns-in-Check-clause-counts
returns-in-Check-clause-counts g c =
    rw c.in-Check.is (c.check.ensures.counts (counts_of g.H.Host c.args.host.now) (g.H.Host.bytes c.args.host.now))

pub returns-in-Work-clause-meaning : goal.returns-in-Work-clause-meaning
returns-in-Work-clause-meaning g c = rw c.in-Work.is (work_means c.in-Work.number _ c.work.result refl c.work.ensures)

pub returns-in-Work-clause-counts : goal.returns-in-Work-clause-counts
returns-in-Work-clause-counts g c =
    rw c.in-Work.is
    (counts_host g.F.Files g.S.Sink g.H.Host (task_of (Work c.in-Work.number)) c.args.files.now c.args.files.now c.args.out.now
    c.work.new.out c.args.host.now c.work.new.host
    (read_none g.F.Files (Unit {0}) c.args.files.now))

pub returns-in-Work-clause-files : goal.returns-in-Work-clause-files
returns-in-Work-clause-files g c = λ reads. (refl, work_no_read c.in-Work.number _ _ _ _ _ _ _ c.work.result c.work.ensures)

pub returns-in-Work-clause-ends : goal.returns-in-Work-clause-ends
returns-in-Work-clause-ends g c =
    ends_none g.F.Files g.S.Sink c.args.files.now c.args.out.now c.work.new.out c.work.result
    (work_puts c.in-Work.number _ _ _ _ _ _ _ c.work.result c.work.ensures)

pub returns-in-Share-clause-meaning : goal.returns-in-Share-clause-meaning
returns-in-Share-clause-meaning g c = rw c.in-Share.is c.share.ensures.meaning

pub returns-in-Replay-clause-meaning : goal.returns-in-Replay-clause-meaning
returns-in-Replay-clause-meaning g c =
    rw c.in-Replay.is (c.replay.ensures.meaning (counts_of g.H.Host c.args.host.now) (g.H.Host.bytes c.args.host.now))

pub returns-in-Replay-clause-counts : goal.returns-in-Replay-clause-counts
returns-in-Replay-clause-counts g c =
    rw c.in-Replay.is (c.replay.ensures.counts (counts_of g.H.Host c.args.host.now) (g.H.Host.bytes c.args.host.now))

pub returns-in-Save-clause-meaning : goal.returns-in-Save-clause-meaning
returns-in-Save-clause-meaning g c = rw c.in-Save.is c.save.ensures.meaning

pub returns-in-SaveFrom-clause-meaning : goal.returns-in-SaveFrom-clause-meaning
returns-in-SaveFrom-clause-meaning g c = rw c.in-SaveFrom.is c.save_from.ensures.meaning

pub returns-in-Continue-clause-meaning : goal.returns-in-Continue-clause-meaning
returns-in-Continue-clause-meaning g c = rw c.in-Continue.is c.go_on.ensures.meaning

pub returns-in-Save-clause-host : goal.returns-in-Save-clause-host
returns-in-Save-clause-host g c = λ none. c.save.ensures.host (bare_mode c.in-Save.mode (rw c.in-Save.is at none))

pub returns-in-SaveFrom-clause-host : goal.returns-in-SaveFrom-clause-host
returns-in-SaveFrom-clause-host g c = λ none. c.save_from.ensures.host (bare_mode c.in-SaveFrom.mode (rw c.in-SaveFrom.is at none))

pub returns-in-Continue-clause-host : goal.returns-in-Continue-clause-host
returns-in-Continue-clause-host g c = λ none. c.go_on.ensures.host (bare_mode c.in-Continue.mode (rw c.in-Continue.is at none))

pub returns-in-RunBare-clause-meaning : goal.returns-in-RunBare-clause-meaning
returns-in-RunBare-clause-meaning g c = rw c.in-RunBare.is c.run.ensures.meaning

pub returns-in-RunWedge-clause-meaning : goal.returns-in-RunWedge-clause-meaning
returns-in-RunWedge-clause-meaning g c = rw c.in-RunWedge.is c.run-in-RunWedge.ensures.meaning

pub returns-in-Prove-clause-meaning : goal.returns-in-Prove-clause-meaning
returns-in-Prove-clause-meaning g c = rw c.in-Prove.is c.prove.ensures.meaning
