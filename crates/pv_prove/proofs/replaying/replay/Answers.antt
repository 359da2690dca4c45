use Rattle.std.proofs.Common.{refl}
use Rattle.pv_tasks.specs.Beside.{beside}
use Rattle.pv_tasks.proofs.Deliveries.{halts, counts_read}
use Rattle.pv_prove.proofs.ReplayMeanings.{no_replay, judges_puts, replay_means}
use Rattle.pv_tasks.proofs.Faults.{ends_halted, ends_same}
use Rattle.pv_prove.specs.Replaying.{replay_task}
use Rattle.pv_prove.proofs.replaying.replay.Goals as goal

pub returns-in-Err-clause-meaning : goal.returns-in-Err-clause-meaning
returns-in-Err-clause-meaning g c =
    let task = replay_task c.args.words.image.now c.args.words.script.now c.args.words.frames c.args.words.n
    c.args.certificate.now c.args.text.now in
    λ completed memory.
    let words = c.args.words in
    halts _ _ task _ c.end.result c.in-Err.halt
    (λ line none. no_replay words.frames words.n (g.F.Files.held c.args.files.now) words.image.now words.script.now c.args.certificate.now
    c.args.text.now line none) (λ found. found) c.in-Err.ensures.read.held
    refl c.in-Err.ensures.halted c.end.ensures

pub returns-in-Ok-clause-meaning : goal.returns-in-Ok-clause-meaning
returns-in-Ok-clause-meaning g c = λ completed memory.
    let words = c.args.words in
    let found = c.in-Ok.found in
    let h = c.in-Ok.ensures in
    replay_means words.image.now words.script.now c.args.certificate.now c.args.text.now words.frames words.n
    (beside g.F.Files g.S.Sink (c.args.files.now, c.replayable_in_files.new.files) (c.args.out.now, c.judge.new.out) completed memory)
    c.judge.result
    found.runnable.image found.runnable.script.list found.choices.list found.text.items h.image h.script h.choices h.text h.read.held
    refl c.judge.ensures

pub returns-in-Err-clause-counts : goal.returns-in-Err-clause-counts
returns-in-Err-clause-counts g c =
    let task = replay_task c.args.words.image.now c.args.words.script.now c.args.words.frames c.args.words.n
    c.args.certificate.now c.args.text.now in
    λ completed memory.
    counts_read g.F.Files g.S.Sink task c.args.files.now c.replayable_in_files.new.files c.args.out.now c.end.new.out completed memory
    c.in-Err.ensures.read

pub returns-in-Ok-clause-counts : goal.returns-in-Ok-clause-counts
returns-in-Ok-clause-counts g c =
    let task = replay_task c.args.words.image.now c.args.words.script.now c.args.words.frames c.args.words.n
    c.args.certificate.now c.args.text.now in
    λ completed memory.
    counts_read g.F.Files g.S.Sink task c.args.files.now c.replayable_in_files.new.files c.args.out.now c.judge.new.out completed memory
    c.in-Ok.ensures.read

pub returns-in-Err-clause-ends : goal.returns-in-Err-clause-ends
returns-in-Err-clause-ends g c =
    ends_halted g.F.Files g.S.Sink c.args.files.now c.replayable_in_files.new.files c.args.out.now c.end.new.out c.in-Err.halt
    (g.S.Sink.taken c.args.out.now) (g.S.Sink.taken c.end.new.out)
    c.end.result c.in-Err.ensures.kept c.in-Err.ensures.read.same_stores c.end.ensures

pub returns-in-Ok-clause-ends : goal.returns-in-Ok-clause-ends
returns-in-Ok-clause-ends g c =
    let found = c.in-Ok.found in
    ends_same g.F.Files g.S.Sink c.args.files.now c.replayable_in_files.new.files c.args.out.now c.judge.new.out c.judge.result
    c.in-Ok.ensures.kept c.in-Ok.ensures.read.same_stores
    (judges_puts c.args.words.frames c.args.words.n found.runnable.image found.runnable.script.list found.choices.list found.text.items _ _
    _ _ c.judge.result c.judge.ensures)
