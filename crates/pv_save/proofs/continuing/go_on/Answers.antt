use Rattle.std.proofs.Common.{refl}
use Rattle.pv_save.specs.Continuing.{ContinuesOn, continue_task}
use Rattle.pv_tasks.proofs.Deliveries.{halts, counts_host}
use Rattle.pv_save.proofs.ContinueMeanings.{no_rest, continued, continue_puts, continue_means}
use Rattle.pv_tasks.proofs.Faults.{ends_halted, ends_same}
use Rattle.pv_save.proofs.continuing.go_on.Goals as goal

pub returns-in-Err-clause-meaning : goal.returns-in-Err-clause-meaning
returns-in-Err-clause-meaning g c =
    let task = continue_task c.args.mode c.args.words.image.now c.args.words.script.now c.args.words.file.now c.args.words.n in
    let words = c.args.words in
    let on = c.args.mode in
    let held = g.F.Files.held c.args.files.now in
    halts _ _ task _ c.end.result c.in-Err.halt
    (λ line none. no_rest (ContinuesOn on words.n) on c.is_wedge-wedge.result words.n held words.image.now words.script.now words.file.now
    line c.is_wedge-wedge.ensures none)
    (λ finds. finds) c.in-Err.ensures.read.held
    refl c.in-Err.ensures.halted c.end.ensures

pub returns-in-Ok-clause-meaning : goal.returns-in-Ok-clause-meaning
returns-in-Ok-clause-meaning g c =
    let task = continue_task c.args.mode c.args.words.image.now c.args.words.script.now c.args.words.file.now c.args.words.n in
    let words = c.args.words in
    let on = c.args.mode in
    let found = c.in-Ok.found in
    continue_means task on c.is_wedge-wedge.result words.n words.image.now words.script.now words.file.now _ c.tell_run.result found.image
    found.script.list found.state
    (λ w h. h) c.in-Ok.ensures.image c.in-Ok.ensures.script c.in-Ok.ensures.state c.is_wedge-wedge.ensures c.in-Ok.ensures.fits
    c.in-Ok.ensures.read.held
    (continued on found.image found.script.list words.n found.state _ _ _ _ _ _ c.run_onwards-ran.result _ _ _ c.tell_run.result
    c.run_onwards-ran.ensures.answers c.tell_run.ensures)

pub returns-in-Err-clause-counts : goal.returns-in-Err-clause-counts
returns-in-Err-clause-counts g c =
    let task = continue_task c.args.mode c.args.words.image.now c.args.words.script.now c.args.words.file.now c.args.words.n in
    counts_host g.F.Files g.S.Sink g.H.Host task c.args.files.now c.resumable_in_files.new.files c.args.out.now c.end.new.out
    c.args.host.now c.args.host.now c.in-Err.ensures.read

pub returns-in-Ok-clause-counts : goal.returns-in-Ok-clause-counts
returns-in-Ok-clause-counts g c =
    let task = continue_task c.args.mode c.args.words.image.now c.args.words.script.now c.args.words.file.now c.args.words.n in
    counts_host g.F.Files g.S.Sink g.H.Host task c.args.files.now c.resumable_in_files.new.files c.args.out.now c.tell_run.new.out
    c.args.host.now c.run_onwards-ran.new.host c.in-Ok.ensures.read

pub returns-in-Err-clause-ends : goal.returns-in-Err-clause-ends
returns-in-Err-clause-ends g c =
    ends_halted g.F.Files g.S.Sink c.args.files.now c.resumable_in_files.new.files c.args.out.now c.end.new.out c.in-Err.halt
    (g.S.Sink.taken c.args.out.now) (g.S.Sink.taken c.end.new.out)
    c.end.result c.in-Err.ensures.kept c.in-Err.ensures.read.same_stores c.end.ensures

pub returns-in-Ok-clause-ends : goal.returns-in-Ok-clause-ends
returns-in-Ok-clause-ends g c =
    let found = c.in-Ok.found in
    ends_same g.F.Files g.S.Sink c.args.files.now c.resumable_in_files.new.files c.args.out.now c.tell_run.new.out c.tell_run.result
    c.in-Ok.ensures.kept c.in-Ok.ensures.read.same_stores
    (continue_puts c.args.mode found.image found.script.list c.args.words.n found.state _ _ _ _ _ _ c.run_onwards-ran.result _ _ _
    c.tell_run.result c.run_onwards-ran.ensures.answers c.tell_run.ensures)
