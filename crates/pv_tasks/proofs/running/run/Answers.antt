use Rattle.std.proofs.Common.{refl}
use Rattle.pv_build.specs.Scripts.{FindsRun}
use Rattle.pv_build.proofs.Readings.{read_for}
use Rattle.pv_tasks.specs.Outcome.{refused}
use Rattle.pv_tasks.proofs.Deliveries.{halts, counts_host}
use Rattle.pv_tasks.proofs.RunMeanings.{runs_of, ran_on, run_puts, ends_of, told_of, gives_run, finds_run, no_run, run_means}
use Rattle.pv_tasks.proofs.Faults.{ends_halted, ends_same}
use Rattle.pv_tasks.proofs.running.run.Goals as goal
use Rattle.pv_tasks.proofs.Works.{WithFrames}
use Rattle.pv_tasks.specs.Running.{run_task}

pub returns-in-Err-clause-meaning : goal.returns-in-Err-clause-meaning
returns-in-Err-clause-meaning g c =
    let task = run_task c.args.mode c.args.words.image.now c.args.words.script.now c.args.words.frames c.args.words.n in
    let words = c.args.words in
    let held = g.F.Files.held c.args.files.now in
    halts _ _ task _ c.end.result c.in-Err.halt
    (λ line none. gives_run c.args.mode words held (refused line)
    (no_run (WithFrames (runs_of c.args.mode words.frames words.n) words.frames) held words.image.now words.script.now line none))
    (finds_run c.args.mode words held) c.in-Err.ensures.read.held
    refl c.in-Err.ensures.halted c.end.ensures

pub returns-in-Ok-clause-meaning : goal.returns-in-Ok-clause-meaning
returns-in-Ok-clause-meaning g c =
    let task = run_task c.args.mode c.args.words.image.now c.args.words.script.now c.args.words.frames c.args.words.n in
    let words = c.args.words in
    let found = c.in-Ok.found in
    run_means task (runs_of c.args.mode words.frames words.n) words.image.now words.script.now words.frames _ c.tell_run.result
    found.image found.script.list (ends_of c.args.mode words.frames words.n) (told_of c.args.mode words.frames words.n)
    (gives_run c.args.mode words (g.F.Files.held c.args.files.now)) c.in-Ok.ensures.image c.in-Ok.ensures.script c.in-Ok.ensures.read.held
    (ran_on c.args.mode found.image found.script.list words.frames words.n _ _ _ _ _ _ c.run_found-ran.result _ _ _ c.tell_run.result
    c.run_found-ran.ensures.answers c.tell_run.ensures)

pub returns-in-Err-clause-counts : goal.returns-in-Err-clause-counts
returns-in-Err-clause-counts g c =
    let task = run_task c.args.mode c.args.words.image.now c.args.words.script.now c.args.words.frames c.args.words.n in
    let words = c.args.words in
    let held = g.F.Files.held c.args.files.now in
    counts_host g.F.Files g.S.Sink g.H.Host task c.args.files.now c.runnable_in_files.new.files c.args.out.now c.end.new.out
    c.args.host.now c.args.host.now
    (read_for g.F.Files (task.finds held) (FindsRun held words.image.now words.script.now) c.args.files.now c.runnable_in_files.new.files
    c.in-Err.ensures.read (finds_run c.args.mode words held))

pub returns-in-Ok-clause-counts : goal.returns-in-Ok-clause-counts
returns-in-Ok-clause-counts g c =
    let task = run_task c.args.mode c.args.words.image.now c.args.words.script.now c.args.words.frames c.args.words.n in
    let words = c.args.words in
    let held = g.F.Files.held c.args.files.now in
    counts_host g.F.Files g.S.Sink g.H.Host task c.args.files.now c.runnable_in_files.new.files c.args.out.now c.tell_run.new.out
    c.args.host.now c.run_found-ran.new.host
    (read_for g.F.Files (task.finds held) (FindsRun held words.image.now words.script.now) c.args.files.now c.runnable_in_files.new.files
    c.in-Ok.ensures.read (finds_run c.args.mode words held))

pub returns-in-Err-clause-ends : goal.returns-in-Err-clause-ends
returns-in-Err-clause-ends g c =
    ends_halted g.F.Files g.S.Sink c.args.files.now c.runnable_in_files.new.files c.args.out.now c.end.new.out c.in-Err.halt
    (g.S.Sink.taken c.args.out.now) (g.S.Sink.taken c.end.new.out)
    c.end.result c.in-Err.ensures.kept c.in-Err.ensures.read.same_stores c.end.ensures

pub returns-in-Ok-clause-ends : goal.returns-in-Ok-clause-ends
returns-in-Ok-clause-ends g c =
    let words = c.args.words in
    let found = c.in-Ok.found in
    ends_same g.F.Files g.S.Sink c.args.files.now c.runnable_in_files.new.files c.args.out.now c.tell_run.new.out c.tell_run.result
    c.in-Ok.ensures.kept c.in-Ok.ensures.read.same_stores
    (run_puts c.args.mode found.image found.script.list words.frames words.n _ _ _ _ _ _ c.run_found-ran.result _ _ _ c.tell_run.result
    c.run_found-ran.ensures.answers c.tell_run.ensures)
