use Rattle.std.proofs.Common.{Option, refl, sym, subst}
use Rattle.pv_io.specs.Files.{FileMap}
use Rattle.pv_build.specs.Images.{HasImage}
use Rattle.pv_build.specs.Scripts.{HasScript}
use Rattle.pv_tasks.specs.Outside.{outside}
use Rattle.pv_prove.specs.Proving.{ProvesRun, prove_task}
use Rattle.pv_tasks.proofs.Deliveries.{halts, counts_host, counts_behind, since_read, some_is_none}
use Rattle.pv_tasks.proofs.RunMeanings.{no_run}
use Rattle.pv_prove.proofs.ProveMeanings.{prove_since}
use Rattle.pv_tasks.proofs.Faults.{ends_halted, ends_since}
use Rattle.pv_prove.proofs.proving.prove.Goals as goal
use Rattle.pv_tasks.proofs.Works.{WithFrames}

pub returns-in-Err-clause-meaning : goal.returns-in-Err-clause-meaning
returns-in-Err-clause-meaning g c =
    let task = prove_task c.args.words.image.now c.args.words.script.now c.args.words.frames c.args.words.n c.args.certificate.now in
    let words = c.args.words in
    let held = g.F.Files.held c.args.files.now in
    halts _ _ task _ c.end.result c.in-Err.halt
    (λ line none. no_run (WithFrames (ProvesRun words.frames words.n c.args.certificate.now) words.frames) held words.image.now
    words.script.now line none) (λ found. found) c.in-Err.ensures.read.held
    refl c.in-Err.ensures.halted c.end.ensures

pub returns-in-Err-clause-counts : goal.returns-in-Err-clause-counts
returns-in-Err-clause-counts g c =
    let task = prove_task c.args.words.image.now c.args.words.script.now c.args.words.frames c.args.words.n c.args.certificate.now in
    counts_host g.F.Files g.S.Sink g.H.Host task c.args.files.now c.runnable_in_files.new.files c.args.out.now c.end.new.out c.args.host.now
    c.args.host.now c.in-Err.ensures.read

pub returns-in-Ok-clause-meaning : goal.returns-in-Ok-clause-meaning
returns-in-Ok-clause-meaning g c =
    let task = prove_task c.args.words.image.now c.args.words.script.now c.args.words.frames c.args.words.n c.args.certificate.now in
    let words = c.args.words in
    let read = c.in-Ok.ensures.read in
    let has = subst (λ (f : Option FileMap). HasImage f words.image.now c.in-Ok.found.image) (sym read.held) c.in-Ok.ensures.image in
    let says =
    subst (λ (f : Option FileMap). HasScript f words.script.now c.in-Ok.found.script.list) (sym read.held) c.in-Ok.ensures.script in
    let o = outside g.F.Files g.S.Sink g.H.Host (c.runnable_in_files.new.files, c.prove_found.new.files)
    (c.args.out.now, c.prove_found.new.out) (c.args.host.now, c.prove_found.new.host) in
    since_read task o (g.F.Files.held c.args.files.now) (g.F.Files.sure c.args.files.now) (g.F.Files.load_faults c.args.files.now)
    (g.F.Files.store_faults c.args.files.now) c.prove_found.result
    (prove_since words.image.now words.script.now words.frames words.n c.args.certificate.now o (g.F.Files.load_faults c.args.files.now))
    read.held read.same_sure read.same_stores read.later (c.prove_found.ensures.meaning words.image.now words.script.now has says)

pub returns-in-Ok-clause-counts : goal.returns-in-Ok-clause-counts
returns-in-Ok-clause-counts g c =
    let task = prove_task c.args.words.image.now c.args.words.script.now c.args.words.frames c.args.words.n c.args.certificate.now in
    counts_behind g.F.Files g.S.Sink g.H.Host task c.args.files.now c.runnable_in_files.new.files c.prove_found.new.files c.args.out.now
    c.prove_found.new.out c.args.host.now c.prove_found.new.host
    (some_is_none c.args.certificate.now) c.in-Ok.ensures.read c.prove_found.ensures.stored

pub returns-in-Err-clause-ends : goal.returns-in-Err-clause-ends
returns-in-Err-clause-ends g c =
    ends_halted g.F.Files g.S.Sink c.args.files.now c.runnable_in_files.new.files c.args.out.now c.end.new.out c.in-Err.halt
    (g.S.Sink.taken c.args.out.now) (g.S.Sink.taken c.end.new.out)
    c.end.result c.in-Err.ensures.kept c.in-Err.ensures.read.same_stores c.end.ensures

pub returns-in-Ok-clause-ends : goal.returns-in-Ok-clause-ends
returns-in-Ok-clause-ends g c =
    ends_since g.F.Files g.S.Sink c.args.files.now c.runnable_in_files.new.files c.prove_found.new.files c.args.out.now
    c.prove_found.new.out c.prove_found.result c.in-Ok.ensures.kept c.in-Ok.ensures.read.same_stores c.prove_found.ensures.ends
