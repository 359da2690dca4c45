use Rattle.std.proofs.Common.{[], Option, refl, subst}
use Rattle.pv_io.specs.Files.{FileMap}
use Rattle.wedge_core.specs.Counts.{Counts, counts_of}
use Rattle.pv_tasks.specs.Outside.{outside}
use Rattle.pv_tasks.specs.Beside.{beside}
use Rattle.pv_save.specs.Saving.{SavesBoot, setting_on}
use Rattle.pv_save.specs.Resting.{LeavesState, save_task}
use Rattle.pv_tasks.proofs.Deliveries.{halts, counts_host, counts_behind, some_is_none, not_ended}
use Rattle.pv_tasks.proofs.RunMeanings.{no_run}
use Rattle.pv_save.proofs.RestMeanings.{starts_kept, left_kept, started_means}
use Rattle.pv_save.proofs.RestDone.{fits_on, saves_boot, small_boot, starts_stop, left_state}
use Rattle.pv_tasks.proofs.Faults.{ends_halted, ends_behind}
use Rattle.pv_save.proofs.saving.save.Goals as goal
use Rattle.pv_tasks.proofs.Works.{WithFrames}

pub returns-in-Err-clause-meaning : goal.returns-in-Err-clause-meaning
returns-in-Err-clause-meaning g c =
    let task = save_task c.args.mode c.args.words.image.now c.args.words.script.now c.args.words.frames c.args.words.n c.args.file.now in
    let words = c.args.words in
    let held = g.F.Files.held c.args.files.now in
    halts _ _ task _ c.end.result c.in-Err.halt
    (λ line none. no_run (WithFrames (SavesBoot c.args.mode words.frames words.n c.args.file.now) words.frames) held words.image.now
    words.script.now line none)
    (λ finds. finds) c.in-Err.ensures.read.held
    refl c.in-Err.ensures.halted c.end.ensures

pub returns-in-Ok-clause-meaning : goal.returns-in-Ok-clause-meaning
returns-in-Ok-clause-meaning g c =
    let task = save_task c.args.mode c.args.words.image.now c.args.words.script.now c.args.words.frames c.args.words.n c.args.file.now in
    let words = c.args.words in
    let on = c.args.mode in
    let found = c.in-Ok.found in
    let read = c.in-Ok.ensures.read in
    let between = c.runnable_in_files.new.files in
    let host2 = c.rest_found-rested.new.host in
    let o = outside g.F.Files g.S.Sink g.H.Host (c.args.files.now, c.leave.new.files) (c.args.out.now, c.leave.new.out)
    (c.args.host.now, host2) in
    started_means task o on (setting_on on found.image found.script.list words.frames) words.n c.args.file.now
    (g.S.Sink.taken c.rest_found-rested.new.out) (g.S.Sink.faults c.rest_found-rested.new.out) (g.F.Files.held between)
    (g.F.Files.sure between) (g.F.Files.load_faults between) (g.F.Files.store_faults between)
    (counts_of g.H.Host host2) c.rest_found-rested.result c.leave.result
    (λ fits. saves_boot on words.image.now words.script.now words.frames words.n c.args.file.now o found.image found.script.list
    c.in-Ok.ensures.image c.in-Ok.ensures.script
    (fits_on on found.image found.script.list words.frames fits))
    (λ lt. small_boot on words.image.now words.script.now words.frames words.n c.args.file.now o.before.files found.image found.script.list
    c.in-Ok.ensures.image c.in-Ok.ensures.script lt)
    read.held read.same_sure read.same_stores c.rest_found-rested.ensures.answers
    (c.leave.ensures.leaves (counts_of g.H.Host host2) (g.H.Host.bytes host2))

pub returns-in-Err-clause-counts : goal.returns-in-Err-clause-counts
returns-in-Err-clause-counts g c =
    let task = save_task c.args.mode c.args.words.image.now c.args.words.script.now c.args.words.frames c.args.words.n c.args.file.now in
    counts_host g.F.Files g.S.Sink g.H.Host task c.args.files.now c.runnable_in_files.new.files c.args.out.now c.end.new.out c.args.host.now
    c.args.host.now c.in-Err.ensures.read

pub returns-in-Ok-clause-counts : goal.returns-in-Ok-clause-counts
returns-in-Ok-clause-counts g c =
    let task = save_task c.args.mode c.args.words.image.now c.args.words.script.now c.args.words.frames c.args.words.n c.args.file.now in
    counts_behind g.F.Files g.S.Sink g.H.Host task c.args.files.now c.runnable_in_files.new.files c.leave.new.files c.args.out.now
    c.leave.new.out c.args.host.now c.rest_found-rested.new.host
    (some_is_none c.args.file.now) c.in-Ok.ensures.read c.leave.ensures.stored

pub returns-in-Err-clause-leaves : goal.returns-in-Err-clause-leaves
returns-in-Err-clause-leaves g c = λ done. absurd (not_ended c.in-Err.halt _ _ _ _ c.end.result c.end.ensures done)

pub returns-in-Ok-clause-leaves : goal.returns-in-Ok-clause-leaves
returns-in-Ok-clause-leaves g c = λ done.
    let none : Counts = record { retired = 0; passed = 0 } in
    let o = beside g.F.Files g.S.Sink (c.runnable_in_files.new.files, c.leave.new.files)
    (c.rest_found-rested.new.out, c.leave.new.out) none [] in
    subst (λ (f : Option FileMap). LeavesState c.args.file.now f (g.F.Files.held c.leave.new.files)) c.in-Ok.ensures.read.held
    (left_state c.rest_found-rested.result c.args.file.now o c.leave.result
    (starts_stop _ _ _ _ _ _ _ c.rest_found-rested.result c.rest_found-rested.ensures.answers) (c.leave.ensures.leaves none []) done)

pub returns-in-Err-clause-ends : goal.returns-in-Err-clause-ends
returns-in-Err-clause-ends g c =
    ends_halted g.F.Files g.S.Sink c.args.files.now c.runnable_in_files.new.files c.args.out.now c.end.new.out c.in-Err.halt
    (g.S.Sink.taken c.args.out.now) (g.S.Sink.taken c.end.new.out)
    c.end.result c.in-Err.ensures.kept c.in-Err.ensures.read.same_stores c.end.ensures

pub returns-in-Ok-clause-ends : goal.returns-in-Ok-clause-ends
returns-in-Ok-clause-ends g c =
    let none : Counts = record { retired = 0; passed = 0 } in
    let o = beside g.F.Files g.S.Sink (c.runnable_in_files.new.files, c.leave.new.files)
    (c.rest_found-rested.new.out, c.leave.new.out) none [] in
    ends_behind g.F.Files g.S.Sink c.args.files.now c.runnable_in_files.new.files c.leave.new.files c.args.out.now
    c.rest_found-rested.new.out c.leave.new.out c.leave.result c.in-Ok.ensures.kept c.in-Ok.ensures.read.same_stores
    (left_kept (g.S.Sink.faults c.args.out.now) (g.S.Sink.faults c.rest_found-rested.new.out) c.rest_found-rested.result c.args.file.now o
    c.leave.result (starts_kept _ _ _ _ _ _ _ c.rest_found-rested.result c.rest_found-rested.ensures.answers)
    (c.leave.ensures.leaves none []))
    c.leave.ensures.ends
