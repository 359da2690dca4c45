use Rattle.std.proofs.Common.{◌≡◌, length, map, refl, ap, ◌∙◌}
use Rattle.std.specs.Prelude.{string_bytes}
use Rattle.std.proofs.lemmas.List.{length-map}
use Rattle.pv_share.specs.Unshared.{FindsShared}
use Rattle.pv_build.proofs.Readings.{read_for}
use Rattle.pv_tasks.specs.Outside.{outside}
use Rattle.pv_words.specs.Words.{names_in_pairs, makes_pairs}
use Rattle.pv_tasks.proofs.Deliveries.{halts, counts_host}
use Rattle.pv_share.proofs.ShareMeanings.{none_shared, share_means, share_puts, pairs_few, kernels_few}
use Rattle.pv_tasks.proofs.Faults.{ends_halted, ends_same}
use Rattle.pv_share.specs.Sharing.{share_task}
use Rattle.pv_share.proofs.sharing.share.Goals as goal

pub shared_in_files-requires : goal.shared_in_files-requires
shared_in_files-requires g c = (pairs_few (length c.args.words.kernels.now) c.requires.within.2).1

pub run_shared-ran-requires-clause-some : goal.run_shared-ran-requires-clause-some
run_shared-ran-requires-clause-some g c =
    let names = map string_bytes c.args.words.kernels.now in
    let same : length names ≡ length c.args.words.kernels.now = length-map c.args.words.kernels.now string_bytes in
    kernels_few (g.F.Files.held c.args.files.now) names _ (ap makes_pairs same ∙ c.requires.within.2) c.in-Ok.ensures.shared.has

pub returns-in-Err-clause-meaning : goal.returns-in-Err-clause-meaning
returns-in-Err-clause-meaning g c =
    let task = share_task c.args.words.schedule.now c.args.words.frames (names_in_pairs (map string_bytes c.args.words.kernels.now)) in
    let words = c.args.words in
    let held = g.F.Files.held c.args.files.now in
    halts _ _ task _ c.end.result c.in-Err.halt
    (λ line none. none_shared held words.schedule.now words.frames (names_in_pairs (map string_bytes words.kernels.now)) line none)
    (λ found. found) c.in-Err.ensures.read.held
    refl c.in-Err.ensures.halted c.end.ensures

pub returns-in-Ok-clause-meaning : goal.returns-in-Ok-clause-meaning
returns-in-Ok-clause-meaning g c =
    let words = c.args.words in
    let found = c.in-Ok.found in
    share_means words.schedule.now words.frames (names_in_pairs (map string_bytes words.kernels.now)) _ c.tell_shared.result
    found.kernels.items found.schedule.list _ _ _ c.run_shared-ran.result
    c.in-Ok.ensures.shared c.in-Ok.ensures.read.held c.run_shared-ran.ensures.shared c.tell_shared.ensures

pub returns-in-Err-clause-counts : goal.returns-in-Err-clause-counts
returns-in-Err-clause-counts g c =
    let task = share_task c.args.words.schedule.now c.args.words.frames (names_in_pairs (map string_bytes c.args.words.kernels.now)) in
    let words = c.args.words in
    let held = g.F.Files.held c.args.files.now in
    counts_host g.F.Files g.S.Sink g.H.Host task c.args.files.now c.shared_in_files.new.files c.args.out.now c.end.new.out
    c.args.host.now c.args.host.now
    (read_for g.F.Files (task.finds held) (FindsShared held words.schedule.now (names_in_pairs (map string_bytes words.kernels.now)))
    c.args.files.now c.shared_in_files.new.files c.in-Err.ensures.read (λ found. found))

pub returns-in-Ok-clause-counts : goal.returns-in-Ok-clause-counts
returns-in-Ok-clause-counts g c =
    let task = share_task c.args.words.schedule.now c.args.words.frames (names_in_pairs (map string_bytes c.args.words.kernels.now)) in
    let words = c.args.words in
    let held = g.F.Files.held c.args.files.now in
    counts_host g.F.Files g.S.Sink g.H.Host task c.args.files.now c.shared_in_files.new.files c.args.out.now c.tell_shared.new.out
    c.args.host.now c.run_shared-ran.new.host
    (read_for g.F.Files (task.finds held) (FindsShared held words.schedule.now (names_in_pairs (map string_bytes words.kernels.now)))
    c.args.files.now c.shared_in_files.new.files c.in-Ok.ensures.read (λ found. found))

pub returns-in-Err-clause-ends : goal.returns-in-Err-clause-ends
returns-in-Err-clause-ends g c =
    ends_halted g.F.Files g.S.Sink c.args.files.now c.shared_in_files.new.files c.args.out.now c.end.new.out c.in-Err.halt
    (g.S.Sink.taken c.args.out.now) (g.S.Sink.taken c.end.new.out)
    c.end.result c.in-Err.ensures.kept c.in-Err.ensures.read.same_stores c.end.ensures

pub returns-in-Ok-clause-ends : goal.returns-in-Ok-clause-ends
returns-in-Ok-clause-ends g c =
    let found = c.in-Ok.found in
    let o = outside g.F.Files g.S.Sink g.H.Host (c.args.files.now, c.shared_in_files.new.files) (c.args.out.now, c.tell_shared.new.out)
    (c.args.host.now, c.run_shared-ran.new.host) in
    ends_same g.F.Files g.S.Sink c.args.files.now c.shared_in_files.new.files c.args.out.now c.tell_shared.new.out c.tell_shared.result
    c.in-Ok.ensures.kept c.in-Ok.ensures.read.same_stores
    (share_puts c.args.words.frames o c.tell_shared.result found.kernels.items found.schedule.list _ _ _ c.run_shared-ran.result
    c.run_shared-ran.ensures.shared c.tell_shared.ensures)
