use Rattle.std.proofs.Common.{inl, inr, List, ◌-◌, length, map, take, drop, string_bytes, Option, sym, subst}
use Rattle.std.proofs.lemmas.Result.{err_from_is_err_and}
use Rattle.pv_io.specs.Files.{FileMap}
use Rattle.pv_words.specs.Words.{KernelNames, names_in_pairs}
use Rattle.pv_share.specs.Kernels.{HasKernel, FindsKernels, NoKernel}
use Rattle.pv_build.proofs.Halts.{halts_as, halts_since}
use Rattle.pv_build.proofs.Failures.{none_on}
use Rattle.pv_build.proofs.Readings.{read_on, read_for}
use Rattle.pv_share.proofs.Kernels.{pairs_are, pairs_none, none_behind, all_behind, err_to}
use Rattle.pv_share.proofs.kernel.+kernels_behind.Goals as goal

pub returns-in_err-found-in-len2-up-clause-halted : goal.returns-in_err-found-in-len2-up-clause-halted
returns-in_err-found-in-len2-up-clause-halted g t c =
    let p = err_from_is_err_and c.from_residual.result c.from_residual.ensures.1 in
    let held = g.F.Files.held c.args.files.now in
    let pairs = pairs_are string_bytes c.args.names.now c.image-item.result c.script-item.result c.as_str.result.now
    c.as_str-in-len2-up.result.now c.in-len2-up.len_at_least c.image-item.is c.script-item.is
    c.as_str.ensures.value c.as_str-in-len2-up.ensures.value in
    rw (p.1, p.2)
    (halts_as _ _ _ _ _ _ _ c.in_err-found-in-len2-up.field-0.0
    (λ line none. subst (λ (l : List KernelNames). NoKernel held l line) (sym pairs) (inl none))
    (λ finds. (subst (λ (l : List KernelNames). FindsKernels held l) pairs finds).0) c.in_err-found-in-len2-up.ensures.halted)

pub returns-in_err-found-in-len2-up-clause-read : goal.returns-in_err-found-in-len2-up-clause-read
returns-in_err-found-in-len2-up-clause-read g t c =
    let held = g.F.Files.held c.args.files.now in
    let pairs = pairs_are string_bytes c.args.names.now c.image-item.result c.script-item.result c.as_str.result.now
    c.as_str-in-len2-up.result.now c.in-len2-up.len_at_least c.image-item.is c.script-item.is
    c.as_str.ensures.value c.as_str-in-len2-up.ensures.value in
    read_for _ _ _ _ _ c.in_err-found-in-len2-up.ensures.read
    (λ finds. (subst (λ (l : List KernelNames). FindsKernels held l) pairs finds).0)

pub returns-in_err-push-in-len2-up-clause-read : goal.returns-in_err-push-in-len2-up-clause-read
returns-in_err-push-in-len2-up-clause-read g t c =
    let held = g.F.Files.held c.args.files.now in
    let pairs = pairs_are string_bytes c.args.names.now c.image-item.result c.script-item.result c.as_str.result.now
    c.as_str-in-len2-up.result.now c.in-len2-up.len_at_least c.image-item.is c.script-item.is
    c.as_str.ensures.value c.as_str-in-len2-up.ensures.value in
    read_for _ _ _ _ _ c.in_ok-found-in-len2-up.ensures.read
    (λ finds. (subst (λ (l : List KernelNames). FindsKernels held l) pairs finds).0)

pub returns-in_default-clause-kernels : goal.returns-in_default-clause-kernels
returns-in_default-clause-kernels g t c =
    none_behind _ _ c.args.kernels.items (pairs_none string_bytes c.args.names.now c.in_default.len_below)

pub returns-in_ok-push-in-len2-up-clause-kernels : goal.returns-in_ok-push-in-len2-up-clause-kernels
returns-in_ok-push-in-len2-up-clause-kernels g t c =
    let found = c.in_ok-found-in-len2-up in
    let pairs = pairs_are string_bytes c.args.names.now c.image-item.result c.script-item.result c.as_str.result.now
    c.as_str-in-len2-up.result.now c.in-len2-up.len_at_least c.image-item.is c.script-item.is
    c.as_str.ensures.value c.as_str-in-len2-up.ensures.value in
    all_behind c.kernels_behind.result (g.F.Files.held c.args.files.now) (g.F.Files.held c.runnable_in_files.new.files) c.args.kernels.items
    c.push.new.self.items (record { image = found.found.image; script = found.found.script })
    (record { image = c.as_str.result.now; script = c.as_str-in-len2-up.result.now })
    (names_in_pairs (map string_bytes (take (length c.args.names.now - 2) (drop 2 c.args.names.now))))
    (names_in_pairs (map string_bytes c.args.names.now))
    pairs found.ensures.read.held c.in_ok-push-in-len2-up.ensures.items
    (record { image = found.ensures.image; script = found.ensures.script }) found.ensures.form c.kernels_behind.ensures.kernels

pub returns-in_ok-push-in-len2-up-clause-halted : goal.returns-in_ok-push-in-len2-up-clause-halted
returns-in_ok-push-in-len2-up-clause-halted g t c =
    let found = c.in_ok-found-in-len2-up in
    let held = g.F.Files.held c.args.files.now in
    let more = names_in_pairs (map string_bytes (take (length c.args.names.now - 2) (drop 2 c.args.names.now))) in
    let has : HasKernel held (record { image = c.as_str.result.now; script = c.as_str-in-len2-up.result.now })
    (record { image = found.found.image; script = found.found.script }) =
    record { image = found.ensures.image; script = found.ensures.script } in
    let pairs = pairs_are string_bytes c.args.names.now c.image-item.result c.script-item.result c.as_str.result.now
    c.as_str-in-len2-up.result.now c.in-len2-up.len_at_least c.image-item.is c.script-item.is
    c.as_str.ensures.value c.as_str-in-len2-up.ensures.value in
    err_to c.kernels_behind.result _ _
    (λ halt told. halts_since _ _ (g.F.Files.sure c.args.files.now) (g.F.Files.sure c.runnable_in_files.new.files)
    (g.F.Files.load_faults c.args.files.now) (g.F.Files.load_faults c.runnable_in_files.new.files) _ halt found.ensures.read.same_sure
    found.ensures.read.later
    (halts_as _ _ _ _ _ _ _ halt
    (λ line none. subst (λ (l : List KernelNames). NoKernel held l line) (sym pairs)
    (inr (_, has, subst (λ (f : Option FileMap). NoKernel f more line) found.ensures.read.held none)))
    (λ finds. subst (λ (f : Option FileMap). FindsKernels f more) (sym found.ensures.read.held)
    ((subst (λ (l : List KernelNames). FindsKernels held l) pairs finds).1 _ has)) told))
    c.kernels_behind.ensures.halted

pub returns-in_ok-push-in-len2-up-clause-read : goal.returns-in_ok-push-in-len2-up-clause-read
returns-in_ok-push-in-len2-up-clause-read g t c =
    let found = c.in_ok-found-in-len2-up in
    let held = g.F.Files.held c.args.files.now in
    let more = names_in_pairs (map string_bytes (take (length c.args.names.now - 2) (drop 2 c.args.names.now))) in
    let has : HasKernel held (record { image = c.as_str.result.now; script = c.as_str-in-len2-up.result.now })
    (record { image = found.found.image; script = found.found.script }) =
    record { image = found.ensures.image; script = found.ensures.script } in
    let pairs = pairs_are string_bytes c.args.names.now c.image-item.result c.script-item.result c.as_str.result.now
    c.as_str-in-len2-up.result.now c.in-len2-up.len_at_least c.image-item.is c.script-item.is
    c.as_str.ensures.value c.as_str-in-len2-up.ensures.value in
    read_on _ _ _ _ _ _ (read_for _ (FindsKernels held (names_in_pairs (map string_bytes c.args.names.now))) _ _ _ found.ensures.read
    (λ finds. (subst (λ (l : List KernelNames). FindsKernels held l) pairs finds).0))
    c.kernels_behind.ensures.read
    (λ finds. subst (λ (f : Option FileMap). FindsKernels f more) (sym found.ensures.read.held)
    ((subst (λ (l : List KernelNames). FindsKernels held l) pairs finds).1 _ has))

pub returns-in_ok-push-in-len2-up-clause-kept : goal.returns-in_ok-push-in-len2-up-clause-kept
returns-in_ok-push-in-len2-up-clause-kept g t c =
    none_on g.F.Files c.args.files.now c.runnable_in_files.new.files c.kernels_behind.new.files c.kernels_behind.result
    c.in_ok-found-in-len2-up.ensures.kept c.kernels_behind.ensures.kept
