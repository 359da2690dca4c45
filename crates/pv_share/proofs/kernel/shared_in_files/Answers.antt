use Rattle.std.proofs.Common.{◌≡◌, ℕ, List, ◌++◌, Err, length, map, string_bytes, Option, sym, ap, subst, ◌∙◌, arith}
use Rattle.std.proofs.lemmas.Result.{err_from_is_err_and}
use Rattle.pv_io.specs.Files.{FileMap}
use Rattle.guest_sched.specs.declared.kernel.Kernel.{Kernel}
use Rattle.guest_sched.specs.Texts.{schedule_of}
use Rattle.pv_build.specs.Lines.{refusal_at_line}
use Rattle.pv_words.specs.Words.{names_in_pairs}
use Rattle.pv_share.specs.Kernels.{HasKernels, FindsKernels, NoKernel}
use Rattle.pv_share.specs.Unshared.{NoneRead, NoSchedule}
use Rattle.pv_build.proofs.Halts.{halts_as, halts_since, refused_here, refuses_as, line_is}
use Rattle.pv_build.proofs.Failures.{none_since}
use Rattle.pv_share.proofs.Kernels.{kernels_few}
use Rattle.pv_share.proofs.kernel.shared_in_files.Goals as goal

pub returns-in_err-kernels-clause-halted : goal.returns-in_err-kernels-clause-halted
returns-in_err-kernels-clause-halted g c =
    let p = err_from_is_err_and c.from_residual-in_err-kernels.result c.from_residual-in_err-kernels.ensures.1 in
    let pairs = names_in_pairs (map string_bytes c.args.names.now) in
    let read = c.in_ok-text.ensures.read in
    rw (p.1, p.2)
    (halts_since _ _ (g.F.Files.sure c.args.files.now) (g.F.Files.sure c.load.new.files) (g.F.Files.load_faults c.args.files.now)
    (g.F.Files.load_faults c.load.new.files) _
    c.in_err-kernels.field-0.0 read.same_sure read.later
    (halts_as _ _ _ _ _ _ _ c.in_err-kernels.field-0.0
    (λ line none. NoneRead c.in_ok-text.text.items c.in_ok-text.ensures.loaded
    (subst (λ (f : Option FileMap). NoKernel f pairs line) read.held none))
    (λ finds. subst (λ (f : Option FileMap). FindsKernels f pairs) (sym read.held) finds.1) c.in_err-kernels.ensures.halted))

pub overflow_cast-len : goal.overflow_cast-len
overflow_cast-len g c =
    let ks = c.in_ok-kernels.ensures.kernels in
    let few = kernels_few string_bytes c.args.names.now (g.F.Files.held c.load.new.files) ks.0 c.new.result.items
    c.in_ok-kernels.kernels.items c.requires ks.2.has c.new.ensures.items ks.1 in
    let size = c.len.ensures in
    omega (arith, few, size)

pub returns-clause-halted : goal.returns-clause-halted
returns-clause-halted g c =
    let pairs = names_in_pairs (map string_bytes c.args.names.now) in
    let read = c.in_ok-text.ensures.read in
    let ks = c.in_ok-kernels.ensures.kernels in
    let same : c.in_ok-kernels.kernels.items ≡ ks.0 = ks.1 ∙ ap (λ (l : List Kernel). l ++ ks.0) c.new.ensures.items in
    let has = subst (λ (l : List Kernel). HasKernels (g.F.Files.held c.args.files.now) pairs l) (sym same)
    (subst (λ (f : Option FileMap). HasKernels f pairs ks.0) read.held ks.2.has) in
    let size : c.len.result ≡ length c.in_ok-kernels.kernels.items = omega (arith, c.len.ensures) in
    let says : schedule_of (length c.in_ok-kernels.kernels.items) c.in_ok-text.text.items ≡ Err (c.in-Err-At.line, c.in-Err-At.cause) =
    subst (λ (t : List ℕ). schedule_of (length c.in_ok-kernels.kernels.items) t ≡ Err (c.in-Err-At.line, c.in-Err-At.cause))
    c.deref.ensures.value
    (subst (λ (n : ℕ). schedule_of n c.deref.result.now ≡ Err (c.in-Err-At.line, c.in-Err-At.cause)) size
    (rw c.in-Err-At.field-0-is at c.in-Err-At.ensures.read)) in
    refused_here _ _ _ _ _ c.refused.result
    (refuses_as _ _ c.refused.result
    (λ line ok. NoSchedule c.in_ok-text.text.items c.in_ok-kernels.kernels.items c.in-Err-At.line c.in-Err-At.cause
    c.in_ok-text.ensures.loaded has says
    (line_is _ line _ c.refusal_at_line.ensures ok ∙ ap (λ (n : ℕ). refusal_at_line n c.in-Err-At.line) c.number_of_schedule.ensures))
    c.refused.ensures)

pub returns-in_err-kernels-clause-kept : goal.returns-in_err-kernels-clause-kept
returns-in_err-kernels-clause-kept g c =
    let p = err_from_is_err_and c.from_residual-in_err-kernels.result c.from_residual-in_err-kernels.ensures.1 in
    rw (p.1, p.2) (none_since _ _ _ c.in_err-kernels.field-0.0 c.in_ok-text.ensures.kept c.in_err-kernels.ensures.kept)
