use Rattle.std.proofs.Common.{ℕ, Option, sym, subst, ◌∙◌}
use Rattle.std.proofs.lemmas.Result.{err_from_is_err_and}
use Rattle.pv_io.specs.Files.{FileMap, IsHeld}
use Rattle.pv_save.specs.Checkpoints.{HasState, FindsState}
use Rattle.pv_save.specs.Unresumed.{HasNoState, NothingToRun, NoState, Unfit}
use Rattle.pv_build.proofs.Halts.{halts_as, halts_since, refuses_as, refused_here}
use Rattle.pv_build.proofs.Failures.{none_since}
use Rattle.pv_build.proofs.Readings.{read_for, read_on}
use Rattle.pv_save.proofs.checkpoints.resumable_in_files.Goals as goal

pub returns-in_err-found-clause-halted : goal.returns-in_err-found-clause-halted
returns-in_err-found-clause-halted g c =
    let p = err_from_is_err_and c.from_residual.result c.from_residual.ensures.1 in
    rw (p.1, p.2)
    (halts_as _ _ _ _ _ _ _ c.in_err-found.field-0.0 (λ line none. NothingToRun none) (λ held. held.0) c.in_err-found.ensures.halted)

pub returns-in_err-state-clause-halted : goal.returns-in_err-state-clause-halted
returns-in_err-state-clause-halted g c =
    let found = c.in_ok-found.found in
    let has = c.in_ok-found.ensures in
    let first = has.read in
    let p = err_from_is_err_and c.from_residual-in_err-state.result c.from_residual-in_err-state.ensures.1 in
    rw (p.1, p.2)
    (halts_since _ _ (g.F.Files.sure c.args.files.now) (g.F.Files.sure c.runnable_in_files.new.files)
    (g.F.Files.load_faults c.args.files.now) (g.F.Files.load_faults c.runnable_in_files.new.files) _
    c.in_err-state.field-0.0 first.same_sure first.later
    (halts_as _ _ _ _ _ _ _ c.in_err-state.field-0.0
    (λ line none. NoState found.image found.script.list none.0 has.image has.script
    (subst (λ (f : Option FileMap). HasNoState f c.args.name.now none.0) first.held none.1) none.2)
    (λ held. subst (λ (f : Option FileMap). IsHeld f c.args.name.now) (sym first.held)
    (held.1 found.image found.script.list has.image has.script)) c.in_err-state.ensures.halted))

pub returns-in_err-state-clause-read : goal.returns-in_err-state-clause-read
returns-in_err-state-clause-read g c =
    let found = c.in_ok-found.found in
    let has = c.in_ok-found.ensures in
    let first = has.read in
    read_on _ (FindsState (g.F.Files.held c.args.files.now) c.args.image.now c.args.script.now c.args.name.now) _ _ _ _
    (read_for _ _ _ _ _ first (λ held. held.0)) c.in_err-state.ensures.read
    (λ held. subst (λ (f : Option FileMap). IsHeld f c.args.name.now) (sym first.held)
    (held.1 found.image found.script.list has.image has.script))

pub returns-in_err-test_fit-clause-halted : goal.returns-in_err-test_fit-clause-halted
returns-in_err-test_fit-clause-halted g c =
    let found = c.in_ok-found.found in
    let has = c.in_ok-found.ensures in
    let first = has.read in
    let p = err_from_is_err_and c.from_residual-in_err-test_fit.result c.from_residual-in_err-test_fit.ensures.1 in
    rw (p.1, p.2)
    (refused_here _ _ _ _ _ c.in_err-test_fit.field-0.0
    (refuses_as _ _ c.in_err-test_fit.field-0.0
    (λ line why. Unfit found.image found.script.list c.in_ok-state.state why.0 why.1 has.image has.script
    (subst (λ (f : Option FileMap). HasState f c.args.name.now c.in_ok-state.state) first.held c.in_ok-state.ensures.state) why.2 why.3)
    c.in_err-test_fit.ensures.refused))

pub returns-in_err-state-clause-kept : goal.returns-in_err-state-clause-kept
returns-in_err-state-clause-kept g c =
    let p = err_from_is_err_and c.from_residual-in_err-state.result c.from_residual-in_err-state.ensures.1 in
    rw (p.1, p.2) (none_since _ _ _ c.in_err-state.field-0.0 c.in_ok-found.ensures.kept c.in_err-state.ensures.kept)
