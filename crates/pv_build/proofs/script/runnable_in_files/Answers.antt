use Rattle.std.proofs.Common.{Option, sym, subst}
use Rattle.std.proofs.lemmas.Result.{err_from_is_err_and}
use Rattle.pv_io.specs.Files.{FileMap, IsHeld}
use Rattle.pv_build.specs.Scripts.{HasScript, HasNoScript, FindsRun, NoImage, NoScript}
use Rattle.pv_build.proofs.Halts.{halts_as, halts_since}
use Rattle.pv_build.proofs.Failures.{none_since}
use Rattle.pv_build.proofs.Readings.{read_for, read_on}
use Rattle.pv_build.proofs.script.runnable_in_files.Goals as goal

pub returns-in_err-image-clause-halted : goal.returns-in_err-image-clause-halted
returns-in_err-image-clause-halted g c =
    let p = err_from_is_err_and c.from_residual.result c.from_residual.ensures.1 in
    rw (p.1, p.2)
    (halts_as _ _ _ _ _ _ _ c.in_err-image.field-0.0 (λ line none. NoImage none.0 none.1 none.2) (λ held. held.0)
    c.in_err-image.ensures.halted)

pub returns-in_err-script-clause-halted : goal.returns-in_err-script-clause-halted
returns-in_err-script-clause-halted g c =
    let first = c.in_ok-image.ensures.read in
    let p = err_from_is_err_and c.from_residual-in_err-script.result c.from_residual-in_err-script.ensures.1 in
    rw (p.1, p.2)
    (halts_since _ _ (g.F.Files.sure c.args.files.now) (g.F.Files.sure c.accepted.new.files) (g.F.Files.load_faults c.args.files.now)
    (g.F.Files.load_faults c.accepted.new.files) _
    c.in_err-script.field-0.0 first.same_sure first.later
    (halts_as _ _ _ _ _ _ _ c.in_err-script.field-0.0
    (λ line none. NoScript c.in_ok-image.image none.0 none.1 c.in_ok-image.ensures.image
    (subst (λ (f : Option FileMap). HasNoScript f c.args.script.now (none.0, none.1)) first.held none.2) none.3)
    (λ held. subst (λ (f : Option FileMap). IsHeld f c.args.script.now) (sym first.held)
    (held.1 c.in_ok-image.image c.in_ok-image.ensures.image)) c.in_err-script.ensures.halted))

pub returns-in_err-image-clause-read : goal.returns-in_err-image-clause-read
returns-in_err-image-clause-read g c = read_for _ _ _ _ _ c.in_err-image.ensures.read (λ held. held.0)

pub returns-in_err-script-clause-read : goal.returns-in_err-script-clause-read
returns-in_err-script-clause-read g c =
    let first = c.in_ok-image.ensures.read in
    read_on _ (FindsRun (g.F.Files.held c.args.files.now) c.args.image.now c.args.script.now) _ _ _ _
    (read_for _ _ _ _ _ first (λ held. held.0)) c.in_err-script.ensures.read
    (λ held. subst (λ (f : Option FileMap). IsHeld f c.args.script.now) (sym first.held)
    (held.1 c.in_ok-image.image c.in_ok-image.ensures.image))

pub returns-clause-read : goal.returns-clause-read
returns-clause-read g c =
    let first = c.in_ok-image.ensures.read in
    read_on _ (FindsRun (g.F.Files.held c.args.files.now) c.args.image.now c.args.script.now) _ _ _ _
    (read_for _ _ _ _ _ first (λ held. held.0)) c.in_ok-script.ensures.read
    (λ held. subst (λ (f : Option FileMap). IsHeld f c.args.script.now) (sym first.held)
    (held.1 c.in_ok-image.image c.in_ok-image.ensures.image))

pub returns-clause-script : goal.returns-clause-script
returns-clause-script g c =
    let first = c.in_ok-image.ensures.read in
    subst (λ (f : Option FileMap). HasScript f c.args.script.now c.in_ok-script.script.list) first.held c.in_ok-script.ensures.script

pub returns-in_err-script-clause-kept : goal.returns-in_err-script-clause-kept
returns-in_err-script-clause-kept g c =
    let p = err_from_is_err_and c.from_residual-in_err-script.result c.from_residual-in_err-script.ensures.1 in
    rw (p.1, p.2) (none_since _ _ _ c.in_err-script.field-0.0 c.in_ok-image.ensures.kept c.in_err-script.ensures.kept)
