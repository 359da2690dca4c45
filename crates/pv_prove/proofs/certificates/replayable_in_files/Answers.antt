use Rattle.std.proofs.Common.{Option, sym, subst, ◌∙◌, arith}
use Rattle.std.proofs.lemmas.Result.{err_from_is_err_and}
use Rattle.pv_io.specs.Files.{FileMap, Holds, IsHeld}
use Rattle.pv_prove.specs.Certificates.{HasChoices, FindsReplay}
use Rattle.pv_prove.specs.Unjudged.{HasNoChoices, NoRunnable, NoChoices}
use Rattle.pv_build.proofs.Halts.{halts_as, halts_since}
use Rattle.pv_build.proofs.Failures.{none_since}
use Rattle.pv_build.proofs.Readings.{read_for, read_on}
use Rattle.pv_prove.proofs.certificates.replayable_in_files.Goals as goal

pub returns-in_err-runnable-clause-halted : goal.returns-in_err-runnable-clause-halted
returns-in_err-runnable-clause-halted g c =
    let p = err_from_is_err_and c.from_residual.result c.from_residual.ensures.1 in
    rw (p.1, p.2)
    (halts_as _ _ _ _ _ _ _ c.in_err-runnable.field-0.0 (λ line none. NoRunnable none) (λ held. held.0) c.in_err-runnable.ensures.halted)

pub returns-in_err-choices-clause-halted : goal.returns-in_err-choices-clause-halted
returns-in_err-choices-clause-halted g c =
    let first = c.in_ok-runnable.ensures.read in
    let ok = c.in_ok-runnable.ensures in
    let image = c.in_ok-runnable.runnable.image in
    let events = c.in_ok-runnable.runnable.script.list in
    let p = err_from_is_err_and c.from_residual-in_err-choices.result c.from_residual-in_err-choices.ensures.1 in
    rw (p.1, p.2)
    (halts_since _ _ (g.F.Files.sure c.args.files.now) (g.F.Files.sure c.runnable_in_files.new.files)
    (g.F.Files.load_faults c.args.files.now) (g.F.Files.load_faults c.runnable_in_files.new.files) _
    c.in_err-choices.field-0.0 first.same_sure first.later
    (halts_as _ _ _ _ _ _ _ c.in_err-choices.field-0.0
    (λ line none. NoChoices image events none.0 ok.image ok.script
    (subst (λ (f : Option FileMap). HasNoChoices f c.args.certificate.now none.0) first.held none.1) none.2)
    (λ held. subst (λ (f : Option FileMap). IsHeld f c.args.certificate.now) (sym first.held) ((held.1 image events ok.image ok.script).0))
    c.in_err-choices.ensures.halted))

-- the text's file, where the others were read
pub returns-in_err-text-clause-halted : goal.returns-in_err-text-clause-halted
returns-in_err-text-clause-halted g c =
    let first = c.in_ok-runnable.ensures.read in
    let second = c.in_ok-choices.ensures.read in
    let ok = c.in_ok-runnable.ensures in
    let image = c.in_ok-runnable.runnable.image in
    let events = c.in_ok-runnable.runnable.script.list in
    let list = c.in_ok-choices.choices.list in
    let has = subst (λ (f : Option FileMap). HasChoices f c.args.certificate.now list) first.held c.in_ok-choices.ensures.choices in
    let same = second.held ∙ first.held in
    let p = err_from_is_err_and c.from_residual-in_err-text.result c.from_residual-in_err-text.ensures.1 in
    rw (p.1, p.2)
    (halts_since _ _ (g.F.Files.sure c.args.files.now) (g.F.Files.sure c.choices_in_file.new.files) (g.F.Files.load_faults c.args.files.now)
    (g.F.Files.load_faults c.choices_in_file.new.files) _
    c.in_err-text.field-0.0 (second.same_sure ∙ first.same_sure) (omega (arith, first.later, second.later))
    (halts_as _ _ _ _ _ _ _ c.in_err-text.field-0.0 (λ line none. absurd none)
    (λ held. subst (λ (f : Option FileMap). IsHeld f c.args.text.now) (sym same) ((held.1 image events ok.image ok.script).1 list has))
    c.in_err-text.ensures.halted))

pub returns-in_err-runnable-clause-read : goal.returns-in_err-runnable-clause-read
returns-in_err-runnable-clause-read g c = read_for _ _ _ _ _ c.in_err-runnable.ensures.read (λ held. held.0)

pub returns-in_err-choices-clause-read : goal.returns-in_err-choices-clause-read
returns-in_err-choices-clause-read g c =
    let first = c.in_ok-runnable.ensures.read in
    let ok = c.in_ok-runnable.ensures in
    read_on _ (FindsReplay (g.F.Files.held c.args.files.now) c.args.image.now c.args.script.now c.args.certificate.now c.args.text.now) _ _
    _ _ (read_for _ _ _ _ _ first (λ held. held.0)) c.in_err-choices.ensures.read
    (λ held. subst (λ (f : Option FileMap). IsHeld f c.args.certificate.now) (sym first.held)
    ((held.1 c.in_ok-runnable.runnable.image c.in_ok-runnable.runnable.script.list ok.image ok.script).0))

pub returns-in_err-text-clause-read : goal.returns-in_err-text-clause-read
returns-in_err-text-clause-read g c =
    let first = c.in_ok-runnable.ensures.read in
    let second = c.in_ok-choices.ensures.read in
    let ok = c.in_ok-runnable.ensures in
    let image = c.in_ok-runnable.runnable.image in
    let events = c.in_ok-runnable.runnable.script.list in
    let has = subst (λ (f : Option FileMap). HasChoices f c.args.certificate.now c.in_ok-choices.choices.list) first.held
    c.in_ok-choices.ensures.choices in
    let all = FindsReplay (g.F.Files.held c.args.files.now) c.args.image.now c.args.script.now c.args.certificate.now c.args.text.now in
    let two = read_on _ all _ _ _ _ (read_for _ _ _ _ _ first (λ held. held.0)) second
    (λ held. subst (λ (f : Option FileMap). IsHeld f c.args.certificate.now) (sym first.held)
    ((held.1 image events ok.image ok.script).0)) in
    read_on _ all _ _ _ _ two c.in_err-text.ensures.read
    (λ held. subst (λ (f : Option FileMap). IsHeld f c.args.text.now) (sym (second.held ∙ first.held))
    ((held.1 image events ok.image ok.script).1 c.in_ok-choices.choices.list has))

pub returns-clause-read : goal.returns-clause-read
returns-clause-read g c =
    let first = c.in_ok-runnable.ensures.read in
    let second = c.in_ok-choices.ensures.read in
    let ok = c.in_ok-runnable.ensures in
    let image = c.in_ok-runnable.runnable.image in
    let events = c.in_ok-runnable.runnable.script.list in
    let has = subst (λ (f : Option FileMap). HasChoices f c.args.certificate.now c.in_ok-choices.choices.list) first.held
    c.in_ok-choices.ensures.choices in
    let all = FindsReplay (g.F.Files.held c.args.files.now) c.args.image.now c.args.script.now c.args.certificate.now c.args.text.now in
    let two = read_on _ all _ _ _ _ (read_for _ _ _ _ _ first (λ held. held.0)) second
    (λ held. subst (λ (f : Option FileMap). IsHeld f c.args.certificate.now) (sym first.held)
    ((held.1 image events ok.image ok.script).0)) in
    read_on _ all _ _ _ _ two c.in_ok-text.ensures.read
    (λ held. subst (λ (f : Option FileMap). IsHeld f c.args.text.now) (sym (second.held ∙ first.held))
    ((held.1 image events ok.image ok.script).1 c.in_ok-choices.choices.list has))

pub returns-clause-choices : goal.returns-clause-choices
returns-clause-choices g c =
    subst (λ (f : Option FileMap). HasChoices f c.args.certificate.now c.in_ok-choices.choices.list) c.in_ok-runnable.ensures.read.held
    c.in_ok-choices.ensures.choices

pub returns-clause-text : goal.returns-clause-text
returns-clause-text g c =
    subst (λ (f : Option FileMap). Holds f c.args.text.now c.in_ok-text.text.items)
    (c.in_ok-choices.ensures.read.held ∙ c.in_ok-runnable.ensures.read.held) c.in_ok-text.ensures.loaded

pub returns-in_err-choices-clause-kept : goal.returns-in_err-choices-clause-kept
returns-in_err-choices-clause-kept g c =
    let p = err_from_is_err_and c.from_residual-in_err-choices.result c.from_residual-in_err-choices.ensures.1 in
    rw (p.1, p.2) (none_since _ _ _ c.in_err-choices.field-0.0 c.in_ok-runnable.ensures.kept c.in_err-choices.ensures.kept)

pub returns-in_err-text-clause-kept : goal.returns-in_err-text-clause-kept
returns-in_err-text-clause-kept g c =
    let p = err_from_is_err_and c.from_residual-in_err-text.result c.from_residual-in_err-text.ensures.1 in
    rw (p.1, p.2) (none_since _ _ _ c.in_err-text.field-0.0 (c.in_ok-choices.ensures.kept ∙ c.in_ok-runnable.ensures.kept)
    c.in_err-text.ensures.kept)
