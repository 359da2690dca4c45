use Rattle.std.proofs.Common.{◌≡◌, List, refl, sym, subst, ◌∙◌}
use Rattle.machine_model.specs.Step.{Report}
use Rattle.bare_machine.specs.Settings.{bare}
use Rattle.checkpoint.specs.Moved.{rested_from}
use Rattle.wedge_core.specs.Surroundings.{around}
use Rattle.pv_save.specs.Answering.{HostStepped, AnswersState}
use Rattle.pv_save.specs.Saving.{frames_of}
use Rattle.pv_words.specs.declared.mode.RunMode.{RunMode}
use Rattle.pv_words.specs.declared.mode.RunMode.TheVariants as mode
use Rattle.pv_save.proofs.RestDone.{rests_counted, has_form}
use Rattle.pv_save.proofs.saving.rest_again.Goals as goal

abbrev uncounted : List Report → Type 0
uncounted reports = Unit {0}

pub returns-in-Bare-clause-host : goal.returns-in-Bare-clause-host
returns-in-Bare-clause-host g c = λ bare. refl

pub returns-clause-host : goal.returns-clause-host
returns-clause-host g c = λ bare. absurd (let f : mode.Wedge ≡ mode.Bare = sym c.in-Wedge.is ∙ bare in cc)

pub returns-in-Bare-clause-answers : goal.returns-in-Bare-clause-answers
returns-in-Bare-clause-answers g c =
    let image = c.args.found.image in
    let events = c.args.found.script.list in
    let s = c.args.found.state in
    let a = around g.H.Host g.S.Sink c.args.host.now c.args.host.now c.args.out.now c.save_bare_from.new.out in
    let memory = g.H.Host.bytes c.args.host.now in
    subst (λ (on : RunMode). AnswersState on c.args.n image events s a memory c.save_bare_from.result) (sym c.in-Bare.is)
    (rests_counted (bare image events (frames_of s)) c.args.n (rested_from s) uncounted
    (HostStepped mode.Bare image events (frames_of s) a memory) a.taken a.taken_after a.faults a.faults_after
    c.save_bare_from.result (λ reports. refl)
    (c.save_bare_from.ensures.rests image))

pub returns-clause-answers : goal.returns-clause-answers
returns-clause-answers g c =
    let a = around g.H.Host g.S.Sink c.args.host.now c.save_wedge_from.new.host c.args.out.now c.save_wedge_from.new.out in
    subst (λ (on : RunMode). AnswersState on c.args.n c.args.found.image c.args.found.script.list c.args.found.state a
    (g.H.Host.bytes c.save_wedge_from.new.host) c.save_wedge_from.result)
    (sym c.in-Wedge.is) c.save_wedge_from.ensures.rests

pub returns-in-Bare-clause-form : goal.returns-in-Bare-clause-form
returns-in-Bare-clause-form g c = has_form _ _ _ _ _ _ _ _ c.save_bare_from.result (c.save_bare_from.ensures.rests c.args.found.image)
