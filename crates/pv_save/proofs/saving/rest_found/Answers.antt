use Rattle.std.proofs.Common.{◌≡◌, List, refl, sym, subst, ◌∙◌}
use Rattle.machine_model.specs.Step.{Report}
use Rattle.bare_machine.specs.Settings.{bare}
use Rattle.wedge_core.specs.Surroundings.{around}
use Rattle.pv_save.specs.Answering.{HostStepped, AnswersStart}
use Rattle.pv_words.specs.declared.mode.RunMode.{RunMode}
use Rattle.pv_words.specs.declared.mode.RunMode.TheVariants as mode
use Rattle.pv_save.proofs.RestDone.{starts_counted}
use Rattle.pv_save.proofs.saving.rest_found.Goals as goal

abbrev uncounted : List Report → Type 0
uncounted reports = Unit {0}

pub returns-in-Bare-clause-host : goal.returns-in-Bare-clause-host
returns-in-Bare-clause-host g c = λ bare. refl

pub returns-in-Wedge-clause-host : goal.returns-in-Wedge-clause-host
returns-in-Wedge-clause-host g c = λ bare. absurd (let f : mode.Wedge ≡ mode.Bare = sym c.in-Wedge.is ∙ bare in cc)

pub returns-in-Bare-clause-answers : goal.returns-in-Bare-clause-answers
returns-in-Bare-clause-answers g c =
    let image = c.args.found.now.image in
    let events = c.args.found.now.script.list in
    let frames = c.args.frames in
    let a = around g.H.Host g.S.Sink c.args.host.now c.args.host.now c.args.out.now c.save_bare.new.out in
    let memory = g.H.Host.bytes c.args.host.now in
    subst (λ (on : RunMode). AnswersStart on frames c.args.n image events a memory c.save_bare.result) (sym c.in-Bare.is)
    (starts_counted (bare image events frames) c.args.n uncounted (HostStepped mode.Bare image events frames a memory) a.taken a.taken_after
    a.faults a.faults_after c.save_bare.result (λ reports. refl) c.save_bare.ensures.rests)

pub returns-in-Wedge-clause-answers : goal.returns-in-Wedge-clause-answers
returns-in-Wedge-clause-answers g c =
    let a = around g.H.Host g.S.Sink c.args.host.now c.save_wedge.new.host c.args.out.now c.save_wedge.new.out in
    subst (λ (on : RunMode). AnswersStart on c.args.frames c.args.n c.args.found.now.image c.args.found.now.script.list a
    (g.H.Host.bytes c.save_wedge.new.host) c.save_wedge.result)
    (sym c.in-Wedge.is) c.save_wedge.ensures.rests
