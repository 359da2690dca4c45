use Rattle.std.proofs.Common.{◌≡◌, refl, sym, subst, ◌∙◌}
use Rattle.wedge_core.specs.Surroundings.{around}
use Rattle.pv_save.specs.Answering.{AnswersOnwards}
use Rattle.pv_words.specs.declared.mode.RunMode.{RunMode}
use Rattle.pv_words.specs.declared.mode.RunMode.TheVariants as mode
use Rattle.pv_save.proofs.continuing.run_onwards.Goals as goal

pub returns-in-Bare-clause-host : goal.returns-in-Bare-clause-host
returns-in-Bare-clause-host g c = λ bare. refl

pub returns-clause-host : goal.returns-clause-host
returns-clause-host g c = λ bare. absurd (let f : mode.Wedge ≡ mode.Bare = sym c.in-Wedge.is ∙ bare in cc)

pub returns-in-Bare-clause-answers : goal.returns-in-Bare-clause-answers
returns-in-Bare-clause-answers g c =
    let a = around g.H.Host g.S.Sink c.args.host.now c.args.host.now c.args.out.now c.continue_bare.new.out in
    subst (λ (on : RunMode). AnswersOnwards on c.args.n c.args.found.image c.args.found.script.list c.args.found.state a
    (g.H.Host.bytes c.args.host.now) c.continue_bare.result)
    (sym c.in-Bare.is) (c.continue_bare.ensures.whole c.args.found.image, refl)

pub returns-clause-answers : goal.returns-clause-answers
returns-clause-answers g c =
    let a = around g.H.Host g.S.Sink c.args.host.now c.continue_wedge.new.host c.args.out.now c.continue_wedge.new.out in
    subst (λ (on : RunMode). AnswersOnwards on c.args.n c.args.found.image c.args.found.script.list c.args.found.state a
    (g.H.Host.bytes c.continue_wedge.new.host) c.continue_wedge.result)
    (sym c.in-Wedge.is) c.continue_wedge.ensures.run
