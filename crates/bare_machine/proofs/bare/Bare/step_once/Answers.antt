use Rattle.std.proofs.Common.{subst}
use Rattle.bare_machine.specs.declared.machine.BareMachine.{BareMachine}
use Rattle.bare_machine.specs.Machine.{state_of}
use Rattle.bare_machine.specs.Once.{OnceAs}
use Rattle.bare_machine.specs.Settings.{bare}
use Rattle.bare_machine.proofs.bare.Bare.step_once.Goals as goal

pub returns-clause-once : goal.returns-clause-once
returns-clause-once g c = λ image.
    subst (λ (m : BareMachine g.row.C.Denot). OnceAs g.C.Cache.keeping (bare image c.args.script.now.list m.frames)
    (g.C.Cache.is_exact m.kept.cache)
    (state_of g.C.Cache.entries m) (state_of g.C.Cache.entries c.one_step.new.machine) c.one_step.result) c.self.view_is
    (c.one_step.ensures.once image)
