use Rattle.std.proofs.Common.{subst}
use Rattle.bare_machine.specs.declared.machine.BareMachine.{BareMachine}
use Rattle.bare_machine.specs.Machine.{state_of}
use Rattle.bare_machine.specs.Settings.{bare}
use Rattle.bare_machine.specs.Slices.{OneStepAs}
use Rattle.bare_machine.proofs.bare.Bare.slice.Goals as goal

pub returns-clause-one : goal.returns-clause-one
returns-clause-one g c = λ one image.
    subst (λ (m : BareMachine g.row.C.Denot). OneStepAs (bare image c.args.script.now.list m.frames) (g.C.Cache.is_exact m.kept.cache)
    (state_of g.C.Cache.entries m) (state_of g.C.Cache.entries c.take_steps.new.machine) c.take_steps.result) c.self.view_is
    (c.take_steps.ensures.one one image)
