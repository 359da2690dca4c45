use Rattle.std.proofs.Common.{◌+◌, ap}
use Rattle.bare_machine.proofs.Ones.{one_step}
use Rattle.bare_machine.specs.Machine.{state_of}
use Rattle.bare_machine.specs.Settings.{bare}
use Rattle.bare_machine.proofs.FitBehind.{any_image, fit_behind}
use Rattle.bare_machine.proofs.slice.take_steps.Goals as goal

pub returns-clause-one : goal.returns-clause-one
returns-clause-one g c = λ one image.
    one_step _ _ _ _ _ _ _ _ (ap (λ k. c.args.machine.now.step + k) one) (c.steps_to.ensures.slice image)

pub returns-clause-fit : goal.returns-clause-fit
returns-clause-fit g c = λ fit.
    fit_behind c.runs_keep_fit.ensures (bare any_image c.args.script.now.list c.args.machine.now.frames)
    (g.C.Cache.is_exact c.args.machine.now.kept.cache) (c.args.machine.now.step + c.args.k) (state_of g.C.Cache.entries c.args.machine.now)
    (state_of g.C.Cache.entries c.steps_to.new.machine)
    (g.O.Sink.taken c.args.out.now) (g.O.Sink.taken c.steps_to.new.out) c.steps_to.result (c.steps_to.ensures.slice any_image) fit
    c.segment_count.ensures.four
