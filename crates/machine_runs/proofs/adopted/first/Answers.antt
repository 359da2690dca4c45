use Rattle.std.proofs.Common.{ap, sym, subst, []}
use Rattle.bare_machine.specs.Settings.{bare}
use Rattle.machine_model.specs.Fit.{Fit}
use Rattle.machine_model.specs.State.{State}
use Rattle.machine_runs.proofs.adopted.first.Goals as goal

pub returns-clause-fit : goal.returns-clause-fit
returns-clause-fit g c =
    subst Fit (sym (ap (λ (s : State). s.cpu) (c.begun.ensures.boots []))) (c.each_run_begins_fit.ensures (bare c.args.image.now [] 2048))
