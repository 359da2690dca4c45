use Rattle.std.proofs.Common.{ℕ, List, IfOk, sym, subst, ◌∙◌}
use Rattle.wedge_step.specs.Filled.{WereFilled}
use Rattle.wedge_step.specs.Scene.{kept_in, scene}
use Rattle.wedge_step.specs.Standing.{ground}
use Rattle.wedge_core.specs.OfRoots.{of_roots}
use Rattle.wedge_core.specs.Scenes.{IsReadyIn}
use Rattle.wedge_core.specs.Starts.{StartedAs}
use Rattle.wedge_core.proofs.Guests.{none_kept_ok}
use Rattle.wedge_core.proofs.guest.Guest.start.Goals as goal

pub returns-in-Ok-clause-filled : goal.returns-in-Ok-clause-filled
returns-in-Ok-clause-filled g c =
    subst (λ (l : List ℕ). IfOk c.start_in.result (λ started. WereFilled (kept_in of_roots (scene started.0 started.1 l)) started.0.fills))
    (sym (g.met.H.Host.bytes_changed c.start.new.self c.start_in.new.ram))
    (none_kept_ok c.start_in.new.ram c.start_in.result c.start_in.ensures.none)

pub returns-in-Ok-clause-ready : goal.returns-in-Ok-clause-ready
returns-in-Ok-clause-ready g c =
    subst (λ (l : List ℕ). IfOk c.start_in.result
    (λ started. IsReadyIn of_roots (ground c.args.image.now c.args.frames) (scene started.0 started.1 l)))
    (sym (g.met.H.Host.bytes_changed c.start.new.self c.start_in.new.ram))
    c.start_in.ensures.ready

pub returns-in-Ok-clause-started : goal.returns-in-Ok-clause-started
returns-in-Ok-clause-started g c =
    subst (λ (l : List ℕ). StartedAs c.args.image.now c.args.frames c.args.pool l c.start_in.result)
    (sym (g.met.H.Host.bytes_changed c.start.new.self c.start_in.new.ram)) c.start_in.ensures.started

pub returns-in-Ok-clause-counts : goal.returns-in-Ok-clause-counts
returns-in-Ok-clause-counts g c = record {
  retired = g.met.H.Host.retired_stays c.start.new.self c.start_in.new.ram ∙ c.start.ensures.retired;
  passed = g.met.H.Host.passed_stays c.start.new.self c.start_in.new.ram ∙ c.start.ensures.passed;
}

pub returns-in-Err-clause-counts : goal.returns-in-Err-clause-counts
returns-in-Err-clause-counts g c = record { retired = c.start.ensures.retired; passed = c.start.ensures.passed }
