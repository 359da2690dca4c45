-- A step that the host has no part in, and before which nothing was dropped, counts nothing, where the host could not have
-- done it.
use Rattle.std.specs.Prelude.{◌≡◌, false, Result}
use Rattle.ia32_types.specs.declared.stop.Stop.{Stop}
use Rattle.machine_step.specs.declared.worked.Seen.{Seen}
use Rattle.machine_model.specs.State.{Setting, State, wedge_mode}
use Rattle.machine_model.specs.Fit.{IsLevel}
use Rattle.wedge_core.specs.Counts.{Counts}
use Rattle.wedge_core.specs.Stepping.{StepAs}
use Rattle.wedge_step.specs.Alone.{AloneAs}
use Rattle.wedge_core.specs.Views.{may_run}
use Rattle.wedge_step.specs.declared.running.Lost.{Lost}

abbrev pub AlonesGo : Type 0
AlonesGo =
    (m : Setting) (b : State) (lost : Lost) (result : Result Seen Stop) (new : State) (counts : Counts) → m.mode ≡ wedge_mode m.image
    → IsLevel b.cpu.cpl → may_run b.cpu b.board m.image ≡ false
    → lost.before ≡ false → AloneAs m b lost result new → StepAs m b lost result new counts counts
