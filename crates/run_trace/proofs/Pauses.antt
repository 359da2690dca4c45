-- What holds where a slice has done its steps.
use Rattle.std.proofs.Common.{◌≡◌, Ok}
use Rattle.run_trace.specs.declared.pause.Pause.{Pause}
use Rattle.run_trace.specs.declared.pause.Pause.TheVariants.{Reached, Stopped}
use Rattle.run_trace.specs.Pauses.{IfReached}

pub reached_so : (pause : Pause) (P : Type 0) → IfReached (Ok pause) P → pause ≡ Reached → P
reached_so Reached P h e = h
reached_so (Stopped stop) P h e = absurd (cc)
