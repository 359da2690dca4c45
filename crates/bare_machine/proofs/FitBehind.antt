-- A slice leaves the processor fit.
use Rattle.std.proofs.Common.{◌≡◌, ℕ, Bool, List, [], Option, Result, Ok, Err, length, sym, subst}
use Rattle.pv_io.specs.declared.answer.Failed.{Failed}
use Rattle.run_trace.specs.declared.pause.Pause.{Pause}
use Rattle.run_trace.specs.declared.pause.Pause.TheVariants.{Reached, Stopped}
use Rattle.image_check.specs.Image.{Image}
use Rattle.machine_model.specs.State.{Setting, State}
use Rattle.machine_model.specs.Fit.{Fit}
use Rattle.machine_model.specs.StaysFit.{RunsKeepFit}
use Rattle.machine_model.specs.Run.{with_set}
use Rattle.bare_machine.specs.Slices.{SliceAs}
use Rattle.run_trace.specs.Pauses.{IfReached}

-- what a slice says holds for each image; this one is as good as any
abbrev pub any_image : Image
any_image = record { text = []; init = []; bss = 0; entry = 0; sites = []; format = 0 }

pub fit_behind : RunsKeepFit → (s : Setting) (exact : Bool) (bound : ℕ) (old new : State) (told tells : Option (List ℕ))
    (result : Result Pause Failed)
    → SliceAs s exact bound old new told tells result → Fit old.cpu → length old.cpu.seg ≡ 4 → IfReached result (Fit new.cpu)
fit_behind law s exact bound old new told tells (Ok Reached) h fit four =
    subst (λ (x : State). Fit x.cpu) (sym h.ends.1)
    (law s old (with_set h.last h.passes.whole) h.passes.sets h.reports h.passes.steps fit four).0
fit_behind law s exact bound old new told tells (Ok (Stopped stop)) h fit four = tt
fit_behind law s exact bound old new told tells (Err failed) h fit four = tt
