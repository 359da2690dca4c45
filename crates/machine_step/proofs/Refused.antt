-- What is refused in an instruction is delivered as a refused fetch is.
use Rattle.std.proofs.Common.{◌≡◌, refl}
use Rattle.paging.specs.Space.{Space}
use Rattle.sys_exec.specs.declared.effect.Refusal.{Refusal}
use Rattle.sys_exec.specs.declared.effect.Refusal.TheVariants as refusal
use Rattle.sys_exec.specs.Sys.{told_refusal}
use Rattle.machine_model.specs.State.{Setting, State}
use Rattle.machine_model.specs.Step.{Completed, effect_on, after_refusal}

pub refused_same : (m : Setting) (b : State) (completed : Completed) (r : Refusal) (s : Space)
    → effect_on m b completed (told_refusal b.cpu r s) ≡ after_refusal m b r s
refused_same m b completed (refusal.Fault code at) s = refl
refused_same m b completed (refusal.Raise vector code) s = refl
refused_same m b completed (refusal.Stop stop) s = refl
