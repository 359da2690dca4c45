-- What a processor that is awake and stands well raises.
use Rattle.std.proofs.Common.{◌≡◌, Bool, true, false, None, cond, ap, ◌∙◌}
use Rattle.descriptors.specs.declared.cpu.Cpu.{Cpu}
use Rattle.paging.specs.Space.{Space}
use Rattle.machine_model.specs.State.{Setting}
use Rattle.machine_model.specs.Rules.{stands_well}
use Rattle.machine_step.specs.Raised.{raised_by_next, raised_there, raised_at_work}

pub raises_on : (m : Setting) (cpu : Cpu) (s : Space) → cpu.halted ≡ false → stands_well m cpu ≡ true
    → raised_at_work m cpu s ≡ raised_by_next cpu s
unfolding raised_at_work
raises_on m cpu s awake well =
    ap (λ (t : Bool). cond t None (raised_there m cpu s)) awake
    ∙ ap (λ (t : Bool). cond t (raised_by_next cpu s) None) well

pub raises_nowhere : (m : Setting) (cpu : Cpu) (s : Space) → cpu.halted ≡ false → stands_well m cpu ≡ false → raised_at_work m cpu s ≡ None
unfolding raised_at_work
raises_nowhere m cpu s awake well =
    ap (λ (t : Bool). cond t None (raised_there m cpu s)) awake
    ∙ ap (λ (t : Bool). cond t (raised_by_next cpu s) None) well

pub raises_halted : (m : Setting) (cpu : Cpu) (s : Space) → cpu.halted ≡ true → raised_at_work m cpu s ≡ None
unfolding raised_at_work
raises_halted m cpu s halted = ap (λ (t : Bool). cond t None (raised_there m cpu s)) halted
