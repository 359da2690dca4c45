-- What a processor that is awake and stands well leaves of memory.
use Rattle.std.proofs.Common.{◌≡◌, Bool, true, false, cond, ap, ◌∙◌}
use Rattle.descriptors.specs.declared.cpu.Cpu.{Cpu}
use Rattle.paging.specs.Space.{Space}
use Rattle.machine_model.specs.State.{Setting}
use Rattle.machine_model.specs.Rules.{stands_well}
use Rattle.machine_step.specs.Left.{left_by_next, left_there, left_at_work}

pub leaves_on : (m : Setting) (cpu : Cpu) (s : Space) → cpu.halted ≡ false → stands_well m cpu ≡ true
    → left_at_work m cpu s ≡ left_by_next cpu s
unfolding left_at_work
leaves_on m cpu s awake well =
    ap (λ (t : Bool). cond t s (left_there m cpu s)) awake
    ∙ ap (λ (t : Bool). cond t (left_by_next cpu s) s) well

pub leaves_nowhere : (m : Setting) (cpu : Cpu) (s : Space) → cpu.halted ≡ false → stands_well m cpu ≡ false → left_at_work m cpu s ≡ s
unfolding left_at_work
leaves_nowhere m cpu s awake well =
    ap (λ (t : Bool). cond t s (left_there m cpu s)) awake
    ∙ ap (λ (t : Bool). cond t (left_by_next cpu s) s) well

pub leaves_halted : (m : Setting) (cpu : Cpu) (s : Space) → cpu.halted ≡ true → left_at_work m cpu s ≡ s
unfolding left_at_work
leaves_halted m cpu s halted = ap (λ (t : Bool). cond t s (left_there m cpu s)) halted
