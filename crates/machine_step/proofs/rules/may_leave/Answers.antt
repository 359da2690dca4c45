use Rattle.std.proofs.Common.{◌==◌, Bool, not, sym, ap, ◌∙◌}
use Rattle.std.specs.Prelude.{◌||◌, ◌&&◌, is_some}
use Rattle.machine_step.proofs.Ruled.{leaves_freely, leaves_open}
use Rattle.machine_step.proofs.rules.may_leave.Goals as goal

pub returns-in-None : goal.returns-in-None
returns-in-None c = λ m k. sym (leaves_freely m.mode c.args.cpu.now c.args.after.now (k.has ∙ ap is_some c.in-None.is))

pub returns-in-Some : goal.returns-in-Some
returns-in-Some c = λ m k.
    let cpu = c.args.cpu.now in
    let after = c.args.after.now in
    sym (leaves_open m.mode cpu after (k.has ∙ ap is_some c.in-Some.is)
    ∙ ap (λ (t : Bool). not (cpu.cpl == 0 && after.cpl == 3) || t) (sym c.is_open.ensures) ∙ sym c.may_lead.ensures)
