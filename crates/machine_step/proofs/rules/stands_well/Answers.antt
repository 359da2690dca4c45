use Rattle.std.proofs.Common.{◌≡◌, ◌==◌, Bool, not, sym, ap, subst, ◌∙◌}
use Rattle.std.specs.Prelude.{◌||◌, is_some, IfSome}
use Rattle.machine_model.specs.Rules.{is_start}
use Rattle.machine_step.proofs.Ruled.{begins_freely, begins_at_start}
use Rattle.machine_step.proofs.rules.stands_well.Goals as goal

pub returns-in-None : goal.returns-in-None
returns-in-None c = λ m k.
    let cpu = c.args.cpu.now in
    sym (ap (λ (t : Bool). t || not (cpu.cpl == 0)) (begins_freely m.mode m.image cpu.regs.eip (k.has ∙ ap is_some c.in-None.is)))

pub returns-then-start : goal.returns-then-start
returns-then-start c = λ m k.
    let cpu = c.args.cpu.now in
    let over : m.image ≡ c.in-Some.image.now = subst (λ o. IfSome o (λ image. m.image ≡ image.now)) c.in-Some.is k.over in
    let start = begins_at_start m.mode m.image cpu.regs.eip (k.has ∙ ap is_some c.in-Some.is) ∙ ap (λ i. is_start i cpu.regs.eip) over
    ∙ sym c.is_start-start.ensures ∙ c.if-start.true in
    c.if-start.true ∙ sym (ap (λ (t : Bool). t || not (cpu.cpl == 0)) start)

pub returns-else-start : goal.returns-else-start
returns-else-start c = λ m k.
    let cpu = c.args.cpu.now in
    let over : m.image ≡ c.in-Some.image.now = subst (λ o. IfSome o (λ image. m.image ≡ image.now)) c.in-Some.is k.over in
    let start = begins_at_start m.mode m.image cpu.regs.eip (k.has ∙ ap is_some c.in-Some.is) ∙ ap (λ i. is_start i cpu.regs.eip) over
    ∙ sym c.is_start-start.ensures ∙ c.if-start.false in
    sym (ap (λ (t : Bool). t || not (cpu.cpl == 0)) start)
