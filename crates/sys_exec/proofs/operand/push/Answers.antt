use Rattle.std.proofs.Common.{refl, arith, rules, ◌∙◌}
use Rattle.sys_exec.specs.Operand.{pushed}
use Rattle.sys_exec.proofs.operand.push.Goals as goal

pub returns-clause-gives : goal.returns-clause-gives
unfolding pushed
returns-clause-gives g c =
    let reached = rw (c.esp_below-at.ensures, c.by_level.ensures) at c.in_ok-reach.ensures.gives in
    rw (reached, c.save.ensures.saved, c.esp_below-at.ensures) refl

pub returns-clause-pages : goal.returns-clause-pages
returns-clause-pages g c = rw c.save.ensures.saved c.in_ok-reach.ensures.pages

pub returns-clause-frame : goal.returns-clause-frame
returns-clause-frame g c = c.save.ensures.frame ∙ c.in_ok-reach.ensures.frame

pub reach-requires-clause-room : goal.reach-requires-clause-room
reach-requires-clause-room g c = c.requires

pub reach-requires-clause-some : goal.reach-requires-clause-some
reach-requires-clause-some g c = omega arith

pub reach-requires-clause-short : goal.reach-requires-clause-short
reach-requires-clause-short g c = omega arith

pub save-requires : goal.save-requires
save-requires g c =
    let ready = rw c.by_level.ensures at c.in_ok-reach.ensures.ready in
    record { fits = ready.fits; found = ready.found; apart = ready.apart refl }
