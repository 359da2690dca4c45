use Rattle.std.proofs.Common.{refl, ◌∙◌}
use Rattle.sys_exec.proofs.Pages.{further}
use Rattle.sys_exec.proofs.branch.call_through.Goals as goal

pub save-requires : goal.save-requires
save-requires g c =
    let ready = rw c.by_level.ensures at c.in_ok-reach.ensures.ready in
    rw c.load_earlier-target.ensures.same (record { fits = ready.fits; found = ready.found; apart = ready.apart refl })

pub returns-clause-pages : goal.returns-clause-pages
returns-clause-pages g c =
    rw (c.save.ensures.saved, c.load_earlier-target.ensures.same)
    (further 2 2 _ _ _ c.in_ok-reach_operand.ensures.pages c.in_ok-reach.ensures.pages)

pub returns-clause-frame : goal.returns-clause-frame
returns-clause-frame g c =
    c.save.ensures.frame ∙ (c.load_earlier-target.ensures.frame ∙ (c.in_ok-reach.ensures.frame ∙ c.in_ok-reach_operand.ensures.frame))
