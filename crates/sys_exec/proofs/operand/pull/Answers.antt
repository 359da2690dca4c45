use Rattle.std.proofs.Common.{refl, arith, ◌∙◌}
use Rattle.sys_exec.specs.Operand.{pulled}
use Rattle.sys_exec.proofs.operand.pull.Goals as goal

pub returns-clause-gives : goal.returns-clause-gives
unfolding pulled
returns-clause-gives g c =
    let reached = rw c.by_level.ensures at c.in_ok-reach.ensures.gives in
    rw (reached, c.load.ensures.value, c.load.ensures.same) refl

pub returns-clause-pages : goal.returns-clause-pages
returns-clause-pages g c = rw c.load.ensures.same c.in_ok-reach.ensures.pages

pub returns-clause-frame : goal.returns-clause-frame
returns-clause-frame g c = c.load.ensures.frame ∙ c.in_ok-reach.ensures.frame

pub reach-requires-clause-room : goal.reach-requires-clause-room
reach-requires-clause-room g c = c.requires

pub reach-requires-clause-some : goal.reach-requires-clause-some
reach-requires-clause-some g c = omega arith

pub reach-requires-clause-short : goal.reach-requires-clause-short
reach-requires-clause-short g c = omega arith

pub load-requires : goal.load-requires
load-requires g c = record { fits = c.in_ok-reach.ensures.ready.fits; found = c.in_ok-reach.ensures.ready.found }
