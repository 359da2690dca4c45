use Rattle.std.proofs.Common.{refl, arith, ◌∙◌}
use Rattle.sys_exec.specs.Operand.{selector}
use Rattle.sys_exec.proofs.operand.selector.Goals as goal

pub returns-in_ok-reach_operand-in-Memory-clause-gives : goal.returns-in_ok-reach_operand-in-Memory-clause-gives
unfolding selector
returns-in_ok-reach_operand-in-Memory-clause-gives g c =
    rw (
      c.in-Memory.is,
      c.in_ok-reach_operand-in-Memory.ensures.gives,
      c.load-sel.ensures.same,
      c.load-sel.ensures.value,
      c.address_of.ensures,
    ) refl

pub returns-in_ok-reach_operand-in-Memory-clause-pages : goal.returns-in_ok-reach_operand-in-Memory-clause-pages
returns-in_ok-reach_operand-in-Memory-clause-pages g c = rw c.load-sel.ensures.same c.in_ok-reach_operand-in-Memory.ensures.pages

pub returns-in_ok-reach_operand-in-Memory-clause-frame : goal.returns-in_ok-reach_operand-in-Memory-clause-frame
returns-in_ok-reach_operand-in-Memory-clause-frame g c = c.load-sel.ensures.frame ∙ c.in_ok-reach_operand-in-Memory.ensures.frame

pub reach_operand-requires-clause-room : goal.reach_operand-requires-clause-room
reach_operand-requires-clause-room g c = c.requires

pub reach_operand-requires-clause-some : goal.reach_operand-requires-clause-some
reach_operand-requires-clause-some g c = omega arith

pub reach_operand-requires-clause-short : goal.reach_operand-requires-clause-short
reach_operand-requires-clause-short g c = omega arith

pub load-sel-requires : goal.load-sel-requires
load-sel-requires g c =
    let ready = c.in_ok-reach_operand-in-Memory.ensures.ready in
    rw c.address_of.ensures (record { fits = ready.fits; found = ready.found })
