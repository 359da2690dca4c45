use Rattle.std.proofs.Common.{refl, arith, ◌+◌, ◌∙◌}
use Rattle.sys_exec.specs.Iret.{popped}
use Rattle.sys_exec.proofs.Reached.{part}
use Rattle.sys_exec.proofs.iret.pop.Goals as goal

pub returns-clause-gives : goal.returns-clause-gives
unfolding popped
returns-clause-gives g c =
    let reached = rw c.by_level.ensures at c.in_ok-reach.ensures.gives in
    rw (
      reached,
      c.load-flags.ensures.same,
      c.load-flags.ensures.value,
      c.load-sel.ensures.same,
      c.load-sel.ensures.value,
      c.load-eip.ensures.same,
      c.load-eip.ensures.value,
    ) refl

pub returns-clause-pages : goal.returns-clause-pages
returns-clause-pages g c = rw (c.load-flags.ensures.same, c.load-sel.ensures.same, c.load-eip.ensures.same) c.in_ok-reach.ensures.pages

pub returns-clause-frame : goal.returns-clause-frame
returns-clause-frame g c =
    c.load-flags.ensures.frame ∙ (c.load-sel.ensures.frame ∙ (c.load-eip.ensures.frame ∙ c.in_ok-reach.ensures.frame))

pub reach-requires-clause-room : goal.reach-requires-clause-room
reach-requires-clause-room g c = c.requires

pub reach-requires-clause-some : goal.reach-requires-clause-some
reach-requires-clause-some g c = omega arith

pub reach-requires-clause-short : goal.reach-requires-clause-short
reach-requires-clause-short g c = omega arith

pub load-eip-requires : goal.load-eip-requires
load-eip-requires g c = part c.in_ok-reach.ensures.ready _ 4 (omega arith) (omega arith)

pub load-sel-requires : goal.load-sel-requires
load-sel-requires g c = rw (c.load-eip.ensures.same) (part c.in_ok-reach.ensures.ready (_ + 4) 4 (omega arith) (omega arith))

pub load-flags-requires : goal.load-flags-requires
load-flags-requires g c =
    rw (c.load-sel.ensures.same, c.load-eip.ensures.same) (part c.in_ok-reach.ensures.ready (_ + 8) 4 (omega arith) (omega arith))
