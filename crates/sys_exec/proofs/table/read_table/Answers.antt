use Rattle.std.proofs.Common.{refl, arith, ◌+◌, ◌∙◌}
use Rattle.sys_exec.specs.Table.{table_at}
use Rattle.sys_exec.proofs.Reached.{part}
use Rattle.sys_exec.proofs.table.read_table.Goals as goal

pub returns-in_ok-reach_operand-in-Memory-clause-gives : goal.returns-in_ok-reach_operand-in-Memory-clause-gives
unfolding table_at
returns-in_ok-reach_operand-in-Memory-clause-gives g c =
    rw (
      c.in-Memory.is,
      c.in_ok-reach_operand-in-Memory.ensures.gives,
      c.load-base.ensures.same,
      c.load-base.ensures.value,
      c.load-limit.ensures.same,
      c.load-limit.ensures.value,
      c.address_of-at.ensures,
    ) refl

pub reach_operand-requires-clause-room : goal.reach_operand-requires-clause-room
reach_operand-requires-clause-room g c = c.requires

pub reach_operand-requires-clause-some : goal.reach_operand-requires-clause-some
reach_operand-requires-clause-some g c = omega arith

pub reach_operand-requires-clause-short : goal.reach_operand-requires-clause-short
reach_operand-requires-clause-short g c = omega arith

pub load-limit-requires : goal.load-limit-requires
load-limit-requires g c = rw c.address_of-at.ensures (part c.in_ok-reach_operand-in-Memory.ensures.ready _ 2 (omega arith) (omega arith))

pub load-base-requires : goal.load-base-requires
load-base-requires g c = rw (c.load-limit.ensures.same, c.address_of-at.ensures)
    (part c.in_ok-reach_operand-in-Memory.ensures.ready (_ + 2) 4 (omega arith) (omega arith))

pub returns-in_ok-reach_operand-in-Memory-clause-pages : goal.returns-in_ok-reach_operand-in-Memory-clause-pages
returns-in_ok-reach_operand-in-Memory-clause-pages g c =
    rw (c.load-base.ensures.same, c.load-limit.ensures.same) c.in_ok-reach_operand-in-Memory.ensures.pages

pub returns-in_ok-reach_operand-in-Memory-clause-frame : goal.returns-in_ok-reach_operand-in-Memory-clause-frame
returns-in_ok-reach_operand-in-Memory-clause-frame g c =
    c.load-base.ensures.frame ∙ (c.load-limit.ensures.frame ∙ c.in_ok-reach_operand-in-Memory.ensures.frame)
