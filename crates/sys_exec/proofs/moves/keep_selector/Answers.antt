use Rattle.std.proofs.Common.{refl, arith, ◌∙◌}
use Rattle.sys_exec.specs.Move.{selector_kept}
use Rattle.sys_exec.proofs.moves.keep_selector.Goals as goal

pub returns-in_ok-reach_operand-in-Memory-clause-gives : goal.returns-in_ok-reach_operand-in-Memory-clause-gives
unfolding selector_kept
returns-in_ok-reach_operand-in-Memory-clause-gives g c =
    rw (
      c.in-Memory.is,
      c.in_ok-reach_operand-in-Memory.ensures.gives,
      c.next-in-Memory.ensures,
      c.past.ensures,
      c.save.ensures.saved,
      c.from-in-Memory.ensures,
      c.address_of.ensures,
    ) refl

pub returns-in-Register-clause-gives : goal.returns-in-Register-clause-gives
unfolding selector_kept
returns-in-Register-clause-gives g c =
    rw (c.in-Register.is, c.next.ensures, c.past_with.ensures, c.from.ensures) refl

pub returns-in_err-reach_operand-in-Memory-clause-pages : goal.returns-in_err-reach_operand-in-Memory-clause-pages
returns-in_err-reach_operand-in-Memory-clause-pages g c = c.in_err-reach_operand-in-Memory.ensures.pages

pub returns-in_err-reach_operand-in-Memory-clause-frame : goal.returns-in_err-reach_operand-in-Memory-clause-frame
returns-in_err-reach_operand-in-Memory-clause-frame g c = c.in_err-reach_operand-in-Memory.ensures.frame

pub returns-in-Register-clause-pages : goal.returns-in-Register-clause-pages
returns-in-Register-clause-pages g c = omega arith

pub returns-in-Register-clause-frame : goal.returns-in-Register-clause-frame
returns-in-Register-clause-frame g c = refl

pub returns-in-Register-clause-asked : goal.returns-in-Register-clause-asked
returns-in-Register-clause-asked g c = rw c.next.ensures tt

pub returns-in_ok-reach_operand-in-Memory-clause-pages : goal.returns-in_ok-reach_operand-in-Memory-clause-pages
returns-in_ok-reach_operand-in-Memory-clause-pages g c = rw c.save.ensures.saved c.in_ok-reach_operand-in-Memory.ensures.pages

pub returns-in_ok-reach_operand-in-Memory-clause-frame : goal.returns-in_ok-reach_operand-in-Memory-clause-frame
returns-in_ok-reach_operand-in-Memory-clause-frame g c = c.save.ensures.frame ∙ c.in_ok-reach_operand-in-Memory.ensures.frame

pub returns-in_ok-reach_operand-in-Memory-clause-asked : goal.returns-in_ok-reach_operand-in-Memory-clause-asked
returns-in_ok-reach_operand-in-Memory-clause-asked g c = rw c.next-in-Memory.ensures tt

pub reach_operand-requires-clause-room : goal.reach_operand-requires-clause-room
reach_operand-requires-clause-room g c = c.requires

pub reach_operand-requires-clause-some : goal.reach_operand-requires-clause-some
reach_operand-requires-clause-some g c = omega arith

pub reach_operand-requires-clause-short : goal.reach_operand-requires-clause-short
reach_operand-requires-clause-short g c = omega arith
