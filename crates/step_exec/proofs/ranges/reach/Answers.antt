use Rattle.descriptors.specs.Access.{reaching}
use Rattle.std.proofs.Common.{rules}
use Rattle.step_exec.proofs.Ready.{before_last}
use Rattle.step_exec.proofs.ranges.reach.Goals as goal

pub returns-in-Ready-clause-gives : goal.returns-in-Ready-clause-gives
unfolding reaching
returns-in-Ready-clause-gives g c = search rules

pub returns-in-Fault-clause-gives : goal.returns-in-Fault-clause-gives
unfolding reaching
returns-in-Fault-clause-gives g c = search rules

pub returns-in-Stop-clause-gives : goal.returns-in-Stop-clause-gives
unfolding reaching
returns-in-Stop-clause-gives g c = search rules

pub returns-in-Ready-clause-before : goal.returns-in-Ready-clause-before
returns-in-Ready-clause-before g c =
    λ other h. rw c.in-Some.is (before_last other (g.M.GuestMem.space c.args.mem.now) (g.M.GuestMem.space c.touch.new.self)
    c.touch.ensures.earlier h)
