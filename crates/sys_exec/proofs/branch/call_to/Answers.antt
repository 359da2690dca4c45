use Rattle.std.proofs.Common.{refl}
use Rattle.sys_exec.specs.Branch.{call_to}
use Rattle.sys_exec.proofs.branch.call_to.Goals as goal

pub returns-in_ok-target-in-Memory-clause-gives : goal.returns-in_ok-target-in-Memory-clause-gives
unfolding call_to
returns-in_ok-target-in-Memory-clause-gives g c =
    rw (
      c.in-Memory.is,
      c.in_ok-target-in-Memory.ensures.gives,
      c.next-in-Memory.ensures,
      c.gone_to-in-Memory.ensures,
      c.past_push-in-Memory.ensures,
    ) refl

pub returns-in_ok-push-in-Register-clause-gives : goal.returns-in_ok-push-in-Register-clause-gives
unfolding call_to
returns-in_ok-push-in-Register-clause-gives g c =
    let pushed = rw c.past.ensures at c.in_ok-push-in-Register.ensures.gives in
    rw (c.in-Register.is, pushed, c.next.ensures, c.gone_to.ensures, c.past_push.ensures, c.reg_at.ensures) refl
