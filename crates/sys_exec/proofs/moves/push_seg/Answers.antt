use Rattle.std.proofs.Common.{refl}
use Rattle.sys_exec.specs.Move.{push_seg}
use Rattle.sys_exec.proofs.moves.push_seg.Goals as goal

pub returns-in_ok-push-in-Segment-clause-gives : goal.returns-in_ok-push-in-Segment-clause-gives
unfolding push_seg
returns-in_ok-push-in-Segment-clause-gives g c =
    let pushed = rw (c.from.ensures, c.selector_in.ensures) at c.in_ok-push-in-Segment.ensures.gives in
    rw (c.in-Segment.is, pushed, c.next.ensures, c.past_push.ensures) refl
