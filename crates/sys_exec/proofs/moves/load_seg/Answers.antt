use Rattle.sys_exec.specs.Move.{load_seg}
use Rattle.sys_exec.proofs.moves.load_seg.Goals as goal

pub returns-in_ok-sel-in-Segment-clause-gives : goal.returns-in_ok-sel-in-Segment-clause-gives
unfolding load_seg
returns-in_ok-sel-in-Segment-clause-gives g c =
    rw (c.in-Segment.is, c.in_ok-sel-in-Segment.ensures.gives, ← c.past.ensures) c.load_by.ensures.gives
