use Rattle.std.proofs.Common.{refl}
use Rattle.step_exec.proofs.Ready.{both_made}
use Rattle.step_exec.proofs.instruction.reach_in.Goals as goal

pub returns-clause-made : goal.returns-clause-made
returns-clause-made g c =
    let found = c.args.ranges.now in
    both_made c.reach-2.result found found (g.M.GuestMem.space c.reach-2.new.mem) refl
    (c.reach-2.ensures.before found.read c.in_ok-reach.ensures.last) c.reach-2.ensures.last
