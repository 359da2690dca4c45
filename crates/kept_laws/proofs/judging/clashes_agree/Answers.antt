use Rattle.kept_laws.proofs.Clashing.{clashes_agree, clashes_are_judged}
use Rattle.kept_laws.proofs.judging.clashes_agree.Goals as goal

pub returns : goal.returns
returns c =
    let follow = c.accesses_follow.ensures.fetches in
    let over = c.found_follows.ensures.one in
    record { agree = clashes_agree follow over; judged = clashes_are_judged follow over }
