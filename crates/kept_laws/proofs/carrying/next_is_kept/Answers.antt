use Rattle.kept_laws.proofs.Nexts.{next_is_kept}
use Rattle.kept_laws.proofs.carrying.next_is_kept.Goals as goal

pub returns : goal.returns
returns c = next_is_kept c.accesses_follow.ensures.fetches c.found_follows.ensures.one
