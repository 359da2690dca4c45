use Rattle.xlate_buffer.proofs.Keeping.{finds}
use Rattle.xlate_buffer.proofs.laws.finds_the_last_kept.Goals as goal

pub returns : goal.returns
returns c = finds
