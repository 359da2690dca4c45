use Rattle.ia32_exec.proofs.SameBytes.{same_over}
use Rattle.ia32_exec.proofs.after.same_over_ranges.Goals as goal

pub returns : goal.returns
returns c = same_over
