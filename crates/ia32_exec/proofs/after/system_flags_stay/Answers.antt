use Rattle.ia32_exec.proofs.FlagsAfter.{flags_stay, insensitive_stay}
use Rattle.ia32_exec.proofs.after.system_flags_stay.Goals as goal

pub returns-clause-user : goal.returns-clause-user
returns-clause-user c = flags_stay

pub returns-clause-insensitive : goal.returns-clause-insensitive
returns-clause-insensitive c = insensitive_stay
