use Rattle.kept_laws.proofs.Owed.{causes_owe_nothing}
use Rattle.kept_laws.proofs.remembering.causes_owe_nothing.Goals as goal

pub returns : goal.returns
returns c = causes_owe_nothing
