use Rattle.kept_laws.proofs.Nexts.{roomy_before, roomy_is_few, indices_grow}
use Rattle.kept_laws.proofs.carrying.roomy_is_few.Goals as goal

pub returns : goal.returns
returns c = record { before = roomy_before; few = roomy_is_few; grow = indices_grow }
