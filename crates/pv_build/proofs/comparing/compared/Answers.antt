use Rattle.std.proofs.Common.{refl}
use Rattle.pv_build.proofs.WorkLines.{tells_found}
use Rattle.pv_build.proofs.comparing.compared.Goals as goal

pub returns-in-None : goal.returns-in-None
returns-in-None c = tells_found c.same_line.result _ c.args.first.now c.args.second.now _ c.same_line.ensures refl c.in-None.ensures

pub returns-in-Some : goal.returns-in-Some
returns-in-Some c = tells_found c.differ_line.result _ c.args.first.now c.args.second.now _ c.differ_line.ensures refl c.in-Some.ensures
