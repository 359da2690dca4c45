use Rattle.std.proofs.Common.{sym, subst}
use Rattle.system_vectors.specs.Resumed.{ResumesAs}
use Rattle.system_vectors.proofs.HandlerReturns.{resumes}
use Rattle.system_vectors.proofs.handler.resumed.Goals as goal

pub returns : goal.returns
returns c = subst (ResumesAs c.args.cpu.now) (sym c.awake.ensures) (resumes c.args.cpu.now)
