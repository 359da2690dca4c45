use Rattle.std.proofs.Common.{rules}
use Rattle.pv_io.proofs.disk.StdSinkSink.put.Goals as goal

pub returns-in-Ok-clause-written : goal.returns-in-Ok-clause-written
returns-in-Ok-clause-written g c = search rules
