use Rattle.std.proofs.Common.{rules}
use Rattle.pv_io.proofs.disk.DiskFilesFiles.load.Goals as goal

pub returns-in-Err-Memory-clause-cause : goal.returns-in-Err-Memory-clause-cause
returns-in-Err-Memory-clause-cause g c = search rules

pub returns-in-Err-Memory-clause-err : goal.returns-in-Err-Memory-clause-err
returns-in-Err-Memory-clause-err g c = search rules
