-- The number of each status.
use Rattle.std.specs.Prelude.{ℕ}
use Rattle.pv_build.specs.declared.status.Status.{Status}
use Rattle.pv_build.specs.declared.status.Status.TheVariants as status

abbrev pub status_number : Status → ℕ
status_number status.Done = 0
status_number status.Words = 2
status_number status.Refused = 3
status_number status.Stopped = 4
status_number status.ReadFault = 5
status_number status.WriteFault = 6
status_number status.Memory = 7
