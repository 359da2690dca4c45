-- How the end of a run is reported as a status.
use Rattle.run_trace.specs.declared.items.End.{End}
use Rattle.run_trace.specs.declared.items.End.TheVariants.{Bound, Stopped}
use Rattle.pv_build.specs.declared.status.Status.{Status}
use Rattle.pv_build.specs.declared.status.Status.TheVariants as status

-- a run is done, or a stop ends it
abbrev pub status_of : End → Status
status_of Bound = status.Done
status_of (Stopped stop) = status.Stopped
