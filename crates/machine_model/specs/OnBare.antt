-- A monitor's machine as the bare machine: what it runs with, and how its runs end there.
use Rattle.std.specs.Prelude.{ℕ, if◌then◌else◌}
use Rattle.paging.specs.MonitorStops.{is_extra_stop}
use Rattle.paging.specs.Space.{Bare}
use Rattle.run_trace.specs.declared.items.End.{End}
use Rattle.run_trace.specs.declared.items.End.TheVariants.{Bound, Stopped}
use Rattle.machine_model.specs.State.{Setting, State}

-- what a run uses, without the monitor's rules
abbrev pub on_bare : Setting → Setting
on_bare m = record m { mode = Bare }

-- how a run that ends so is a run of the bare machine: where it ends at one of the monitor's stops, up to there
abbrev pub end_on_bare : End → End
end_on_bare Bound = Bound
end_on_bare (Stopped stop) = if is_extra_stop stop then Bound else Stopped stop

abbrev pub bound_on_bare : ℕ → State → End → ℕ
bound_on_bare n last Bound = n
bound_on_bare n last (Stopped stop) = if is_extra_stop stop then last.step else n
