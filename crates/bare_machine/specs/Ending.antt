-- The end of a run.
use Rattle.std.specs.Prelude.{◌≡◌, ℕ, List, Option, Result, Ok, Err}
use Rattle.pv_io.specs.Causes.{Rose}
use Rattle.pv_io.specs.Sink.{Appends, AppendsFront}
use Rattle.image_load.specs.declared.fault.RunFault.{RunFault}
use Rattle.image_load.specs.declared.fault.RunFault.TheVariants as fault
use Rattle.run_trace.specs.declared.items.End.{End}
use Rattle.run_trace.specs.declared.items.Ended.{Ended}
use Rattle.run_trace.specs.Text.{end_line}

-- The last line of a run was put, which is answered with its count of steps and its end, and the sink's count of faults is as
-- it was. Where the sink failed a front of the line was put, and the count rose.
abbrev pub EndsAs : ℕ → End → Option (List ℕ) → Option (List ℕ) → ℕ → ℕ → Result Ended RunFault → Type 0
EndsAs steps end old new before now (Ok ended) =
    (ended ≡ record { steps = steps; end = end; fills = 0 }) × Appends old new (end_line steps end) × (now ≡ before)
EndsAs steps end old new before now (Err fault.Write) = AppendsFront old new (end_line steps end) × Rose before now
EndsAs steps end old new before now (Err (fault.TooSmall small)) = ⊥
EndsAs steps end old new before now (Err fault.Memory) = ⊥
