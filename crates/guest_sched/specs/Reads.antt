-- What reading a schedule answers.
use Rattle.std.specs.Prelude.{◌≡◌, ℕ, List, Result, Ok, Err}
use Rattle.guest_sched.specs.declared.schedule.Slice.{Slice}
use Rattle.guest_sched.specs.declared.schedule.Schedule.{Schedule}
use Rattle.guest_sched.specs.declared.fault.ScheduleCause.{ScheduleCause}
use Rattle.guest_sched.specs.declared.fault.ScheduleFault.{ScheduleFault}
use Rattle.guest_sched.specs.declared.fault.ScheduleFault.TheVariants.{At, Memory}

-- an answer says what a text says, unless memory ran out
abbrev pub FaultAs : ScheduleFault → Result (List Slice) (ℕ × ScheduleCause) → Type 0
FaultAs (At line cause) read = read ≡ Err (line, cause)
FaultAs Memory read = Unit {0}

abbrev pub ReadAs : Result Schedule ScheduleFault → Result (List Slice) (ℕ × ScheduleCause) → Type 0
ReadAs (Ok schedule) read = read ≡ Ok schedule.list
ReadAs (Err fault) read = FaultAs fault read
