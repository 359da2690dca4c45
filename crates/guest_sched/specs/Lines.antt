-- What the lines of a schedule's text say, each by itself after those before it.
use Rattle.std.specs.Prelude.{ℕ, List, Result, Ok, Err}
use Rattle.text_lines.specs.Lines.{LinesSay}
use Rattle.guest_sched.specs.declared.schedule.Schedule.{Schedule}
use Rattle.guest_sched.specs.declared.fault.ScheduleFault.{ScheduleFault}
use Rattle.guest_sched.specs.declared.fault.ScheduleFault.TheVariants.{At, Memory}
use Rattle.guest_sched.specs.Texts.{schedule_rule}

-- an answer says which lines are good and what they say, unless memory ran out
abbrev pub FaultSays : ℕ → List (List ℕ) → ScheduleFault → Type 0
FaultSays kernels lines (At line cause) = LinesSay (schedule_rule kernels) lines (Err (line, cause))
FaultSays kernels lines Memory = Unit {0}

abbrev pub AnswerSays : ℕ → List (List ℕ) → Result Schedule ScheduleFault → Type 0
AnswerSays kernels lines (Ok schedule) = LinesSay (schedule_rule kernels) lines (Ok schedule.list)
AnswerSays kernels lines (Err fault) = FaultSays kernels lines fault
