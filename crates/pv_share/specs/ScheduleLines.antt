-- The line of a schedule that is refused.
use Rattle.std.specs.Prelude.{ℕ, List}
use Rattle.guest_sched.specs.declared.fault.ScheduleCause.{ScheduleCause}
use Rattle.guest_sched.specs.declared.fault.ScheduleCause.TheVariants as schedule
use Rattle.pv_build.specs.Lines.{refusal_at_line}

abbrev pub schedule_number : ScheduleCause → ℕ
schedule_number schedule.NoForm = 100
schedule_number schedule.BadNumber = 101
schedule_number schedule.TooMany = 102

abbrev pub schedule_line : ℕ → ScheduleCause → List ℕ
schedule_line line cause = refusal_at_line (schedule_number cause) line
