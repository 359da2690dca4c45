use Rattle.std.proofs.Common.{◌≡◌, ℕ, length, subst, arith, Result, Ok, IfOk}
use Rattle.guest_sched.specs.Schedules.{IsSchedule}
use Rattle.guest_sched.specs.declared.fault.ScheduleFault.{ScheduleFault}
use Rattle.guest_sched.specs.declared.schedule.Schedule.{Schedule}
use Rattle.machine_runs.proofs.shared.shares.Goals as goal

-- a schedule that was read for so many kernels
at_ok : (count n : ℕ) (r : Result Schedule ScheduleFault) (s : Schedule) → r ≡ Ok s → IfOk r (λ (x : Schedule). IsSchedule n x.list)
    → n ≡ count → IsSchedule count s.list
at_ok count n r s is form same =
    subst (λ (k : ℕ). IsSchedule k s.list) same
    (subst (λ (q : Result Schedule ScheduleFault). IfOk q (λ (x : Schedule). IsSchedule n x.list)) is form)

pub run_shared-requires-clause-schedule : goal.run_shared-requires-clause-schedule
run_shared-requires-clause-schedule g c =
    at_ok (length c.kernels_of-kernels.result.items) c.len.result c.read_schedule.result c.expect-schedule.result c.expect-schedule.ensures
    c.read_schedule.ensures.form (let a = c.len.ensures in omega (arith, a))
