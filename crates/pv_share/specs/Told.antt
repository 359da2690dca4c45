-- How the answer of several kernels is reported.
use Rattle.std.specs.Prelude.{◌≡◌, ◌⊎◌, ℕ, List, Option, Result, Ok, Err, Vec}
use Rattle.std.specs.declared.alloc.Global.{Global}
use Rattle.image_load.specs.declared.fault.RunFault.{RunFault}
use Rattle.image_load.specs.declared.fault.RunFault.TheVariants as alone
use Rattle.run_trace.specs.declared.items.Ended.{Ended}
use Rattle.guest_sched.specs.declared.kernel.SharedFault.{SharedFault}
use Rattle.guest_sched.specs.declared.kernel.SharedFault.TheVariants as fault
use Rattle.pv_build.specs.Lines.{too_small_line}
use Rattle.pv_build.specs.Telling.{Says}
use Rattle.pv_build.specs.declared.status.Status.{Status}
use Rattle.pv_build.specs.declared.status.Status.TheVariants as status
use Rattle.pv_share.specs.Sharing.{status_of_all}

-- why several kernels have no end, as of one run
abbrev pub run_fault : SharedFault → RunFault
run_fault fault.Write = alone.Write
run_fault (fault.TooSmall small) = alone.TooSmall small
run_fault fault.Memory = alone.Memory

-- How the answer of several kernels is reported: their text was put before, or a refusal's line is, unless no memory is
-- found for it.
abbrev pub SharedToldAs : Result (Vec Ended Global) SharedFault → Option (List ℕ) → Option (List ℕ) → ℕ → ℕ → Status → Type 0
SharedToldAs (Ok ended) old new before now result = (result ≡ status_of_all ended.items) × (new ≡ old) × (now ≡ before)
SharedToldAs (Err fault.Write) old new before now result = (result ≡ status.WriteFault) × (new ≡ old) × (now ≡ before)
SharedToldAs (Err (fault.TooSmall small)) old new before now result =
    Says (too_small_line small.need small.have) status.Refused old new before now result
    ⊎ ((result ≡ status.Memory) × (new ≡ old) × (now ≡ before))
SharedToldAs (Err fault.Memory) old new before now result = (result ≡ status.Memory) × (new ≡ old) × (now ≡ before)
