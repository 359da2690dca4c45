-- The kernels that share a host, with the pool and the host's memory.
use Rattle.std.specs.Prelude.{ℕ, List, Option, Some, None}
use Rattle.ia32_types.specs.declared.stop.Stop.{Stop}
use Rattle.run_trace.specs.declared.items.End.{End}
use Rattle.run_trace.specs.declared.items.End.TheVariants.{Bound, Stopped}
use Rattle.run_trace.specs.declared.items.Ended.{Ended}
use Rattle.frame_pool.specs.declared.Pool.{Pool}
use Rattle.guest_sched.specs.declared.tenants.Tenant.{Tenant}
use Rattle.guest_sched.specs.declared.tenants.Tenants.{Tenants}

-- as one value: who stands in the host's memory is present
pub record Stage : Type 0 where
  pub tenants : List Tenant
  pub pool : Pool
  pub present : ℕ
  pub memory : List ℕ

abbrev pub stage : Tenants → List ℕ → Stage
stage tenants memory = record { tenants = tenants.list.items; pool = tenants.pool; present = tenants.present; memory = memory }

-- how a kernel ends that has met this stop, or none
abbrev pub end_with : Option Stop → End
end_with None = Bound
end_with (Some stop) = Stopped stop

abbrev pub ended_of : Tenant → Ended
ended_of tenant = record { steps = tenant.guest.step; end = end_with tenant.stop; fills = tenant.guest.fills }
