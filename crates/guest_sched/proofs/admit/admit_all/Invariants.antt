use Rattle.std.proofs.Common.{◌≡◌, true, take}
use Rattle.guest_sched.specs.Admitting.{IsAdmitted}
use Rattle.guest_sched.proofs.admit.admit_all.Given as goal

abbrev pub invariant-loop-kernel : goal.invariant-loop-kernel
invariant-loop-kernel g l = record {
  admitted : IsAdmitted (take l.kernel-index l.kernels.items) l.frames l.tenants.list.items l.tenants.pool l.tenants.present
      (g.H.Host.bytes l.host);
  frames : l.tenants.frames ≡ l.frames;
  started : g.H.Host.is_started l.host ≡ true;
  retired : g.H.Host.retired l.host ≡ g.H.Host.retired l.fn.host;
  passed : g.H.Host.passed l.host ≡ g.H.Host.passed l.fn.host;
}
