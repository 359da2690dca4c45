use Rattle.std.proofs.Common.{◌≡◌, ◌≢◌, ◌*◌, ◌≤◌, ◌<◌, ℕ, true, List, length, get_or}
use Rattle.std.specs.List.{All}
use Rattle.frame_pool.specs.Pool.{count_of}
use Rattle.guest_sched.specs.Apart.{AreApart, EachStays}
use Rattle.guest_sched.specs.Releases.{FirstGiveWay}
use Rattle.guest_sched.specs.Stages.{stage}
use Rattle.guest_sched.specs.Seating.{seats_from, HasMadeRoom}
use Rattle.guest_sched.specs.declared.kernel.Kernel.{Kernel}
use Rattle.guest_sched.specs.declared.tenants.Tenant.{Tenant}
use Rattle.guest_sched.proofs.tenants.Tenants.make_room.Given as goal

abbrev pub invariant-loop-kernel : goal.invariant-loop-kernel
invariant-loop-kernel g l = record {
  started : g.H.Host.is_started l.host ≡ true;
  retired : g.H.Host.retired l.host ≡ g.H.Host.retired l.fn.host;
  passed : g.H.Host.passed l.host ≡ g.H.Host.passed l.fn.host;
  frames : l.self.frames ≡ l.fn.self.frames;
  present : l.self.present ≡ l.fn.self.present;
  theirs : All (λ (t : Tenant). 4096 * l.self.frames ≤ length t.ram) l.self.list.items;
  count : count_of l.self.pool ≡ 512;
  apart : (kernels : List Kernel) → length kernels ≡ length l.fn.self.list.items
      → AreApart l.fn.self.frames l.fn.self.pool (g.H.Host.bytes l.fn.host)
      (seats_from l.fn.self.frames (g.H.Host.bytes l.fn.host) l.fn.self.present 0 kernels l.fn.self.list.items)
      → AreApart l.self.frames l.self.pool (g.H.Host.bytes l.host)
      (seats_from l.self.frames (g.H.Host.bytes l.host) l.self.present 0 kernels l.self.list.items);
  stay : (kernels : List Kernel) → length kernels ≡ length l.fn.self.list.items
      → AreApart l.fn.self.frames l.fn.self.pool (g.H.Host.bytes l.fn.host)
      (seats_from l.fn.self.frames (g.H.Host.bytes l.fn.host) l.fn.self.present 0 kernels l.fn.self.list.items)
      → EachStays l.fn.self.frames (seats_from l.fn.self.frames (g.H.Host.bytes l.fn.host) l.fn.self.present 0 kernels l.fn.self.list.items)
      (seats_from l.fn.self.frames (g.H.Host.bytes l.host) l.fn.self.present 0 kernels l.self.list.items);
  size : length (g.H.Host.bytes l.host) ≡ length (g.H.Host.bytes l.fn.host);
  made : HasMadeRoom l.fn.self.present l.fn.self.list.items l.self.list.items;
  first : FirstGiveWay l.kernel (stage l.fn.self (g.H.Host.bytes l.fn.host)) (stage l.self (g.H.Host.bytes l.host));
  done : (j : ℕ) (d : Tenant) → j < l.kernel → j ≢ l.fn.self.present → (get_or l.self.list.items j d).guest.held ≤ 2;
}
