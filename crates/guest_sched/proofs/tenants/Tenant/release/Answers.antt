use Rattle.std.proofs.Common.{refl, ap, subst}
use Rattle.shadow_cache.specs.declared.roots.Roots.{Roots}
use Rattle.wedge_core.specs.OfRoots.{of_roots}
use Rattle.wedge_step.specs.Filled.{WereFilled, pages_kept}
use Rattle.wedge_step.specs.declared.running.Running.{Running}
use Rattle.guest_sched.proofs.tenants.Tenant.release.Goals as goal

pub returns-clause-released : goal.returns-clause-released
returns-clause-released g c = let r = c.release.ensures.releases in record {
  dropped = record {
    stands = r.stands;
    owns = r.owns;
    two = r.two;
    none = r.none;
    entries = r.entries;
    other_roots = r.other_roots;
    same_cr3 = r.same_cr3;
    filled = subst (WereFilled (pages_kept of_roots c.release.new.self.shadows (g.H.Host.bytes c.release.new.host)))
        (ap (λ (x : Running Roots). x.fills) r.running) r.filled;
    moves = r.moves;
  };
  running = r.running;
  ram = refl;
  stop = refl;
}

pub returns-clause-retired : goal.returns-clause-retired
returns-clause-retired g c = c.release.ensures.counts.retired

pub returns-clause-passed : goal.returns-clause-passed
returns-clause-passed g c = c.release.ensures.counts.passed
