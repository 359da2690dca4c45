use Rattle.std.proofs.Common.{sym, subst}
use Rattle.frame_pool.specs.Held.{Owns}
use Rattle.shadow_cache.specs.Views as roots
use Rattle.guest_sched.specs.declared.tenants.Tenant.{Tenant}
use Rattle.guest_sched.specs.Seating.{HasReleased}
use Rattle.guest_sched.proofs.Gone.{gone_apart, gone_stays}
use Rattle.guest_sched.proofs.tenants.Tenants.release.Goals as goal

pub release-requires-clause-owns : goal.release-requires-clause-owns
release-requires-clause-owns g c =
    let d = c.index_mut-tenant.result.now in
    subst (λ (t : Tenant). Owns c.args.self.now.pool (g.H.Host.bytes c.args.host.now)
    (roots.frames t.guest.shadows (g.H.Host.bytes c.args.host.now))) (sym c.index_mut-tenant.ensures.value) (c.requires.owns d)

pub returns-clause-apart : goal.returns-clause-apart
returns-clause-apart g c kernels len apart =
    let old = c.args.self.now in
    let host = g.H.Host.bytes c.args.host.now in
    let host' = g.H.Host.bytes c.release.new.host in
    let d = c.index_mut-tenant.result.now in
    let r = c.release.ensures in
    gone_apart old.frames old.pool c.release.new.pool host host' old.present c.args.kernel kernels old.list.items d c.release.new.self
    c.requires.known len c.requires.theirs (c.requires.owns d)
    (subst (λ (t : Tenant). HasReleased old.pool c.release.new.pool host host' t c.release.new.self)
    c.index_mut-tenant.ensures.value r.released) apart

pub returns-clause-stay : goal.returns-clause-stay
returns-clause-stay g c kernels len apart =
    let old = c.args.self.now in
    let host = g.H.Host.bytes c.args.host.now in
    let host' = g.H.Host.bytes c.release.new.host in
    let d = c.index_mut-tenant.result.now in
    let r = c.release.ensures in
    gone_stays old.frames old.pool c.release.new.pool host host' old.present c.args.kernel kernels old.list.items d c.release.new.self
    c.requires.known len c.requires.theirs (c.requires.owns d)
    (subst (λ (t : Tenant). HasReleased old.pool c.release.new.pool host host' t c.release.new.self)
    c.index_mut-tenant.ensures.value r.released) apart
