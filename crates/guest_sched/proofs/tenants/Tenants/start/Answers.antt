use Rattle.std.proofs.Common.{◌≡◌, ℕ, List, [], ◌+◌, ◌*◌, length, ap, sym, subst, ◌∙◌, arith}
use Rattle.std.proofs.Math.ListN.{length-replicate}
use Rattle.guest_sched.specs.Admitting.{IsAdmitted}
use Rattle.guest_sched.specs.declared.tenants.Tenant.{Tenant}
use Rattle.guest_sched.proofs.Admitted.{none_admitted}
use Rattle.guest_sched.proofs.tenants.Tenants.start.Goals as goal

pub returns-in-Ok-clause-admitted : goal.returns-in-Ok-clause-admitted
returns-in-Ok-clause-admitted g c =
    let n = c.args.frames in
    let pool = c.new-pool.result in
    let ram = c.new-pool.new.ram in
    let there : length ram ≡ (n + 512) * 4096 =
    c.new-pool.ensures.len ∙ ap length c.ram_mut.ensures.ram ∙ ap length c.in-Ok.ensures.bytes
    ∙ length-replicate {A = ℕ} ((n + 512) * 4096) 0 in
    subst (λ (m : List ℕ). IsAdmitted [] n c.new.result.items pool 0 m) (sym (g.met.H.Host.bytes_changed c.start.new.self ram))
    (subst (λ (l : List Tenant). IsAdmitted [] n l pool 0 ram) (sym c.new.ensures.items)
    (none_admitted n pool ram c.new-pool.ensures.list c.new-pool.ensures.stands c.new-pool.ensures.frames.0 c.new-pool.ensures.frames.1
    (omega (arith, there))))
