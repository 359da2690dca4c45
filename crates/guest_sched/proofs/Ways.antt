-- Which kernels gave way.
use Rattle.std.proofs.Common.{◌≡◌, ℕ, suc, ◌+◌, ◌<◌, List, length, get_or, ap, subst, arith}
use Rattle.frame_pool.specs.Pool.{free_list}
use Rattle.guest_sched.specs.Releases.{frames_for, GivesWay, FirstGiveWay}
use Rattle.guest_sched.specs.Stages.{Stage, stage}
use Rattle.guest_sched.specs.declared.tenants.Tenant.{Tenant}
use Rattle.guest_sched.specs.declared.tenants.Tenants.{Tenants}
use Rattle.guest_sched.proofs.Brought.{get_or_any}

-- so many frames has the turn, whatever stands where there is no kernel
pub frames_are : (s : Tenants) (host : List ℕ) (d e : Tenant) (free held : ℕ) → s.present < length s.list.items
    → free ≡ length (free_list s.pool host) → held ≡ (get_or s.list.items s.present e).guest.held
    → frames_for d (stage s host) ≡ free + held
frames_are s host d e free held lt a b =
    let same = ap (λ (t : Tenant). t.guest.held) (get_or_any s.list.items s.present d e lt) in
    omega (arith, a, b, same)

-- one more
pub gives_next : (n : ℕ) (old between new : Stage) → FirstGiveWay n old between → GivesWay n between new → FirstGiveWay (n + 1) old new
gives_next n old between new first next =
    subst (λ (k : ℕ). FirstGiveWay k old new) (let e : suc n ≡ n + 1 = omega arith in e) (between, first, next)
