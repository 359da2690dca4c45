-- What a guest leaves of a pool it owns as it did.
use Rattle.std.proofs.Common.{ℕ, ◌+◌, ◌<◌, ◌≤◌, List, [], ◌∷◌, arith}
use Rattle.frame_pool.specs.Frames.{AreDistinct, AreWithin}
use Rattle.frame_pool.specs.Pool.{free_list}
use Rattle.frame_pool.specs.declared.Pool.{Pool}
use Rattle.frame_pool.specs.Held.{times, Owns}
use Rattle.frame_pool.proofs.Held.{Owns-sum, Owns-within}
use Rattle.frame_pool.proofs.Lengths.{hit-self, times-cons, IsNotIn-times}
use Rattle.wedge_step.specs.Pools.{Keeps}

distinct_from : (gs : List ℕ) → ((f : ℕ) → times f gs ≤ 1) → AreDistinct gs
distinct_from [] h = tt
distinct_from (g ∷ gs) h =
    let self = hit-self g in
    let here = times-cons g g gs in
    let most = h g in (
      IsNotIn-times g gs (omega (arith, self, here, most)),
      distinct_from gs (λ f. let c = times-cons f g gs in let m = h f in omega (arith, c, m)),
    )

within_from : (b n : ℕ) (gs : List ℕ) → ((f : ℕ) → 1 ≤ times f gs → (b ≤ f) × (f < b + n)) → AreWithin b n gs
within_from b n [] h = tt
within_from b n (g ∷ gs) h =
    let self = hit-self g in
    let here = times-cons g g gs in
    let k = h g (omega (arith, self, here)) in
    (k.0, k.1, within_from b n gs (λ f m. let c = times-cons f g gs in h f (omega (arith, c, m))))

pub keeps_owns : (p p' : Pool) (m m' fs fs' : List ℕ) → Owns p m fs → Keeps p p' m m' fs fs' → Owns p' m' fs'
keeps_owns p p' m m' fs fs' o k =
    let base = k.same.0 in
    let count = k.same.1 in
    let size = k.size in
    let room = o.stands.room in
    let most : (f : ℕ) → times f (free_list p' m') + times f fs' ≤ 1 =
    λ f. let t = k.together f in let s = Owns-sum p m fs o f in omega (arith, t, s) in
    let inside : (f : ℕ) → 1 ≤ times f (free_list p' m') + times f fs' → (p'.base ≤ f) × (f < p'.base + p'.count) =
    λ f l. let t = k.together f in let w = Owns-within p m fs o f (omega (arith, t, l)) in let low = w.0 in let high = w.1 in
    (omega (arith, low, base), omega (arith, high, base, count)) in
    record {
      stands = record {
        room = omega (arith, room, base, count, size);
        within = within_from p'.base p'.count (free_list p' m') (λ f l. inside f (omega (arith, l)));
        distinct = distinct_from (free_list p' m') (λ f. let n = most f in omega (arith, n));
      };
      out = λ f l. let w = inside f (omega (arith, l)) in let n = most f in
          record { low = w.0; high = w.1; out = IsNotIn-times f (free_list p' m') (omega (arith, n, l)) };
      once = λ f. let n = most f in omega (arith, n);
    }
