-- What lies below a pool's first frame stays as it was.
use Rattle.std.proofs.Common.{◌≡◌, ℕ, zero, suc, ◌+◌, ◌*◌, ◌<◌, ◌≤◌, List, take, take-add, refl, sym, ap, ◌∙◌, inl, inr, arith}
use Rattle.guest_ram.specs.Bytes.{frame, part}
use Rattle.frame_pool.specs.Pool.{base_of, free_list}
use Rattle.frame_pool.specs.declared.Pool.{Pool}
use Rattle.frame_pool.specs.Held.{times, Owns, Moves}
use Rattle.frame_pool.proofs.Lengths.{times-within, zero-or}

-- the first n frames are as they were where each of them is
pub frames-same : (n : ℕ) (m m' : List ℕ) → ((g : ℕ) → g < n → frame m' g ≡ frame m g) → take (4096 * n) m' ≡ take (4096 * n) m
unfolding frame part
frames-same zero m m' h = refl
frames-same (suc n) m m' h =
    let e : 4096 * suc n ≡ 4096 * n + 4096 = omega arith in
    let before = frames-same n m m' (λ g l. h g (omega (arith, l))) in
    let here = h n (omega arith) in
    ap (λ k. take k m') e ∙ take-add (4096 * n) 4096 m' ∙ cc (before, here) ∙ sym (take-add (4096 * n) 4096 m) ∙ sym (ap (λ k. take k m) e)

none-low : (b n g : ℕ) (fs : List ℕ) → g < b → ((f : ℕ) → 1 ≤ times f fs → b ≤ f) → times g fs ≡ 0
none-low b n g fs l h = elim (zero-or (times g fs)) [ inl z ↦ z | inr k ↦ absurd (let low = h g k in omega (arith, low, l)) ]

pub below-same : (p p' : Pool) (m m' fs fs' : List ℕ) → Owns p m fs → Moves p p' m m' fs fs'
    → take (4096 * base_of p) m' ≡ take (4096 * base_of p) m
below-same p p' m m' fs fs' o v =
    frames-same p.base m m' (λ g l. v.others g
    (none-low p.base p.count g (free_list p m) l (λ f k. (times-within p.base p.count f (free_list p m) o.stands.within k).0))
    (none-low p.base p.count g fs l (λ f k. (o.out f k).low)))
