-- What a guest leaves of a pool, over several steps.
use Rattle.std.proofs.Common.{◌≡◌, ℕ, ◌+◌, ◌*◌, ◌≤◌, List, length, drop, refl, sym, ap, subst, ◌∙◌, arith}
use Rattle.frame_pool.specs.Frames.{IsNotIn}
use Rattle.frame_pool.specs.Pool.{base_of, free_list, Stands}
use Rattle.frame_pool.specs.Held.{times, Moves}
use Rattle.frame_pool.specs.declared.Pool.{Pool}
use Rattle.frame_pool.proofs.Lengths.{times-IsNotIn}
use Rattle.frame_pool.proofs.Above.{frame-above, free_list-above}
use Rattle.wedge_step.specs.Pools.{Keeps}

pub keeps_same : (p : Pool) (m fs : List ℕ) → Keeps p p m m fs fs
keeps_same p m fs = record {
  same = (refl, refl);
  size = refl;
  together = λ f. refl;
  lengths = refl;
  others = λ g low free held. refl;
  out = λ g out held. out;
}

pub keeps_join : (p q r : Pool) (m n o fs gs hs : List ℕ) → Keeps p q m n fs gs → Keeps q r n o gs hs → Keeps p r m o fs hs
keeps_join p q r m n o fs gs hs a b = record {
  same = (b.same.0 ∙ a.same.0, b.same.1 ∙ a.same.1);
  size = b.size ∙ a.size;
  together = λ f. b.together f ∙ a.together f;
  lengths = b.lengths ∙ a.lengths;
  others = λ g low free held.
      let t = a.together g in
      b.others g (subst (λ (n : ℕ). n ≤ g) (sym a.same.0) low) (omega (arith, t, free, held)) (omega (arith, t, free, held))
      ∙ a.others g low free held;
  out = λ g out held.
      let t = a.together g in
      let free = times-IsNotIn g (free_list p m) out.out in
      b.out g (a.out g out held) (omega (arith, t, free, held));
}

-- what is written below the pool leaves it
pub keeps_above : (p : Pool) (m n : List ℕ) (limit : ℕ) (fs gs : List ℕ) → Stands p m → limit ≤ 4096 * base_of p
    → drop limit n ≡ drop limit m → length n ≡ length m → gs ≡ fs → Keeps p p m n fs gs
keeps_above p m n limit fs gs stands low above size same =
    let free = free_list-above p m n limit low above size stands in
    record {
      same = (refl, refl);
      size = size;
      together = λ f. ap (λ (l : List ℕ). times f l + times f gs) free ∙ ap (λ (l : List ℕ). times f (free_list p m) + times f l) same;
      lengths = ap (λ (l : List ℕ). length l + length gs) free ∙ ap (λ (l : List ℕ). length (free_list p m) + length l) same;
      others = λ g behind free held. frame-above m n limit g (omega (arith, behind, low)) above;
      out = λ g out held. record { low = out.low; high = out.high; out = subst (λ (l : List ℕ). IsNotIn g l) (sym free) out.out };
    }

pub keeps_moves : (p q : Pool) (m n fs gs : List ℕ) → Moves p q m n fs gs → Keeps p q m n fs gs
keeps_moves p q m n fs gs v = record {
  same = v.same;
  size = v.size;
  together = v.together;
  lengths = v.lengths;
  others = λ g low free held. v.others g free held;
  out = v.out;
}
