-- What is written below a pool's first frame changes nothing of the pool.
use Rattle.std.proofs.Common.{◌≡◌, ℕ, ◌+◌, ◌-◌, ◌*◌, ◌≤◌, List, length, take, drop, sym, ap, ◌∙◌, arith}
use Rattle.std.proofs.lemmas.List.{drop-drop}
use Rattle.guest_ram.specs.Bytes.{frame, part}
use Rattle.frame_pool.specs.Pool.{base_of, free_list, Stands}
use Rattle.frame_pool.specs.declared.Pool.{Pool}
use Rattle.frame_pool.specs.Held.{Owns, SameIn}
use Rattle.frame_pool.proofs.Lengths.{times-within}
use Rattle.frame_pool.proofs.Held.{free_list-apart, Stands-apart}
use Rattle.frame_pool.proofs.Calls.{IsOut-same}

drop-above : (m m' : List ℕ) (limit n : ℕ) → limit ≤ n → drop limit m' ≡ drop limit m → drop n m' ≡ drop n m
drop-above m m' limit n h e =
    let k : ℕ = n - limit in
    let s : n ≡ limit + k = omega arith in
    ap (λ x. drop x m') s ∙ sym (drop-drop k limit m') ∙ ap (drop k) e ∙ drop-drop k limit m ∙ ap (λ x. drop x m) (sym s)

pub frame-above : (m m' : List ℕ) (limit f : ℕ) → limit ≤ 4096 * f → drop limit m' ≡ drop limit m → frame m' f ≡ frame m f
unfolding frame part
frame-above m m' limit f h e = ap (take 4096) (drop-above m m' limit (4096 * f) h e)

module _ (p : Pool) (m m' : List ℕ) (limit : ℕ) (l : limit ≤ 4096 * base_of p) (e : drop limit m' ≡ drop limit m)
    (size : length m' ≡ length m) where
  -- frames that are held are as they were
  pub SameIn-above : (fs : List ℕ) → Owns p m fs → SameIn fs m m'
  SameIn-above fs o =
      record { size = size; frames = λ f h. frame-above m m' limit f (let low = (o.out f h).low in omega (arith, low, l)) e }

  free-above : Stands p m → SameIn (free_list p m) m m'
  free-above s =
      record {
        size = size;
        frames = λ f h. frame-above m m' limit f (let w = times-within p.base p.count f (free_list p m) s.within h in
            let low = w.0 in omega (arith, low, l)) e;
      }

  -- and still out
  pub Owns-above : (fs : List ℕ) → Owns p m fs → Owns p m' fs
  Owns-above fs o =
      let free = free-above o.stands in
      record {
        stands = Stands-apart p m m' o.stands free;
        out = λ f h. IsOut-same p m m' f (free_list-apart p m m' free) (o.out f h);
        once = o.once;
      }

  pub free_list-above : Stands p m → free_list p m' ≡ free_list p m
  free_list-above s = free_list-apart p m m' (free-above s)
