-- Several kernels, of which one goes on or gives up its frames: the others stay as they are.
use Rattle.std.proofs.Common.{◌≡◌, ℕ, ◌+◌, ◌*◌, ◌^◌, ◌≤◌, ◌<◌, List, [], ◌∷◌, ◌++◌, length, length-append, take, drop, refl, ap, sym, ◌∙◌, inl, inr, arith}
use Rattle.std.specs.Prelude.{map}
use Rattle.std.proofs.lemmas.List.{length-take-le, length-drop, take_at}
use Rattle.std.proofs.Math.Seq.{drop-append_seam}
use Rattle.frame_pool.specs.Pool.{base_of, free_list, Stands, IsOut}
use Rattle.frame_pool.specs.declared.Pool.{Pool}
use Rattle.frame_pool.specs.Held.{times, SameIn}
use Rattle.frame_pool.proofs.Above.{frame-above, Owns-above, free_list-above}
use Rattle.frame_pool.proofs.Lengths.{times-IsNotIn, zero-or}
use Rattle.frame_pool.proofs.Held.{Owns-none}
use Rattle.frame_pool.proofs.Calls.{IsOut-same}
use Rattle.wedge_step.specs.CarryLaws.{CarryLaws}
use Rattle.wedge_step.specs.Pools.{Keeps}
use Rattle.guest_sched.specs.Apart.{Seat, held_by, IsSeated, AreSeated, times_held, all_held, AreApart, behind_as, StaysSo, EachStays}
use Rattle.guest_sched.specs.Known.{IsKnownSince}
use Rattle.guest_sched.specs.Since.{Since}
use Rattle.guest_sched.specs.declared.kernel.Kernel.{Kernel}
use Rattle.guest_sched.proofs.Stays.{seated_still, held_still, knows_still, same_still}

-- memory whose front is one's and which goes on as another's
module _ (n : ℕ) (own other : List ℕ) (same : length own ≡ length other) (room : n ≤ length own) where
  pub laid_length : length (take n own ++ drop n other) ≡ length own
  laid_length = omega (arith, length-append (take n own) (drop n other), length-take-le n own room, length-drop n other, same, room)

  pub laid_front : take n (take n own ++ drop n other) ≡ take n own
  laid_front = take_at (take n own) (drop n other) n (length-take-le n own room)

  pub laid_behind : drop n (take n own ++ drop n other) ≡ drop n other
  laid_behind =
      ap (λ (k : ℕ). drop k (take n own ++ drop n other)) (sym (length-take-le n own room))
      ∙ drop-append_seam (take n own) (drop n other)

-- what was known of translations is known still, of each kernel
abbrev pub KnowsOn : ℕ → Seat → Seat → Type 0
KnowsOn frames s s' = CarryLaws → (k : Kernel) (since : Since) → IsKnownSince frames k s since → IsKnownSince frames k s' since

abbrev pub EachKnows : ℕ → List Seat → List Seat → Type 0
EachKnows frames [] [] = Unit {0}
EachKnows frames (s ∷ seats) (s' ∷ news) = KnowsOn frames s s' × EachKnows frames seats news
EachKnows frames seats news = ⊥

module _ (frames : ℕ) (p p' : Pool) (host host' fs fs' : List ℕ) (keeps : Keeps p p' host host' fs fs') (behind : frames ≤ base_of p)
    (stands : Stands p' host') where
  -- a kernel that holds none of the frames that move
  module _ (s : Seat) (h : IsSeated frames p s) (len : length s.memory ≡ length host)
      (goes : drop (4096 * frames) s.memory ≡ drop (4096 * frames) host)
      (apart : (f : ℕ) → 1 ≤ times f (held_by s) → times f fs ≡ 0) (small : length (free_list p' host') + length (held_by s) < 2 ^ 32)
    where
      other_memory : List ℕ
      other_memory = take (4096 * frames) s.memory ++ drop (4096 * frames) host'

      len' : length s.memory ≡ length host'
      len' = len ∙ sym keeps.size

      low : 4096 * frames ≤ 4096 * base_of p
      low = omega (arith, behind)

      low' : 4096 * frames ≤ 4096 * base_of p'
      low' = let base = keeps.same.0 in omega (arith, behind, base)

      size : length other_memory ≡ length s.memory
      unfolding other_memory
      size = laid_length (4096 * frames) s.memory host' len' h.holds.room

      front : take (4096 * frames) other_memory ≡ take (4096 * frames) s.memory
      unfolding other_memory
      front = laid_front (4096 * frames) s.memory host' len' h.holds.room

      goes' : drop (4096 * frames) other_memory ≡ drop (4096 * frames) host'
      unfolding other_memory
      goes' = laid_behind (4096 * frames) s.memory host' len' h.holds.room

      free_same : free_list p host ≡ free_list p s.memory
      free_same = free_list-above p s.memory host (4096 * frames) low (sym goes) (sym len) h.holds.owns.stands

      out_here : (f : ℕ) → 1 ≤ times f (held_by s) → IsOut p host f
      out_here f k = IsOut-same p s.memory host f free_same (h.holds.owns.out f k)

      still : SameIn (held_by s) s.memory other_memory
      still = record {
        size = size;
        frames = λ f k.
            let o = out_here f k in
            let base = o.low in
            let place : 4096 * frames ≤ 4096 * f = omega (arith, base, low) in
            frame-above host' other_memory (4096 * frames) f place goes'
            ∙ keeps.others f base (times-IsNotIn f (free_list p host) o.out) (apart f k)
            ∙ frame-above s.memory host (4096 * frames) f place (sym goes);
      }

      size' : length other_memory ≡ length host'
      size' = size ∙ len'

      free_same' : free_list p' other_memory ≡ free_list p' host'
      free_same' = free_list-above p' host' other_memory (4096 * frames) low' goes' size' stands

      stands' : Stands p' other_memory
      stands' = (Owns-above p' host' other_memory (4096 * frames) low' goes' size' [] (Owns-none p' host' stands)).stands

      other_seated : IsSeated frames p' (behind_as frames host' s)
      unfolding other_memory
      other_seated =
          seated_still frames p p' s other_memory size front still keeps.same
          stands'
          (λ f k. IsOut-same p' host' other_memory f free_same' (keeps.out f (out_here f k) (apart f k)))
          (let count = ap length free_same' in omega (arith, count, small)) behind h

      other_held : held_by (behind_as frames host' s) ≡ held_by s
      unfolding other_memory
      other_held =
          held_still frames p p' s other_memory size front still keeps.same
          stands'
          (λ f k. IsOut-same p' host' other_memory f free_same' (keeps.out f (out_here f k) (apart f k)))
          (let count = ap length free_same' in omega (arith, count, small)) behind h

      other_same : StaysSo frames s (behind_as frames host' s)
      unfolding other_memory
      other_same =
          same_still frames p p' s other_memory size front still keeps.same
          stands'
          (λ f k. IsOut-same p' host' other_memory f free_same' (keeps.out f (out_here f k) (apart f k)))
          (let count = ap length free_same' in omega (arith, count, small)) behind h

      other_knows : CarryLaws → (k : Kernel) (since : Since) → IsKnownSince frames k s since
          → IsKnownSince frames k (behind_as frames host' s) since
      unfolding other_memory
      other_knows =
          knows_still frames p p' s other_memory size front still keeps.same
          stands'
          (λ f k. IsOut-same p' host' other_memory f free_same' (keeps.out f (out_here f k) (apart f k)))
          (let count = ap length free_same' in omega (arith, count, small)) behind h

      other_length : length (behind_as frames host' s).memory ≡ length host'
      unfolding other_memory
      other_length = size'

      other_goes : drop (4096 * frames) (behind_as frames host' s).memory ≡ drop (4096 * frames) host'
      unfolding other_memory
      other_goes = goes'

      -- it holds no free frame
      held_out : (f : ℕ) → 1 ≤ times f (held_by s) → times f (free_list p host) ≡ 0
      held_out f k = times-IsNotIn f (free_list p host) (out_here f k).out

  -- each of these kernels, none of which holds those frames
  pub record Others (seats news : List Seat) : Type 0 where
    pub seated : AreSeated frames p' host' news
    pub times_same : (f : ℕ) → times_held f news ≡ times_held f seats
    pub all_same : all_held news ≡ all_held seats
    pub unfree : (f : ℕ) → 1 ≤ times_held f seats → times f (free_list p host) ≡ 0
    pub stay : EachStays frames seats news
    pub knows : EachKnows frames seats news

  pub others_stay : (seats : List Seat) → AreSeated frames p host seats → ((f : ℕ) → times_held f seats + times f fs ≤ 1)
      → length (free_list p' host') + all_held seats < 2 ^ 32
      → Others seats (map (behind_as frames host') seats)
  others_stay [] h apart small =
      record { seated = tt; times_same = λ f. refl; all_same = refl; unfree = λ f k. absurd (omega (arith, k)); stay = tt; knows = tt }
  others_stay (s ∷ seats) h apart small =
      let rest = others_stay seats h.3 (λ f. (let a = apart f in omega (arith, a))) (omega (arith, small)) in
      let mine : (f : ℕ) → 1 ≤ times f (held_by s) → times f fs ≡ 0 = λ f k. (let a = apart f in omega (arith, a, k)) in
      let few : length (free_list p' host') + length (held_by s) < 2 ^ 32 = omega (arith, small) in
      let same = other_held s h.0 h.1 h.2 mine few in
      record {
        seated = (other_seated s h.0 h.1 h.2 mine few, other_length s h.0 h.1 h.2 mine few, other_goes s h.0 h.1 h.2 mine few, rest.seated);
        times_same = λ f. (let a = ap (times f) same in let b = rest.times_same f in omega (arith, a, b));
        all_same = (let a = ap length same in let b = rest.all_same in omega (arith, a, b));
        unfree = λ f k. elim (zero-or (times f (held_by s))) [
          | inl none ↦ rest.unfree f (omega (arith, k, none))
          | inr some ↦ held_out s h.0 h.1 h.2 mine few f some
        ];
        stay = (other_same s h.0 h.1 h.2 mine few, rest.stay);
        knows = (other_knows s h.0 h.1 h.2 mine few, rest.knows);
      }

pub held_append : (f : ℕ) (xs ys : List Seat) → times_held f (xs ++ ys) ≡ times_held f xs + times_held f ys
held_append f [] ys = omega arith
held_append f (x ∷ xs) ys = let rest = held_append f xs ys in omega (arith, rest)

pub all_append : (xs ys : List Seat) → all_held (xs ++ ys) ≡ all_held xs + all_held ys
all_append [] ys = omega arith
all_append (x ∷ xs) ys = let rest = all_append xs ys in omega (arith, rest)

seated_left : (frames : ℕ) (p : Pool) (host : List ℕ) (xs ys : List Seat) → AreSeated frames p host (xs ++ ys) → AreSeated frames p host xs
seated_left frames p host [] ys h = tt
seated_left frames p host (x ∷ xs) ys h = (h.0, h.1, h.2, seated_left frames p host xs ys h.3)

pub seated_right : (frames : ℕ) (p : Pool) (host : List ℕ) (xs ys : List Seat) → AreSeated frames p host (xs ++ ys)
    → AreSeated frames p host ys
seated_right frames p host [] ys h = h
seated_right frames p host (x ∷ xs) ys h = seated_right frames p host xs ys h.3

pub seated_append : (frames : ℕ) (p : Pool) (host : List ℕ) (xs ys : List Seat) → AreSeated frames p host xs → AreSeated frames p host ys
    → AreSeated frames p host (xs ++ ys)
seated_append frames p host [] ys a b = b
seated_append frames p host (x ∷ xs) ys a b = (a.0, a.1, a.2, seated_append frames p host xs ys a.3 b)

pub once_then : (others here new free : ℕ) → others + here ≤ 1 → new ≤ 1 → new ≤ free + here → (1 ≤ others → free ≡ 0) → others + new ≤ 1
once_then others here new free apart once moved unfree = elim (zero-or others) [
  | inl none ↦ omega (arith, none, once)
  | inr some ↦ (let none = unfree some in omega (arith, none, some, apart, moved))
]

-- one kernel has become another, over frames that moved between it and the free ones
pub one_moves : (frames : ℕ) (p p' : Pool) (host host' : List ℕ) (before after : List Seat) (s s' : Seat)
    → AreApart frames p host (before ++ s ∷ after)
    → Keeps p p' host host' (held_by s) (held_by s') → Stands p' host' → IsSeated frames p' s' → length s'.memory ≡ length host'
    → drop (4096 * frames) s'.memory ≡ drop (4096 * frames) host'
    → AreApart frames p' host' (map (behind_as frames host') before ++ s' ∷ map (behind_as frames host') after)
one_moves frames p p' host host' before after s s' h keeps stands seated len goes =
    let left = map (behind_as frames host') before in
    let right = map (behind_as frames host') after in
    let sums = all_append before (s ∷ after) in
    let counts : (f : ℕ) → times_held f (before ++ s ∷ after) ≡ times_held f before + (times f (held_by s) + times_held f after) =
    λ f. held_append f before (s ∷ after) in
    let all = h.all in
    let few = h.few in
    let lengths = keeps.lengths in
    let tail = seated_right frames p host before (s ∷ after) h.seated in
    let befores = others_stay frames p p' host host' (held_by s) (held_by s') keeps h.behind stands before
    (seated_left frames p host before (s ∷ after) h.seated)
    (λ f. (let a = h.once f in let b = counts f in omega (arith, a, b))) (omega (arith, all, few, lengths, sums)) in
    let afters = others_stay frames p p' host host' (held_by s) (held_by s') keeps h.behind stands after tail.3
    (λ f. (let a = h.once f in let b = counts f in omega (arith, a, b))) (omega (arith, all, few, lengths, sums)) in
    let base = keeps.same.0 in
    let number = keeps.same.1 in
    let below = h.behind in
    record {
      seated = seated_append frames p' host' left (s' ∷ right) befores.seated (seated, len, goes, afters.seated);
      once = λ f.
          (let a = h.once f in let b = counts f in
          let c = held_append f left (s' ∷ right) in
          let x = befores.times_same f in let y = afters.times_same f in
          let together = keeps.together f in
          let step = once_then (times_held f before + times_held f after) (times f (held_by s)) (times f (held_by s'))
          (times f (free_list p host)) (omega (arith, a, b)) (seated.holds.owns.once f) (omega (arith, together))
          (λ k. elim (zero-or (times_held f before)) [
            | inl none ↦ afters.unfree f (omega (arith, k, none))
            | inr some ↦ befores.unfree f some
          ]) in
          omega (arith, c, x, y, step));
      all = (let d = all_append left (s' ∷ right) in let x = befores.all_same in let y = afters.all_same in
          omega (arith, d, x, y, all, lengths, sums, number));
      few = omega (arith, few, number);
      behind = omega (arith, below, base);
    }

-- the others are as they were
abbrev pub OthersStay : ℕ → List ℕ → List Seat → List Seat → Type 0
OthersStay frames host' before after =
    EachStays frames before (map (behind_as frames host') before) × EachStays frames after (map (behind_as frames host') after)

pub others_same : (frames : ℕ) (p p' : Pool) (host host' : List ℕ) (before after : List Seat) (s s' : Seat)
    → AreApart frames p host (before ++ s ∷ after)
    → Keeps p p' host host' (held_by s) (held_by s') → Stands p' host' → OthersStay frames host' before after
others_same frames p p' host host' before after s s' h keeps stands =
    let sums = all_append before (s ∷ after) in
    let counts : (f : ℕ) → times_held f (before ++ s ∷ after) ≡ times_held f before + (times f (held_by s) + times_held f after) =
    λ f. held_append f before (s ∷ after) in
    let all = h.all in
    let few = h.few in
    let lengths = keeps.lengths in
    let tail = seated_right frames p host before (s ∷ after) h.seated in (
      (others_stay frames p p' host host' (held_by s) (held_by s') keeps h.behind stands before
          (seated_left frames p host before (s ∷ after) h.seated)
          (λ f. (let a = h.once f in let b = counts f in omega (arith, a, b))) (omega (arith, all, few, lengths, sums))).stay,
      (others_stay frames p p' host host' (held_by s) (held_by s') keeps h.behind stands after tail.3
          (λ f. (let a = h.once f in let b = counts f in omega (arith, a, b))) (omega (arith, all, few, lengths, sums))).stay,
    )

-- and what was known of their translations is known still
abbrev pub OthersKnow : ℕ → List ℕ → List Seat → List Seat → Type 0
OthersKnow frames host' before after =
    EachKnows frames before (map (behind_as frames host') before) × EachKnows frames after (map (behind_as frames host') after)

pub others_know : (frames : ℕ) (p p' : Pool) (host host' : List ℕ) (before after : List Seat) (s s' : Seat)
    → AreApart frames p host (before ++ s ∷ after)
    → Keeps p p' host host' (held_by s) (held_by s') → Stands p' host' → OthersKnow frames host' before after
others_know frames p p' host host' before after s s' h keeps stands =
    let sums = all_append before (s ∷ after) in
    let counts : (f : ℕ) → times_held f (before ++ s ∷ after) ≡ times_held f before + (times f (held_by s) + times_held f after) =
    λ f. held_append f before (s ∷ after) in
    let all = h.all in
    let few = h.few in
    let lengths = keeps.lengths in
    let tail = seated_right frames p host before (s ∷ after) h.seated in (
      (others_stay frames p p' host host' (held_by s) (held_by s') keeps h.behind stands before
          (seated_left frames p host before (s ∷ after) h.seated)
          (λ f. (let a = h.once f in let b = counts f in omega (arith, a, b))) (omega (arith, all, few, lengths, sums))).knows,
      (others_stay frames p p' host host' (held_by s) (held_by s') keeps h.behind stands after tail.3
          (λ f. (let a = h.once f in let b = counts f in omega (arith, a, b))) (omega (arith, all, few, lengths, sums))).knows,
    )
