-- A kernel more is taken in: all stay apart, and where their runs begin.
use Rattle.std.proofs.Common.{◌≡◌, ℕ, suc, ◌+◌, ◌*◌, ◌≤◌, ◌<◌, ◌==◌, Bool, false, cond, List, [], ◌∷◌, ◌++◌, None, is_none, length, length-append, take, drop, refl, ap, sym, subst, ◌∙◌, arith, inl, inr, ne_eqb, eq-eqb, Result, Ok, Err}
use Rattle.std.specs.Prelude.{map, OnOk}
use Rattle.std.specs.List.{All}
use Rattle.std.specs.FinMap.{empty}
use Rattle.std.proofs.lemmas.List.Elements.{All-append, All-cons, All-nil}
use Rattle.frame_pool.specs.Pool.{base_of, count_of, free_list, Stands}
use Rattle.frame_pool.specs.declared.Pool.{Pool}
use Rattle.frame_pool.specs.Held.{times}
use Rattle.frame_pool.specs.Frames.{frames_from}
use Rattle.frame_pool.proofs.Frames.{length-frames_from}
use Rattle.frame_pool.proofs.Above.{Owns-above, free_list-above}
use Rattle.frame_pool.proofs.Held.{Owns-none}
use Rattle.image_load.specs.Boot.{need}
use Rattle.machine_model.specs.Run.{with_set}
use Rattle.machine_model.specs.State.{State}
use Rattle.wedge_core.specs.declared.guest.Guest.{Guest}
use Rattle.guest_sched.specs.Apart.{Seat, held_by, AreSeated, AreApart, times_held, all_held, behind_as, StaysSo, EachStays}
use Rattle.guest_sched.specs.Admitting.{IsAtStart, EachAtStart, IsAdmitted, HasParked, HasBegun, first_seat}
use Rattle.guest_sched.specs.Seating.{memory_with, seat_of, seats_from}
use Rattle.guest_sched.specs.Shared.{alone, AllFit}
use Rattle.guest_sched.specs.declared.kernel.Kernel.{Kernel}
use Rattle.guest_sched.specs.declared.kernel.SharedFault.{SharedFault}
use Rattle.guest_sched.specs.declared.tenants.Tenant.{Tenant}
use Rattle.guest_sched.proofs.Apart.{Others, others_stay, seated_append, once_then, held_append, all_append}
use Rattle.guest_sched.proofs.Brought.{seated_over}
use Rattle.guest_sched.proofs.Fronts.{front_front}

-- nobody yet
pub none_admitted : (frames : ℕ) (pool : Pool) (host : List ℕ) → free_list pool host ≡ frames_from frames 512 → Stands pool host
    → base_of pool ≡ frames → count_of pool ≡ 512 → length host ≡ 4096 * (frames + 512)
    → IsAdmitted [] frames [] pool 0 host
none_admitted frames pool host list stands base count size = record {
  len = refl;
  fits = tt;
  apart = record {
    seated = tt;
    once = λ f. omega arith;
    all = (let n = ap length list ∙ length-frames_from frames 512 in omega (arith, n, count));
    few = omega (arith, count);
    behind = omega (arith, base);
  };
  theirs = All-nil (λ (t : Tenant). 4096 * frames ≤ length t.ram);
  each = tt;
  two = omega arith;
  stands = stands;
  pool_is = (base, count);
  size = size;
  there = λ some. absurd (omega (arith, some));
}

-- the lists of all kernels with one more

fit_more : (frames : ℕ) (kernels : List Kernel) (kernel : Kernel) → AllFit frames kernels → need kernel.image ≤ frames
    → AllFit frames (kernels ++ kernel ∷ [])
fit_more frames [] kernel all fits = (fits, tt)
fit_more frames (k ∷ ks) kernel all fits = (all.0, fit_more frames ks kernel all.1 fits)

start_more : (frames : ℕ) (kernels : List Kernel) (seats : List Seat) (kernel : Kernel) (s : Seat) → EachAtStart frames kernels seats
    → IsAtStart kernel frames s → EachAtStart frames (kernels ++ kernel ∷ []) (seats ++ s ∷ [])
start_more frames [] [] kernel s each here = (here, tt)
start_more frames [] (x ∷ xs) kernel s each here = absurd each
start_more frames (k ∷ ks) [] kernel s each here = absurd each
start_more frames (k ∷ ks) (x ∷ xs) kernel s each here = (each.0, start_more frames ks xs kernel s each.1 here)

seats_more : (frames : ℕ) (host : List ℕ) (present i n : ℕ) (ks : List Kernel) (ts : List Tenant) (k : Kernel) (t : Tenant)
    → length ts ≡ length ks → n ≡ i + length ts
    → seats_from frames host present i (ks ++ k ∷ []) (ts ++ t ∷ []) ≡ seats_from frames host present i ks ts
    ++ seat_of frames host present n k t ∷ []
seats_more frames host present i n [] [] k t len at =
    ap (λ (j : ℕ). seat_of frames host present j k t ∷ []) (let e : i ≡ n = omega (arith, at) in e)
seats_more frames host present i n [] (x ∷ ts) k t len at = absurd (omega (arith, len))
seats_more frames host present i n (y ∷ ks) [] k t len at = absurd (omega (arith, len))
seats_more frames host present i n (y ∷ ks) (x ∷ ts) k t len at =
    ap (λ (l : List Seat). seat_of frames host present i y x ∷ l)
    (seats_more frames host present (suc i) n ks ts k t (omega (arith, len)) (omega (arith, at)))

-- the host's memory has become another, while none of these stands in it
seat_in : List ℕ → Kernel → Tenant → Seat
seat_in memory k t = record { image = k.image; running = t.guest; memory = memory; live = is_none t.stop }

seats_behind : (frames : ℕ) (host host' : List ℕ) (present i : ℕ) (ks : List Kernel) (ts : List Tenant) → i + length ts ≤ present
    → All (λ (t : Tenant). 4096 * frames ≤ length t.ram) ts
    → seats_from frames host' present i ks ts ≡ map (behind_as frames host') (seats_from frames host present i ks ts)
unfolding seat_in
seats_behind frames host host' present i [] ts low theirs = refl
seats_behind frames host host' present i (k ∷ ks) [] low theirs = refl
seats_behind frames host host' present i (k ∷ ks) (t ∷ ts) low theirs =
    let other : (i == present) ≡ false = ne_eqb i present (λ e. omega arith) in
    let room : 4096 * frames ≤ length t.ram = theirs 0 t (omega arith) in
    ap (λ (s : Seat). s ∷ seats_from frames host' present (suc i) ks ts)
    (ap (λ (c : Bool). seat_in (cond c host' (memory_with frames host' t)) k t) other
    ∙ ap (λ (l : List ℕ). seat_in (l ++ drop (4096 * frames) host') k t)
    (sym (front_front (4096 * frames) t.ram (drop (4096 * frames) host) room))
    ∙ sym (ap (λ (c : Bool). seat_in (take (4096 * frames) (cond c host (memory_with frames host t)) ++ drop (4096 * frames) host') k t)
    other))
    ∙ ap (λ (l : List Seat). behind_as frames host' (seat_of frames host present i k t) ∷ l)
    (seats_behind frames host host' present (suc i) ks ts (omega arith) (λ j d lt. theirs (suc j) d (omega (arith, lt))))

seat_here : (frames : ℕ) (host : List ℕ) (n : ℕ) (k : Kernel) (guest : Guest) (t : Tenant) → t.guest ≡ guest → t.stop ≡ None
    → seat_of frames host n n k t ≡ first_seat k guest host
unfolding seat_in
seat_here frames host n k guest t is none =
    ap (λ (c : Bool). seat_in (cond c host (memory_with frames host t)) k t) (eq-eqb n n refl)
    ∙ ap (λ (x : Guest). record { image = k.image; running = x; memory = host; live = is_none t.stop }) is
    ∙ ap (λ (x : _). record { image = k.image; running = guest; memory = host; live = is_none x }) none

-- where a run begins nothing is kept that could be forgotten
at_start_still : (frames : ℕ) (kernel : Kernel) (s s' : Seat) → s'.live ≡ s.live → StaysSo frames s s' → IsAtStart kernel frames s
    → IsAtStart kernel frames s'
at_start_still frames kernel s s' live stays h = record {
  state = elim (stays.state (alone kernel frames) refl) [
    | inl same ↦ same ∙ h.state
    | inr forgot ↦ forgot ∙ ap (λ (b : State). with_set b empty) h.state
  ];
  fills = stays.fills ∙ h.fills;
  live = live ∙ h.live;
}

all_at_start : (frames : ℕ) (host' : List ℕ) (kernels : List Kernel) (seats : List Seat)
    → EachStays frames seats (map (behind_as frames host') seats) → EachAtStart frames kernels seats
    → EachAtStart frames kernels (map (behind_as frames host') seats)
all_at_start frames host' [] [] stay each = tt
all_at_start frames host' [] (s ∷ seats) stay each = absurd each
all_at_start frames host' (k ∷ ks) [] stay each = absurd each
all_at_start frames host' (k ∷ ks) (s ∷ seats) stay each =
    (at_start_still frames k s (behind_as frames host' s) refl stay.0 each.0, all_at_start frames host' ks seats stay.1 each.1)

times_none : (f : ℕ) → times f [] ≡ 0
unfolding times
times_none f = refl

-- what is known of all of them, from what is known of the one that came last
module _ (kernels : List Kernel) (kernel : Kernel) (frames present : ℕ) (ts ts1 : List Tenant) (t : Tenant) (p p' : Pool)
    (host host1 host' : List ℕ) (guest : Guest)
    (h : IsAdmitted kernels frames ts p present host) (parked : HasParked frames host host1 present ts ts1)
    (b : HasBegun kernel frames p p' host1 host' guest)
    (fits : need kernel.image ≤ frames) (t_guest : t.guest ≡ guest) (t_stop : t.stop ≡ None) (t_room : 4096 * frames ≤ length t.ram)
    (few : length ts < 4)
  where
    abbrev olds : List Seat
    olds = seats_from frames host present 0 kernels ts

    abbrev mine : Seat
    mine = first_seat kernel guest host'

    low : frames ≤ base_of p
    low = let e = h.pool_is.0 in omega (arith, e)

    between_size : length b.between ≡ length host
    between_size = b.size ∙ parked.size

    between_behind : drop (4096 * frames) b.between ≡ drop (4096 * frames) host
    between_behind = b.behind ∙ parked.behind

    free_same : free_list p b.between ≡ free_list p host
    free_same = free_list-above p host b.between (4096 * frames) (omega (arith, low)) between_behind between_size h.stands

    seated_between : AreSeated frames p b.between olds
    seated_between = seated_over frames p host b.between olds between_size between_behind h.apart.seated

    stands' : Stands p' host'
    stands' = b.seated.holds.owns.stands

    free_now : length (free_list p' host') + 2 ≡ length (free_list p host)
    free_now = let a = b.keeps.lengths in let two = b.two in let e = ap length free_same in omega (arith, a, two, e)

    held_now : length (free_list p host) + all_held olds ≡ 512
    held_now = h.apart.all ∙ h.pool_is.1

    news_are : seats_from frames host' (length ts) 0 (kernels ++ kernel ∷ []) (ts1 ++ t ∷ []) ≡ map (behind_as frames host') olds
        ++ mine ∷ []
    news_are =
        let same : length ts1 ≡ length kernels = parked.len ∙ h.len in
        let count = parked.len in
        seats_more frames host' (length ts) 0 (length ts) kernels ts1 kernel t same (omega (arith, count))
        ∙ ap (λ (l : List Seat). l ++ seat_of frames host' (length ts) (length ts) kernel t ∷ [])
        (seats_behind frames host1 host' (length ts) 0 kernels ts1 (omega (arith, count)) parked.theirs ∙ ap (map (behind_as frames host'))
        (parked.seats kernels))
        ∙ ap (λ (s : Seat). map (behind_as frames host') olds ++ s ∷ []) (seat_here frames host' (length ts) kernel guest t t_guest t_stop)

    others : Others frames p p' b.between host' [] (held_by mine) b.keeps low stands' olds (map (behind_as frames host') olds)
    others =
        others_stay frames p p' b.between host' [] (held_by mine) b.keeps low stands' olds seated_between
        (λ f. (let a = h.apart.once f in let n = times_none f in omega (arith, a, n)))
        (let a = free_now in let c = held_now in omega (arith, a, c))

    all_now : AreApart frames p' host' (map (behind_as frames host') olds ++ mine ∷ [])
    unfolding others
    all_now =
        let rest = map (behind_as frames host') olds in
        let base = b.keeps.same.0 in
        let count = b.keeps.same.1 in
        let number = h.pool_is.1 in
        record {
          seated = seated_append frames p' host' rest (mine ∷ []) others.seated (b.seated, refl, refl, tt);
          once = λ f.
              (let a = h.apart.once f in
              let c = held_append f rest (mine ∷ []) in
              let x = others.times_same f in
              let together = b.keeps.together f in
              let none = times_none f in
              let step = once_then (times_held f olds) 0 (times f (held_by mine)) (times f (free_list p b.between)) (omega (arith, a))
              (b.seated.holds.owns.once f) (omega (arith, together, none)) (others.unfree f) in
              omega (arith, c, x, step));
          all = (let d = all_append rest (mine ∷ []) in let x = others.all_same in let two = b.two in let free = free_now in
              let held = held_now in omega (arith, d, x, two, free, held, count, number));
          few = omega (arith, count, number);
          behind = omega (arith, base, low);
        }

    held_all : all_held (map (behind_as frames host') olds ++ mine ∷ []) ≡ 2 * length (ts1 ++ t ∷ [])
    unfolding others
    held_all =
        let d = all_append (map (behind_as frames host') olds) (mine ∷ []) in
        let x = others.all_same in
        let two = b.two in let so_far = h.two in let len = parked.len in let n = length-append ts1 (t ∷ []) in
        omega (arith, d, x, two, so_far, len, n)

    pub admitted : IsAdmitted (kernels ++ kernel ∷ []) frames (ts1 ++ t ∷ []) p' (length ts) host'
    unfolding others
    admitted = record {
      len = (let a = length-append ts1 (t ∷ []) in let c = length-append kernels (kernel ∷ []) in let d = parked.len in let e = h.len in
          omega (arith, a, c, d, e));
      fits = fit_more frames kernels kernel h.fits fits;
      apart = subst (λ (l : List Seat). AreApart frames p' host' l) (sym news_are) all_now;
      theirs = All-append (λ (x : Tenant). 4096 * frames ≤ length x.ram) ts1 (t ∷ []) parked.theirs
          (All-cons (λ (x : Tenant). 4096 * frames ≤ length x.ram) t [] t_room (All-nil (λ (x : Tenant). 4096 * frames ≤ length x.ram)));
      each = subst (λ (l : List Seat). EachAtStart frames (kernels ++ kernel ∷ []) l) (sym news_are)
          (start_more frames kernels (map (behind_as frames host') olds) kernel mine
          (all_at_start frames host' kernels olds others.stay h.each) b.start);
      two = ap all_held news_are ∙ held_all;
      stands = stands';
      pool_is = (b.keeps.same.0 ∙ h.pool_is.0, b.keeps.same.1 ∙ h.pool_is.1);
      size = b.keeps.size ∙ between_size ∙ h.size;
      there = λ some. (let a = length-append ts1 (t ∷ []) in let d = parked.len in omega (arith, a, d));
    }

-- two frames are free for one more
pub two_free : (kernels : List Kernel) (frames present : ℕ) (ts : List Tenant) (p : Pool) (host : List ℕ)
    → IsAdmitted kernels frames ts p present host → length ts < 4 → 2 ≤ length (free_list p host)
two_free kernels frames present ts p host h few = let a = h.apart.all in let c = h.two in let n = h.pool_is.1 in omega (arith, a, c, n, few)

-- the pool stands over the host's memory when no kernel stands in it any more
module _ (kernels : List Kernel) (frames present : ℕ) (ts ts1 : List Tenant) (p : Pool) (host host1 : List ℕ)
    (h : IsAdmitted kernels frames ts p present host) (parked : HasParked frames host host1 present ts ts1) where
  low_pool : 4096 * frames ≤ 4096 * base_of p
  low_pool = let e = h.pool_is.0 in omega (arith, e)

  pub parked_stands : Stands p host1
  parked_stands = (Owns-above p host host1 (4096 * frames) low_pool parked.behind parked.size [] (Owns-none p host h.stands)).stands

  pub parked_free : length ts < 4 → 2 ≤ length (free_list p host1)
  parked_free few =
      let e = ap length (free_list-above p host host1 (4096 * frames) low_pool parked.behind parked.size h.stands) in
      let two = two_free kernels frames present ts p host h few in
      omega (arith, e, two)

-- the list has one more where there was memory for it
pub taken_in : (kernel : Kernel) (frames present : ℕ) (ts ts1 news : List Tenant) (p p' p'' : Pool) (frames' present' : ℕ)
    (host host1 host' : List ℕ) (guest : Guest) (ram : List ℕ) (result : Result (Unit {0}) SharedFault)
    → HasParked frames host host1 present ts ts1 → HasBegun kernel frames p p' host1 host' guest → need kernel.image ≤ frames
    → 4096 * frames ≤ length ram → length ts < 4
    → OnOk result ((new : Tenant) × (news ≡ ts1 ++ new ∷ []) × (new.guest ≡ guest) × (new.ram ≡ ram) × (new.stop ≡ None))
    → OnOk result (present' ≡ length ts1) → p'' ≡ p' → frames' ≡ frames
    → OnOk result ((kernels : List Kernel) → IsAdmitted kernels frames ts p present host → IsAdmitted (kernels ++ kernel ∷ []) frames'
    news p'' present' host')
taken_in kernel frames present ts ts1 news p p' p'' frames' present' host host1 host' guest ram (Err fault) parked b fits room few new
    there pool same = tt
taken_in kernel frames present ts ts1 news p p' p'' frames' present' host host1 host' guest ram (Ok done) parked b fits room few new there
    pool same = λ kernels h.
    let len = ap (λ (l : List ℕ). length l) new.3 in
    let is = admitted kernels kernel frames present ts ts1 new.0 p p' host host1 host' guest h parked b fits new.2 new.4
    (omega (arith, len, room)) few in
    subst (λ (n : ℕ). IsAdmitted (kernels ++ kernel ∷ []) n news p'' present' host') (sym same)
    (subst (λ (l : List Tenant). IsAdmitted (kernels ++ kernel ∷ []) frames l p'' present' host') (sym new.1)
    (subst (λ (q : Pool). IsAdmitted (kernels ++ kernel ∷ []) frames (ts1 ++ new.0 ∷ []) q present' host') (sym pool)
    (subst (λ (n : ℕ). IsAdmitted (kernels ++ kernel ∷ []) frames (ts1 ++ new.0 ∷ []) p' n host') (sym (there ∙ parked.len)) is)))
