-- Several kernels, between two turns, as one after another is done.
use Rattle.std.proofs.Common.{◌≡◌, inl, inr, ℕ, zero, suc, ◌+◌, ◌*◌, ◌≤◌, ◌<◌, Bool, true, false, List, [], ◌∷◌, ◌++◌, length, get_or, Option, Some, None, cond, refl, ap, sym, subst, ◌∙◌, arith, length-append}
use Rattle.std.specs.List.{All}
use Rattle.std.proofs.lemmas.Bool.Decides.{eqb_tells}
use Rattle.std.proofs.lemmas.List.{length-map, get_or-map}
use Rattle.ia32_types.specs.declared.stop.Stop.{Stop}
use Rattle.frame_pool.specs.Pool.{count_of}
use Rattle.frame_pool.specs.declared.Pool.{Pool}
use Rattle.machine_model.specs.Step.{Completed, Report}
use Rattle.machine_model.specs.Counts.{direct_count, direct_in, direct_addresses, is_direct}
use Rattle.sites.specs.declared.site.Site.{Site}
use Rattle.wedge_core.specs.Slices.{Counts}
use Rattle.guest_sched.specs.Apart.{Seat, IsSeated, AreSeated, AreApart, EachStays}
use Rattle.guest_sched.specs.Between.{EachStands, StandsSo, IsNext, stops_of}
use Rattle.guest_sched.specs.Pieces.{Piece}
use Rattle.guest_sched.specs.Bounds.{bound_of}
use Rattle.guest_sched.specs.Schedules.{IsSlice}
use Rattle.guest_sched.specs.Seating.{seat_of, seats_from, HasBrought, HasMadeRoom}
use Rattle.guest_sched.specs.Shared.{sites_in}
use Rattle.guest_sched.specs.declared.kernel.Kernel.{Kernel}
use Rattle.guest_sched.specs.declared.schedule.Slice.{Slice}
use Rattle.guest_sched.specs.declared.tenants.Tenant.{Tenant}
use Rattle.guest_sched.proofs.Going.{seat_is_here}
use Rattle.guest_sched.proofs.Stands.{all_stay}
use Rattle.guest_sched.proofs.Sums.{bound_append, for_mine}
use Rattle.guest_sched.proofs.Turned.{seat_here}
use Rattle.guest_sched.proofs.Wide.{IsBetween}

-- what is known of the kernel at this place
pub at_place : (i n frames : ℕ) (whole done : List Slice) (pieces : List Piece) (ks : List Kernel) (ss : List Seat)
    (stops : List (Option Stop)) (dk : Kernel) (ds : Seat) (dt : Option Stop) → n < length stops
    → EachStands i frames whole done pieces ks ss stops → StandsSo (i + n) frames whole done pieces (get_or ks n dk)
    (get_or ss n ds) (get_or stops n dt)
at_place i n frames whole done pieces [] [] [] dk ds dt lt h = absurd (omega (arith, lt))
at_place i n frames whole done pieces [] [] (t ∷ stops) dk ds dt lt h = absurd h
at_place i n frames whole done pieces [] (s ∷ ss) stops dk ds dt lt h = absurd h
at_place i n frames whole done pieces (k ∷ ks) [] stops dk ds dt lt h = absurd h
at_place i n frames whole done pieces (k ∷ ks) (s ∷ ss) [] dk ds dt lt h = absurd h
at_place i zero frames whole done pieces (k ∷ ks) (s ∷ ss) (t ∷ stops) dk ds dt lt h =
    subst (λ (x : ℕ). StandsSo x frames whole done pieces k s t) (omega arith) h.0
at_place i (suc n) frames whole done pieces (k ∷ ks) (s ∷ ss) (t ∷ stops) dk ds dt lt h =
    subst (λ (x : ℕ). StandsSo x frames whole done pieces (get_or ks n dk) (get_or ss n ds) (get_or stops n dt)) (omega arith)
    (at_place (suc i) n frames whole done pieces ks ss stops dk ds dt (omega (arith, lt)) h.1)

-- and that it is seated
pub seated_at : (frames : ℕ) (p : Pool) (host : List ℕ) (present i n : ℕ) (ks : List Kernel) (ts : List Tenant) (dk : Kernel) (d : Tenant)
    → n < length ts → n < length ks
    → AreSeated frames p host (seats_from frames host present i ks ts)
    → IsSeated frames p (seat_of frames host present (i + n) (get_or ks n dk) (get_or ts n d))
seated_at frames p host present i n [] ts dk d lt lk h = absurd (omega (arith, lk))
seated_at frames p host present i n (k ∷ ks) [] dk d lt lk h = absurd (omega (arith, lt))
seated_at frames p host present i zero (k ∷ ks) (t ∷ ts) dk d lt lk h =
    subst (λ (x : ℕ). IsSeated frames p (seat_of frames host present x k t)) (omega arith) h.0
seated_at frames p host present i (suc n) (k ∷ ks) (t ∷ ts) dk d lt lk h =
    subst (λ (x : ℕ). IsSeated frames p (seat_of frames host present x (get_or ks n dk) (get_or ts n d))) (omega arith)
    (seated_at frames p host present (suc i) n ks ts dk d (omega (arith, lt)) (omega (arith, lk)) h.3)

at_end : (done rest : List Slice) (slice : Slice) → get_or (done ++ slice ∷ rest) (length done) slice ≡ slice
at_end [] rest slice = refl
at_end (x ∷ done) rest slice = at_end done rest slice

-- the next slice is one of its schedule's
pub next_slice : (count : ℕ) (whole done : List Slice) (slice : Slice) → IsNext count whole done slice → IsSlice count slice
next_slice count whole done slice next =
    subst (IsSlice count) (ap (λ (l : List Slice). get_or l (length done) slice) next.whole_is ∙ at_end done next.rest slice)
    (next.schedule.each (length done) slice (let e = ap length next.whole_is in omega (arith, e, length-append done (slice ∷ next.rest))))

-- The kernel whose turn it is, in the host's memory.

seats_get : (frames : ℕ) (host : List ℕ) (present i n : ℕ) (ks : List Kernel) (ts : List Tenant) (dk : Kernel) (d : Tenant) (ds : Seat)
    → n < length ts → n < length ks
    → get_or (seats_from frames host present i ks ts) n ds ≡ seat_of frames host present (i + n) (get_or ks n dk) (get_or ts n d)
seats_get frames host present i n [] ts dk d ds lt lk = absurd (omega (arith, lk))
seats_get frames host present i n (k ∷ ks) [] dk d ds lt lk = absurd (omega (arith, lt))
seats_get frames host present i zero (k ∷ ks) (t ∷ ts) dk d ds lt lk = ap (λ (x : ℕ). seat_of frames host present x k t) (omega arith)
seats_get frames host present i (suc n) (k ∷ ks) (t ∷ ts) dk d ds lt lk =
    seats_get frames host present (suc i) n ks ts dk d ds (omega (arith, lt)) (omega (arith, lk))
    ∙ ap (λ (x : ℕ). seat_of frames host present x (get_or ks n dk) (get_or ts n d)) (omega arith)

pub record Here (frames : ℕ) (whole done : List Slice) (pieces : List Piece) (pool : Pool) (host : List ℕ) (n : ℕ) (k : Kernel)
    (t : Tenant) : Type 0 where
  pub seated : IsSeated frames pool (seat_here k host t)
  pub stands : StandsSo n frames whole done pieces k (seat_here k host t) t.stop

pub here_of : (frames : ℕ) (whole done : List Slice) (pieces : List Piece) (ks : List Kernel) (ts : List Tenant) (pool : Pool) (present : ℕ)
    (host : List ℕ) (dk : Kernel) (d : Tenant) → present < length ts → length ts ≡ length ks
    → AreSeated frames pool host (seats_from frames host present 0 ks ts)
    → EachStands 0 frames whole done pieces ks (seats_from frames host present 0 ks ts) (stops_of ts)
    → Here frames whole done pieces pool host present (get_or ks present dk) (get_or ts present d)
here_of frames whole done pieces ks ts pool present host dk d lt len seated each =
    let k = get_or ks present dk in
    let t = get_or ts present d in
    let zero_is : 0 + present ≡ present = omega arith in
    let lk : present < length ks = omega (arith, lt, len) in
    let ls : present < length (stops_of ts) = (let n = length-map ts (λ (t : Tenant). t.stop) in omega (arith, n, lt)) in
    let at = seat_is_here frames host present (0 + present) k t zero_is in
    let ds = seat_here k host t in
    let got = seats_get frames host present 0 present ks ts dk d ds lt lk in
    record {
      seated = subst (λ (s : Seat). IsSeated frames pool s) at (seated_at frames pool host present 0 present ks ts dk d lt lk seated);
      stands =
          subst (λ (o : Option Stop). StandsSo present frames whole done pieces k (seat_here k host t) o)
          (get_or-map (λ (t : Tenant). t.stop) ts present d None lt)
          (subst (λ (s : Seat). StandsSo present frames whole done pieces k s (get_or (stops_of ts) present None)) (got ∙ at)
          (subst (λ (x : ℕ). StandsSo x frames whole done pieces k (get_or (seats_from frames host present 0 ks ts) present ds)
          (get_or (stops_of ts) present None)) zero_is
          (at_place 0 present frames whole done pieces ks (seats_from frames host present 0 ks ts) (stops_of ts) dk ds None ls each)));
    }

-- another kernel came into the host's memory
pub brought_between : (kernels : List Kernel) (frames : ℕ) (whole done : List Slice) (pieces : List Piece) (ts ts' : List Tenant)
    (pool : Pool) (present present' : ℕ) (host host' : List ℕ) (before now : Counts) (old new : Option (List ℕ))
    → HasBrought frames host host' present present' ts ts' → present' < length ts → IsBetween kernels frames whole done pieces ts pool
    present host before now old new → IsBetween kernels frames whole done pieces ts' pool present' host' before now old new
brought_between [] frames whole done pieces ts ts' pool present present' host host' before now old new h lt b =
    absurd (let n = b.rooms.len in omega (arith, lt, n))
brought_between (k ∷ ks) frames whole done pieces ts ts' pool present present' host host' before now old new h lt b =
    let stops = ap length h.stops in
    let same : length ts' ≡ length ts =
    (let x = length-map ts' (λ (t : Tenant). t.stop) in let y = length-map ts (λ (t : Tenant). t.stop) in omega (arith, stops, x, y)) in
    record {
      rooms = record {
        len = same ∙ b.rooms.len;
        four = b.rooms.four;
        there = omega (arith, same, lt);
        size = b.rooms.size;
        room = (let r = b.rooms.room in let n = h.size in omega (arith, r, n));
        theirs = h.rooms;
        pool_is = b.rooms.pool_is;
      };
      apart = h.apart pool k ks b.apart;
      turns = b.turns;
      each =
          subst (λ (l : List (Option Stop)). EachStands 0 frames whole done pieces (k ∷ ks)
          (seats_from frames host' present' 0 (k ∷ ks) ts') l) (sym h.stops)
          (subst (λ (l : List Seat). EachStands 0 frames whole done pieces (k ∷ ks) l (stops_of ts)) (sym (h.seats (k ∷ ks))) b.each);
      text = b.text;
      counts = b.counts;
      retired = b.retired;
    }

-- kernels gave up frames
pub roomed_between : (kernels : List Kernel) (frames : ℕ) (whole done : List Slice) (pieces : List Piece) (ts ts' : List Tenant)
    (pool pool' : Pool) (present : ℕ) (host host' : List ℕ) (before now : Counts) (old new : Option (List ℕ))
    → HasMadeRoom present ts ts' → All (λ (t : Tenant). 4096 * frames ≤ length t.ram) ts' → count_of pool' ≡ 512
    → length host' ≡ length host
    → (AreApart frames pool host (seats_from frames host present 0 kernels ts) → AreApart frames pool' host'
    (seats_from frames host' present 0 kernels ts'))
    → (AreApart frames pool host (seats_from frames host present 0 kernels ts) → EachStays frames
    (seats_from frames host present 0 kernels ts) (seats_from frames host' present 0 kernels ts'))
    → IsBetween kernels frames whole done pieces ts pool present host before now old new
    → IsBetween kernels frames whole done pieces ts' pool' present host' before now old new
roomed_between kernels frames whole done pieces ts ts' pool pool' present host host' before now old new h theirs count size apart stay b =
    record {
      rooms = record {
        len = h.len ∙ b.rooms.len;
        four = b.rooms.four;
        there = (let n = h.len in let there = b.rooms.there in omega (arith, n, there));
        size = b.rooms.size;
        room = (let r = b.rooms.room in omega (arith, r, size));
        theirs = theirs;
        pool_is = count;
      };
      apart = apart b.apart;
      turns = b.turns;
      each =
          subst (λ (l : List (Option Stop)). EachStands 0 frames whole done pieces kernels
          (seats_from frames host' present 0 kernels ts') l)
          (sym h.stops)
          (all_stay 0 frames whole done pieces kernels (seats_from frames host present 0 kernels ts)
          (seats_from frames host' present 0 kernels ts') (stops_of ts) (stay b.apart) b.each);
      text = b.text;
      counts = b.counts;
      retired = b.retired;
    }

-- Counts of a turn.

direct_one : (sites : List Site) (r : Report) → length (direct_in sites r.completed) ≤ 1
direct_one sites r = one_at_most sites r.completed
  where
    one_at_most : (sites : List Site) (c : Option Completed) → length (direct_in sites c) ≤ 1
    one_at_most sites None = omega arith
    one_at_most sites (Some c) = at_most (is_direct sites c) c.eip
      where
        at_most : (b : Bool) (eip : ℕ) → length (cond b (eip ∷ []) []) ≤ 1
        at_most true eip = omega arith
        at_most false eip = omega arith

pub direct_few : (sites : List Site) (reports : List Report) → direct_count sites reports ≤ length reports
direct_few sites [] = omega arith
direct_few sites (r ∷ reports) = let rest = direct_few sites reports in let one = direct_one sites r in
    omega (arith, rest, one, length-append (direct_in sites r.completed) (direct_addresses sites reports))

pub sites_at : (kernels : List Kernel) (n : ℕ) (dk : Kernel) → n < length kernels → sites_in kernels n ≡ (get_or kernels n dk).image.sites
sites_at [] n dk lt = absurd (omega (arith, lt))
sites_at (k ∷ ks) zero dk lt = refl
sites_at (k ∷ ks) (suc n) dk lt = sites_at ks n dk (omega (arith, lt))

-- the sum of a kernel's slices
pub sums_of : (count : ℕ) (whole done : List Slice) (slice : Slice) → IsNext count whole done slice
    → (bound_of slice.kernel (done ++ slice ∷ []) ≡ bound_of slice.kernel done + slice.steps)
    × (bound_of slice.kernel done + slice.steps ≤ bound_of slice.kernel whole)
sums_of count whole done slice next =
    let n = slice.kernel in
    let one : bound_of n (slice ∷ []) ≡ slice.steps =
    elim (eqb_tells n n) [ inl e ↦ (let own = for_mine n slice e.0 in omega (arith, own)) | inr o ↦ absurd (o.1 refl) ] in
    let up = bound_append n done (slice ∷ []) in
    let all = ap (bound_of n) next.whole_is ∙ bound_append n done (slice ∷ next.rest) in
    let later = bound_append n (slice ∷ []) next.rest in
    (omega (arith, one, up), omega (arith, one, all, later))
