-- Frames enough for a turn.
use Rattle.std.proofs.Common.{◌≡◌, ◌≢◌, inl, inr, ℕ, zero, suc, ◌+◌, ◌*◌, ◌≤◌, ◌<◌, List, [], ◌∷◌, length, drop, set, get_or, refl, ap, sym, subst, ◌∙◌, arith}
use Rattle.std.specs.FinMap.{empty}
use Rattle.std.specs.Prelude.{map}
use Rattle.machine_model.specs.Run.{with_set}
use Rattle.machine_model.specs.State.{State}
use Rattle.std.proofs.lemmas.Bool.Decides.{eqb_tells}
use Rattle.std.proofs.lemmas.List.{get_or-set_same, get_or-set_other}
use Rattle.frame_pool.specs.Pool.{base_of}
use Rattle.frame_pool.specs.declared.Pool.{Pool}
use Rattle.frame_pool.specs.Held.{Owns, SameIn}
use Rattle.frame_pool.proofs.Above.{frame-above, Owns-above}
use Rattle.shadow_cache.specs.Views as roots
use Rattle.shadow_cache.specs.Standing as standing
use Rattle.shadow_cache.specs.declared.roots.Roots.{Roots}
use Rattle.wedge_step.specs.declared.running.Running.{Running}
use Rattle.guest_sched.proofs.Brought.{map_set}
use Rattle.guest_sched.specs.Apart.{Seat, held_by, IsSeated, AreSeated, all_held, MayForget, EachStays}
use Rattle.guest_sched.specs.Seating.{seat_of, seats_from, HasReleased, HasMadeRoom, MayGiveUp}
use Rattle.guest_sched.specs.declared.kernel.Kernel.{Kernel}
use Rattle.guest_sched.specs.declared.tenants.Tenant.{Tenant}

-- what is known of one of them
pub record IsAt (frames : ℕ) (p : Pool) (host : List ℕ) (t : Tenant) (all : ℕ) : Type 0 where
  pub s : Seat
  pub seated : IsSeated frames p s
  pub size : length s.memory ≡ length host
  pub behind : drop (4096 * frames) s.memory ≡ drop (4096 * frames) host
  pub running : s.running ≡ t.guest
  pub held : t.guest.held ≤ all

pub is_at : (frames : ℕ) (p : Pool) (host : List ℕ) (present i n : ℕ) (ks : List Kernel) (ts : List Tenant) (d : Tenant) → n < length ts
    → length ks ≡ length ts
    → AreSeated frames p host (seats_from frames host present i ks ts)
    → IsAt frames p host (get_or ts n d) (all_held (seats_from frames host present i ks ts))
is_at frames p host present i n [] ts d lt len h = absurd (omega (arith, lt, len))
is_at frames p host present i n (k ∷ ks) [] d lt len h = absurd (omega (arith, lt))
is_at frames p host present i zero (k ∷ ks) (t ∷ ts) d lt len h =
    record {
      s = seat_of frames host present i k t;
      seated = h.0;
      size = h.1;
      behind = h.2;
      running = refl;
      held = (let c = h.0.holds.counted in omega (arith, c));
    }
is_at frames p host present i (suc n) (k ∷ ks) (t ∷ ts) d lt len h =
    let r = is_at frames p host present (suc i) n ks ts d (omega (arith, lt)) (omega (arith, len)) h.3 in
    record {
      s = r.s;
      seated = r.seated;
      size = r.size;
      behind = r.behind;
      running = r.running;
      held = (let c = r.held in omega (arith, c));
    }

-- each that isn't the present one holds two at most from the n-th on
pub held_bound : (frames : ℕ) (p : Pool) (host : List ℕ) (present i : ℕ) (ks : List Kernel) (ts : List Tenant) (d : Tenant) (top : ℕ)
    → length ks ≡ length ts → AreSeated frames p host (seats_from frames host present i ks ts)
    → ((j m : ℕ) → m ≡ i + j → j < length ts → m ≢ present → (get_or ts j d).guest.held ≤ 2)
    → ((j m : ℕ) → m ≡ i + j → j < length ts → m ≡ present → (get_or ts j d).guest.held ≤ top)
    → (all_held (seats_from frames host present i ks ts) ≤ 2 * length ts + top)
    × (present < i → all_held (seats_from frames host present i ks ts) ≤ 2 * length ts)
held_bound frames p host present i [] ts d top len h two one = (omega arith, λ lt. omega arith)
held_bound frames p host present i (k ∷ ks) [] d top len h two one = (omega arith, λ lt. omega arith)
held_bound frames p host present i (k ∷ ks) (t ∷ ts) d top len h two one =
    let r = held_bound frames p host present (suc i) ks ts d top (omega (arith, len)) h.3
    (λ j m e l n. two (suc j) m (omega (arith, e)) (omega (arith, l)) n)
    (λ j m e l n. one (suc j) m (omega (arith, e)) (omega (arith, l)) n) in
    let c = h.0.holds.counted in
    let all = r.0 in
    elim (eqb_tells i present) [
      | inl e ↦ (
        let a = one 0 i (omega arith) (omega arith) e.1 in let e1 = e.1 in let b = r.1 (omega (arith, e1)) in omega (arith, a, b, c),
        λ lt. absurd (let e1 = e.1 in omega (arith, e1, lt)),
      )
      | inr n ↦ (
        let a = two 0 i (omega arith) (omega arith) n.1 in omega (arith, a, all, c),
        λ lt. (let a = two 0 i (omega arith) (omega arith) n.1 in let b = r.1 (omega (arith, lt)) in omega (arith, a, b, c)),
      )
    ]

-- its shadows are whole over the host's memory too
pub over_host : (frames : ℕ) (p : Pool) (host : List ℕ) (t : Tenant) (all : ℕ) → frames ≤ base_of p → IsAt frames p host t all
    → ∥ roots.stands t.guest.shadows host ∥₁ × Owns p host (roots.frames t.guest.shadows host)
over_host frames p host t all behind a =
    let h = a.seated.holds in
    let low : 4096 * frames ≤ 4096 * base_of p = omega (arith, behind) in
    let same : SameIn (held_by a.s) a.s.memory host =
    record {
      size = sym a.size;
      frames =
          λ f k. frame-above a.s.memory host (4096 * frames) f (let o = (h.owns.out f k).low in omega (arith, o, behind)) (sym a.behind);
    } in
    let frames_same = standing.frames_in a.s.running.shadows a.s.memory host h.stand same in
    subst (λ (r : _). ∥ roots.stands r.shadows host ∥₁ × Owns p host (roots.frames r.shadows host)) a.running (
      standing.stays_in a.s.running.shadows a.s.memory host h.stand same,
      subst (λ (fs : List ℕ). Owns p host fs) (sym frames_same)
          (Owns-above p a.s.memory host (4096 * frames) low (sym a.behind) (sym a.size) (held_by a.s) h.owns),
    )

pub no_room_made : (present : ℕ) (ts : List Tenant) → HasMadeRoom present ts ts
no_room_made present ts =
    record { len = refl; stops = refl; each = λ j d. record { running = refl; ram = refl; stop = refl }; here = λ d. refl }

-- each is as it was where it was so twice
pub stays_none : (frames : ℕ) (xs : List Seat) → EachStays frames xs xs
stays_none frames [] = tt
stays_none frames (x ∷ xs) = (record { step = refl; fills = refl; state = λ m is. inl refl }, stays_none frames xs)

forgets : (a b c : State) → MayForget a b → MayForget b c → MayForget a c
forgets a b c (inl x) (inl y) = inl (y ∙ x)
forgets a b c (inr x) (inl y) = inr (y ∙ x)
forgets a b c (inl x) (inr y) = inr (y ∙ ap (λ (s : State). with_set s empty) x)
forgets a b c (inr x) (inr y) = inr (y ∙ ap (λ (s : State). with_set s empty) x)

pub stays_then : (frames : ℕ) (xs ys zs : List Seat) → EachStays frames xs ys → EachStays frames ys zs → EachStays frames xs zs
stays_then frames [] [] [] a b = tt
stays_then frames [] [] (z ∷ zs) a b = absurd b
stays_then frames [] (y ∷ ys) zs a b = absurd a
stays_then frames (x ∷ xs) [] zs a b = absurd a
stays_then frames (x ∷ xs) (y ∷ ys) [] a b = absurd b
stays_then frames (x ∷ xs) (y ∷ ys) (z ∷ zs) a b = (
  record { step = b.0.step ∙ a.0.step; fills = b.0.fills ∙ a.0.fills; state = λ m is. forgets _ _ _ (a.0.state m is) (b.0.state m is) },
  stays_then frames xs ys zs a.1 b.1,
)

-- a kernel more has given up its frames
module _ (p p' : Pool) (host host' : List ℕ) (present n : ℕ) (ts now then_ : List Tenant) (d t' : Tenant) (lt : n < length now)
    (is : then_ ≡ set now n t') (h : HasReleased p p' host host' (get_or now n d) t') where
  pub then_here : (j : ℕ) → j ≡ n → get_or then_ j d ≡ t'
  then_here j e = ap (λ i. get_or then_ i d) e ∙ ap (λ l. get_or l n d) is ∙ get_or-set_same now n t' d lt

  pub then_other : (j : ℕ) → j ≢ n → get_or then_ j d ≡ get_or now j d
  then_other j o = ap (λ l. get_or l j d) is ∙ get_or-set_other now n j t' d o

  pub then_stops : map (λ (t : Tenant). t.stop) then_ ≡ map (λ (t : Tenant). t.stop) now
  then_stops = ap (map (λ (t : Tenant). t.stop)) is ∙ map_set (λ (t : Tenant). t.stop) now n t' d h.stop

  gives_up : (o : Tenant) → MayGiveUp o (get_or now n d) → MayGiveUp o t'
  gives_up o g = record {
    running =
        h.running ∙ ap (λ (r : Running Roots). record r { shadows = t'.guest.shadows; held = 2 }) g.running
        ∙ ap (λ (k : ℕ). record o.guest { shadows = t'.guest.shadows; held = k }) (sym (ap (λ (r : Running Roots). r.held) h.running));
    ram = h.ram ∙ g.ram;
    stop = h.stop ∙ g.stop;
  }

  pub then_each : HasMadeRoom present ts now → (j : ℕ) → MayGiveUp (get_or ts j d) (get_or then_ j d)
  then_each m j = elim (eqb_tells j n) [
    | inl e ↦ subst (λ (t : Tenant). MayGiveUp (get_or ts j d) t) (sym (then_here j e.1))
        (gives_up (get_or ts j d) (subst (λ i. MayGiveUp (get_or ts j d) (get_or now i d)) e.1 (m.each j d)))
    | inr o ↦ subst (λ (t : Tenant). MayGiveUp (get_or ts j d) t) (sym (then_other j o.1)) (m.each j d)
  ]

  pub then_held : (j : ℕ) → (j < n → (get_or now j d).guest.held ≤ 2) → j < n + 1 → (get_or then_ j d).guest.held ≤ 2
  then_held j done lt1 = elim (eqb_tells j n) [
    | inl e ↦ (let a = ap (λ (t : Tenant). t.guest.held) (then_here j e.1) in let b = ap (λ (r : Running Roots). r.held) h.running in
        omega (arith, a, b))
    | inr o ↦ (let a = ap (λ (t : Tenant). t.guest.held) (then_other j o.1) in let ne = o.1 in let b = done (omega (arith, lt1, ne)) in
        omega (arith, a, b))
  ]
