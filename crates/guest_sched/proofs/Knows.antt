-- What is known of the translations of several kernels: at first, of the one whose turn it is, and where some gave way.
use Rattle.std.proofs.Common.{◌≡◌, inl, inr, ℕ, zero, suc, ◌+◌, ◌*◌, ◌≤◌, ◌<◌, List, [], ◌∷◌, ◌++◌, length, length-append, set, get_or, refl, ap, subst, sym, ◌∙◌, arith}
use Rattle.std.specs.List.{All}
use Rattle.std.proofs.lemmas.Bool.Decides.{eqb_tells}
use Rattle.std.proofs.lemmas.List.{length-set}
use Rattle.frame_pool.specs.declared.Pool.{Pool}
use Rattle.machine_model.specs.State.{State}
use Rattle.shadow_tables.specs.Laws.Openings.{held-count}
use Rattle.shadow_tables.specs.Slots.{held}
use Rattle.shadow_cache.specs.Laws.{frames-cons}
use Rattle.shadow_cache.specs.Pairs.{frames_of}
use Rattle.wedge_step.specs.CarryLaws.{CarryLaws}
use Rattle.guest_sched.specs.Admitting.{EachAtStart}
use Rattle.guest_sched.specs.Apart.{Seat, held_by, AreApart, AreSeated, all_held}
use Rattle.guest_sched.specs.Known.{AreKnown, EachKnown, IsKnownSince}
use Rattle.guest_sched.specs.Releases.{FirstGiveWay}
use Rattle.guest_sched.specs.Seating.{seat_of, seats_from}
use Rattle.guest_sched.specs.Since.{Since, none_since, released_since}
use Rattle.guest_sched.specs.Stages.{Stage}
use Rattle.guest_sched.specs.declared.kernel.Kernel.{Kernel}
use Rattle.guest_sched.specs.declared.tenants.Tenant.{Tenant}
use Rattle.guest_sched.proofs.Brought.{any_of, left_rooms}
use Rattle.guest_sched.proofs.Going.{seat_is_here}
use Rattle.guest_sched.proofs.Gone.{gone_apart, gone_known}
use Rattle.guest_sched.proofs.Knowing.{known_same, released_here, released_none, released_other, released_present}
use Rattle.guest_sched.proofs.Rooms.{is_at, over_host}
use Rattle.guest_sched.proofs.Turned.{seat_here}

-- of the kernel at this place

known_at : (frames : ℕ) (host : List ℕ) (present : ℕ) (since : ℕ → Since) (i n : ℕ) (ks : List Kernel) (ts : List Tenant) (dk : Kernel)
    (d : Tenant) → n < length ts → n < length ks → EachKnown i frames since ks (seats_from frames host present i ks ts)
    → IsKnownSince frames (get_or ks n dk) (seat_of frames host present (i + n) (get_or ks n dk) (get_or ts n d)) (since (i + n))
known_at frames host present since i n [] ts dk d lt lk h = absurd (omega (arith, lk))
known_at frames host present since i n (k ∷ ks) [] dk d lt lk h = absurd (omega (arith, lt))
known_at frames host present since i zero (k ∷ ks) (t ∷ ts) dk d lt lk h =
    subst (λ (x : ℕ). IsKnownSince frames k (seat_of frames host present x k t) (since x)) (omega arith) h.0
known_at frames host present since i (suc n) (k ∷ ks) (t ∷ ts) dk d lt lk h =
    subst (λ (x : ℕ). IsKnownSince frames (get_or ks n dk) (seat_of frames host present x (get_or ks n dk) (get_or ts n d)) (since x))
    (omega arith) (known_at frames host present since (suc i) n ks ts dk d (omega (arith, lt)) (omega (arith, lk)) h.1)

pub known_here : (frames : ℕ) (host : List ℕ) (present : ℕ) (since : ℕ → Since) (ks : List Kernel) (ts : List Tenant) (dk : Kernel)
    (d : Tenant) → present < length ts → present < length ks → EachKnown 0 frames since ks (seats_from frames host present 0 ks ts)
    → IsKnownSince frames (get_or ks present dk) (seat_here (get_or ks present dk) host (get_or ts present d)) (since present)
known_here frames host present since ks ts dk d lt lk h =
    let k = get_or ks present dk in
    let t = get_or ts present d in
    let zero_is : 0 + present ≡ present = omega arith in
    subst (λ (x : ℕ). IsKnownSince frames k (seat_here k host t) (since x)) zero_is
    (subst (λ (s : Seat). IsKnownSince frames k s (since (0 + present))) (seat_is_here frames host present (0 + present) k t zero_is)
    (known_at frames host present since 0 present ks ts dk d lt lk h))

-- at first: each holds two frames, the roots of its present views

two_held : (s : Seat) → 2 ≤ length (held_by s)
two_held s =
    let here = ap (λ (l : List ℕ). length l) (frames-cons s.running.shadows.present s.running.shadows.others s.memory)
    ∙ length-append (held s.running.shadows.present.shadow s.memory) (frames_of s.running.shadows.others s.memory) in
    let two = held-count s.running.shadows.present.shadow s.memory in
    omega (arith, here, two)

all_two : (frames : ℕ) (host : List ℕ) (present i : ℕ) (ks : List Kernel) (ts : List Tenant) → length ts ≡ length ks
    → 2 * length ts ≤ all_held (seats_from frames host present i ks ts)
all_two frames host present i [] [] len = omega arith
all_two frames host present i [] (t ∷ ts) len = absurd (omega (arith, len))
all_two frames host present i (k ∷ ks) [] len = absurd (omega (arith, len))
all_two frames host present i (k ∷ ks) (t ∷ ts) len =
    let here = two_held (seat_of frames host present i k t) in
    let rest = all_two frames host present (suc i) ks ts (omega (arith, len)) in
    omega (arith, here, rest)

pub known_first : (frames : ℕ) (p : Pool) (host : List ℕ) (present i : ℕ) (ks : List Kernel) (ts : List Tenant) → length ts ≡ length ks
    → AreSeated frames p host (seats_from frames host present i ks ts)
    → EachAtStart frames ks (seats_from frames host present i ks ts)
    → all_held (seats_from frames host present i ks ts) ≤ 2 * length ts
    → EachKnown i frames none_since ks (seats_from frames host present i ks ts)
known_first frames p host present i [] [] len seated start all = tt
known_first frames p host present i [] (t ∷ ts) len seated start all = tt
known_first frames p host present i (k ∷ ks) [] len seated start all = tt
known_first frames p host present i (k ∷ ks) (t ∷ ts) len seated start all =
    let here = two_held (seat_of frames host present i k t) in
    let rest = all_two frames host present (suc i) ks ts (omega (arith, len)) in
    let counted = seated.0.holds.counted in (
      λ live. inl (refl, (ap (λ (b : State). b.set) start.0.state, omega (arith, here, rest, counted, all))),
      known_first frames p host present (suc i) ks ts (omega (arith, len)) seated.3 start.1 (omega (arith, here, rest, all)),
    )

-- where some gave way

pub record Roomed (kernels : List Kernel) (frames : ℕ) (since : ℕ → Since) (n : ℕ) (old new : Stage) : Type 0 where
  pub len : length new.tenants ≡ length old.tenants
  pub theirs : All (λ (t : Tenant). 4096 * frames ≤ length t.ram) new.tenants
  pub present : new.present ≡ old.present
  pub apart : AreApart frames new.pool new.memory (seats_from frames new.memory new.present 0 kernels new.tenants)
  pub known : AreKnown kernels frames (released_since n old.present since) new

module _ (laws : CarryLaws) (kernels : List Kernel) (frames : ℕ) (since : ℕ → Since) where
  pub room_known : (n : ℕ) (old new : Stage) → FirstGiveWay n old new → n ≤ length old.tenants → length kernels ≡ length old.tenants
      → All (λ (t : Tenant). 4096 * frames ≤ length t.ram) old.tenants
      → AreApart frames old.pool old.memory (seats_from frames old.memory old.present 0 kernels old.tenants)
      → AreKnown kernels frames since old → Roomed kernels frames since n old new
  room_known zero old new is le len theirs apart known =
      subst (λ (s : Stage). Roomed kernels frames since 0 old s) (sym is)
      (record {
        len = refl;
        theirs = theirs;
        present = refl;
        apart = apart;
        known = known_same frames since (released_since 0 old.present since) (released_none old.present since) 0 kernels
            (seats_from frames old.memory old.present 0 kernels old.tenants) known;
      })
  room_known (suc n) old new h le len theirs apart known =
      let r = room_known n old h.0 h.1 (omega (arith, le)) len theirs apart known in
      let b = h.0 in
      let g = h.2 in
      let many = r.len in
      let lt : n < length b.tenants = omega (arith, le, many) in
      let same = r.present in
      elim (eqb_tells n b.present) [
        | inl e ↦
            subst (λ (s : Stage). Roomed kernels frames since (suc n) old s) (sym (g.here e.1))
            (record {
              len = r.len;
              theirs = r.theirs;
              present = r.present;
              apart = r.apart;
              known =
                  known_same frames (released_since n old.present since) (released_since (suc n) old.present since)
                  (λ j. released_present old.present since n j (e.1 ∙ same)) 0 kernels
                  (seats_from frames b.memory b.present 0 kernels b.tenants) r.known;
            })
        | inr o ↦
            let d = any_of b.tenants n lt in
            let x = g.parked o.1 d in
            let here = over_host frames b.pool b.memory (get_or b.tenants n d) _ r.apart.behind
            (is_at frames b.pool b.memory b.present 0 n kernels b.tenants d lt (len ∙ sym many) r.apart.seated) in
            let room = ap (λ (l : List ℕ). length l) x.2.ram in
            let mine = r.theirs n d lt in
            let set_same = x.1 in
            let there = g.present in
            record {
              len = ap (λ (l : List Tenant). length l) set_same ∙ length-set b.tenants n x.0 ∙ many;
              theirs = left_rooms frames n b.tenants new.tenants x.0 lt set_same (omega (arith, room, mine)) r.theirs;
              present = there ∙ same;
              apart =
                  subst (λ (l : List Tenant). AreApart frames new.pool new.memory (seats_from frames new.memory new.present 0 kernels l))
                  (sym set_same)
                  (subst (λ (q : ℕ). AreApart frames new.pool new.memory (seats_from frames new.memory q 0 kernels
                  (set b.tenants n x.0))) (sym there)
                  (gone_apart frames b.pool new.pool b.memory new.memory b.present n kernels b.tenants d x.0 lt (len ∙ sym many) r.theirs
                  here.1 x.2 r.apart));
              known =
                  subst (λ (l : List Tenant). EachKnown 0 frames (released_since (suc n) old.present since) kernels
                  (seats_from frames new.memory new.present 0 kernels l)) (sym set_same)
                  (subst (λ (q : ℕ). EachKnown 0 frames (released_since (suc n) old.present since) kernels
                  (seats_from frames new.memory q 0 kernels (set b.tenants n x.0))) (sym there)
                  (gone_known laws (released_since n old.present since) (released_since (suc n) old.present since) frames b.pool new.pool
                  b.memory new.memory b.present n kernels b.tenants d x.0 lt (len ∙ sym many) r.theirs here.1 x.2 r.apart
                  (λ j other. released_other old.present since n j other)
                  (released_here old.present since n (λ e. o.1 (e ∙ sym same))) r.known));
            }
      ]
