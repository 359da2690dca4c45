-- A kernel's shadows are dropped: the kernels stay apart.
use Rattle.std.proofs.Common.{◌≡◌, ◌≢◌, inl, inr, ℕ, zero, suc, ◌*◌, ◌≤◌, ◌<◌, ◌==◌, Bool, cond, List, [], ◌∷◌, ◌++◌, length, take, drop, map, set, get_or, Option, Some, is_none, refl, ap, sym, subst, ◌∙◌, arith}
use Rattle.std.specs.List.{All}
use Rattle.std.proofs.lemmas.Bool.Decides.{eqb_tells}
use Rattle.std.proofs.lemmas.List.{take-append-drop}
use Rattle.ia32_types.specs.declared.stop.Stop.{Stop}
use Rattle.frame_pool.specs.declared.Pool.{Pool}
use Rattle.frame_pool.specs.Held.{Owns}
use Rattle.shadow_cache.specs.Views as roots
use Rattle.shadow_cache.specs.declared.roots.Roots.{Roots}
use Rattle.wedge_step.proofs.Memories.{front_same}
use Rattle.wedge_step.specs.CarryLaws.{CarryLaws}
use Rattle.wedge_step.specs.declared.running.Running.{Running}
use Rattle.guest_sched.specs.Apart.{Seat, AreApart, behind_as, EachStays}
use Rattle.guest_sched.specs.Dropped.{AllDropped, released}
use Rattle.guest_sched.specs.Seating.{memory_with, seat_of, seats_from, HasReleased}
use Rattle.guest_sched.specs.declared.kernel.Kernel.{Kernel}
use Rattle.guest_sched.specs.declared.tenants.Tenant.{Tenant}
use Rattle.guest_sched.proofs.Fronts.{front_front}
use Rattle.guest_sched.specs.Known.{EachKnown, IsKnownSince}
use Rattle.guest_sched.specs.Since.{Since}
use Rattle.guest_sched.proofs.Knowing.{known_moves}
use Rattle.guest_sched.proofs.Released.{one_releases, release_knows, release_same}

seat_with : Kernel → Running Roots → List ℕ → Bool → Seat
seat_with k running m live = record { image = k.image; running = running; memory = m; live = live }

module _ (frames : ℕ) (host host' : List ℕ) (present : ℕ) (front : take (4096 * frames) host' ≡ take (4096 * frames) host) where
  -- the memory that stands at the front of the host's as it is then
  laid : (j : ℕ) (t : Tenant) → 4096 * frames ≤ length t.ram
      → take (4096 * frames) (cond (j == present) host (memory_with frames host t)) ++ drop (4096 * frames) host' ≡ cond (j == present)
      host' (memory_with frames host' t)
  laid j t room = elim (eqb_tells j present) [
    | inl e ↦
        ap (λ c. take (4096 * frames) (cond c host (memory_with frames host t)) ++ drop (4096 * frames) host') e.0
        ∙ ap (λ l. l ++ drop (4096 * frames) host') (sym front) ∙ take-append-drop (4096 * frames) host'
        ∙ sym (ap (λ c. cond c host' (memory_with frames host' t)) e.0)
    | inr o ↦
        ap (λ c. take (4096 * frames) (cond c host (memory_with frames host t)) ++ drop (4096 * frames) host') o.0
        ∙ ap (λ l. l ++ drop (4096 * frames) host') (front_front (4096 * frames) t.ram (drop (4096 * frames) host) room)
        ∙ sym (ap (λ c. cond c host' (memory_with frames host' t)) o.0)
  ]

  other : (j : ℕ) (k : Kernel) (t : Tenant) → 4096 * frames ≤ length t.ram → seat_of frames host' present j k t ≡ behind_as frames host'
      (seat_of frames host present j k t)
  unfolding seat_with
  other j k t room = ap (λ m. seat_with k t.guest m (is_none t.stop)) (sym (laid j t room))

  others : (i : ℕ) (ks : List Kernel) (ts : List Tenant) → All (λ (t : Tenant). 4096 * frames ≤ length t.ram) ts
      → seats_from frames host' present i ks ts ≡ map (behind_as frames host') (seats_from frames host present i ks ts)
  others i [] ts theirs = refl
  others i (k ∷ ks) [] theirs = refl
  others i (k ∷ ks) (t ∷ ts) theirs =
      ap (λ s. s ∷ seats_from frames host' present (suc i) ks ts) (other i k t (theirs 0 t (omega arith)))
      ∙ ap (λ l. behind_as frames host' (seat_of frames host present i k t) ∷ l)
      (others (suc i) ks ts (λ j e l. theirs (suc j) e (omega (arith, l))))

  -- the one whose shadows were dropped
  gone : (j : ℕ) (k : Kernel) (t t' : Tenant) → 4096 * frames ≤ length t.ram
      → t'.guest ≡ record t.guest { shadows = t'.guest.shadows; held = 2 } → t'.ram ≡ t.ram → t'.stop ≡ t.stop
      → seat_of frames host' present j k t' ≡ released frames host' (seat_of frames host present j k t) t'.guest.shadows
  unfolding seat_with
  gone j k t t' room running ram stop =
      ap (λ (r : Running Roots). seat_with k r (cond (j == present) host' (memory_with frames host' t')) (is_none t'.stop)) running
      ∙ ap (λ (l : List ℕ). seat_with k (record t.guest { shadows = t'.guest.shadows; held = 2 })
      (cond (j == present) host' (take (4096 * frames) l ++ drop (4096 * frames) host')) (is_none t'.stop)) ram
      ∙ ap (λ (s : Option Stop). seat_with k (record t.guest { shadows = t'.guest.shadows; held = 2 })
      (cond (j == present) host' (memory_with frames host' t)) (is_none s)) stop
      ∙ ap (λ (m : List ℕ). seat_with k (record t.guest { shadows = t'.guest.shadows; held = 2 }) m (is_none t.stop)) (sym (laid j t room))

  record Split (old new : Tenant) (n : ℕ) (seats seats' : List Seat) : Type 0 where
    pub before : List Seat
    pub after : List Seat
    pub s : Seat
    pub len : n ≡ length before
    pub is : seats ≡ before ++ s ∷ after
    pub is' : seats' ≡ map (behind_as frames host') before ++ released frames host' s new.guest.shadows ∷ map (behind_as frames host') after
    pub same : s.running ≡ old.guest

  split : (p p' : Pool) (i n : ℕ) (ks : List Kernel) (ts : List Tenant) (d t' : Tenant) → n < length ts → n < length ks
      → All (λ (t : Tenant). 4096 * frames ≤ length t.ram) ts
      → HasReleased p p' host host' (get_or ts n d) t' → Split (get_or ts n d) t' n (seats_from frames host present i ks ts)
      (seats_from frames host' present i ks (set ts n t'))
  split p p' i n [] ts d t' lt lk theirs h = absurd (omega (arith, lk))
  split p p' i n (k ∷ ks) [] d t' lt lk theirs h = absurd (omega (arith, lt))
  split p p' i zero (k ∷ ks) (t ∷ ts) d t' lt lk theirs h =
      record {
        before = [];
        after = seats_from frames host present (suc i) ks ts;
        s = seat_of frames host present i k t;
        len = refl;
        is = refl;
        is' =
            ap (λ s. s ∷ seats_from frames host' present (suc i) ks ts) (gone i k t t' (theirs 0 t (omega arith)) h.running h.ram h.stop)
            ∙ ap (λ l. released frames host' (seat_of frames host present i k t) t'.guest.shadows ∷ l)
            (others (suc i) ks ts (λ j e l. theirs (suc j) e (omega (arith, l))));
        same = refl;
      }
  split p p' i (suc n) (k ∷ ks) (t ∷ ts) d t' lt lk theirs h =
      let rest = split p p' (suc i) n ks ts d t' (omega (arith, lt)) (omega (arith, lk)) (λ j e l. theirs (suc j) e (omega (arith, l))) h in
      record {
        before = seat_of frames host present i k t ∷ rest.before;
        after = rest.after;
        s = rest.s;
        len = ap suc rest.len;
        is = ap (λ l. seat_of frames host present i k t ∷ l) rest.is;
        is' =
            ap (λ s. s ∷ seats_from frames host' present (suc i) ks (set ts n t')) (other i k t (theirs 0 t (omega arith)))
            ∙ ap (λ l. behind_as frames host' (seat_of frames host present i k t) ∷ l) rest.is';
        same = rest.same;
      }

-- the kernels stay apart
pub gone_apart : (frames : ℕ) (p p' : Pool) (host host' : List ℕ) (present n : ℕ) (ks : List Kernel) (ts : List Tenant) (d t' : Tenant)
    → n < length ts → length ks ≡ length ts
    → All (λ (t : Tenant). 4096 * frames ≤ length t.ram) ts → Owns p host (roots.frames (get_or ts n d).guest.shadows host)
    → HasReleased p p' host host' (get_or ts n d) t'
    → AreApart frames p host (seats_from frames host present 0 ks ts)
    → AreApart frames p' host' (seats_from frames host' present 0 ks (set ts n t'))
gone_apart frames p p' host host' present n ks ts d t' lt len theirs owns h apart =
    let old = (get_or ts n d).guest in
    let front = front_same frames p p' host host' (roots.frames old.shadows host) (roots.frames t'.guest.shadows host') apart.behind
    owns h.dropped.moves in
    let w = split frames host host' present front p p' 0 n ks ts d t' lt (omega (arith, lt, len)) theirs h in
    subst (λ (l : List Seat). AreApart frames p' host' l) (sym w.is')
    (one_releases frames p p' host host' w.before w.after w.s t'.guest.shadows
    (subst (λ (l : List Seat). AreApart frames p host l) w.is apart)
    (subst (λ (r : Running Roots). AllDropped p p' host host' r.shadows t'.guest.shadows r.fills) (sym w.same) h.dropped))

-- and each is as it was, but for its translations
pub gone_stays : (frames : ℕ) (p p' : Pool) (host host' : List ℕ) (present n : ℕ) (ks : List Kernel) (ts : List Tenant) (d t' : Tenant)
    → n < length ts → length ks ≡ length ts
    → All (λ (t : Tenant). 4096 * frames ≤ length t.ram) ts → Owns p host (roots.frames (get_or ts n d).guest.shadows host)
    → HasReleased p p' host host' (get_or ts n d) t'
    → AreApart frames p host (seats_from frames host present 0 ks ts) → EachStays frames (seats_from frames host present 0 ks ts)
    (seats_from frames host' present 0 ks (set ts n t'))
gone_stays frames p p' host host' present n ks ts d t' lt len theirs owns h apart =
    let old = (get_or ts n d).guest in
    let front = front_same frames p p' host host' (roots.frames old.shadows host) (roots.frames t'.guest.shadows host') apart.behind
    owns h.dropped.moves in
    let w = split frames host host' present front p p' 0 n ks ts d t' lt (omega (arith, lt, len)) theirs h in
    subst (λ (l : List Seat). EachStays frames (seats_from frames host present 0 ks ts) l) (sym w.is')
    (subst (λ (l : List Seat). EachStays frames l (map (behind_as frames host') w.before ++ released frames host' w.s t'.guest.shadows ∷ map
    (behind_as frames host') w.after)) (sym w.is)
    (release_same frames p p' host host' w.before w.after w.s t'.guest.shadows
    (subst (λ (l : List Seat). AreApart frames p host l) w.is apart)
    (subst (λ (r : Running Roots). AllDropped p p' host host' r.shadows t'.guest.shadows r.fills) (sym w.same) h.dropped)))

-- and what is known of their translations is known still, and of its own that there are none
pub gone_known : (laws : CarryLaws) (since since' : ℕ → Since) (frames : ℕ) (p p' : Pool) (host host' : List ℕ) (present n : ℕ)
    (ks : List Kernel) (ts : List Tenant) (d t' : Tenant) → n < length ts → length ks ≡ length ts
    → All (λ (t : Tenant). 4096 * frames ≤ length t.ram) ts → Owns p host (roots.frames (get_or ts n d).guest.shadows host)
    → HasReleased p p' host host' (get_or ts n d) t'
    → AreApart frames p host (seats_from frames host present 0 ks ts)
    → ((j : ℕ) → j ≢ n → since' j ≡ since j) → since' n ≡ Some []
    → EachKnown 0 frames since ks (seats_from frames host present 0 ks ts)
    → EachKnown 0 frames since' ks (seats_from frames host' present 0 ks (set ts n t'))
gone_known laws since since' frames p p' host host' present n [] ts d t' lt len theirs owns h apart same fresh known = tt
gone_known laws since since' frames p p' host host' present n (dk ∷ ks) ts d t' lt len theirs owns h apart same fresh known =
    let all = dk ∷ ks in
    let old = (get_or ts n d).guest in
    let front = front_same frames p p' host host' (roots.frames old.shadows host) (roots.frames t'.guest.shadows host') apart.behind
    owns h.dropped.moves in
    let w = split frames host host' present front p p' 0 n all ts d t' lt (omega (arith, lt, len)) theirs h in
    let r = release_knows frames p p' host host' w.before w.after w.s t'.guest.shadows
    (subst (λ (l : List Seat). AreApart frames p host l) w.is apart)
    (subst (λ (r : Running Roots). AllDropped p p' host host' r.shadows t'.guest.shadows r.fills) (sym w.same) h.dropped) in
    let at = w.len in
    subst (λ (l : List Seat). EachKnown 0 frames since' all l) (sym w.is')
    (known_moves laws frames since since' 0 n all w.before (map (behind_as frames host') w.before) w.after
    (map (behind_as frames host') w.after) w.s (released frames host' w.s t'.guest.shadows) dk (omega (arith, at)) r.0.0 r.0.1 same
    (λ k is there. subst (IsKnownSince frames k (released frames host' w.s t'.guest.shadows)) (sym fresh) (λ live. inl (refl, r.1)))
    (subst (λ (l : List Seat). EachKnown 0 frames since all l) w.is known))
