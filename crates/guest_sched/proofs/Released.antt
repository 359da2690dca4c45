-- A kernel that gave up its frames, but for two, while another stood in the host's memory.
use Rattle.std.proofs.Common.{◌≡◌, ℕ, ◌+◌, ◌*◌, ◌%◌, ◌^◌, ◌≤◌, ◌<◌, List, [], ◌∷◌, ◌++◌, None, inr, length, take, drop, refl, ap, sym, subst, ◌∙◌, arith}
use Rattle.std.specs.FinMap.{get, empty, get-empty}
use Rattle.std.specs.Ordering.{nat_cmp}
use Rattle.descriptors.specs.Controls.{wp_of}
use Rattle.frame_pool.specs.Pool.{base_of, free_list}
use Rattle.frame_pool.specs.declared.Pool.{Pool}
use Rattle.frame_pool.specs.Held.{Owns, SameIn}
use Rattle.frame_pool.proofs.Above.{frame-above, Owns-above, free_list-above}
use Rattle.machine_model.specs.Run.{Set}
use Rattle.machine_model.specs.State.{Setting}
use Rattle.shadow_tables.specs.OtherRoot.{OtherRoot, AreSame}
use Rattle.shadow_tables.specs.Entries.{entries_of}
use Rattle.shadow_tables.specs.Slots.{SameSlots}
use Rattle.shadow_tables.specs.Laws.{same-entries}
use Rattle.shadow_cache.specs.Views as roots
use Rattle.wedge_core.specs.OfRoots.{of_roots}
use Rattle.shadow_cache.specs.Standing as standing
use Rattle.shadow_cache.specs.declared.roots.Roots.{Roots}
use Rattle.wedge_step.specs.Pools.{Keeps}
use Rattle.wedge_step.specs.Ready.{AreReady}
use Rattle.wedge_step.specs.Standing.{ground}
use Rattle.native_steps.specs.Mirrors.{shown}
use Rattle.wedge_step.proofs.Bools.{none_some}
use Rattle.wedge_step.proofs.Memories.{host_same, shown_same, text_within}
use Rattle.wedge_step.proofs.Opening.{none_open}
use Rattle.wedge_step.proofs.Stays.{kept_same}
use Rattle.guest_sched.specs.Dropped.{AllDropped, released}
use Rattle.std.specs.Prelude.{map}
use Rattle.guest_sched.specs.Apart.{Seat, held_by, HoldsFrames, MayGoOn, IsSeated, AreApart, behind_as, StaysSo, EachStays}
use Rattle.guest_sched.specs.Known.{IsBare}
use Rattle.guest_sched.proofs.Apart.{OthersKnow, laid_length, laid_front, laid_behind, one_moves, seated_right, all_append, others_know, others_same}
use Rattle.guest_sched.proofs.Stays.{state_with}

none_same : (olds news : List OtherRoot) → AreSame olds news → olds ≡ [] → news ≡ []
none_same olds [] same none = refl
none_same [] (n ∷ news) same none = absurd same
none_same (o ∷ olds) (n ∷ news) same none = absurd (cc)

pub join_stays : (frames : ℕ) (xs ys us vs : List Seat) → EachStays frames xs ys → EachStays frames us vs
    → EachStays frames (xs ++ us) (ys ++ vs)
join_stays frames [] [] us vs a b = b
join_stays frames [] (y ∷ ys) us vs a b = absurd a
join_stays frames (x ∷ xs) [] us vs a b = absurd a
join_stays frames (x ∷ xs) (y ∷ ys) us vs a b = (a.0, join_stays frames xs ys us vs a.1 b)

module _ (frames : ℕ) (p p' : Pool) (host host' : List ℕ) (s : Seat) (new : Roots)
    (d : AllDropped p p' host host' s.running.shadows new s.running.fills) (h : IsSeated frames p s)
    (len : length s.memory ≡ length host) (goes : drop (4096 * frames) s.memory ≡ drop (4096 * frames) host) (behind : frames ≤ base_of p)
    (few : length (free_list p host) + length (held_by s) < 2 ^ 32)
  where
    then_memory : List ℕ
    then_memory = take (4096 * frames) s.memory ++ drop (4096 * frames) host'

    len' : length s.memory ≡ length host'
    len' = len ∙ sym d.moves.size

    size : length then_memory ≡ length s.memory
    unfolding then_memory
    size = laid_length (4096 * frames) s.memory host' len' h.holds.room

    front : take (4096 * frames) then_memory ≡ take (4096 * frames) s.memory
    unfolding then_memory
    front = laid_front (4096 * frames) s.memory host' len' h.holds.room

    goes' : drop (4096 * frames) then_memory ≡ drop (4096 * frames) host'
    unfolding then_memory
    goes' = laid_behind (4096 * frames) s.memory host' len' h.holds.room

    size' : length then_memory ≡ length host'
    size' = size ∙ len'

    base : base_of p' ≡ base_of p
    base = d.moves.same.0

    low : 4096 * frames ≤ 4096 * base_of p'
    low = omega (arith, behind, base)

    still : SameIn (roots.frames new host') host' then_memory
    still = record {
      size = size';
      frames = λ f k. frame-above host' then_memory (4096 * frames) f (let o = (d.owns.out f k).low in omega (arith, o, low)) goes';
    }

    frames_same : roots.frames new then_memory ≡ roots.frames new host'
    frames_same = standing.frames_in new host' then_memory d.stands still

    slots_same : SameSlots (roots.slots new host') (roots.slots new then_memory)
    slots_same = standing.slots_in new host' then_memory d.stands still

    other_roots_same : AreSame (roots.other_roots new host') (roots.other_roots new then_memory)
    other_roots_same = standing.other_roots_in new host' then_memory d.stands still

    no_others : roots.other_roots new then_memory ≡ []
    no_others = none_same (roots.other_roots new host') (roots.other_roots new then_memory) other_roots_same d.other_roots

    no_slots : (page : ℕ) → page < 2 ^ 20 → roots.slots new then_memory page ≡ None
    no_slots page lt = slots_same page lt ∙ d.none page lt

    set_same : entries_of (roots.slots new then_memory) ≡ entries_of (roots.slots new host')
    set_same = same-entries (roots.slots new host') (roots.slots new then_memory) slots_same

    stand : ∥ roots.stands new then_memory ∥₁
    stand = standing.stays_in new host' then_memory d.stands still

    owns : Owns p' then_memory (roots.frames new then_memory)
    owns = subst (λ (fs : List ℕ). Owns p' then_memory fs) (sym frames_same)
        (Owns-above p' host' then_memory (4096 * frames) low goes' size' (roots.frames new host') d.owns)

    -- what it held over its own memory it held over the host's
    held_there : roots.frames s.running.shadows host ≡ held_by s
    held_there =
        standing.frames_in s.running.shadows s.memory host h.holds.stand
        (record {
          size = sym len;
          frames = λ f k. frame-above s.memory host (4096 * frames) f (let o = (h.holds.owns.out f k).low in
              omega (arith, o, behind)) (sym goes);
        })

    pub released_keeps : Keeps p p' host host' (held_by s) (held_by (released frames host' s new))
    unfolding then_memory
    released_keeps =
        subst (λ (fs : List ℕ). Keeps p p' host host' fs (roots.frames new then_memory)) held_there
        (subst (λ (fs : List ℕ). Keeps p p' host host' (roots.frames s.running.shadows host) fs) (sym frames_same)
        (record {
          same = d.moves.same;
          size = d.moves.size;
          together = d.moves.together;
          lengths = d.moves.lengths;
          others = λ f b a k. d.moves.others f a k;
          out = d.moves.out;
        }))

    released_holds : HoldsFrames frames p' (released frames host' s new)
    unfolding then_memory
    released_holds = record {
      frames_are = h.holds.frames_are;
      room = (let room = h.holds.room in omega (arith, room, size));
      stand = stand;
      owns = owns;
      counted = sym (ap length frames_same ∙ d.two);
    }

    released_goes : MayGoOn frames p s → MayGoOn frames p' (released frames host' s new)
    unfolding then_memory
    released_goes g =
        let room = g.held.wedge.room in
        let within = text_within s.image in
        let m = ground s.image frames in
        let lengths = d.moves.lengths in
        let there = ap length held_there in
        let same = ap length frames_same in
        let free = ap length (free_list-above p' host' then_memory (4096 * frames) low goes' size' d.owns.stands) in
        let pages = kept_same of_roots new host' then_memory set_same other_roots_same in
        let filled = d.filled in
        record {
          held = record {
            wedge = g.held.wedge;
            frames_are = g.held.frames_are;
            size = g.held.size;
            host = host_same m s.memory then_memory (omega (arith, room, within)) size front g.held.host;
            whole = ap (λ (k : ℕ). k % 4096) size ∙ g.held.whole;
            behind = omega (arith, behind, base);
            stand = stand;
            owns = owns;
            counted = sym (ap length frames_same ∙ d.two);
            few = omega (arith, few, lengths, there, same, free);
            fills = g.held.fills;
            within =
                λ page x is. absurd (none_some x
                (sym (get-empty nat_cmp page) ∙ (ap (λ (set : Set). get set page) (sym (set_same ∙ d.entries)) ∙ is)));
            open_to = none_open s.image (wp_of s.running.cpu) _ no_slots;
          };
          ready = record {
            cr3_is = d.same_cr3 ∙ g.ready.cr3_is;
            present = λ unmarked page lt out slot is. absurd (none_some slot (sym (no_slots page lt) ∙ is));
            others = subst (λ (l : List OtherRoot). AreReady m s.running.cpu (shown m then_memory) l) (sym no_others) tt;
          };
          able = g.able;
          filled = omega (arith, pages, filled);
        }

    pub released_same : StaysSo frames s (released frames host' s new)
    unfolding then_memory
    released_same = record {
      step = refl;
      fills = refl;
      state =
          λ m is. inr (state_by m
          (shown_same m s.memory then_memory (subst (λ (n : ℕ). take (4096 * n) then_memory ≡ take (4096 * n) s.memory) (sym is) front))
          (set_same ∙ d.entries));
    }
      where
        state_by : (m : Setting) {ram ram' : List ℕ} {set' : Set} → ram' ≡ ram → set' ≡ empty
            → state_with s.running ram' set' ≡ state_with s.running ram empty
        state_by m {ram} {ram'} {set'} a b =
            ap (λ (l : List ℕ). state_with s.running l set') a ∙ ap (λ (x : Set). state_with s.running ram x) b

    -- it keeps nothing
    pub released_bare : IsBare (released frames host' s new)
    unfolding then_memory
    released_bare = (set_same ∙ d.entries, refl)

    pub released_length : length (released frames host' s new).memory ≡ length host'
    unfolding then_memory
    released_length = size'

    pub released_behind : drop (4096 * frames) (released frames host' s new).memory ≡ drop (4096 * frames) host'
    unfolding then_memory
    released_behind = goes'

    pub released_seated : IsSeated frames p' (released frames host' s new)
    unfolding then_memory
    released_seated = record { holds = released_holds; goes_on = λ live. released_goes (h.goes_on live) }

-- all kernels are as they were, but for its translations
pub release_same : (frames : ℕ) (p p' : Pool) (host host' : List ℕ) (before after : List Seat) (s : Seat) (new : Roots)
    → AreApart frames p host (before ++ s ∷ after)
    → AllDropped p p' host host' s.running.shadows new s.running.fills
    → EachStays frames (before ++ s ∷ after)
    (map (behind_as frames host') before ++ released frames host' s new ∷ map (behind_as frames host') after)
release_same frames p p' host host' before after s new h d =
    let here = seated_right frames p host before (s ∷ after) h.seated in
    let sums = all_append before (s ∷ after) in
    let all = h.all in
    let small = h.few in
    let few : length (free_list p host) + length (held_by s) < 2 ^ 32 = omega (arith, sums, all, small) in
    let o = others_same frames p p' host host' before after s (released frames host' s new) h
    (released_keeps frames p p' host host' s new d here.0 here.1 here.2 h.behind few) d.owns.stands in
    join_stays frames before (map (behind_as frames host') before) (s ∷ after)
    (released frames host' s new ∷ map (behind_as frames host') after) o.0
    (released_same frames p p' host host' s new d here.0 here.1 here.2 h.behind few, o.1)

-- and what is known of their translations is known still, and of its own that there are none
pub release_knows : (frames : ℕ) (p p' : Pool) (host host' : List ℕ) (before after : List Seat) (s : Seat) (new : Roots)
    → AreApart frames p host (before ++ s ∷ after)
    → AllDropped p p' host host' s.running.shadows new s.running.fills
    → OthersKnow frames host' before after × IsBare (released frames host' s new)
release_knows frames p p' host host' before after s new h d =
    let here = seated_right frames p host before (s ∷ after) h.seated in
    let sums = all_append before (s ∷ after) in
    let all = h.all in
    let small = h.few in
    let few : length (free_list p host) + length (held_by s) < 2 ^ 32 = omega (arith, sums, all, small) in (
      others_know frames p p' host host' before after s (released frames host' s new) h
          (released_keeps frames p p' host host' s new d here.0 here.1 here.2 h.behind few) d.owns.stands,
      released_bare frames p p' host host' s new d here.0 here.1 here.2 h.behind few,
    )

-- the others stay as they are
pub one_releases : (frames : ℕ) (p p' : Pool) (host host' : List ℕ) (before after : List Seat) (s : Seat) (new : Roots)
    → AreApart frames p host (before ++ s ∷ after)
    → AllDropped p p' host host' s.running.shadows new s.running.fills
    → AreApart frames p' host' (map (behind_as frames host') before ++ released frames host' s new ∷ map (behind_as frames host') after)
one_releases frames p p' host host' before after s new h d =
    let here = seated_right frames p host before (s ∷ after) h.seated in
    let sums = all_append before (s ∷ after) in
    let all = h.all in
    let small = h.few in
    let few : length (free_list p host) + length (held_by s) < 2 ^ 32 = omega (arith, sums, all, small) in
    one_moves frames p p' host host' before after s (released frames host' s new) h
    (released_keeps frames p p' host host' s new d here.0 here.1 here.2 h.behind few) d.owns.stands
    (released_seated frames p p' host host' s new d here.0 here.1 here.2 h.behind few)
    (released_length frames p p' host host' s new d here.0 here.1 here.2 h.behind few)
    (released_behind frames p p' host host' s new d here.0 here.1 here.2 h.behind few)
