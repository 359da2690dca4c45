-- The kernel whose turn it is has come into the host's memory, and there are frames enough.
use Rattle.std.proofs.Common.{◌≡◌, ℕ, ◌+◌, ◌*◌, ◌^◌, ◌≤◌, ◌<◌, Bool, true, false, List, [], ◌∷◌, ◌++◌, length, set, get_or, Option, Some, None, is_some, is_none, refl, ap, sym, subst, ◌∙◌, arith, length-append, Result, Ok, Err}
use Rattle.std.specs.Prelude.{OnOk, OnErr}
use Rattle.std.specs.List.{All}
use Rattle.std.proofs.lemmas.List.{get_or-map}
use Rattle.ia32_types.specs.declared.stop.Stop.{Stop}
use Rattle.frame_pool.specs.Pool.{count_of}
use Rattle.frame_pool.specs.declared.Pool.{Pool}
use Rattle.wedge_core.specs.Slices.{Counts}
use Rattle.wedge_step.specs.CarryLaws.{CarryLaws}
use Rattle.guest_sched.specs.Apart.{MayGoOn, AreApart, EachStays}
use Rattle.guest_sched.specs.Between.{IsNext, stops_of}
use Rattle.guest_sched.specs.Known.{AreKnown, EachKnown}
use Rattle.guest_sched.specs.Pieces.{Piece}
use Rattle.guest_sched.specs.Releases.{IsRoomMade}
use Rattle.guest_sched.specs.Rounds.{BeginsTurn, ComesIn, HasBegunRound, MakesTurn}
use Rattle.guest_sched.specs.Seating.{seats_from, HasBrought, HasMadeRoom, GoesOn, HasGoneOn}
use Rattle.guest_sched.specs.SharedRuns.{FailsInTurn}
use Rattle.guest_sched.specs.Since.{Since, released_since}
use Rattle.guest_sched.specs.Stages.{stage}
use Rattle.guest_sched.specs.Went.{HasFailed}
use Rattle.guest_sched.specs.declared.kernel.Kernel.{Kernel}
use Rattle.guest_sched.specs.declared.schedule.Slice.{Slice}
use Rattle.guest_sched.specs.declared.tenants.Tenant.{Tenant}
use Rattle.guest_sched.specs.declared.tenants.Tenants.{Tenants}
use Rattle.guest_sched.proofs.Wide.{HasTurned, IsBetween}
use Rattle.guest_sched.proofs.Between.{next_slice, brought_between, roomed_between}
use Rattle.guest_sched.proofs.Furthered.{frames_are, may_go, within, went_between, failed_between}
use Rattle.guest_sched.proofs.Knows.{room_known}

abbrev pub counts_of : ℕ → ℕ → Counts
counts_of retired passed = record { retired = retired; passed = passed }

-- the same over other names of what is the same
between_as : (kernels : List Kernel) (whole done : List Slice) (pieces : List Piece) (ts : List Tenant) (host : List ℕ)
    (before now now' : Counts) (old new : Option (List ℕ)) (frames frames' present present' : ℕ) (pool pool' : Pool)
    → frames' ≡ frames → pool' ≡ pool → present' ≡ present → now' ≡ now → IsBetween kernels frames whole done pieces ts pool present host
    before now old new → IsBetween kernels frames' whole done pieces ts pool' present' host before now' old new
between_as kernels whole done pieces ts host before now now' old new frames frames' present present' pool pool' f p q c b =
    subst (λ (x : Counts). IsBetween kernels frames' whole done pieces ts pool' present' host before x old new) (sym c)
    (subst (λ (x : ℕ). IsBetween kernels frames' whole done pieces ts pool' x host before now old new) (sym q)
    (subst (λ (x : Pool). IsBetween kernels frames' whole done pieces ts x present host before now old new) (sym p)
    (subst (λ (x : ℕ). IsBetween kernels x whole done pieces ts pool present host before now old new) (sym f) b)))

module _ (kernels : List Kernel) (whole done : List Slice) (pieces : List Piece) (before now now1 now2 : Counts) (old new : Option (List ℕ))
    (n : ℕ) (s0 s1 s2 : Tenants) (host0 host1 host2 : List ℕ)
    (brought : HasBrought s0.frames host0 host1 s0.present n s0.list.items s1.list.items)
    (rest1 : (s1.pool ≡ s0.pool) × (s1.frames ≡ s0.frames) × (s1.present ≡ n)) (known : n < length s0.list.items) (same1 : now1 ≡ now)
    (b : IsBetween kernels s0.frames whole done pieces s0.list.items s0.pool s0.present host0 before now old new)
  where
    pub brought_at : IsBetween kernels s1.frames whole done pieces s1.list.items s1.pool s1.present host1 before now1 old new
    brought_at =
        between_as kernels whole done pieces s1.list.items host1 before now now1 old new s0.frames s1.frames n s1.present s0.pool s1.pool
        rest1.1 rest1.0 rest1.2 same1
        (brought_between kernels s0.frames whole done pieces s0.list.items s1.list.items s0.pool s0.present n host0 host1 before now old
        new brought known b)

    module _ (made : HasMadeRoom s1.present s1.list.items s2.list.items)
        (theirs : All (λ (t : Tenant). 4096 * s1.frames ≤ length t.ram) s2.list.items)
        (size : (count_of s2.pool ≡ 512) × (length host2 ≡ length host1))
        (apart : (ks : List Kernel) → length ks ≡ length s1.list.items → AreApart s1.frames s1.pool host1
        (seats_from s1.frames host1 s1.present 0 ks s1.list.items)
        → AreApart s1.frames s2.pool host2 (seats_from s1.frames host2 s1.present 0 ks s2.list.items))
        (stay : (ks : List Kernel) → length ks ≡ length s1.list.items → AreApart s1.frames s1.pool host1
        (seats_from s1.frames host1 s1.present 0 ks s1.list.items)
        → EachStays s1.frames (seats_from s1.frames host1 s1.present 0 ks s1.list.items)
        (seats_from s1.frames host2 s1.present 0 ks s2.list.items))
        (rest2 : (s2.frames ≡ s1.frames) × (s2.present ≡ s1.present)) (same2 : now2 ≡ now1)
      where
        pub ready_at : IsBetween kernels s0.frames whole done pieces s2.list.items s2.pool n host2 before now2 old new
        ready_at =
            let b1 = brought_at in
            let len = sym b1.rooms.len in
            between_as kernels whole done pieces s2.list.items host2 before now1 now2 old new s1.frames s0.frames s1.present n s2.pool
            s2.pool (sym rest1.1) refl (sym rest1.2) same2
            (roomed_between kernels s1.frames whole done pieces s1.list.items s2.list.items s1.pool s2.pool s1.present host1 host2 before
            now1 old new made theirs size.0 size.1 (apart kernels len) (stay kernels len) b1)

        pub present_is : s2.present ≡ n
        present_is = rest2.1 ∙ rest1.2

        -- what is known of translations, where that kernel stands in the host's memory and others gave way
        pub known_at : (laws : CarryLaws) (room : IsRoomMade (stage s1 host1) (stage s2 host2)) (since : ℕ → Since)
            → AreKnown kernels s0.frames since (stage s0 host0)
            → AreKnown kernels s0.frames (released_since room.count n since)
            (record { tenants = s2.list.items; pool = s2.pool; present = n; memory = host2 })
        known_at laws room since known =
            let b1 = brought_at in
            let f = s0.frames in
            let brought_known : AreKnown kernels f since (stage s1 host1) =
            subst (λ (q : ℕ). EachKnown 0 f since kernels (seats_from f host1 q 0 kernels s1.list.items)) (sym rest1.2)
            (subst (EachKnown 0 f since kernels) (sym (brought.seats kernels)) known) in
            let r = room_known laws kernels f since room.count (stage s1 host1) (stage s2 host2) room.first room.within
            (sym b1.rooms.len) brought.rooms
            (subst (λ (x : ℕ). AreApart x s1.pool host1 (seats_from x host1 s1.present 0 kernels s1.list.items)) rest1.1 b1.apart)
            brought_known in
            subst (λ (q : ℕ). EachKnown 0 f (released_since room.count q since) kernels (seats_from f host2 n 0 kernels s2.list.items))
            rest1.2
            (subst (λ (q : ℕ). EachKnown 0 f (released_since room.count s1.present since) kernels
            (seats_from f host2 q 0 kernels s2.list.items)) present_is r.known)

        -- which stop a kernel has met
        pub stop_same : (d : Tenant) → (get_or s2.list.items n d).stop ≡ (get_or s0.list.items n d).stop
        stop_same d =
            let b2 = ready_at in
            let stops : stops_of s2.list.items ≡ stops_of s0.list.items = made.stops ∙ brought.stops in
            sym (get_or-map (λ (t : Tenant). t.stop) s2.list.items n d None b2.rooms.there)
            ∙ ap (λ (l : List (Option Stop)). get_or l n None) stops ∙ get_or-map (λ (t : Tenant). t.stop) s0.list.items n d None known

pub counts_same : (a b x y : ℕ) → a ≡ b → x ≡ y → counts_of a x ≡ counts_of b y
counts_same a b x y e f = ap (λ (k : ℕ). counts_of k x) e ∙ ap (λ (k : ℕ). counts_of b k) f

pub live_of : (o : Option Stop) (b : Bool) → b ≡ is_some o → b ≡ false → o ≡ None
live_of None b e f = refl
live_of (Some stop) b e f = absurd (cc)

pub met_of : (o : Option Stop) (b : Bool) → b ≡ is_some o → b ≡ true → (stop : Stop) × (o ≡ Some stop)
met_of None b e f = absurd (cc)
met_of (Some stop) b e f = (stop, refl)

-- the kernel whose turn it is comes in
pub comes_in : (slice : Slice) (s0 s1 s2 : Tenants) (host0 host1 host2 : List ℕ)
    → ((e : Tenant) → (get_or s0.list.items slice.kernel e).stop ≡ None)
    → HasBrought s0.frames host0 host1 s0.present slice.kernel s0.list.items s1.list.items → s1.pool ≡ s0.pool → s1.present ≡ slice.kernel
    → s2.present ≡ slice.kernel → (room : IsRoomMade (stage s1 host1) (stage s2 host2))
    → (comes : ComesIn s0.frames slice (stage s0 host0)
    (record { tenants = s2.list.items; pool = s2.pool; present = slice.kernel; memory = host2 })) × (comes.room.count ≡ room.count)
comes_in slice s0 s1 s2 host0 host1 host2 live brought pool present there room =
    let made = subst (λ (n : ℕ). (made : IsRoomMade (stage s1 host1)
    (record { tenants = s2.list.items; pool = s2.pool; present = n; memory = host2 })) × (made.count ≡ room.count)) there (room, refl) in (
      record {
        live = live;
        brought = stage s1 host1;
        bring = subst (λ (n : ℕ). HasBrought s0.frames host0 host1 s0.present n s0.list.items s1.list.items) (sym present) brought;
        same_pool = pool;
        present = present;
        room = made.0;
      },
      made.1,
    )

-- a kernel between turns, in the host's memory, whose turn comes next
module _ (kernels : List Kernel) (frames : ℕ) (whole done : List Slice) (pieces : List Piece) (ts : List Tenant) (pool : Pool)
    (host : List ℕ) (before now : Counts) (old new : Option (List ℕ)) (slice : Slice)
    (b : IsBetween kernels frames whole done pieces ts pool slice.kernel host before now old new)
    (next : IsNext (length kernels) whole done slice)
    (k : Kernel) (t : Tenant) (k_is : k ≡ get_or kernels slice.kernel k) (t_is : t ≡ get_or ts slice.kernel t) (live : t.stop ≡ None)
  where
    live_at : (get_or ts slice.kernel t).stop ≡ None
    live_at = ap (λ (x : Tenant). x.stop) (sym t_is) ∙ live

    pub goes_on_at : GoesOn k pool host t
    goes_on_at =
        subst (λ (x : Kernel). GoesOn x pool host t) (sym k_is)
        (subst (λ (x : Tenant). GoesOn (get_or kernels slice.kernel k) pool host x) (sym t_is)
        (subst (λ (f : ℕ). MayGoOn f pool
        (record { image = (get_or kernels slice.kernel k).image; running = (get_or ts slice.kernel t).guest; memory = host; live = true }))
        (sym (frames_are kernels frames whole done pieces ts pool slice.kernel host before now old new b slice next refl k t live_at))
        (subst (λ (l : Bool). MayGoOn frames pool
        (record { image = (get_or kernels slice.kernel k).image; running = (get_or ts slice.kernel t).guest; memory = host; live = l }))
        (ap is_none live_at)
        (may_go kernels frames whole done pieces ts pool slice.kernel host before now old new b slice next refl k t live_at))))

    pub bound_at : t.guest.step + slice.steps ≤ 2 ^ 40
    bound_at =
        let w = within kernels frames whole done pieces ts pool slice.kernel host before now old new b slice next refl k t live_at in
        let same = ap (λ (x : Tenant). x.guest.step) t_is in
        let most = next.schedule.sums slice.kernel in
        omega (arith, w, same, most)

    pub went_at : (t' : Tenant) (pool' : Pool) (host' : List ℕ) (now' : Counts) (new' : Option (List ℕ))
        → HasTurned k slice.kernel slice.steps pool host host' t t' now now' new new' → HasGoneOn k pool pool' host host' t t'
        → (p : Piece) × IsBetween kernels frames whole (done ++ slice ∷ []) (pieces ++ p ∷ []) (set ts slice.kernel t') pool' slice.kernel
        host' before now' old new'
        × (CarryLaws → (since : ℕ → Since)
        → AreKnown kernels frames since (record { tenants = ts; pool = pool; present = slice.kernel; memory = host })
        → (then_ : ℕ → Since)
        × MakesTurn kernels frames slice p (record { tenants = ts; pool = pool; present = slice.kernel; memory = host })
        (record { tenants = set ts slice.kernel t'; pool = pool'; present = slice.kernel; memory = host' }) since then_
        × AreKnown kernels frames then_
        (record { tenants = set ts slice.kernel t'; pool = pool'; present = slice.kernel; memory = host' }))
    went_at t' pool' host' now' new' turned gone =
        went_between kernels frames whole done pieces ts pool slice.kernel host before now old new b slice next refl k t live_at t'
        pool' host' now' new'
        (subst (λ (x : Kernel). HasTurned x slice.kernel slice.steps pool host host' (get_or ts slice.kernel t) t' now now' new new') k_is
        (subst (λ (x : Tenant). HasTurned k slice.kernel slice.steps pool host host' x t' now now' new new') t_is turned))
        (subst (λ (x : Kernel). HasGoneOn x pool pool' host host' (get_or ts slice.kernel t) t') k_is
        (subst (λ (x : Tenant). HasGoneOn k pool pool' host host' x t') t_is gone))

    pub failed_at : (new' : Option (List ℕ)) → HasFailed k slice.kernel slice.steps host t new new'
        → ((p : Piece) → BeginsTurn kernels frames p (record { tenants = ts; pool = pool; present = slice.kernel; memory = host })
        → HasBegunRound kernels frames done pieces slice p) → FailsInTurn kernels whole frames old new'
    failed_at new' failed rounds =
        failed_between kernels frames whole done pieces ts pool slice.kernel host before now old new b slice next refl k t live_at new'
        (subst (λ (x : Kernel). HasFailed x slice.kernel slice.steps host (get_or ts slice.kernel t) new new') k_is
        (subst (λ (x : Tenant). HasFailed k slice.kernel slice.steps host x new new') t_is failed)) rounds

pub room_at : (retired : ℕ) (passed : ℕ) (before : Counts) (count : ℕ) (whole done : List Slice) (slice : Slice)
    → IsNext count whole done slice → retired ≤ before.retired + length done * 2 ^ 40 → before.retired ≤ 2 ^ 63 → retired
    + slice.steps < 2 ^ 64
room_at retired passed before count whole done slice next up few =
    let one = (next_slice count whole done slice next).most in
    let all = next.schedule.few in
    let sum = ap length next.whole_is in
    omega (arith, up, few, one, all, sum, length-append done (slice ∷ next.rest))

pub on_ok_both : {T E : Type 0} (result : Result T E) {A B C : Type 0} → OnOk result A → OnOk result B → (A → B → C) → OnOk result C
on_ok_both (Ok x) a b f = f a b
on_ok_both (Err e) a b f = tt

pub on_err_then : {T E : Type 0} (result : Result T E) {A B : Type 0} → OnErr result A → (A → B) → OnErr result B
on_err_then (Ok x) a f = tt
on_err_then (Err e) a f = f a
