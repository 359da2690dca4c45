-- Another kernel comes into the host's memory.
use Rattle.std.proofs.Common.{◌≡◌, ◌≢◌, inl, inr, ℕ, zero, suc, ◌+◌, ◌*◌, ◌≤◌, ◌<◌, ◌==◌, Bool, cond, List, [], ◌∷◌, ◌++◌, length, take, drop, map, set, get_or, Option, is_none, refl, ap, sym, subst, ◌∙◌, arith, length-append, length-drop}
use Rattle.std.specs.List.{All}
use Rattle.std.proofs.lemmas.Bool.Decides.{eqb_tells}
use Rattle.std.proofs.lemmas.Bool.{ne_eqb}
use Rattle.std.proofs.lemmas.List.{length-take-le, length-set, get_or-set_same, get_or-set_other}
use Rattle.ia32_types.specs.declared.stop.Stop.{Stop}
use Rattle.wedge_core.specs.declared.guest.Guest.{Guest}
use Rattle.wedge_step.specs.declared.running.Running.{Running}
use Rattle.shadow_cache.specs.declared.roots.Roots.{Roots}
use Rattle.guest_ram.specs.Bytes.{part, with_part}
use Rattle.frame_pool.specs.Pool.{base_of}
use Rattle.frame_pool.specs.declared.Pool.{Pool}
use Rattle.frame_pool.proofs.Above.{free_list-above}
use Rattle.guest_sched.specs.Apart.{Seat, AreSeated, AreApart}
use Rattle.guest_sched.specs.Seating.{memory_with, seat_of, seats_from, HasBrought}
use Rattle.guest_sched.specs.declared.kernel.Kernel.{Kernel}
use Rattle.guest_sched.specs.declared.tenants.Tenant.{Tenant}
use Rattle.guest_sched.proofs.Fronts.{comes, behind_stays, leaves, front_put}

pub map_set : {X Y : Type 0} (f : X → Y) (xs : List X) (i : ℕ) (v d : X) → f v ≡ f (get_or xs i d) → map f (set xs i v) ≡ map f xs
map_set f [] i v d e = refl
map_set f (x ∷ xs) zero v d e = ap (λ z. z ∷ map f xs) e
map_set f (x ∷ xs) (suc i) v d e = ap (λ z. f x ∷ z) (map_set f xs i v d e)

-- a kernel's memory, where this one is present
unfoldable pub mem_of : ℕ → List ℕ → ℕ → ℕ → Tenant → List ℕ
mem_of frames host present j t = cond (j == present) host (memory_with frames host t)

pub seat_with : Kernel → Running Roots → List ℕ → Bool → Seat
seat_with k running m live = record { image = k.image; running = running; memory = m; live = live }

pub same_seat : (frames : ℕ) (host host' : List ℕ) (present present' j : ℕ) (k : Kernel) (t t' : Tenant) → t'.guest ≡ t.guest
    → t'.stop ≡ t.stop → mem_of frames host' present' j t' ≡ mem_of frames host present j t
    → seat_of frames host' present' j k t' ≡ seat_of frames host present j k t
unfolding mem_of seat_with
same_seat frames host host' present present' j k t t' guest stop memory =
    ap (λ (g : Guest). seat_with k g (mem_of frames host' present' j t') (is_none t'.stop)) guest
    ∙ ap (λ (m : List ℕ). seat_with k t.guest m (is_none t'.stop)) memory
    ∙ ap (λ (s : Option Stop). seat_with k t.guest (mem_of frames host present j t) (is_none s)) stop

pub same_seats : (frames : ℕ) (host host' : List ℕ) (present present' i : ℕ) (kernels : List Kernel) (ts ts' : List Tenant) (d : Tenant)
    → length ts' ≡ length ts
    → ((j m : ℕ) (k : Kernel) → j < length ts → m ≡ i + j → seat_of frames host' present' m k (get_or ts' j d) ≡ seat_of frames host present
    m k (get_or ts j d))
    → seats_from frames host' present' i kernels ts' ≡ seats_from frames host present i kernels ts
same_seats frames host host' present present' i [] ts ts' d len each = refl
same_seats frames host host' present present' i (k ∷ ks) [] [] d len each = refl
same_seats frames host host' present present' i (k ∷ ks) [] (t' ∷ ts') d len each = absurd (omega (arith, len))
same_seats frames host host' present present' i (k ∷ ks) (t ∷ ts) [] d len each = absurd (omega (arith, len))
same_seats frames host host' present present' i (k ∷ ks) (t ∷ ts) (t' ∷ ts') d len each =
    ap (λ s. s ∷ seats_from frames host' present' (suc i) ks ts') (each 0 i k (omega arith) (omega arith))
    ∙ ap (λ l. seat_of frames host present i k t ∷ l)
    (same_seats frames host host' present present' (suc i) ks ts ts' d (omega (arith, len))
    (λ j m k l e. each (suc j) m k (omega (arith, l)) (omega (arith, e))))

-- they are apart over the host's memory as it is then
pub seated_over : (frames : ℕ) (p : Pool) (host host' : List ℕ) (seats : List Seat) → length host' ≡ length host
    → drop (4096 * frames) host' ≡ drop (4096 * frames) host → AreSeated frames p host seats → AreSeated frames p host' seats
seated_over frames p host host' [] size behind h = tt
seated_over frames p host host' (s ∷ seats) size behind h =
    (h.0, h.1 ∙ sym size, h.2 ∙ sym behind, seated_over frames p host host' seats size behind h.3)

pub apart_over : (frames : ℕ) (p : Pool) (host host' : List ℕ) (s : Seat) (seats : List Seat) → length host' ≡ length host
    → drop (4096 * frames) host' ≡ drop (4096 * frames) host → AreApart frames p host (s ∷ seats) → AreApart frames p host' (s ∷ seats)
apart_over frames p host host' s seats size behind h =
    let low : 4096 * frames ≤ 4096 * base_of p = (let b = h.behind in omega (arith, b)) in
    let stands = h.seated.0.holds.owns.stands in
    let one = free_list-above p s.memory host (4096 * frames) low (sym h.seated.2) (sym h.seated.1) stands in
    let two = free_list-above p s.memory host' (4096 * frames) low (behind ∙ sym h.seated.2) (size ∙ sym h.seated.1) stands in
    record {
      seated = seated_over frames p host host' (s ∷ seats) size behind h.seated;
      once = h.once;
      all = (let a = ap length one in let b = ap length two in let all = h.all in omega (arith, a, b, all));
      few = h.few;
      behind = h.behind;
    }

apart_first : (frames : ℕ) (pool : Pool) (host host' : List ℕ) (present present' : ℕ) (ts ts' : List Tenant) (k : Kernel) (ks : List Kernel)
    → seats_from frames host' present' 0 (k ∷ ks) ts' ≡ seats_from frames host present 0 (k ∷ ks) ts → length host' ≡ length host
    → drop (4096 * frames) host' ≡ drop (4096 * frames) host → present < length ts
    → AreApart frames pool host (seats_from frames host present 0 (k ∷ ks) ts)
    → AreApart frames pool host' (seats_from frames host' present' 0 (k ∷ ks) ts')
apart_first frames pool host host' present present' [] ts' k ks same size behind there h = absurd (omega (arith, there))
apart_first frames pool host host' present present' (t ∷ ts) ts' k ks same size behind there h =
    subst (λ (l : List Seat). AreApart frames pool host' l) (sym same)
    (apart_over frames pool host host' (seat_of frames host present 0 k t) (seats_from frames host present 1 ks ts) size behind h)

module _ (frames : ℕ) (host mid last : List ℕ) (present kernel : ℕ) (tenants left both : List Tenant) (d a b : Tenant)
    (differ : kernel ≢ present) (known : kernel < length tenants) (there : present < length tenants)
    (theirs : All (λ (t : Tenant). 4096 * frames ≤ length t.ram) tenants) (room : 4096 * frames ≤ length host)
    (left_is : left ≡ set tenants present a) (a_front : take (4096 * frames) a.ram ≡ take (4096 * frames) host)
    (a_len : length a.ram ≡ length (get_or tenants present d).ram) (a_guest : a.guest ≡ (get_or tenants present d).guest)
    (a_stop : a.stop ≡ (get_or tenants present d).stop)
    (mid_is : mid ≡ with_part host 0 (part (get_or tenants present d).ram 0 (4096 * frames)))
    (both_is : both ≡ set left kernel b) (b_len : length b.ram ≡ length (get_or left kernel d).ram)
    (b_guest : b.guest ≡ (get_or left kernel d).guest) (b_stop : b.stop ≡ (get_or left kernel d).stop)
    (last_is : last ≡ with_part mid 0 (part (get_or left kernel d).ram 0 (4096 * frames)))
  where
    x : Tenant
    x = get_or tenants present d

    y : Tenant
    y = get_or tenants kernel d

    y_left : get_or left kernel d ≡ y
    unfolding y
    y_left = ap (λ l. get_or l kernel d) left_is ∙ get_or-set_other tenants present kernel a d differ

    last_y : last ≡ with_part mid 0 (part y.ram 0 (4096 * frames))
    last_y = last_is ∙ ap (λ (t : Tenant). with_part mid 0 (part t.ram 0 (4096 * frames))) y_left

    x_room : 4096 * frames ≤ length x.ram
    unfolding x
    x_room = theirs present d there

    y_room : 4096 * frames ≤ length y.ram
    unfolding y
    y_room = theirs kernel d known

    last_comes : last ≡ take (4096 * frames) y.ram ++ drop (4096 * frames) host
    unfolding x y
    last_comes = comes (4096 * frames) host mid last x.ram y.ram a.ram x_room y_room mid_is a_front last_y

    last_behind : drop (4096 * frames) last ≡ drop (4096 * frames) host
    unfolding x y
    last_behind = behind_stays (4096 * frames) host mid last x.ram y.ram a.ram x_room y_room mid_is a_front last_y

    last_leaves : take (4096 * frames) a.ram ++ drop (4096 * frames) last ≡ host
    unfolding x y
    last_leaves = leaves (4096 * frames) host mid last x.ram y.ram a.ram x_room y_room mid_is a_front last_y

    last_size : length last ≡ length host
    last_size = ap length last_comes ∙ omega (
      arith,
      length-append (take (4096 * frames) y.ram) (drop (4096 * frames) host),
      length-take-le (4096 * frames) y.ram y_room,
      length-drop (4096 * frames) host,
      room,
    )

    a_room : 4096 * frames ≤ length a.ram
    unfolding x
    a_room = (let e : length a.ram ≡ length x.ram = a_len in omega (arith, e, x_room))

    mid_size : length mid ≡ length host
    unfolding x
    mid_size =
        ap length (mid_is ∙ front_put (4096 * frames) host x.ram x_room)
        ∙ omega (
          arith,
          length-append (take (4096 * frames) x.ram) (drop (4096 * frames) host),
          length-take-le (4096 * frames) x.ram x_room,
          length-drop (4096 * frames) host,
          room,
        )

    pub mid_room : 4096 * frames ≤ length mid
    mid_room = omega (arith, mid_size, room)

    b_room : 4096 * frames ≤ length b.ram
    b_room = (let e = ap (λ (t : Tenant). length t.ram) y_left in omega (arith, b_len, e, y_room))

    len_left : length left ≡ length tenants
    len_left = ap length left_is ∙ length-set tenants present a

    len : length both ≡ length tenants
    len = ap length both_is ∙ length-set left kernel b ∙ len_left

    at_kernel : (j : ℕ) → j ≡ kernel → get_or both j d ≡ b
    at_kernel j e =
        ap (λ i. get_or both i d) e ∙ ap (λ l. get_or l kernel d) both_is ∙ get_or-set_same left kernel b d (omega (arith, known, len_left))

    at_present : (j : ℕ) → j ≢ kernel → j ≡ present → get_or both j d ≡ a
    at_present j n e =
        ap (λ l. get_or l j d) both_is ∙ get_or-set_other left kernel j b d n ∙ ap (λ i. get_or left i d) e
        ∙ ap (λ l. get_or l present d) left_is
        ∙ get_or-set_same tenants present a d there

    at_other : (j : ℕ) → j ≢ kernel → j ≢ present → get_or both j d ≡ get_or tenants j d
    at_other j n o = ap (λ l. get_or l j d) both_is ∙ get_or-set_other left kernel j b d n ∙ ap (λ l. get_or l j d) left_is
        ∙ get_or-set_other tenants present j a d o

    each : (j : ℕ) (k : Kernel) → seat_of frames last kernel j k (get_or both j d) ≡ seat_of frames host present j k (get_or tenants j d)
    unfolding mem_of x y
    each j k = elim (eqb_tells j kernel) [
      | inl t ↦
          let got = at_kernel j t.1 in
          let is : y ≡ get_or tenants j d = ap (λ i. get_or tenants i d) (sym t.1) in
          same_seat frames host last present kernel j k (get_or tenants j d) (get_or both j d)
          (ap (λ (z : Tenant). z.guest) got ∙ b_guest ∙ ap (λ (z : Tenant). z.guest) (y_left ∙ is))
          (ap (λ (z : Tenant). z.stop) got ∙ b_stop ∙ ap (λ (z : Tenant). z.stop) (y_left ∙ is))
          (ap (λ c. cond c last (memory_with frames last (get_or both j d))) t.0
          ∙ last_comes ∙ ap (λ (z : Tenant). memory_with frames host z) is
          ∙ sym (ap (λ c. cond c host (memory_with frames host (get_or tenants j d))) (ne_eqb j present (λ e. differ (sym t.1 ∙ e)))))
      | inr n ↦ elim (eqb_tells j present) [
        | inl t ↦
            let got = at_present j n.1 t.1 in
            let is : x ≡ get_or tenants j d = ap (λ i. get_or tenants i d) (sym t.1) in
            same_seat frames host last present kernel j k (get_or tenants j d) (get_or both j d)
            (ap (λ (z : Tenant). z.guest) got ∙ a_guest ∙ ap (λ (z : Tenant). z.guest) is)
            (ap (λ (z : Tenant). z.stop) got ∙ a_stop ∙ ap (λ (z : Tenant). z.stop) is)
            (ap (λ c. cond c last (memory_with frames last (get_or both j d))) n.0
            ∙ ap (λ (z : Tenant). memory_with frames last z) got ∙ last_leaves
            ∙ sym (ap (λ c. cond c host (memory_with frames host (get_or tenants j d))) t.0))
        | inr o ↦
            let got = at_other j n.1 o.1 in
            same_seat frames host last present kernel j k (get_or tenants j d) (get_or both j d)
            (ap (λ (z : Tenant). z.guest) got)
            (ap (λ (z : Tenant). z.stop) got)
            (ap (λ c. cond c last (memory_with frames last (get_or both j d))) n.0
            ∙ ap (λ (z : Tenant). memory_with frames last z) got
            ∙ ap (λ l. take (4096 * frames) (get_or tenants j d).ram ++ l) last_behind
            ∙ sym (ap (λ c. cond c host (memory_with frames host (get_or tenants j d))) o.0))
      ]
    ]

    seats : (kernels : List Kernel) → seats_from frames last kernel 0 kernels both ≡ seats_from frames host present 0 kernels tenants
    seats kernels = same_seats frames host last present kernel 0 kernels tenants both d len
        (λ j m k l e. subst (λ i. seat_of frames last kernel i k (get_or both j d) ≡ seat_of frames host present i k (get_or tenants j d))
        (omega (arith, e)) (each j k))

    rooms : (j : ℕ) (e : Tenant) → j < length both → 4096 * frames ≤ length (get_or both j e).ram
    rooms j e l = elim (eqb_tells j kernel) [
      | inl t ↦ (let g = ap (λ (z : Tenant). length z.ram)
          (ap (λ i. get_or both i e) t.1 ∙ ap (λ l. get_or l kernel e) both_is ∙ get_or-set_same left kernel b e
          (omega (arith, known, len_left))) in omega (arith, g, b_room))
      | inr n ↦ elim (eqb_tells j present) [
        | inl t ↦
            (let g = ap (λ (z : Tenant). length z.ram)
            (ap (λ l. get_or l j e) both_is ∙ get_or-set_other left kernel j b e n.1 ∙ ap (λ i. get_or left i e) t.1
            ∙ ap (λ l. get_or l present e) left_is ∙ get_or-set_same tenants present a e there) in
            omega (arith, g, a_room))
        | inr o ↦
            (let g = ap (λ (z : Tenant). length z.ram)
            (ap (λ l. get_or l j e) both_is ∙ get_or-set_other left kernel j b e n.1 ∙ ap (λ l. get_or l j e) left_is ∙ get_or-set_other
            tenants present j a e o.1) in
            let t = theirs j e (omega (arith, l, len)) in omega (arith, g, t))
      ]
    ]

    pub brought : HasBrought frames host last present kernel tenants both
    unfolding x y
    brought = record {
      seats = seats;
      guests =
          ap (map (λ (t : Tenant). t.guest)) both_is ∙ map_set (λ (t : Tenant). t.guest) left kernel b d b_guest
          ∙ ap (map (λ (t : Tenant). t.guest)) left_is ∙ map_set (λ (t : Tenant). t.guest) tenants present a d a_guest;
      stops =
          ap (map (λ (t : Tenant). t.stop)) both_is ∙ map_set (λ (t : Tenant). t.stop) left kernel b d b_stop
          ∙ ap (map (λ (t : Tenant). t.stop)) left_is ∙ map_set (λ (t : Tenant). t.stop) tenants present a d a_stop;
      rooms = rooms;
      size = last_size;
      behind = last_behind;
      apart =
          λ pool k ks h. apart_first frames pool host last present kernel tenants both k ks (seats (k ∷ ks)) last_size last_behind there h;
    }

-- some kernel of a list that has one
pub any_of : (ts : List Tenant) (k : ℕ) → k < length ts → Tenant
any_of [] k l = absurd (omega (arith, l))
any_of (t ∷ ts) k l = t

-- what an exchange leaves of the list
pub left_rooms : (frames : ℕ) (present : ℕ) (tenants left : List Tenant) (a : Tenant) → present < length tenants
    → left ≡ set tenants present a → 4096 * frames ≤ length a.ram
    → All (λ (t : Tenant). 4096 * frames ≤ length t.ram) tenants → All (λ (t : Tenant). 4096 * frames ≤ length t.ram) left
left_rooms frames present tenants left a there left_is room theirs j e l = elim (eqb_tells j present) [
  | inl t ↦ (let g = ap (λ (z : Tenant). length z.ram)
      (ap (λ i. get_or left i e) t.1 ∙ ap (λ l. get_or l present e) left_is ∙ get_or-set_same tenants present a e there) in
      omega (arith, g, room))
  | inr o ↦
      (let g = ap (λ (z : Tenant). length z.ram) (ap (λ l. get_or l j e) left_is ∙ get_or-set_other tenants present j a e o.1) in
      let n = ap length left_is ∙ length-set tenants present a in
      let t = theirs j e (omega (arith, l, n)) in omega (arith, g, t))
]

pub left_size : (frames : ℕ) (host mid : List ℕ) (t : Tenant) → 4096 * frames ≤ length t.ram → 4096 * frames ≤ length host
    → mid ≡ with_part host 0 (part t.ram 0 (4096 * frames)) → 4096 * frames ≤ length mid
left_size frames host mid t theirs room mid_is =
    let e = ap length (mid_is ∙ front_put (4096 * frames) host t.ram theirs) in
    omega (arith, e, length-append (take (4096 * frames) t.ram) (drop (4096 * frames) host), length-take-le (4096 * frames) t.ram theirs)

-- an element that there is, whatever stands where there is none
pub get_or_any : {X : Type 0} (ts : List X) (n : ℕ) (d e : X) → n < length ts → get_or ts n d ≡ get_or ts n e
get_or_any [] n d e lt = absurd (omega (arith, lt))
get_or_any (t ∷ ts) zero d e lt = refl
get_or_any (t ∷ ts) (suc n) d e lt = get_or_any ts n d e (omega (arith, lt))
