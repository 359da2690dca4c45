-- The present kernel's memory is taken out of the host's.
use Rattle.std.proofs.Common.{◌≡◌, inl, inr, ℕ, suc, ◌+◌, ◌*◌, ◌≤◌, ◌<◌, Bool, cond, List, [], ◌∷◌, ◌++◌, is_none, length, take, drop, set, get_or, refl, ap, sym, subst, ◌∙◌, arith, length-append, length-drop}
use Rattle.std.specs.List.{All}
use Rattle.std.proofs.lemmas.Bool.Decides.{eqb_tells}
use Rattle.std.proofs.lemmas.Bool.{ne_eqb}
use Rattle.std.proofs.lemmas.List.{length-take-le, length-set, get_or-set_same, get_or-set_other, take-append-drop}
use Rattle.guest_ram.specs.Bytes.{part, with_part}
use Rattle.guest_sched.specs.Apart.{Seat}
use Rattle.guest_sched.specs.Seating.{memory_with, seat_of, seats_from}
use Rattle.guest_sched.specs.Admitting.{HasParked}
use Rattle.guest_sched.specs.declared.kernel.Kernel.{Kernel}
use Rattle.guest_sched.specs.declared.tenants.Tenant.{Tenant}
use Rattle.guest_sched.proofs.Brought.{mem_of, same_seat, same_seats}
use Rattle.guest_sched.proofs.Fronts.{front_put, behind_front}

module _ (frames : ℕ) (host last : List ℕ) (present : ℕ) (tenants left : List Tenant) (d a : Tenant) (there : present < length tenants)
    (theirs : All (λ (t : Tenant). 4096 * frames ≤ length t.ram) tenants) (room : 4096 * frames ≤ length host)
    (left_is : left ≡ set tenants present a) (a_front : take (4096 * frames) a.ram ≡ take (4096 * frames) host)
    (a_len : length a.ram ≡ length (get_or tenants present d).ram) (a_guest : a.guest ≡ (get_or tenants present d).guest)
    (a_stop : a.stop ≡ (get_or tenants present d).stop)
    (last_is : last ≡ with_part host 0 (part (get_or tenants present d).ram 0 (4096 * frames)))
  where
    x_room : 4096 * frames ≤ length (get_or tenants present d).ram
    x_room = theirs present d there

    last_comes : last ≡ take (4096 * frames) (get_or tenants present d).ram ++ drop (4096 * frames) host
    last_comes = last_is ∙ front_put (4096 * frames) host (get_or tenants present d).ram x_room

    behind : drop (4096 * frames) last ≡ drop (4096 * frames) host
    behind = ap (drop (4096 * frames)) last_comes ∙ behind_front (4096 * frames) (get_or tenants present d).ram
        (drop (4096 * frames) host) x_room

    leaves : take (4096 * frames) a.ram ++ drop (4096 * frames) last ≡ host
    leaves =
        ap (λ (z : List ℕ). z ++ drop (4096 * frames) last) a_front
        ∙ ap (λ (z : List ℕ). take (4096 * frames) host ++ z) behind
        ∙ take-append-drop (4096 * frames) host

    each : (j : ℕ) (k : Kernel) → j < length tenants → seat_of frames last (length tenants) j k (get_or left j d) ≡ seat_of frames host
        present j k (get_or tenants j d)
    unfolding mem_of
    each j k lt = elim (eqb_tells j present) [
      | inl t ↦
          let e : j ≡ present = t.1 in
          let got : get_or left j d ≡ a =
          ap (λ i. get_or left i d) e ∙ ap (λ l. get_or l present d) left_is ∙ get_or-set_same tenants present a d there in
          let is : get_or tenants present d ≡ get_or tenants j d = ap (λ i. get_or tenants i d) (sym e) in
          same_seat frames host last present (length tenants) j k (get_or tenants j d) (get_or left j d)
          (ap (λ (z : Tenant). z.guest) got ∙ a_guest ∙ ap (λ (z : Tenant). z.guest) is)
          (ap (λ (z : Tenant). z.stop) got ∙ a_stop ∙ ap (λ (z : Tenant). z.stop) is)
          (ap (λ c. cond c last (memory_with frames last (get_or left j d))) (ne_eqb j (length tenants) (λ z. omega arith))
          ∙ ap (λ (z : Tenant). memory_with frames last z) got ∙ leaves
          ∙ sym (ap (λ c. cond c host (memory_with frames host (get_or tenants j d))) t.0))
      | inr o ↦
          let got : get_or left j d ≡ get_or tenants j d = ap (λ l. get_or l j d) left_is ∙ get_or-set_other tenants present j a d o.1 in
          same_seat frames host last present (length tenants) j k (get_or tenants j d) (get_or left j d)
          (ap (λ (z : Tenant). z.guest) got)
          (ap (λ (z : Tenant). z.stop) got)
          (ap (λ c. cond c last (memory_with frames last (get_or left j d))) (ne_eqb j (length tenants) (λ z. omega arith))
          ∙ ap (λ (z : Tenant). memory_with frames last z) got
          ∙ ap (λ l. take (4096 * frames) (get_or tenants j d).ram ++ l) behind
          ∙ sym (ap (λ c. cond c host (memory_with frames host (get_or tenants j d))) o.0))
    ]

    len : length left ≡ length tenants
    len = ap length left_is ∙ length-set tenants present a

    rooms : All (λ (t : Tenant). 4096 * frames ≤ length t.ram) left
    rooms j e l = elim (eqb_tells j present) [
      | inl t ↦
          (let g = ap (λ (z : Tenant). length z.ram)
          (ap (λ i. get_or left i e) t.1 ∙ ap (λ l. get_or l present e) left_is ∙ get_or-set_same tenants present a e there) in
          omega (arith, g, a_len, x_room))
      | inr o ↦
          (let g = ap (λ (z : Tenant). length z.ram) (ap (λ l. get_or l j e) left_is ∙ get_or-set_other tenants present j a e o.1) in
          let t = theirs j e (omega (arith, l, len)) in omega (arith, g, t))
    ]

    pub parked : HasParked frames host last present tenants left
    parked = record {
      seats = λ kernels. same_seats frames host last present (length tenants) 0 kernels tenants left d len
          (λ j m k l e. subst (λ i. seat_of frames last (length tenants) i k (get_or left j d) ≡ seat_of frames host present i k
          (get_or tenants j d)) (omega (arith, e)) (each j k l));
      len = len;
      theirs = rooms;
      size = ap length last_comes
          ∙ omega (
            arith,
            length-append (take (4096 * frames) (get_or tenants present d).ram) (drop (4096 * frames) host),
            length-take-le (4096 * frames) (get_or tenants present d).ram x_room,
            length-drop (4096 * frames) host,
            room,
          );
      behind = behind;
    }

-- where none stands there, nothing changes
absent : (frames : ℕ) (host : List ℕ) (present number i : ℕ) (kernels : List Kernel) (ts : List Tenant) → i + length ts ≤ present → i
    + length ts ≤ number
    → seats_from frames host number i kernels ts ≡ seats_from frames host present i kernels ts
absent frames host present number i [] ts low lower = refl
absent frames host present number i (k ∷ ks) [] low lower = refl
absent frames host present number i (k ∷ ks) (t ∷ ts) low lower =
    ap (λ s. s ∷ seats_from frames host number (suc i) ks ts)
    (ap (λ c. seat_in k t c) (ne_eqb i number (λ z. omega arith) ∙ sym (ne_eqb i present (λ z. omega arith))))
    ∙ ap (λ l. seat_of frames host present i k t ∷ l) (absent frames host present number (suc i) ks ts (omega arith) (omega arith)) where
      seat_in : Kernel → Tenant → Bool → Seat
      seat_in k t c = record { image = k.image; running = t.guest; memory = cond c host (memory_with frames host t); live = is_none t.stop }

pub none_parked : (frames : ℕ) (host : List ℕ) (present : ℕ) (tenants : List Tenant) → length tenants ≤ present
    → All (λ (t : Tenant). 4096 * frames ≤ length t.ram) tenants → HasParked frames host host present tenants tenants
none_parked frames host present tenants past theirs = record {
  seats = λ kernels. absent frames host present (length tenants) 0 kernels tenants (omega arith) (omega arith);
  len = refl;
  theirs = theirs;
  size = refl;
  behind = refl;
}
