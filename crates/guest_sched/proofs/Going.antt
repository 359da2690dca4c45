-- The present kernel has gone on: all of them stand between two turns again.
use Rattle.std.proofs.Common.{◌≡◌, ◌≢◌, inl, inr, ℕ, zero, suc, ◌+◌, ◌*◌, ◌≤◌, ◌<◌, cond, List, [], ◌∷◌, ◌++◌, length, drop, map, set, get_or, is_none, refl, ap, sym, ◌∙◌, arith}
use Rattle.std.specs.List.{All}
use Rattle.std.proofs.lemmas.Bool.Decides.{eqb_tells}
use Rattle.std.proofs.lemmas.Bool.{ne_eqb}
use Rattle.guest_sched.specs.Apart.{Seat, behind_as}
use Rattle.guest_sched.specs.Seating.{memory_with, seat_of, seats_from}
use Rattle.guest_sched.specs.declared.kernel.Kernel.{Kernel}
use Rattle.guest_sched.specs.declared.tenants.Tenant.{Tenant}
use Rattle.guest_sched.proofs.Fronts.{front_front}
use Rattle.guest_sched.proofs.Turned.{seat_here}

seat_with : Kernel → Tenant → List ℕ → Seat
seat_with k t m = record { image = k.image; running = t.guest; memory = m; live = is_none t.stop }

pub seat_is_here : (frames : ℕ) (host : List ℕ) (present j : ℕ) (k : Kernel) (t : Tenant) → j ≡ present
    → seat_of frames host present j k t ≡ seat_here k host t
unfolding seat_with
seat_is_here frames host present j k t is = elim (eqb_tells j present) [
  | inl e ↦ ap (λ c. seat_with k t (cond c host (memory_with frames host t))) e.0
  | inr o ↦ absurd (o.1 is)
]

module _ (frames : ℕ) (host host' : List ℕ) (present : ℕ) where
  -- one that is parked
  parked : (j : ℕ) (k : Kernel) (t : Tenant) → j ≢ present → 4096 * frames ≤ length t.ram
      → seat_of frames host' present j k t ≡ behind_as frames host' (seat_of frames host present j k t)
  unfolding seat_with
  parked j k t differ room =
      let isnt = ne_eqb j present differ in
      ap (λ c. seat_with k t (cond c host' (memory_with frames host' t))) isnt
      ∙ ap (λ m. seat_with k t (m ++ drop (4096 * frames) host')) (sym (front_front (4096 * frames) t.ram (drop (4096 * frames) host) room))
      ∙ sym (ap (λ c. behind_as frames host' (seat_with k t (cond c host (memory_with frames host t)))) isnt)

  all_parked : (i : ℕ) (ks : List Kernel) (ts : List Tenant) → present < i → All (λ (t : Tenant). 4096 * frames ≤ length t.ram) ts
      → seats_from frames host' present i ks ts ≡ map (behind_as frames host') (seats_from frames host present i ks ts)
  all_parked i [] ts less theirs = refl
  all_parked i (k ∷ ks) [] less theirs = refl
  all_parked i (k ∷ ks) (t ∷ ts) less theirs =
      ap (λ s. s ∷ seats_from frames host' present (suc i) ks ts)
      (parked i k t (λ e. absurd (omega (arith, less, e))) (theirs 0 t (omega arith)))
      ∙ ap (λ l. behind_as frames host' (seat_of frames host present i k t) ∷ l)
      (all_parked (suc i) ks ts (omega (arith, less)) (λ j e l. theirs (suc j) e (omega (arith, l))))

  -- those before the present one, it, and those after it
  pub record Split (k : Kernel) (t t' : Tenant) (n : ℕ) (seats seats' : List Seat) : Type 0 where
    pub before : List Seat
    pub after : List Seat
    pub len : n ≡ length before
    pub is : seats ≡ before ++ seat_here k host t ∷ after
    pub is' : seats' ≡ map (behind_as frames host') before ++ seat_here k host' t' ∷ map (behind_as frames host') after

  pub split : (i n : ℕ) (ks : List Kernel) (ts : List Tenant) (dk : Kernel) (d t' : Tenant) → present ≡ i + n → n < length ts
      → n < length ks → All (λ (t : Tenant). 4096 * frames ≤ length t.ram) ts
      → Split (get_or ks n dk) (get_or ts n d) t' n (seats_from frames host present i ks ts)
      (seats_from frames host' present i ks (set ts n t'))
  split i n [] ts dk d t' is lt lk theirs = absurd (omega (arith, lk))
  split i n (k ∷ ks) [] dk d t' is lt lk theirs = absurd (omega (arith, lt))
  split i zero (k ∷ ks) (t ∷ ts) dk d t' is lt lk theirs = record {
    before = [];
    after = seats_from frames host present (suc i) ks ts;
    len = refl;
    is = ap (λ s. s ∷ seats_from frames host present (suc i) ks ts) (seat_is_here frames host present i k t (omega (arith, is)));
    is' =
        ap (λ s. s ∷ seats_from frames host' present (suc i) ks ts) (seat_is_here frames host' present i k t' (omega (arith, is)))
        ∙ ap (λ l. seat_here k host' t' ∷ l) (all_parked (suc i) ks ts (omega (arith, is)) (λ j e l. theirs (suc j) e (omega (arith, l))));
  }
  split i (suc n) (k ∷ ks) (t ∷ ts) dk d t' is lt lk theirs =
      let rest = split (suc i) n ks ts dk d t' (omega (arith, is)) (omega (arith, lt)) (omega (arith, lk))
      (λ j e l. theirs (suc j) e (omega (arith, l))) in
      record {
        before = seat_of frames host present i k t ∷ rest.before;
        after = rest.after;
        len = ap suc rest.len;
        is = ap (λ l. seat_of frames host present i k t ∷ l) rest.is;
        is' =
            ap (λ s. s ∷ seats_from frames host' present (suc i) ks (set ts n t'))
            (parked i k t (λ e. absurd (omega (arith, is, e))) (theirs 0 t (omega arith)))
            ∙ ap (λ l. behind_as frames host' (seat_of frames host present i k t) ∷ l) rest.is';
      }
