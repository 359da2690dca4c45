-- Kernels that were all taken in stand before the first turn of any schedule.
use Rattle.std.proofs.Common.{◌≡◌, inl, inr, ℕ, zero, suc, ◌≤◌, ◌<◌, true, List, [], ◌∷◌, Option, Some, None, is_none, length, take, get_or, refl, ap, sym, ◌∙◌, arith, append-nil}
use Rattle.std.specs.FinMap.{len, empty, get-empty, len-empty}
use Rattle.paging.specs.declared.entry.Entry.{Entry}
use Rattle.std.specs.Ordering.{nat_cmp}
use Rattle.std.proofs.lemmas.List.Elements.{All-cons, All-nil}
use Rattle.ia32_types.specs.declared.stop.Stop.{Stop}
use Rattle.frame_pool.specs.declared.Pool.{Pool}
use Rattle.pv_io.specs.Sink.{Appends}
use Rattle.machine_model.specs.Run.{Set, Steps}
use Rattle.machine_model.specs.State.{State, Setting, Loosened, boot}
use Rattle.wedge_step.proofs.Bools.{none_some}
use Rattle.wedge_core.specs.OfRoots.{of_roots}
use Rattle.wedge_step.specs.Standing.{state_of}
use Rattle.wedge_core.specs.Slices.{Counts}
use Rattle.guest_sched.specs.Legs.{HasRun}
use Rattle.guest_sched.specs.Apart.{Seat}
use Rattle.guest_sched.specs.Admitting.{EachAtStart, IsAdmitted, CantAdmit}
use Rattle.guest_sched.specs.Between.{EachStands, StandsSo, stops_of, AdmitRefused}
use Rattle.guest_sched.specs.Seating.{seat_of, seats_from}
use Rattle.guest_sched.specs.Shared.{alone, AllFit, FirstTooSmall}
use Rattle.guest_sched.specs.declared.kernel.Kernel.{Kernel}
use Rattle.guest_sched.specs.declared.kernel.SharedFault.{SharedFault}
use Rattle.guest_sched.specs.declared.kernel.SharedFault.TheVariants as fault
use Rattle.guest_sched.specs.declared.schedule.Slice.{Slice}
use Rattle.guest_sched.specs.declared.tenants.Tenant.{Tenant}
use Rattle.guest_sched.proofs.Wide.{IsBetween}

empty_allowed : (m : Setting) (b : State) → Loosened m b empty
empty_allowed m b = record { each = λ page e is. absurd (none_some e (sym (get-empty nat_cmp page) ∙ is)) }

-- a run of no steps
no_steps : (m : Setting) (fills : ℕ) (state : State) → state ≡ boot m → fills ≡ 0 → HasRun m [] fills state
unfolding Steps
no_steps m fills state is none = record {
  sets = [];
  last = boot m;
  end = empty;
  steps = (refl, refl);
  stands = is;
  allowed = empty_allowed m (boot m);
  enough = All-cons (λ (set : Set). len set ≤ fills) empty [] (let n = len-empty nat_cmp Entry in omega (arith, n))
      (All-nil (λ (set : Set). len set ≤ fills));
  few = omega (arith, none);
}

each_begins : (number frames : ℕ) (whole : List Slice) (host : List ℕ) (present : ℕ) (kernels : List Kernel) (tenants : List Tenant)
    → length tenants ≡ length kernels
    → EachAtStart frames kernels (seats_from frames host present number kernels tenants)
    → EachStands number frames whole [] [] kernels (seats_from frames host present number kernels tenants) (stops_of tenants)
each_begins number frames whole host present [] [] len each = tt
each_begins number frames whole host present [] (t ∷ ts) len each = absurd (omega (arith, len))
each_begins number frames whole host present (k ∷ ks) [] len each = absurd (omega (arith, len))
each_begins number frames whole host present (k ∷ ks) (t ∷ ts) len each = (
  here t.stop each.0.live (seat_of frames host present number k t) each.0.state each.0.fills,
  each_begins (suc number) frames whole host present ks ts (omega (arith, len)) each.1,
) where
  here : (stop : Option Stop) → is_none stop ≡ true → (s : Seat) → state_of of_roots (alone k frames) s.running s.memory ≡ boot
      (alone k frames) → s.running.fills ≡ 0
      → StandsSo number frames whole [] [] k s stop
  here None live s state fills = (
    no_steps (alone k frames) s.running.fills (state_of of_roots (alone k frames) s.running s.memory) state fills,
    ap (λ (b : State). b.step) state,
    refl,
    refl,
  )
  here (Some stop) live s state fills = absurd (cc)

nothing_put : (taken : Option (List ℕ)) → Appends taken taken []
nothing_put None = tt
nothing_put (Some old) = ap (λ (z : List ℕ). Some z) (sym (append-nil old))

pub begins : (kernels : List Kernel) (frames : ℕ) (tenants : List Tenant) (pool : Pool) (present : ℕ) (host : List ℕ)
    → IsAdmitted kernels frames tenants pool present host
    → 1 ≤ length kernels → length kernels ≤ 4 → (2048 ≤ frames) × (frames ≤ 16384)
    → (whole : List Slice) (counts : Counts) (taken : Option (List ℕ)) → IsBetween kernels frames whole [] [] tenants pool present host
    counts counts taken taken
begins kernels frames tenants pool present host h some four size whole counts taken = record {
  rooms = record {
    len = h.len;
    four = four;
    there = h.there (let len = h.len in omega (arith, len, some));
    size = size;
    room = (let n = h.size in omega (arith, n));
    theirs = h.theirs;
    pool_is = h.pool_is.1;
  };
  apart = h.apart;
  turns = tt;
  each = each_begins 0 frames whole host present kernels tenants h.len h.each;
  text = nothing_put taken;
  counts = refl;
  retired = omega arith;
}

-- the first that isn't taken in
pub first_refused : (frames : ℕ) (kernels : List Kernel) (i : ℕ) (d : Kernel) (refusal : SharedFault) → i < length kernels
    → AllFit frames (take i kernels) → CantAdmit (get_or kernels i d) frames refusal
    → AdmitRefused kernels frames refusal
first_refused frames kernels i d fault.Write lt fit cant = cant
first_refused frames kernels i d fault.Memory lt fit cant = tt
first_refused frames kernels i d (fault.TooSmall small) lt fit cant = first kernels i lt fit cant where
  first : (kernels : List Kernel) (i : ℕ) → i < length kernels → AllFit frames (take i kernels)
      → CantAdmit (get_or kernels i d) frames (fault.TooSmall small) → FirstTooSmall frames kernels small
  first [] i lt fit cant = absurd (omega (arith, lt))
  first (k ∷ ks) zero lt fit cant = inl cant
  first (k ∷ ks) (suc i) lt fit cant = inr (fit.0, first ks i (omega (arith, lt)) fit.1 cant)
