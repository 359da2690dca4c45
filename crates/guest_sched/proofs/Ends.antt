-- After all turns, the last lines end the text of several kernels.
use Rattle.std.proofs.Common.{◌≡◌, ℕ, suc, ◌*◌, List, [], ◌∷◌, ◌++◌, Option, Some, None, is_none, length, drop, map, refl, ap, sym, subst, ◌∙◌, arith, append-nil}
use Rattle.std.specs.List.{flat_map}
use Rattle.ia32_types.specs.declared.stop.Stop.{Stop}
use Rattle.frame_pool.specs.declared.Pool.{Pool}
use Rattle.pv_io.specs.Sink.{Appends, AppendsFront}
use Rattle.image_check.specs.Image.{Image}
use Rattle.run_trace.specs.declared.items.End.TheVariants.{Bound}
use Rattle.run_trace.specs.declared.items.Ended.{Ended}
use Rattle.run_trace.specs.Text.{text_of, end_line}
use Rattle.machine_model.specs.State.{Setting, State}
use Rattle.machine_model.specs.Step.{Report}
use Rattle.wedge_step.specs.Standing.{IsHeld, ground}
use Rattle.wedge_core.specs.Slices.{Counts}
use Rattle.wedge_core.specs.OfRoots.{of_roots}
use Rattle.guest_sched.specs.Apart.{AreSeated, IsSeated, Seat}
use Rattle.guest_sched.specs.Between.{EachStands, StandsSo, stops_of}
use Rattle.guest_sched.specs.Pieces.{Piece, piece_text, shared_text, reports_of, own_text, bound_line, bound_texts}
use Rattle.guest_sched.specs.Bounds.{bound_of}
use Rattle.guest_sched.specs.Rounds.{EndsRound, HasGoneRound}
use Rattle.guest_sched.specs.Since.{Since}
use Rattle.guest_sched.specs.Seating.{seat_of, seats_from}
use Rattle.guest_sched.specs.Shared.{EachRan, RanAlone, alone}
use Rattle.guest_sched.specs.OwnEnds.{EachHasOwnEnd, HasOwnEnd}
use Rattle.guest_sched.specs.SharedRuns.{SharedRun, FailsAtEnd}
use Rattle.guest_sched.specs.Stages.{ended_of, end_with}
use Rattle.guest_sched.specs.declared.kernel.Kernel.{Kernel}
use Rattle.guest_sched.specs.declared.schedule.Slice.{Slice}
use Rattle.guest_sched.specs.declared.tenants.Tenant.{Tenant}
use Rattle.guest_sched.proofs.Puts.{both, then_front}
use Rattle.guest_sched.proofs.ReadAlone.{lines_alone}
use Rattle.guest_sched.proofs.Wide.{IsBetween}

-- a run alone, with its own set at the end
abbrev OwnRun : Setting → ℕ → List Report → List ℕ → Ended → List ℕ → Type 0
OwnRun m n reports text ended host =
    (ran : RanAlone m n reports text ended) × HasOwnEnd m n ran.last ended.end ran.run.ends ran.fills.end ended.fills host

one_ran : (number frames : ℕ) (pool : Pool) (host : List ℕ) (whole : List Slice) (pieces : List Piece) (kernel : Kernel) (seat : Seat)
    (stop : Option Stop) → StandsSo number frames whole whole pieces kernel seat stop
    → seat.image ≡ kernel.image → seat.live ≡ is_none stop → IsSeated frames pool seat
    → drop (4096 * frames) seat.memory ≡ drop (4096 * frames) host
    → OwnRun (alone kernel frames) (bound_of number whole) (reports_of number pieces)
    (own_text number pieces ++ bound_line seat.running.step (end_with stop))
    (record { steps = seat.running.step; end = end_with stop; fills = seat.running.fills }) host
unfolding text_of
one_ran number frames pool host whole pieces kernel seat None h image live seated behind =
    let step : seat.running.step ≡ h.0.last.step = ap (λ (b : State). b.step) h.0.stands in
    let held = subst (λ (i : Image). IsHeld of_roots (ground i frames) seat.running pool seat.memory) image (seated.goes_on live).held in (
      record {
        sets = h.0.sets;
        last = h.0.last;
        run = record { steps = h.0.steps; ends = sym step ∙ h.1 };
        steps_are = step;
        fills = record { end = h.0.end; allowed = h.0.allowed; enough = h.0.enough; few = h.0.few };
        text_is = ap (λ (z : List ℕ). z ++ end_line seat.running.step Bound) h.2;
      },
      (seat.memory, behind, (seat.running, pool, held, h.0.stands, refl)),
    )
one_ran number frames pool host whole pieces kernel seat (Some stop) h image live seated behind = (
  record {
    sets = h.0.sets;
    last = h.0.last;
    run = record { steps = h.0.steps; ends = (h.0.before, h.0.holds) };
    steps_are = h.0.count_is;
    fills = h.0.filled;
    text_is = append-nil (own_text number pieces) ∙ h.1;
  },
  h.0.own,
)

all_ran : (number frames : ℕ) (pool : Pool) (host : List ℕ) (present : ℕ) (whole : List Slice) (pieces : List Piece) (kernels : List Kernel)
    (tenants : List Tenant) → length tenants ≡ length kernels
    → EachStands number frames whole whole pieces kernels (seats_from frames host present number kernels tenants) (stops_of tenants)
    → AreSeated frames pool host (seats_from frames host present number kernels tenants)
    → (each : EachRan number frames whole pieces kernels (map ended_of tenants)) × EachHasOwnEnd number frames whole pieces kernels
    (map ended_of tenants) each host
all_ran number frames pool host present whole pieces [] [] len h seated = (tt, tt)
all_ran number frames pool host present whole pieces [] (t ∷ ts) len h seated = absurd (omega (arith, len))
all_ran number frames pool host present whole pieces (k ∷ ks) [] len h seated = absurd (omega (arith, len))
all_ran number frames pool host present whole pieces (k ∷ ks) (t ∷ ts) len h seated =
    let one =
    one_ran number frames pool host whole pieces k (seat_of frames host present number k t) t.stop h.0 refl refl seated.0 seated.2 in
    let rest = all_ran (suc number) frames pool host present whole pieces ks ts (omega (arith, len)) h.1 seated.3 in
    ((one.0, rest.0), (one.1, rest.1))

module _ (kernels : List Kernel) (frames : ℕ) (whole : List Slice) (pieces : List Piece) (tenants : List Tenant) (pool : Pool) (present : ℕ)
    (host : List ℕ) (before now : Counts) (old new : Option (List ℕ))
    (h : IsBetween kernels frames whole whole pieces tenants pool present host before now old new)
  where
    each_ran : (each : EachRan 0 frames whole pieces kernels (map ended_of tenants))
        × EachHasOwnEnd 0 frames whole pieces kernels (map ended_of tenants) each host
    each_ran = all_ran 0 frames pool host present whole pieces kernels tenants h.rooms.len h.each h.apart.seated

    rounded : (since : ℕ → Since)
        → HasGoneRound kernels frames whole pieces (record { tenants = tenants; pool = pool; present = present; memory = host }) since
        → EndsRound kernels frames whole pieces host (map ended_of tenants)
    rounded since gone = record {
      since = since;
      last = record { tenants = tenants; pool = pool; present = present; memory = host };
      gone = gone;
      memory_is = refl;
      ended_are = refl;
    }

    pub ends_shared : (since : ℕ → Since)
        → HasGoneRound kernels frames whole pieces (record { tenants = tenants; pool = pool; present = present; memory = host }) since
        → SharedRun kernels whole frames before now host (shared_text pieces (map ended_of tenants)) (map ended_of tenants)
    ends_shared since gone = record {
      pieces = pieces;
      turns = h.turns;
      each = each_ran.0;
      own = each_ran.1;
      text_is = refl;
      lines = lines_alone frames whole pieces kernels (map ended_of tenants) each_ran.0;
      counts = h.counts;
      rounds = rounded since gone;
    }

    pub ends_put : (last : Option (List ℕ)) → Appends new last (bound_texts 0 (map ended_of tenants))
        → Appends old last (shared_text pieces (map ended_of tenants))
    ends_put last put = both old new last (flat_map piece_text pieces) (bound_texts 0 (map ended_of tenants)) h.text put

    pub ends_fail : (since : ℕ → Since)
        → HasGoneRound kernels frames whole pieces (record { tenants = tenants; pool = pool; present = present; memory = host }) since
        → (last : Option (List ℕ)) → AppendsFront new last (bound_texts 0 (map ended_of tenants))
        → FailsAtEnd kernels whole frames host old last
    ends_fail since gone last put = record {
      pieces = pieces;
      ended = map ended_of tenants;
      turns = h.turns;
      each = each_ran.0;
      rounds = rounded since gone;
      front = then_front old new last (flat_map piece_text pieces) (bound_texts 0 (map ended_of tenants)) h.text put;
    }
