-- A turn that was made, of the kernel whose turn it was.
use Rattle.std.proofs.Common.{◌≡◌, ℕ, ◌+◌, ◌*◌, ◌≤◌, ◌<◌, List, [], ◌∷◌, ◌++◌, length, Option, Some, None, is_none, refl, ap, sym, subst, ◌∙◌, arith, append_assoc, append-nil, Ok}
use Rattle.ia32_types.specs.declared.stop.Stop.{Stop}
use Rattle.pv_io.specs.Sink.{Appends}
use Rattle.run_trace.specs.Text.{lines_of, text_of, end_line}
use Rattle.run_trace.specs.declared.items.Item.{Item}
use Rattle.run_trace.specs.declared.items.End.TheVariants as end
use Rattle.run_trace.specs.declared.pause.Pause.{Pause}
use Rattle.run_trace.specs.declared.pause.Pause.TheVariants.{Reached, Stopped}
use Rattle.machine_model.specs.Run.{trace_of}
use Rattle.machine_model.specs.State.{Setting, State}
use Rattle.machine_model.specs.Step.{Report}
use Rattle.machine_model.proofs.Texts.{reported}
use Rattle.wedge_core.specs.OfRoots.{of_roots}
use Rattle.wedge_core.specs.Slices.{Counts, Filling, Outward}
use Rattle.wedge_step.specs.Filled.{pages_kept}
use Rattle.wedge_step.specs.Standing.{state_of}
use Rattle.guest_sched.specs.Apart.{Seat}
use Rattle.guest_sched.specs.Between.{StandsSo}
use Rattle.guest_sched.specs.Legs.{HasRun, HasStopped}
use Rattle.guest_sched.specs.Pieces.{Piece, MakesSteps, has_stopped, reports_of, own_text, piece_text}
use Rattle.guest_sched.specs.Bounds.{bound_of}
use Rattle.guest_sched.specs.Shared.{alone}
use Rattle.guest_sched.specs.Tags.{tag_of, tagged}
use Rattle.guest_sched.specs.Went.{EndsSo}
use Rattle.guest_sched.specs.declared.kernel.Kernel.{Kernel}
use Rattle.guest_sched.specs.declared.schedule.Slice.{Slice}
use Rattle.guest_sched.specs.declared.tenants.Tenant.{Tenant}
use Rattle.guest_sched.proofs.Failing.{reports_counted}
use Rattle.guest_sched.proofs.Legs.{runs_on, stops_on}
use Rattle.guest_sched.proofs.Puts.{both}
use Rattle.guest_sched.proofs.Wide.{TurnAs}
use Rattle.guest_sched.proofs.Turning.{reports_on, text_on, stopped_on}

pub whole_text : (items : List Item) (count : ℕ) (stop : Stop) → lines_of items ++ end_line count (end.Stopped stop) ≡ text_of items
    count (end.Stopped stop)
unfolding text_of
whole_text items count stop = refl

abbrev pub piece_of : ℕ → List Report → ℕ → Option Stop → Piece
piece_of n reports steps stop = record { kernel = n; reports = reports; steps = steps; stop = stop }

-- the kernel's seat, while its memory is the host's
abbrev pub seat_here : Kernel → List ℕ → Tenant → Seat
seat_here k host t = record { image = k.image; running = t.guest; memory = host; live = is_none t.stop }

module _ (n steps frames : ℕ) (whole done : List Slice) (slice : Slice) (pieces : List Piece) (k : Kernel) (host host' : List ℕ)
    (t t' : Tenant) (before after : Counts) (taken between tells : Option (List ℕ))
    (here : slice.kernel ≡ n) (steps_are : slice.steps ≡ steps)
    (bound : t.guest.step + steps ≤ bound_of n whole) (grows : bound_of n (done ++ slice ∷ []) ≡ bound_of n done + steps)
    (kept : pages_kept of_roots t.guest.shadows host ≤ t.guest.fills) (few : t'.guest.fills ≤ 128 * t'.guest.step)
    (h : StandsSo n frames whole done pieces k (seat_here k host t) None)
  where
    abbrev m : Setting
    m = alone k frames

    abbrev old : State
    old = state_of of_roots m t.guest host

    abbrev new : State
    new = state_of of_roots m t'.guest host'

    abbrev Turn : Pause → Type 0
    Turn pause = TurnAs m (tag_of n) (t.guest.step + steps) old new before after taken between (pages_kept of_roots t.guest.shadows host)
        t.guest.fills t'.guest.fills (Ok pause)

    abbrev out : Outward
    out = record { before = before; after = after; told = taken; tells = between }

    abbrev filling : Filling
    filling = record { pages = pages_kept of_roots t.guest.shadows host; fills = t.guest.fills; filled = t'.guest.fills }

    -- how it stands then, what its text is, and how many steps it made
    pub record Turned (reports : List Report) : Type 0 where
      pub stands : StandsSo n frames whole (done ++ slice ∷ []) (pieces ++ piece_of n reports t'.guest.step t'.stop ∷ []) k
          (seat_here k host' t') t'.stop
      pub text : Appends taken tells (piece_text (piece_of n reports t'.guest.step t'.stop))
      pub makes : MakesSteps (has_stopped n pieces) steps reports t'.stop
      pub few_made : length reports ≤ steps

    reached : (turn : Turn Reached) → EndsSo n t' between tells Reached → Turned turn.reports
    reached turn ends =
        let run = runs_on m (tag_of n) (t.guest.step + steps) old new out filling (reports_of n pieces) h.0 kept few turn in
        let counted = reports_counted m old turn.sets turn.reports turn.last turn.steps in
        let last = turn.ends.0 in
        let made : length turn.reports ≡ steps = omega (arith, counted, last) in
        let p = piece_of n turn.reports t'.guest.step None in
        let stop = ends.0 in
        let now = run.1 in
        let was = h.1 in
        record {
          stands =
              subst (λ (o : Option Stop). StandsSo n frames whole (done ++ slice ∷ [])
              (pieces ++ piece_of n turn.reports t'.guest.step o ∷ []) k (seat_here k host' t') o) (sym stop) (
                subst (λ (r : List Report). HasRun m r t'.guest.fills new) (sym (reports_on n p refl pieces)) run.0,
                omega (arith, now, was, grows),
                text_on n p refl pieces ∙ ap (λ (l : List ℕ). own_text n pieces ++ l) (append-nil (lines_of (trace_of turn.reports)))
                    ∙ ap (λ (l : List ℕ). l ++ lines_of (trace_of turn.reports)) h.2
                    ∙ sym (reported (reports_of n pieces) turn.reports) ∙ ap (λ (r : List Report). lines_of (trace_of r))
                    (sym (reports_on n p refl pieces)),
                stopped_on n p refl pieces h.3,
              );
          text = subst (λ (o : Option Stop). Appends taken tells (piece_text (piece_of n turn.reports t'.guest.step o))) (sym stop)
              (subst (λ (l : List ℕ). Appends taken tells l) (sym (append-nil (tagged (tag_of n) (lines_of (trace_of turn.reports)))))
              (subst (λ (o : Option (List ℕ)). Appends taken o (tagged (tag_of n) (lines_of (trace_of turn.reports))))
              (sym ends.1) turn.text));
          makes = subst (λ (o : Option Stop). MakesSteps (has_stopped n pieces) steps turn.reports o) (sym stop)
              (subst (λ b. MakesSteps b steps turn.reports None) (sym h.3) made);
          few_made = omega (arith, made);
        }

    halted : (stop : Stop) (turn : Turn (Stopped stop)) → EndsSo n t' between tells (Stopped stop) → Turned turn.reports
    halted stop turn ends =
        let run = stops_on m (tag_of n) (t.guest.step + steps) old new out filling (reports_of n pieces) h.0 kept few
        (bound_of n whole) bound stop turn in
        let counted = reports_counted m old turn.sets turn.reports turn.last turn.steps in
        let last = turn.ends.0 in
        let made : length turn.reports < steps = omega (arith, counted, last) in
        let p = piece_of n turn.reports t'.guest.step (Some stop) in
        let is = ends.0 in
        record {
          stands =
              subst (λ (o : Option Stop). StandsSo n frames whole (done ++ slice ∷ [])
              (pieces ++ piece_of n turn.reports t'.guest.step o ∷ []) k (seat_here k host' t') o) (sym is) (
                subst (λ (r : List Report). HasStopped m (bound_of n whole) r t'.guest.fills stop t'.guest.step)
                    (sym (reports_on n p refl pieces)) run,
                text_on n p refl pieces
                    ∙ ap (λ (l : List ℕ). l ++ (lines_of (trace_of turn.reports) ++ end_line t'.guest.step (end.Stopped stop))) h.2
                    ∙ sym (append_assoc (lines_of (trace_of (reports_of n pieces))) (lines_of (trace_of turn.reports))
                    (end_line t'.guest.step (end.Stopped stop)))
                    ∙ ap (λ (l : List ℕ). l ++ end_line t'.guest.step (end.Stopped stop))
                    (sym (reported (reports_of n pieces) turn.reports))
                    ∙ whole_text (trace_of (reports_of n pieces ++ turn.reports)) t'.guest.step stop
                    ∙ ap (λ (r : List Report). text_of (trace_of r) t'.guest.step (end.Stopped stop)) (sym (reports_on n p refl pieces)),
                stopped_on n p refl pieces h.3,
              );
          text = subst (λ (o : Option Stop). Appends taken tells (piece_text (piece_of n turn.reports t'.guest.step o))) (sym is)
              (both taken between tells (tagged (tag_of n) (lines_of (trace_of turn.reports)))
              (tagged (tag_of n) (end_line t'.guest.step (end.Stopped stop))) turn.text ends.1);
          makes = subst (λ (o : Option Stop). MakesSteps (has_stopped n pieces) steps turn.reports o) (sym is)
              (subst (λ b. MakesSteps b steps turn.reports (Some stop)) (sym h.3) made);
          few_made = omega (arith, made);
        }

    pub turned : (pause : Pause) (turn : Turn pause) → EndsSo n t' between tells pause → Turned turn.reports
    turned Reached turn ends = reached turn ends
    turned (Stopped stop) turn ends = halted stop turn ends
