-- A turn in which the sink fails.
use Rattle.std.proofs.Common.{◌≡◌, ℕ, ◌+◌, ◌≤◌, ◌<◌, List, [], ◌∷◌, length, Option, Some, None, refl, ap, sym, subst, ◌∙◌, arith, append-nil, Result, Ok, Err}
use Rattle.std.specs.Prelude.{OnErr}
use Rattle.ia32_types.specs.declared.stop.Stop.{Stop}
use Rattle.pv_io.specs.Sink.{Appends, AppendsFront}
use Rattle.run_trace.specs.Text.{lines_of, end_line}
use Rattle.run_trace.specs.declared.items.End.{End}
use Rattle.run_trace.specs.declared.items.End.TheVariants as end
use Rattle.run_trace.specs.declared.items.Ended.{Ended}
use Rattle.run_trace.specs.declared.pause.Pause.{Pause}
use Rattle.run_trace.specs.declared.pause.Pause.TheVariants as pause
use Rattle.machine_model.specs.Run.{Set, Steps, StopHolds, trace_of}
use Rattle.machine_model.specs.State.{Setting, State, wedge}
use Rattle.machine_model.specs.Step.{Report}
use Rattle.machine_model.proofs.Counted.{counted_by}
use Rattle.wedge_core.specs.OfRoots.{of_roots}
use Rattle.wedge_core.specs.Slices.{PausesAs}
use Rattle.wedge_step.specs.Standing.{state_of}
use Rattle.guest_sched.specs.Tags.{tag_of, tagged}
use Rattle.guest_sched.specs.Went.{HasFailed}
use Rattle.guest_sched.specs.declared.kernel.Kernel.{Kernel}
use Rattle.guest_sched.specs.declared.tenants.Tenant.{Tenant}
use Rattle.guest_sched.proofs.Puts.{then_front}

pub on_err : {T E : Type 0} (result : Result T E) {P : Type 0} → P → OnErr result P
on_err (Ok x) p = tt
on_err (Err e) p = p

-- what a turn that pauses at a stop says
pub halting : (m : Setting) (bound : ℕ) (last new : State) (end : Set) (paused : Pause) (stop : Stop) → paused ≡ pause.Stopped stop
    → PausesAs m bound last new end (Ok paused) → (last.step < bound) × (new.step ≡ last.step) × StopHolds m last stop
halting m bound last new end pause.Reached stop is h = absurd (cc)
halting m bound last new end (pause.Stopped other) stop is h =
    (h.0, h.1, subst (λ (s : Stop). StopHolds m last s) (same other stop is) (record { set = end; allowed = h.2; halts = h.3 }))
  where
    same : (a b : Stop) → pause.Stopped a ≡ pause.Stopped b → a ≡ b
    same a b e = cc

-- each step reported
pub reports_counted : (m : Setting) (old : State) (sets : List Set) (reports : List Report) (last : State) → Steps m old sets reports last
    → last.step ≡ old.step + length reports
unfolding Steps
reports_counted m old [] reports last h =
    let is = ap (λ (b : State). b.step) h.1 in
    let none = ap length h.0 in
    omega (arith, is, none)
reports_counted m old (set ∷ sets) reports last h =
    let one = counted_by m old h.0 set h.1 h.4 in
    let rest = reports_counted m h.0 sets h.2 last h.5 in
    let more = ap length h.6 in
    omega (arith, one, rest, more)

module _ (kernel : Kernel) (number steps : ℕ) (host : List ℕ) (old : Tenant) (taken tells between : Option (List ℕ)) where
  abbrev m : Setting
  m = wedge kernel.image kernel.script.list old.guest.frames

  abbrev first : State
  first = state_of of_roots m old.guest host

  -- in the lines of its steps
  pub failed_in_steps : (sets : List Set) (reports : List Report) (last : State) → Steps m first sets reports last
      → last.step ≤ old.guest.step + steps → AppendsFront taken tells (tagged (tag_of number) (lines_of (trace_of reports)))
      → HasFailed kernel number steps host old taken tells
  failed_in_steps sets reports last h few front = record {
    sets = sets;
    piece = record { kernel = number; reports = reports; steps = last.step; stop = None };
    last = last;
    number_is = refl;
    steps_are = h;
    few = (let n = reports_counted m first sets reports last h in omega (arith, n, few));
    count = refl;
    stops = tt;
    front =
        subst (λ (l : List ℕ). AppendsFront taken tells l) (sym (append-nil (tagged (tag_of number) (lines_of (trace_of reports))))) front;
  }

  -- in the line of its stop
  pub failed_at_stop : (sets : List Set) (reports : List Report) (last new : State) (set : Set) (paused : Pause) (stop : Stop)
      (ended : Ended) → paused ≡ pause.Stopped stop → Steps m first sets reports last
      → PausesAs m (old.guest.step + steps) last new set (Ok paused)
      → Appends taken between (tagged (tag_of number) (lines_of (trace_of reports)))
      → ended.steps ≡ new.step → ended.end ≡ end.Stopped stop
      → AppendsFront between tells (tagged (tag_of number) (end_line ended.steps ended.end))
      → HasFailed kernel number steps host old taken tells
  failed_at_stop sets reports last new set paused stop ended is h ends put count end_is front =
      let e = halting m (old.guest.step + steps) last new set paused stop is ends in record {
        sets = sets;
        piece = record { kernel = number; reports = reports; steps = last.step; stop = Some stop };
        last = last;
        number_is = refl;
        steps_are = h;
        few = (let n = reports_counted m first sets reports last h in let less = e.0 in omega (arith, n, less));
        count = refl;
        stops = e.2;
        front = then_front taken between tells (tagged (tag_of number) (lines_of (trace_of reports)))
            (tagged (tag_of number) (end_line last.step (end.Stopped stop))) put
            (subst (λ (k : ℕ). AppendsFront between tells (tagged (tag_of number) (end_line k (end.Stopped stop)))) (count ∙ e.1)
            (subst (λ (x : End). AppendsFront between tells (tagged (tag_of number) (end_line ended.steps x))) end_is front));
      }
