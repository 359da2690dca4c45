-- How far each kernel's run has come, turn by turn.
use Rattle.std.proofs.Common.{◌≡◌, ◌≢◌, inl, inr, ℕ, zero, suc, ◌+◌, ◌<◌, List, [], ◌∷◌, ◌++◌, length, set, get_or, Option, Some, None, refl, ap, sym, subst, ◌∙◌, arith, append-nil}
use Rattle.std.proofs.lemmas.Bool.Decides.{eqb_tells}
use Rattle.ia32_types.specs.declared.stop.Stop.{Stop}
use Rattle.run_trace.specs.Text.{lines_of, text_of}
use Rattle.run_trace.specs.declared.items.End.TheVariants.{Stopped}
use Rattle.machine_model.specs.Run.{trace_of}
use Rattle.machine_model.specs.Step.{Report}
use Rattle.wedge_core.specs.OfRoots.{of_roots}
use Rattle.wedge_step.specs.Standing.{state_of}
use Rattle.guest_sched.specs.Apart.{Seat, StaysSo, EachStays}
use Rattle.guest_sched.specs.Between.{StandsSo, EachStands}
use Rattle.guest_sched.specs.Legs.{HasRun, HasStopped}
use Rattle.guest_sched.specs.Pieces.{Piece, has_stopped, reports_of, own_text, stop_line}
use Rattle.guest_sched.specs.Bounds.{bound_of}
use Rattle.guest_sched.specs.Shared.{alone}
use Rattle.guest_sched.specs.declared.kernel.Kernel.{Kernel}
use Rattle.guest_sched.specs.declared.schedule.Slice.{Slice}
use Rattle.guest_sched.proofs.Legs.{forgotten}
use Rattle.guest_sched.proofs.Sums.{bound_append, for_another}
use Rattle.guest_sched.proofs.Turning.{reports_on, text_on, stopped_still, reports_off, text_off, stopped_off}

-- a kernel that stays as it is, but for its translations, where other turns were made
stands_on : (n frames : ℕ) (whole done done' : List Slice) (pieces pieces' : List Piece) (k : Kernel) (s s' : Seat) (stop : Option Stop)
    → StaysSo frames s s' → reports_of n pieces' ≡ reports_of n pieces → own_text n pieces' ≡ own_text n pieces
    → has_stopped n pieces' ≡ has_stopped n pieces → bound_of n done' ≡ bound_of n done → StandsSo n frames whole done pieces k s stop
    → StandsSo n frames whole done' pieces' k s' stop
stands_on n frames whole done done' pieces pieces' k s s' None same reports text stopped bound h = (
  subst (λ (r : List Report). HasRun (alone k frames) r s'.running.fills (state_of of_roots (alone k frames) s'.running s'.memory))
      (sym reports)
      (subst (λ (f : ℕ). HasRun (alone k frames) (reports_of n pieces) f (state_of of_roots (alone k frames) s'.running s'.memory))
      (sym same.fills)
      (forgotten (alone k frames) (reports_of n pieces) s.running.fills _ _ (same.state (alone k frames) refl) h.0)),
  same.step ∙ h.1 ∙ sym bound,
  text ∙ h.2 ∙ ap (λ (r : List Report). lines_of (trace_of r)) (sym reports),
  stopped ∙ h.3,
)
stands_on n frames whole done done' pieces pieces' k s s' (Some stop) same reports text stopped bound h = (
  subst (λ (r : List Report). HasStopped (alone k frames) (bound_of n whole) r s'.running.fills stop s'.running.step) (sym reports)
      (subst (λ (f : ℕ). HasStopped (alone k frames) (bound_of n whole) (reports_of n pieces) f stop s'.running.step) (sym same.fills)
      (subst (λ (c : ℕ). HasStopped (alone k frames) (bound_of n whole) (reports_of n pieces) s.running.fills stop c) (sym same.step) h.0)),
  text ∙ h.1 ∙ ap (λ (r : List Report). text_of (trace_of r) s.running.step (Stopped stop)) (sym reports)
      ∙ ap (λ (c : ℕ). text_of (trace_of (reports_of n pieces')) c (Stopped stop)) (sym same.step),
  stopped ∙ h.2,
)

-- each kernel, where no turn was made
pub all_stay : (n frames : ℕ) (whole done : List Slice) (pieces : List Piece) (ks : List Kernel) (ss ss' : List Seat)
    (stops : List (Option Stop)) → EachStays frames ss ss' → EachStands n frames whole done pieces ks ss stops
    → EachStands n frames whole done pieces ks ss' stops
all_stay n frames whole done pieces [] [] [] [] same h = tt
all_stay n frames whole done pieces [] [] (s' ∷ ss') stops same h = absurd same
all_stay n frames whole done pieces [] [] [] (t ∷ stops) same h = absurd h
all_stay n frames whole done pieces [] (s ∷ ss) ss' stops same h = absurd h
all_stay n frames whole done pieces (k ∷ ks) [] ss' stops same h = absurd h
all_stay n frames whole done pieces (k ∷ ks) (s ∷ ss) ss' [] same h = absurd h
all_stay n frames whole done pieces (k ∷ ks) (s ∷ ss) [] (t ∷ stops) same h = absurd same
all_stay n frames whole done pieces (k ∷ ks) (s ∷ ss) (s' ∷ ss') (t ∷ stops) same h = (
  stands_on n frames whole done done pieces pieces k s s' t same.0 refl refl refl refl h.0,
  all_stay (suc n) frames whole done pieces ks ss ss' stops same.1 h.1,
)

-- a turn was made by one of them
module _ (frames : ℕ) (whole done : List Slice) (pieces : List Piece) (slice : Slice) (p : Piece) (mine : p.kernel ≡ slice.kernel) where
  -- another stays
  other_on : (n : ℕ) (k : Kernel) (s s' : Seat) (stop : Option Stop) → n ≢ slice.kernel → StaysSo frames s s'
      → StandsSo n frames whole done pieces k s stop → StandsSo n frames whole (done ++ slice ∷ []) (pieces ++ p ∷ []) k s' stop
  other_on n k s s' stop differ same h =
      let others : p.kernel ≢ n = λ e. differ (sym e ∙ mine) in
      stands_on n frames whole done (done ++ slice ∷ []) pieces (pieces ++ p ∷ []) k s s' stop same (reports_off n p others pieces)
      (text_off n p others pieces) (stopped_off n p others pieces)
      (let sum = bound_append n done (slice ∷ []) in elim (eqb_tells slice.kernel n) [
        | inl e ↦ absurd (differ (sym e.1))
        | inr o ↦ (let none = for_another n slice o.0 in omega (arith, sum, none))
      ]) h

  -- those after it
  rest_on : (n : ℕ) (ks : List Kernel) (ss ss' : List Seat) (stops : List (Option Stop)) → slice.kernel < n → EachStays frames ss ss'
      → EachStands n frames whole done pieces ks ss stops
      → EachStands n frames whole (done ++ slice ∷ []) (pieces ++ p ∷ []) ks ss' stops
  rest_on n [] [] [] [] less same h = tt
  rest_on n [] [] (s' ∷ ss') stops less same h = absurd same
  rest_on n [] [] [] (t ∷ stops) less same h = absurd h
  rest_on n [] (s ∷ ss) ss' stops less same h = absurd h
  rest_on n (k ∷ ks) [] ss' stops less same h = absurd h
  rest_on n (k ∷ ks) (s ∷ ss) ss' [] less same h = absurd h
  rest_on n (k ∷ ks) (s ∷ ss) [] (t ∷ stops) less same h = absurd same
  rest_on n (k ∷ ks) (s ∷ ss) (s' ∷ ss') (t ∷ stops) less same h = (
    other_on n k s s' t (λ e. absurd (omega (arith, less, e))) same.0 h.0,
    rest_on (suc n) ks ss ss' stops (omega (arith, less)) same.1 h.1,
  )

  -- the kernel whose turn it was, between those before and after it
  pub went_stands : (i m : ℕ) (befores befores' afters afters' : List Seat) (s s' : Seat) (ks : List Kernel) (stops : List (Option Stop))
      (dk : Kernel) (dt new : Option Stop) → m ≡ length befores → slice.kernel ≡ i + m
      → EachStays frames befores befores' → EachStays frames afters afters'
      → EachStands i frames whole done pieces ks (befores ++ s ∷ afters) stops
      → ((k : Kernel) → k ≡ get_or ks m dk → StandsSo slice.kernel frames whole done pieces k s (get_or stops m dt) → StandsSo slice.kernel
      frames whole (done ++ slice ∷ []) (pieces ++ p ∷ []) k s' new)
      → EachStands i frames whole (done ++ slice ∷ []) (pieces ++ p ∷ []) ks (befores' ++ s' ∷ afters') (set stops m new)
  went_stands i m [] (b' ∷ befores') afters afters' s s' ks stops dk dt new len is sb sa h f = absurd sb
  went_stands i (suc m) [] [] afters afters' s s' ks stops dk dt new len is sb sa h f = absurd (omega (arith, len))
  went_stands i zero [] [] afters afters' s s' [] stops dk dt new len is sb sa h f = absurd h
  went_stands i zero [] [] afters afters' s s' (k ∷ ks) [] dk dt new len is sb sa h f = absurd h
  went_stands i zero [] [] afters afters' s s' (k ∷ ks) (t ∷ stops) dk dt new len is sb sa h f =
      let here : slice.kernel ≡ i = omega (arith, is) in (
        subst (λ (x : ℕ). StandsSo x frames whole (done ++ slice ∷ []) (pieces ++ p ∷ []) k s' new) here
            (f k refl (subst (λ (x : ℕ). StandsSo x frames whole done pieces k s t) (sym here) h.0)),
        rest_on (suc i) ks afters afters' stops (omega (arith, here)) sa h.1,
      )
  went_stands i m (b ∷ befores) [] afters afters' s s' ks stops dk dt new len is sb sa h f = absurd sb
  went_stands i zero (b ∷ befores) (b' ∷ befores') afters afters' s s' ks stops dk dt new len is sb sa h f = absurd (omega (arith, len))
  went_stands i (suc m) (b ∷ befores) (b' ∷ befores') afters afters' s s' [] stops dk dt new len is sb sa h f = absurd h
  went_stands i (suc m) (b ∷ befores) (b' ∷ befores') afters afters' s s' (k ∷ ks) [] dk dt new len is sb sa h f = absurd h
  went_stands i (suc m) (b ∷ befores) (b' ∷ befores') afters afters' s s' (k ∷ ks) (t ∷ stops) dk dt new len is sb sa h f = (
    other_on i k b b' t (λ e. absurd (omega (arith, e, is))) sb.0 h.0,
    went_stands (suc i) m befores befores' afters afters' s s' ks stops dk dt new (omega (arith, len)) (omega (arith, is)) sb.1 sa h.1 f,
  )

  -- one that has met a stop before does nothing
  skipped : (k : Kernel) (s : Seat) (stop : Stop) → p.reports ≡ [] → p.stop ≡ None → StandsSo slice.kernel frames whole done pieces k s
      (Some stop) → StandsSo slice.kernel frames whole (done ++ slice ∷ []) (pieces ++ p ∷ []) k s (Some stop)
  skipped k s stop none live h =
      let n = slice.kernel in
      let same : reports_of n (pieces ++ p ∷ []) ≡ reports_of n pieces =
      reports_on n p mine pieces ∙ ap (λ (l : List Report). reports_of n pieces ++ l) none ∙ append-nil (reports_of n pieces) in (
        subst (λ (r : List Report). HasStopped (alone k frames) (bound_of n whole) r s.running.fills stop s.running.step) (sym same) h.0,
        text_on n p mine pieces
            ∙ ap (λ (l : List ℕ). own_text n pieces ++ l) (nothing p none live)
            ∙ append-nil (own_text n pieces) ∙ h.1
            ∙ ap (λ (r : List Report). text_of (trace_of r) s.running.step (Stopped stop)) (sym same),
        stopped_still n pieces (p ∷ []) h.2,
      )
    where
      nothing : (q : Piece) → q.reports ≡ [] → q.stop ≡ None → lines_of (trace_of q.reports) ++ stop_line q.steps q.stop ≡ []
      nothing q none live = rw (none, live) refl

  pub skip_stands : (i : ℕ) (ks : List Kernel) (ss : List Seat) (stops : List (Option Stop)) (stop : Stop) → p.reports ≡ [] → p.stop ≡ None
      → ((j m : ℕ) → m ≡ i + j → j < length stops → m ≡ slice.kernel → get_or stops j None ≡ Some stop)
      → EachStands i frames whole done pieces ks ss stops → EachStands i frames whole (done ++ slice ∷ []) (pieces ++ p ∷ []) ks ss stops
  skip_stands i [] [] [] stop none live f h = tt
  skip_stands i [] [] (t ∷ stops) stop none live f h = absurd h
  skip_stands i [] (s ∷ ss) stops stop none live f h = absurd h
  skip_stands i (k ∷ ks) [] stops stop none live f h = absurd h
  skip_stands i (k ∷ ks) (s ∷ ss) [] stop none live f h = absurd h
  skip_stands i (k ∷ ks) (s ∷ ss) (t ∷ stops) stop none live f h = (
    elim (eqb_tells i slice.kernel) [
      | inl e ↦
          let is : t ≡ Some stop = f 0 i (omega arith) (omega arith) e.1 in
          subst (λ (x : ℕ). StandsSo x frames whole (done ++ slice ∷ []) (pieces ++ p ∷ []) k s t) (sym e.1)
          (subst (λ (o : Option Stop). StandsSo slice.kernel frames whole (done ++ slice ∷ []) (pieces ++ p ∷ []) k s o) (sym is)
          (skipped k s stop none live
          (subst (λ (o : Option Stop). StandsSo slice.kernel frames whole done pieces k s o) is
          (subst (λ (x : ℕ). StandsSo x frames whole done pieces k s t) e.1 h.0))))
      | inr o ↦ other_on i k s s t o.1 (record { step = refl; fills = refl; state = λ m is. inl refl }) h.0
    ],
    skip_stands (suc i) ks ss stops stop none live (λ j m is lt e. f (suc j) m (omega (arith, is)) (omega (arith, lt)) e) h.1,
  )
