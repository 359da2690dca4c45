-- A run that is looked at up to a bound.
use Rattle.std.proofs.Common.{◌≡◌, ℕ, suc, ◌<◌, ◌≤◌, ◌^◌, List, [], ◌∷◌, ◌++◌, refl, sym, ap, subst, ◌∙◌, arith}
use Rattle.std.specs.Prelude.{Any, slice_index}
use Rattle.std.proofs.lemmas.List.{append-nil}
use Rattle.ia32_types.specs.declared.stop.Stop.{Stop}
use Rattle.board.specs.Scripts.{Events}
use Rattle.image_check.specs.Image.{Image}
use Rattle.run_trace.specs.declared.items.End.{End}
use Rattle.run_trace.specs.declared.items.End.TheVariants.{Bound, Stopped}
use Rattle.machine_model.specs.State.{State, boot}
use Rattle.machine_model.specs.Step.{Report}
use Rattle.bare_machine.specs.Settings.{bare}
use Rattle.look_words.specs.Words.{Aspect}
use Rattle.look_words.specs.View.{AreSteps}
use Rattle.pv_look.specs.Onward.{Watch, Shows, StopsAt, up_to, watch_bare}
use Rattle.pv_look.specs.Before.{ShowsEach, Each, ToStop, IsBound, end_part}
use Rattle.pv_look.proofs.Onwards.{below_bound}

-- a bound above all of them
all_below : (bound : ℕ) (steps : List ℕ) → ((i : ℕ) → slice_index steps i ≤ 2 ^ 40) → 2 ^ 40 < bound → up_to bound steps ≡ steps
all_below bound [] most lt = refl
all_below bound (n ∷ ns) most lt =
    let first : n ≤ 2 ^ 40 = most 0 in
    below_bound bound n ns (omega (arith, first, lt)) ∙ ap (λ (l : List ℕ). n ∷ l) (all_below bound ns (λ i. most (suc i)) lt)

pub shows_each : (w : Watch) (steps : List ℕ) (bound : ℕ) (end : End) (reports : List Report) (text : List ℕ) (last : State)
    → AreSteps steps → IsBound w steps bound end → Shows w (boot w.setting) (up_to bound steps) reports text last → ShowsEach w steps
    (text ++ end_part bound end) end
shows_each w steps bound Bound reports text last are known h =
    subst (λ (t : List ℕ). ShowsEach w steps t Bound) (sym (append-nil text))
    (Each reports text last (subst (λ (l : List ℕ). Shows w (boot w.setting) l reports text last) (all_below bound steps are.1 known) h))
shows_each w steps bound (Stopped stop) reports text last are known h = ToStop bound stop reports text last known.1 known.0 h

-- ---- from a machine that stands at the boot

pub seen_whole : (image : Image) (events : Events) (f frames : ℕ) (of : Aspect) (bound : ℕ) (steps : List ℕ) (old new : State)
    (told tells : List ℕ)
    → f ≡ frames → old ≡ boot (bare image events frames) → told ≡ []
    → (reports : List Report) × (more : List ℕ) × Shows (watch_bare image events f of) old (up_to bound steps) reports more new ×
    (tells ≡ told ++ more)
    → (reports : List Report) × (last : State) × Shows (watch_bare image events frames of) (boot (bare image events frames))
    (up_to bound steps) reports tells last
seen_whole image events f frames of bound steps old new told tells same begun none h =
    let framed = subst (λ (k : ℕ). Shows (watch_bare image events k of) old (up_to bound steps) h.0 h.1 new) same h.2 in
    let booted = subst (λ (b : State). Shows (watch_bare image events frames of) b (up_to bound steps) h.0 h.1 new) begun framed in
    let text : tells ≡ h.1 = h.3 ∙ ap (λ (t : List ℕ). t ++ h.1) none in (
      h.0,
      new,
      subst (λ (t : List ℕ). Shows (watch_bare image events frames of) (boot (bare image events frames)) (up_to bound steps) h.0 t
          new) (sym text) booted,
    )

pub seen_stop : (image : Image) (events : Events) (f frames : ℕ) (of : Aspect) (bound : ℕ) (steps : List ℕ) (old : State)
    (at count : ℕ) (stop : Stop)
    → f ≡ frames → old ≡ boot (bare image events frames) → count ≡ at
    → (at < bound) × Any (λ (n : ℕ). at < n) steps × StopsAt (watch_bare image events f of) old at stop
    → (count < bound) × Any (λ (n : ℕ). count < n) steps × StopsAt (watch_bare image events frames of) (boot (bare image events frames))
    count stop
seen_stop image events f frames of bound steps old at count stop same begun is h =
    let framed = subst (λ (k : ℕ). StopsAt (watch_bare image events k of) old at stop) same h.2 in
    let booted = subst (λ (b : State). StopsAt (watch_bare image events frames of) b at stop) begun framed in
    subst (λ (k : ℕ). (k < bound) × Any (λ (n : ℕ). k < n) steps × StopsAt (watch_bare image events frames of)
    (boot (bare image events frames)) k stop) (sym is) (h.0, h.1, booted)
