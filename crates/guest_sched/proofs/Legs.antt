-- A turn goes on from where the turn before has left its kernel.
use Rattle.std.proofs.Common.{◌≡◌, ℕ, ◌*◌, ◌≤◌, List, [], ◌∷◌, ◌++◌, refl, ap, sym, subst, ◌∙◌, inl, inr, arith, append_assoc, length-append, Ok}
use Rattle.std.specs.FinMap.{empty, len, get-empty, len-empty}
use Rattle.std.specs.List.{All}
use Rattle.std.specs.Ordering.{nat_cmp}
use Rattle.std.proofs.lemmas.List.{get_or_append_left}
use Rattle.std.proofs.lemmas.List.Elements.{All-nil, All-cons, All-append, All-weaker}
use Rattle.ia32_types.specs.declared.stop.Stop.{Stop}
use Rattle.paging.specs.declared.entry.Entry.{Entry}
use Rattle.run_trace.specs.declared.pause.Pause.TheVariants as pause
use Rattle.machine_model.specs.State.{Setting, State, Loosened, boot}
use Rattle.machine_model.specs.Step.{Report, Halts, step_of}
use Rattle.machine_model.specs.Run.{Set, Steps, StopHolds, with_set}
use Rattle.machine_model.proofs.Runs.{steps_join}
use Rattle.wedge_core.specs.Slices.{Filling, Outward}
use Rattle.wedge_step.specs.Filled.{CountsFills}
use Rattle.wedge_step.proofs.Bools.{none_some}
use Rattle.guest_sched.specs.Apart.{MayForget}
use Rattle.guest_sched.specs.Legs.{HasRun, HasStopped}
use Rattle.guest_sched.specs.Turns.{TurnAs}

-- what may be dropped of what may be dropped may be dropped at once
loosened_on : (m : Setting) (b : State) (end set : Set) → Loosened m b end → Loosened m (with_set b end) set → Loosened m b set
loosened_on m b end set first second = record {
  each = λ page e is. elim (second.each page e is) [
    | inl kept ↦ first.each page e kept
    | inr found ↦ inr (record {
      page_in = found.page_in;
      dir_at = found.dir_at;
      word_at = found.word_at;
      dirty = found.dirty;
      found = found.found;
      accessed = found.accessed;
      is_dirty = found.is_dirty;
    })
  ];
}

-- steps from a state with other translations, from which a run may go on
record GoOn (m : Setting) (b : State) (sets : List Set) (reports : List Report) (new : State) : Type 0 where
  last : State
  steps : Steps m b sets reports last
  same : new ≡ with_set last new.set
  looser : (set : Set) → Loosened m new set → Loosened m last set

go_on : (m : Setting) (b : State) (end : Set) (sets : List Set) (reports : List Report) (new : State) → Loosened m b end
    → Steps m (with_set b end) sets reports new → GoOn m b sets reports new
unfolding Steps step_of
go_on m b end [] reports new allowed h = record {
  last = b;
  steps = (h.0, refl);
  same = h.1 ∙ ap (λ (set : Set). with_set b set) (sym (ap (λ (s : State). s.set) h.1));
  looser = λ set l. loosened_on m b end set allowed (subst (λ (s : State). Loosened m s set) h.1 l);
}
go_on m b end (set ∷ sets) reports new allowed h = record {
  last = new;
  steps = (h.0, h.1, h.2, loosened_on m b end set allowed h.3, h.4, h.5, h.6);
  same = refl;
  looser = λ s l. l;
}

-- no more pages are in any of these sets, in the one that a run goes on with, and in those of its next steps
module _ (pages fills filled : ℕ) (kept : pages ≤ fills) where
  fewer : (set : Set) → CountsFills pages (len set) fills filled → len set ≤ filled
  fewer set f = (let e = f.enough in omega (arith, e, kept))

  rises : (sets : List Set) (end : Set) → All (λ (set : Set). CountsFills pages (len set) fills filled) (sets ++ end ∷ []) → fills ≤ filled
  rises [] end h = (h 0 end (omega arith)).rises
  rises (set ∷ sets) end h = (h 0 set (omega arith)).rises

  enough_on : (olds : List Set) (last : Set) (sets : List Set) (end : Set) → All (λ (set : Set). len set ≤ fills) (olds ++ last ∷ [])
      → All (λ (set : Set). CountsFills pages (len set) fills filled) (sets ++ end ∷ [])
      → All (λ (set : Set). len set ≤ filled) ((olds ++ sets) ++ end ∷ [])
  enough_on olds last sets end first second =
      let up = rises sets end second in
      let left : All (λ (set : Set). len set ≤ filled) olds =
      λ i d lt. (let f = first i d (omega (arith, lt, length-append olds (last ∷ []))) in
      subst (λ (set : Set). len set ≤ filled) (get_or_append_left olds (last ∷ []) d i lt) (omega (arith, f, up))) in
      subst (λ (l : List Set). All (λ (set : Set). len set ≤ filled) l) (sym (append_assoc olds sets (end ∷ [])))
      (All-append (λ (set : Set). len set ≤ filled) olds (sets ++ end ∷ []) left
      (All-weaker (λ (set : Set). CountsFills pages (len set) fills filled) (λ (set : Set). len set ≤ filled) fewer
      (sets ++ end ∷ []) second))

module _ (m : Setting) (tag : List ℕ) (bound : ℕ) (old new : State) (out : Outward) (filling : Filling) (reports : List Report)
    (h : HasRun m reports filling.fills old) (kept : filling.pages ≤ filling.fills) (few : filling.filled ≤ 128 * new.step)
  where
    -- the turn made all its steps
    pub runs_on : (t : TurnAs m tag bound old new out filling (Ok pause.Reached)) → HasRun m (reports ++ t.reports) filling.filled new
        × (new.step ≡ bound)
    runs_on t =
        let g = go_on m h.last h.end t.sets t.reports t.last h.allowed
        (subst (λ (s : State). Steps m s t.sets t.reports t.last) h.stands t.steps) in
        let e = t.ends in
        let stands : new ≡ with_set g.last t.end = e.1 ∙ ap (λ (s : State). with_set s t.end) g.same in
        let same : new.step ≡ g.last.step = ap (λ (s : State). s.step) stands in (
          record {
            sets = h.sets ++ t.sets;
            last = g.last;
            end = t.end;
            steps = steps_join m (boot m) h.last g.last h.sets t.sets reports t.reports h.steps g.steps;
            stands = stands;
            allowed = g.looser t.end e.2;
            enough = enough_on filling.pages filling.fills filling.filled kept h.sets h.end t.sets t.end h.enough t.each_filled;
            few = omega (arith, few, same);
          },
          ap (λ (s : State). s.step) e.1 ∙ e.0,
        )

    -- it ended at a stop, before the bound of the kernel's run
    pub stops_on : (n : ℕ) → bound ≤ n → (stop : Stop) (t : TurnAs m tag bound old new out filling (Ok (pause.Stopped stop)))
        → HasStopped m n (reports ++ t.reports) filling.filled stop new.step
    unfolding step_of
    stops_on n within stop t =
        let g = go_on m h.last h.end t.sets t.reports t.last h.allowed
        (subst (λ (s : State). Steps m s t.sets t.reports t.last) h.stands t.steps) in
        let e = t.ends in
        let low = e.0 in
        let same : t.last.step ≡ g.last.step = ap (λ (s : State). s.step) g.same in
        let count : new.step ≡ g.last.step = e.1 ∙ same in
        record {
          sets = h.sets ++ t.sets;
          last = g.last;
          steps = steps_join m (boot m) h.last g.last h.sets t.sets reports t.reports h.steps g.steps;
          count_is = count;
          before = omega (arith, low, within, same);
          holds = record {
            set = t.end;
            allowed = g.looser t.end e.2;
            halts = subst (λ (s : State). step_of m s t.end ≡ Halts stop) g.same e.3;
          };
          filled = record {
            end = t.end;
            allowed = g.looser t.end e.2;
            enough = enough_on filling.pages filling.fills filling.filled kept h.sets h.end t.sets t.end h.enough t.each_filled;
            few = omega (arith, few, count);
          };
          own = refl;
        }

-- some steps more, and what stops after them
pub record BeganOn (m : Setting) (reports : List Report) (last : State) : Type 0 where
  pub sets : List Set
  pub then_ : State
  pub steps : Steps m (boot m) sets reports then_
  pub count : last.step ≡ then_.step
  pub stops : (stop : Stop) → StopHolds m last stop → StopHolds m then_ stop

pub began_on : (m : Setting) (reports later : List Report) (fills : ℕ) (old last : State) (sets : List Set) → HasRun m reports fills old
    → Steps m old sets later last → BeganOn m (reports ++ later) last
unfolding step_of
began_on m reports later fills old last sets h steps =
    let g = go_on m h.last h.end sets later last h.allowed (subst (λ (s : State). Steps m s sets later last) h.stands steps) in
    record {
      sets = h.sets ++ sets;
      then_ = g.last;
      steps = steps_join m (boot m) h.last g.last h.sets sets reports later h.steps g.steps;
      count = ap (λ (s : State). s.step) g.same;
      stops = λ stop holds. record {
        set = holds.set;
        allowed = g.looser holds.set holds.allowed;
        halts = subst (λ (s : State). step_of m s holds.set ≡ Halts stop) g.same holds.halts;
      };
    }

-- a kernel whose translations were forgotten may go on
pub forgotten : (m : Setting) (reports : List Report) (fills : ℕ) (old new : State) → MayForget old new → HasRun m reports fills old
    → HasRun m reports fills new
forgotten m reports fills old new may h = elim may [
  | inl same ↦ subst (λ (s : State). HasRun m reports fills s) (sym same) h
  | inr gone ↦ record {
    sets = h.sets;
    last = h.last;
    end = empty;
    steps = h.steps;
    stands = gone ∙ ap (λ (s : State). with_set s empty) h.stands;
    allowed = record { each = λ page e is. absurd (none_some e (sym (get-empty nat_cmp page) ∙ is)) };
    enough = All-append (λ (set : Set). len set ≤ fills) h.sets (empty ∷ []) (front_of h.sets h.end h.enough)
        (All-cons (λ (set : Set). len set ≤ fills) empty [] (let n = len-empty nat_cmp Entry in omega (arith, n))
        (All-nil (λ (set : Set). len set ≤ fills)));
    few = h.few;
  }
]
  where
    front_of : (sets : List Set) (end : Set) → All (λ (set : Set). len set ≤ fills) (sets ++ end ∷ [])
        → All (λ (set : Set). len set ≤ fills) sets
    front_of sets end all i d lt = subst (λ (set : Set). len set ≤ fills) (get_or_append_left sets (end ∷ []) d i lt)
        (all i d (omega (arith, lt, length-append sets (end ∷ []))))
