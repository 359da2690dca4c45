-- What is known between two steps in a state with another set: all but the set is the same.
use Rattle.std.proofs.Common.{◌≡◌, ◌⊎◌, inl, inr, Bool, true, false, List, [], ◌∷◌, reverse, refl, sym, ap, ◌∙◌}
use Rattle.std.specs.Prelude.{ℕ, if◌then◌else◌}
use Rattle.std.specs.FinMap.{empty}
use Rattle.shadow_tables.specs.Sight.{Sight}
use Rattle.machine_model.specs.State.{Setting, State}
use Rattle.machine_model.specs.Run.{Set, with_set}
use Rattle.machine_model.specs.Taken.{Taken, loads_root}
use Rattle.machine_model.specs.Clash.{clashes_from}
use Rattle.machine_model.specs.Keeping.{Returns, KeptBehind, held_by, set_left}
use Rattle.kept_laws.specs.Known.{IsKnown}
use Rattle.kept_laws.specs.Remembered.{IsOwed}

owed_with : (m : Setting) (steps : List Taken) (b : State) (x y : Set) (c : ℕ) (old : List Taken) (left : Taken) (since : List Taken)
    → IsOwed m steps (with_set b y) c old left since → IsOwed m steps (with_set b x) c old left since
owed_with m steps b x y c old left since o = record {
  split = o.split;
  is_left = o.is_left;
  is_last = o.is_last;
  few = o.few;
  apart = o.apart;
  same = o.same;
  same_now = o.same_now;
  unwritten = o.unwritten;
}

returns_with : (m : Setting) (steps : List Taken) (b : State) (x y : Set) (c : ℕ) (old : List Taken) (left : Taken) (since : List Taken)
    → Returns m steps (with_set b y) c old left since → Returns m steps (with_set b x) c old left since
returns_with m steps b x y c old left since r = record {
  split = r.split;
  is_left = r.is_left;
  is_last = r.is_last;
  few = r.few;
  apart = r.apart;
  same = r.same;
  same_now = r.same_now;
  unwritten = r.unwritten;
}

left_with : (m : Setting) (steps past : List Taken) (b : State) (whole kept : Set)
    → KeptBehind false m steps past (with_set b whole) kept → KeptBehind false m steps past (with_set b kept) kept
left_with m steps [] b whole kept h = h
left_with m steps (last ∷ past) b whole kept (inl h) =
    inl (h.0, λ old left since r. h.1 old left since (returns_with m steps b whole kept last.after.cpu.cr3 old left since r))
left_with m steps (last ∷ past) b whole kept (inr h) = inr (h.0, inl refl)

-- by what a step is judged to clash, after a load of CR3 and after any other step
judged_back : (load : Bool) (back whole kept : Set) → load ≡ true → (if load then back else kept) ≡ (if load then back else whole)
judged_back true back whole kept is = refl
judged_back false back whole kept is = absurd (cc)

judged_here : (load : Bool) (back kept : Set) → load ≡ false → (if load then back else kept) ≡ kept
judged_here true back kept is = absurd (cc)
judged_here false back kept is = refl

next_with : (m : Setting) (steps past : List Taken) (b : State) (whole kept set : Set)
    → (set ≡ kept) ⊎ ((set ≡ empty) × (clashes_from m (with_set b kept) ≡ true))
    → KeptBehind (clashes_from m (with_set b (held_by past whole))) m steps past (with_set b whole) set
    → KeptBehind (clashes_from m (with_set b (held_by past kept))) m steps past (with_set b kept) set
next_with m steps [] b whole kept set by h = h
next_with m steps (last ∷ past) b whole kept set by (inl h) =
    let same = judged_back (loads_root last) (set_left last.after.cpu.cr3 (last ∷ past)) whole kept h.0 in
    inl (
      h.0,
      λ old left since r none. h.1 old left since (returns_with m steps b whole kept last.after.cpu.cr3 old left since r)
          (ap (λ (x : Set). clashes_from m (with_set b x)) (sym same) ∙ none),
    )
next_with m steps (last ∷ past) b whole kept set by (inr h) =
    let here = judged_here (loads_root last) (set_left last.after.cpu.cr3 (last ∷ past)) kept h.0 in
    inr (
      h.0,
      elim by [
        | inl is ↦ inl is
        | inr e ↦ inr (e.0, inl (ap (λ (x : Set). clashes_from m (with_set b x)) here ∙ e.1))
      ],
    )

-- what is known with what is kept is known too of the state in which that stands
pub known_with : (m : Setting) (steps : List Taken) (b : State) (v : Sight) (whole kept : Set) → IsKnown m steps (with_set b whole) v kept
    → IsKnown m steps (with_set b kept) v kept
known_with m steps b v whole kept k = record {
  remembered = record {
    other = k.remembered.other;
    of_one = k.remembered.of_one;
    noted_read = k.remembered.noted_read;
    all_read = k.remembered.all_read;
    unmarked = k.remembered.unmarked;
    each = λ c old left since apart owed. k.remembered.each c old left since apart (owed_with m steps b whole kept c old left since owed);
  };
  found = record { each = λ c old left since owed. k.found.each c old left since (owed_with m steps b whole kept c old left since owed) };
  left = left_with m steps (reverse steps) b whole kept k.left;
  next = λ set by. next_with m steps (reverse steps) b whole kept set by (k.next set by);
}
