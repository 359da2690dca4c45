-- What is owed before the last of some steps, and after it.
use Rattle.std.proofs.Common.{◌≡◌, ℕ, ◌≤◌, List, [], ◌∷◌, ◌++◌, false, ◌&&◌, ◌==◌, eqb, sym, ap, subst, ◌∙◌, inl, inr, arith}
use Rattle.std.specs.List.{All}
use Rattle.std.specs.Set.{distinct_count}
use Rattle.machine_model.specs.State.{Setting, State}
use Rattle.machine_model.specs.Taken.{Taken, loads_root}
use Rattle.machine_model.specs.Keeping.{leaves, root_in, roots_in, clashes}
use Rattle.kept_laws.specs.Remembered.{IsOwed}
use Rattle.kept_laws.specs.OverSteps.{IsCause, CausesOweNothing}
use Rattle.machine_model.proofs.Splits.{Split, At_end, Within, split_of}
use Rattle.kept_laws.proofs.Lists.{split_more, all_front, all_end, unwritten_front, roots_more}
use Rattle.kept_laws.proofs.Counts.{clash, but, few_front}

-- a step that loads no CR3 leaves no value
pub through_leaves : (c : ℕ) (t : Taken) → loads_root t ≡ false → leaves c t ≡ false
through_leaves c t e = ap (λ b. b && (t.before.cpu.cr3 == c)) e

-- ---- all but the last step

few_before : (c : ℕ) (left t : Taken) (since : List Taken) → distinct_count eqb (but c (roots_in (left ∷ since ++ t ∷ []))) ≤ 7
    → distinct_count eqb (but c (roots_in (left ∷ since))) ≤ 7
few_before c left t since h =
    let e = ap (λ (l : List ℕ). distinct_count eqb (but c l)) (roots_more (left ∷ since) t) in
    let f = few_front c (roots_in (left ∷ since)) (root_in t) in
    omega (arith, h, e, f)

pub owed_front : (m : Setting) (steps : List Taken) (t : Taken) (now : State) (c : ℕ) (old : List Taken) (left : Taken)
    (since before : List Taken)
    → IsOwed m (steps ++ t ∷ []) now c old left since → steps ≡ old ++ left ∷ before → since ≡ before ++ t ∷ []
    → IsOwed m steps t.before c old left before
owed_front m steps t now c old left since before o split is = record {
  split = split;
  is_left = o.is_left;
  is_last = all_front (λ (u : Taken). leaves c u ≡ false) before (t ∷ []) (subst (All (λ (u : Taken). leaves c u ≡ false)) is o.is_last);
  few = few_before c left t before (subst (λ (l : List Taken). distinct_count eqb (but c (roots_in (left ∷ l))) ≤ 7) is o.few);
  apart = λ front u back e. o.apart front u (back ++ t ∷ []) (is ∙ split_more before t front u back e);
  same = all_front (λ (u : Taken). (u.before.cpu.cr0 ≡ left.before.cpu.cr0) × (u.before.cpu.cr4 ≡ left.before.cpu.cr4)) before (t ∷ [])
      (same_at is o.same);
  same_now = all_end (λ (u : Taken). (u.before.cpu.cr0 ≡ left.before.cpu.cr0) × (u.before.cpu.cr4 ≡ left.before.cpu.cr4)) before t
      (same_at is o.same);
  unwritten = unwritten_front steps t o.unwritten;
}
  where
    same_at : since ≡ before ++ t ∷ []
        → All (λ (u : Taken). (u.before.cpu.cr0 ≡ left.before.cpu.cr0) × (u.before.cpu.cr4 ≡ left.before.cpu.cr4)) since
        → All (λ (u : Taken). (u.before.cpu.cr0 ≡ left.before.cpu.cr0) × (u.before.cpu.cr4 ≡ left.before.cpu.cr4)) (before ++ t ∷ [])
    same_at is h = subst (All (λ (u : Taken). (u.before.cpu.cr0 ≡ left.before.cpu.cr0) × (u.before.cpu.cr4 ≡ left.before.cpu.cr4))) is h

-- ---- the last step

pub last_leaves : (m : Setting) (steps : List Taken) (t : Taken) (now : State) (c : ℕ) (old : List Taken) (left : Taken)
    (since before : List Taken)
    → IsOwed m (steps ++ t ∷ []) now c old left since → since ≡ before ++ t ∷ [] → leaves c t ≡ false
last_leaves m steps t now c old left since before o is =
    all_end (λ (u : Taken). leaves c u ≡ false) before t (subst (All (λ (u : Taken). leaves c u ≡ false)) is o.is_last)

last_apart : (m : Setting) (steps : List Taken) (t : Taken) (now : State) (c : ℕ) (old : List Taken) (left : Taken)
    (since before : List Taken)
    → IsOwed m (steps ++ t ∷ []) now c old left since → steps ≡ old ++ left ∷ before → since ≡ before ++ t ∷ []
    → clashes m steps t.before ≡ false
last_apart m steps t now c old left since before o split is =
    subst (λ (l : List Taken). clashes m l t.before ≡ false) (sym split) (o.apart before t [] is)

last_same : (m : Setting) (steps : List Taken) (t : Taken) (now : State) (c : ℕ) (old : List Taken) (left : Taken)
    (since before : List Taken)
    → IsOwed m (steps ++ t ∷ []) now c old left since → since ≡ before ++ t ∷ [] → (now.cpu.cr0 ≡ t.before.cpu.cr0)
    × (now.cpu.cr4 ≡ t.before.cpu.cr4)
last_same m steps t now c old left since before o is =
    let h = all_end (λ (u : Taken). (u.before.cpu.cr0 ≡ left.before.cpu.cr0) × (u.before.cpu.cr4 ≡ left.before.cpu.cr4)) before t
    (subst (All (λ (u : Taken). (u.before.cpu.cr0 ≡ left.before.cpu.cr0) × (u.before.cpu.cr4 ≡ left.before.cpu.cr4))) is o.same) in
    (o.same_now.0 ∙ sym h.0, o.same_now.1 ∙ sym h.1)

by_split : (m : Setting) (steps : List Taken) (t : Taken) → IsCause m steps t
    → (c : ℕ) (old : List Taken) (left : Taken) (since : List Taken)
    → IsOwed m (steps ++ t ∷ []) t.after c old left since → Split steps t old left since → ⊥
by_split m steps t cause c old left since o (At_end same is none) =
    clash (leaves c left) o.is_left (subst (λ (u : Taken). leaves c u ≡ false) (sym is) (through_leaves c t cause.through))
by_split m steps t cause c old left since o (Within before split is) =
    elim cause.by [
      | inl e ↦ clash (clashes m steps t.before) e (last_apart m steps t t.after c old left since before o split is)
      | inr changed ↦ changed (last_same m steps t t.after c old left since before o is)
    ]

pub causes_owe_nothing : CausesOweNothing
causes_owe_nothing m steps t cause c old left since o =
    by_split m steps t cause c old left since o (split_of steps t old left since o.split)
