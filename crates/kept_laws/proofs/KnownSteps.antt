-- What a run knows between two of its steps goes on over its steps.
use Rattle.std.proofs.Common.{◌≡◌, ℕ, ◌*◌, ◌≤◌, length, List, [], ◌∷◌, ◌++◌, Bool, true, false, cond, not, refl, sym, ap, subst, ◌∙◌, ◌⊎◌, inl, inr}
use Rattle.std.specs.Prelude.{reverse}
use Rattle.std.specs.FinMap.{empty}
use Rattle.std.proofs.lemmas.Bool.{false_from_ne_true}
use Rattle.guest_ram.specs.Bytes.{AreBytes}
use Rattle.paging.specs.Fresh.{has}
use Rattle.descriptors.specs.Controls.{pse_of, wp_of}
use Rattle.shadow_tables.specs.OtherRoot.{OtherRoot, AreSame, LoseWrites, all_spared}
use Rattle.shadow_tables.specs.Entries.{entries_of}
use Rattle.shadow_tables.specs.Sight.{Sight, StaysBeside, EmptiesBeside}
use Rattle.machine_model.specs.State.{Setting}
use Rattle.machine_model.specs.Step.{Went, step_of}
use Rattle.machine_model.specs.Run.{Set}
use Rattle.machine_model.specs.Taken.{Taken, loads_root, changes_protection}
use Rattle.machine_model.specs.Keeping.{IsLeftBehind, KeptBehind, Stays}
use Rattle.kept_laws.specs.Remembered.{ComesFrom, Unwritten, IsOwed, IsRemembered}
use Rattle.kept_laws.specs.OverSteps.{IsTold, IsCause}
use Rattle.kept_laws.specs.Judged.{AllFound, IsFoundStill, FoundGoesOn}
use Rattle.kept_laws.specs.Carried.{IsReadyFor, NextIsKept}
use Rattle.kept_laws.specs.Known.{IsNextKept, IsKnown, RulesStay, IsStep, KnownAtStart, KnownStill, KnownQuiet, KnownOn}
use Rattle.kept_laws.proofs.Counts.{clash}
use Rattle.kept_laws.proofs.Owed.{causes_owe_nothing}
use Rattle.kept_laws.proofs.OwedStays.{start_remembers, still_remembers, dropped_remembers, steps_remember, same_remembers, loads_remember, returned}
use Rattle.kept_laws.proofs.Holding.{last_first}
use Rattle.kept_laws.proofs.FoundStays.{found_at_start}

-- ---- the start, and the same is kept

pub known_at_start : KnownAtStart
known_at_start m b v h = record {
  remembered = start_remembers m b v h;
  found = found_at_start m b;
  left = refl;
  next = λ set h. elim h [ inl same ↦ same | inr k ↦ k.0 ];
}

pub known_still : KnownStill
known_still m steps b v v' kept stay k = record {
  remembered = still_remembers m steps b v v' stay k.remembered;
  found = k.found;
  left = k.left;
  next = k.next;
}

-- ---- after a step

next_over : NextIsKept → (m : Setting) (steps : List Taken) (t : Taken) (kept : Set) → IsReadyFor m steps t t.after kept
    → IsNextKept m (steps ++ t ∷ []) t.after kept
next_over law m steps t kept r set h = law m steps t t.after set kept r h

-- what a step without a load left is kept, or nothing where the step changed CR0.WP
abbrev IsLeft : Taken → Set → Type 0
IsLeft t kept = loads_root t ≡ false → (kept ≡ t.after.set) ⊎ ((kept ≡ empty) × (changes_protection t ≡ true))

-- and after a load what is owed with the loaded value
abbrev IsBack : Setting → List Taken → Taken → Set → Type 0
IsBack m steps t kept = loads_root t ≡ true → (old : List Taken) (left : Taken) (since : List Taken)
    → IsOwed m (steps ++ t ∷ []) t.after t.after.cpu.cr3 old left since → ComesFrom left kept

-- so the rule lets it be left
left_over : (m : Setting) (steps : List Taken) (t : Taken) (kept : Set) → IsLeft t kept → IsBack m steps t kept
    → IsLeftBehind m (steps ++ t ∷ []) t.after kept
left_over m steps t kept left back =
    subst (λ (l : List Taken). KeptBehind false m (steps ++ t ∷ []) l t.after kept) (sym (last_first steps t)) (by (loads_root t) refl)
  where
    stays : (kept ≡ t.after.set) ⊎ ((kept ≡ empty) × (changes_protection t ≡ true)) → Stays false t t.after kept
    stays (inl same) = inl same
    stays (inr lost) = inr (lost.0, inr lost.1)

    by : (b : Bool) → loads_root t ≡ b → KeptBehind false m (steps ++ t ∷ []) (t ∷ reverse steps) t.after kept
    by true loads = inl (
      loads,
      λ old u since h quiet. (back loads old u since (returned m (steps ++ t ∷ []) t.after t.after.cpu.cr3 old u since h)).has,
    )
    by false plain = inr (plain, stays (left plain))

-- what the law of the next step asks of the memory that a load left
record IsLaidOut (m : Setting) (t : Taken) : Type 0 where
  went : step_of m t.before t.set ≡ Went t.report t.after
  room : 4096 * m.frames ≤ length t.before.ram
  room_after : loads_root t ≡ true → 4096 * m.frames ≤ length t.after.ram
  bytes : loads_root t ≡ true → AreBytes t.after.ram

laid_out : (m : Setting) (t : Taken) → IsStep m t → IsLaidOut m t
laid_out m t step = record { went = step.went; room = step.room; room_after = λ e. step.room_after; bytes = λ e. step.bytes }

over : FoundGoesOn → NextIsKept → (m : Setting) (steps : List Taken) (t : Taken) (v : Sight) (kept : Set) → IsLaidOut m t
    → (loads_root t ≡ true → Unwritten (steps ++ t ∷ []) → AllFound m t.before t.before.cpu.cr3 steps t.set)
    → IsFoundStill m steps t.before → IsRemembered m (steps ++ t ∷ []) t.after v → IsLeft t kept → IsBack m steps t kept
    → IsKnown m (steps ++ t ∷ []) t.after v kept
over goes_on law m steps t v kept step finds found remembered left back =
    let still_found : IsFoundStill m (steps ++ t ∷ []) t.after = goes_on m steps t step.went step.room finds found in
    record {
      remembered = remembered;
      found = still_found;
      left = left_over m steps t kept left back;
      next = next_over law m steps t kept (record {
        stays = left;
        back = back;
        found = still_found;
        value = refl;
        room = step.room_after;
        bytes = step.bytes;
      });
    }

past_by : FoundGoesOn → NextIsKept → (m : Setting) (steps : List Taken) (t : Taken) (v : Sight) (kept : Set) → IsLaidOut m t
    → loads_root t ≡ false
    → t.after.cpu.cr3 ≡ t.before.cpu.cr3 → IsKnown m steps t.before v kept → IsKnown m (steps ++ t ∷ []) t.after v t.after.set
past_by goes_on law m steps t v kept laid plain value k =
    over goes_on law m steps t v t.after.set laid (λ e u. clash (loads_root t) e plain) k.found
    (same_remembers m steps t v plain value k.remembered) (λ e. inl refl) (λ e old u since o. clash (loads_root t) e plain)

pub known_quiet : FoundGoesOn → NextIsKept → KnownQuiet
known_quiet goes_on law m steps t v kept past k =
    past_by goes_on law m steps t v kept
    (record {
      went = past.went;
      room = past.room;
      room_after = λ e. clash (loads_root t) e past.plain;
      bytes = λ e. clash (loads_root t) e past.plain;
    })
    past.plain past.value k

-- ---- the rules

same_or : (a b : Bool) → (a ≡ b) ⊎ (a ≡ b → ⊥)
same_or true true = inl refl
same_or true false = inr (λ e. cc)
same_or false true = inr (λ e. cc)
same_or false false = inl refl

rules_or : (t : Taken) → RulesStay t ⊎ (RulesStay t → ⊥)
rules_or t = elim (same_or (wp_of t.after.cpu) (wp_of t.before.cpu)) [
  | inl wp ↦ elim (same_or (pse_of t.after.cpu) (pse_of t.before.cpu)) [
    | inl pse ↦ inl (record { wp = wp; pse = pse })
    | inr other ↦ inr (λ stay. other stay.pse)
  ]
  | inr other ↦ inr (λ stay. other stay.wp)
]

-- with CR0 and CR4 they stay
rules_same : (t : Taken) → (t.after.cpu.cr0 ≡ t.before.cpu.cr0) × (t.after.cpu.cr4 ≡ t.before.cpu.cr4) → RulesStay t
rules_same t same = record { wp = ap (λ (w : ℕ). has w 65536) same.0; pse = ap (λ (w : ℕ). has w 16) same.1 }

changed : (before after : Bool) → (after ≡ before → ⊥) → cond before (not after) after ≡ true
changed true true h = absurd (h refl)
changed true false h = refl
changed false true h = refl
changed false false h = absurd (h refl)

-- where they change, all may go
left_empty : (m : Setting) (t : Taken) (kept : Set) → IsStep m t → (RulesStay t → ⊥) → kept ≡ empty → IsLeft t kept
left_empty m t kept step lost is plain = elim (same_or (wp_of t.after.cpu) (wp_of t.before.cpu)) [
  | inl wp ↦ elim (same_or (pse_of t.after.cpu) (pse_of t.before.cpu)) [
    | inl pse ↦ absurd (lost (record { wp = wp; pse = pse }))
    | inr other ↦ inl (is ∙ sym (step.emptied other))
  ]
  | inr other ↦ inr (is, changed (wp_of t.before.cpu) (wp_of t.after.cpu) other)
]

-- ---- what was given of a step

lose_same : (frames : List ℕ) (xs ys zs : List OtherRoot) → LoseWrites frames xs ys → AreSame ys zs → LoseWrites frames xs zs
lose_same frames [] [] [] h k = tt
lose_same frames [] [] (c ∷ zs) h k = absurd k
lose_same frames [] (b ∷ ys) zs h k = absurd h
lose_same frames (a ∷ xs) [] zs h k = absurd h
lose_same frames (a ∷ xs) (b ∷ ys) [] h k = absurd k
lose_same frames (a ∷ xs) (b ∷ ys) (c ∷ zs) h k = (
  record {
    cr3 = k.0.cr3 ∙ h.0.cr3;
    tables = λ frame. k.0.tables frame ∙ h.0.tables frame;
    slots = λ page small. k.0.slots page small ∙ h.0.slots page small;
  },
  lose_same frames xs ys zs h.1 k.1,
)

told_over : (t : Taken) (v between v' : Sight) → IsTold t v between → StaysBeside between v' → IsTold t v v'
told_over t v between v' told stay = record {
  frames = told.frames;
  notes = λ frame e. told.notes frame (stay.notes frame e);
  marks = λ e. told.marks (stay.marks e);
  others = lose_same told.frames (all_spared t.report.wrote v.other_roots) between.other_roots v'.other_roots told.others stay.others;
}

-- ---- a step that was settled

-- nothing is owed after a change of the rules
emptied : (m : Setting) (steps : List Taken) (t : Taken) (v v' : Sight) → loads_root t ≡ false → (RulesStay t → ⊥)
    → EmptiesBeside v v' → IsRemembered m (steps ++ t ∷ []) t.after v → IsRemembered m (steps ++ t ∷ []) t.after v'
emptied m steps t v v' plain lost none r =
    let cause : IsCause m steps t = record { through = plain; by = inr (λ same. lost (rules_same t same)) } in
    dropped_remembers m (steps ++ t ∷ []) t.after v' (λ frame e. r.noted_read frame (none.notes frame e))
    (λ u. false_from_ne_true v'.stale (λ e. clash v.stale (none.marks e) (r.unmarked u))) none.others (causes_owe_nothing m steps t cause)

pub known_on : FoundGoesOn → NextIsKept → KnownOn
known_on goes_on law m steps t v v' kept step finds o k = by (loads_root t) refl
  where
    known : IsRemembered m (steps ++ t ∷ []) t.after v' → IsLeft t (entries_of v'.slots) → IsBack m steps t (entries_of v'.slots)
        → IsKnown m (steps ++ t ∷ []) t.after v' (entries_of v'.slots)
    known remembered left back = over goes_on law m steps t v' (entries_of v'.slots) (laid_out m t step) finds k.found remembered left back

    told : loads_root t ≡ false → IsRemembered m (steps ++ t ∷ []) t.after o.between
    told plain = steps_remember m steps t v o.between plain (step.through plain) o.told k.remembered

    through : loads_root t ≡ false → RulesStay t ⊎ (RulesStay t → ⊥) → IsKnown m (steps ++ t ∷ []) t.after v' (entries_of v'.slots)
    through plain (inl stay) =
        let h = o.through plain stay in
        known (still_remembers m (steps ++ t ∷ []) t.after o.between v' h.0 (told plain)) (λ e. inl h.1)
        (λ e old u since w. clash (loads_root t) e plain)
    through plain (inr lost) =
        let h = o.lost plain lost in
        known (emptied m steps t o.between v' plain lost h.0 (told plain)) (left_empty m t (entries_of v'.slots) step lost h.1)
        (λ e old u since w. clash (loads_root t) e plain)

    reloaded : loads_root t ≡ true → IsKnown m (steps ++ t ∷ []) t.after v' (entries_of v'.slots)
    reloaded loads =
        let r = o.loaded loads in
        let h = loads_remember m steps t v r.between v' loads k.remembered
        (told_over t v o.between r.between o.told r.stay) r.comes r.loaded in
        known h.0 (λ plain. clash (loads_root t) loads plain) (λ e. h.1)

    by : (b : Bool) → loads_root t ≡ b → IsKnown m (steps ++ t ∷ []) t.after v' (entries_of v'.slots)
    by true is = reloaded is
    by false is = through is (rules_or t)
