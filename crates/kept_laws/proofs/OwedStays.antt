-- What is owed stays kept over the steps of a run.
use Rattle.std.proofs.Common.{◌≡◌, ℕ, List, [], ◌∷◌, ◌++◌, Bool, true, false, cond, ◌==◌, eqb, Some, refl, sym, subst, ◌∙◌, ◌⊎◌, inl, inr}
use Rattle.std.specs.List.{Contains}
use Rattle.std.specs.Set.{is_member}
use Rattle.std.proofs.lemmas.Bool.{eqb-true, eqb-false, false_from_ne_true, and_parts}
use Rattle.plain_laws.proofs.Tests.{second_false}
use Rattle.shadow_tables.specs.OtherRoot.{OtherRoot, all_spared}
use Rattle.shadow_tables.specs.Entries.{entries_of}
use Rattle.shadow_tables.specs.Sight.{Sight}
use Rattle.shadow_tables.specs.Laws.Entries.{entries_of-same}
use Rattle.shadow_cache.specs.Reloaded.{put_by, coming, staying}
use Rattle.machine_model.specs.State.{Setting, State}
use Rattle.machine_model.specs.Taken.{Taken, loads_root}
use Rattle.machine_model.specs.Keeping.{leaves, root_in, roots_in, HasEntriesOf, Returns}
use Rattle.kept_laws.specs.Remembered.{ComesFrom, was_read, Unwritten, IsOwed, IsAbsent, AreOfOne, AllRead, IsThere, IsRemembered}
use Rattle.kept_laws.specs.OverSteps.{IsNotedBy, IsTold, put_under, under_value, StartRemembers, StillRemembers, StepsRemember, SameRemembers, DroppedRemembers, LoadsRemember, LoadsBringBack}
use Rattle.machine_model.proofs.Splits.{Split, At_end, Within, split_of}
use Rattle.kept_laws.proofs.Lists.{all_at, any_right, read_more, read_last, unwritten_front, roots_more, loaded_more}
use Rattle.kept_laws.proofs.Counts.{clash, member_first}
use Rattle.kept_laws.proofs.Places.{same_alike, lose_alike, alike_absent, alike_of_one, alike_read, alike_there, filter_absent, filter_of_one, filter_read, more_read, all_stay, there_wider, staying_absent, staying_of_one, staying_read, staying_there, coming_there, coming_read}
use Rattle.kept_laws.proofs.Owed.{through_leaves, owed_front, last_leaves}

-- ---- the start

never_owed : (m : Setting) (now : State) (c : ℕ) (old : List Taken) (left : Taken) (since : List Taken) → [] ≡ old ++ left ∷ since → ⊥
never_owed m now c [] left since e = cc
never_owed m now c (u ∷ old) left since e = cc

pub start_remembers : StartRemembers
start_remembers m now v h = record {
  other = subst (IsAbsent now.cpu.cr3) (sym h.alone) tt;
  of_one = subst AreOfOne (sym h.alone) tt;
  noted_read = λ frame e. clash (v.read_from frame) e (h.unnoted frame);
  all_read = subst (AllRead []) (sym h.alone) tt;
  unmarked = λ u. h.unmarked;
  each = λ c old left since ne o. absurd (never_owed m now c old left since o.split);
}

-- ---- the same is kept

pub still_remembers : StillRemembers
still_remembers m steps now v v' stay r =
    let alike = same_alike v.other_roots v'.other_roots stay.others in
    record {
      other = alike_absent now.cpu.cr3 v.other_roots v'.other_roots alike r.other;
      of_one = alike_of_one v.other_roots v'.other_roots alike r.of_one;
      noted_read = λ frame e. r.noted_read frame (stay.notes frame e);
      all_read = alike_read steps v.other_roots v'.other_roots alike r.all_read;
      unmarked = λ u. false_from_ne_true v'.stale (λ e. clash v.stale (stay.marks e) (r.unmarked u));
      each = λ c old left since ne o.
          let h = r.each c old left since ne o in
          (alike_there c left (roots_in (left ∷ since)) v.other_roots v'.other_roots alike h.0, h.1);
    }

-- ---- nothing is owed

pub dropped_remembers : DroppedRemembers
dropped_remembers m steps now v read unmarked alone none = record {
  other = subst (IsAbsent now.cpu.cr3) (sym alone) tt;
  of_one = subst AreOfOne (sym alone) tt;
  noted_read = read;
  all_read = subst (AllRead steps) (sym alone) tt;
  unmarked = unmarked;
  each = λ c old left since ne o. absurd (none c old left since o);
}

-- ---- a step's own translations are settled

-- what is kept then, beside what was owed before the step
record IsSettled (m : Setting) (steps : List Taken) (t : Taken) (v : Sight) : Type 0 where
  other : IsAbsent t.before.cpu.cr3 v.other_roots
  of_one : AreOfOne v.other_roots
  noted_read : (frame : ℕ) → v.read_from frame ≡ true → was_read (steps ++ t ∷ []) frame ≡ true
  all_read : AllRead (steps ++ t ∷ []) v.other_roots
  unmarked : Unwritten (steps ++ t ∷ []) → v.stale ≡ false
  each : (c : ℕ) (old : List Taken) (left : Taken) (since : List Taken) → (c ≡ t.before.cpu.cr3 → ⊥) → Unwritten (steps ++ t ∷ [])
      → IsOwed m steps t.before c old left since
      → IsThere c left (roots_in (left ∷ since)) v.other_roots × (is_member eqb (roots_in (left ∷ since)) t.before.cpu.cr3 ≡ true)

noted_by : (m : Setting) (steps : List Taken) (t : Taken) (v : Sight) → IsRemembered m steps t.before v
    → (frame : ℕ) → IsNotedBy v.read_from t frame → was_read (steps ++ t ∷ []) frame ≡ true
noted_by m steps t v r frame (inl e) = read_more steps t frame (r.noted_read frame e)
noted_by m steps t v r frame (inr e) = read_last steps t frame e

settled : (m : Setting) (steps : List Taken) (t : Taken) (v v' : Sight) → IsTold t v v' → IsRemembered m steps t.before v
    → IsSettled m steps t v'
settled m steps t v v' told r =
    let spared : List OtherRoot = all_spared t.report.wrote v.other_roots in
    let alike = lose_alike told.frames spared v'.other_roots told.others in
    let more = more_read steps t v.other_roots r.all_read in
    record {
      other = alike_absent t.before.cpu.cr3 spared v'.other_roots alike (filter_absent _ t.before.cpu.cr3 v.other_roots r.other);
      of_one = alike_of_one spared v'.other_roots alike (filter_of_one _ v.other_roots r.of_one);
      noted_read = λ frame e. noted_by m steps t v r frame (told.notes frame e);
      all_read = alike_read (steps ++ t ∷ []) spared v'.other_roots alike (filter_read _ (steps ++ t ∷ []) v.other_roots more);
      unmarked = λ u. false_from_ne_true v'.stale (λ e. never_marked u (told.marks e));
      each = λ c old left since ne u o.
          let h = r.each c old left since ne o in (
            alike_there c left (roots_in (left ∷ since)) spared v'.other_roots alike
                (subst (IsThere c left (roots_in (left ∷ since)))
                (sym (all_stay (steps ++ t ∷ []) t.report.wrote v.other_roots more (u steps t [] refl))) h.0),
            h.1,
          );
    }
  where
    never_marked : Unwritten (steps ++ t ∷ []) → (v.stale ≡ true)
        ⊎ ((frame : ℕ) × Contains t.report.wrote frame × IsNotedBy v.read_from t frame) → ⊥
    never_marked u (inl e) = clash v.stale e (r.unmarked (unwritten_front steps t u))
    never_marked u (inr k) =
        clash (was_read (steps ++ t ∷ []) k.0) (noted_by m steps t v r k.0 k.2)
        (all_at (λ frame. was_read (steps ++ t ∷ []) frame ≡ false) t.report.wrote k.0 (u steps t [] refl) k.1)

-- ---- a step that doesn't load CR3

-- what was loaded from a step on is loaded with one step more
wider : (left t : Taken) (before since : List Taken) → since ≡ before ++ t ∷ [] → (v : ℕ)
    → is_member eqb (roots_in (left ∷ before)) v ≡ true → is_member eqb (roots_in (left ∷ since)) v ≡ true
wider left t before since is v h =
    subst (λ (l : List Taken). is_member eqb (roots_in (left ∷ l)) v ≡ true) (sym is) (loaded_more (left ∷ before) t v h)

through : (m : Setting) (steps : List Taken) (t : Taken) (v : Sight) → loads_root t ≡ false → t.after.cpu.cr3 ≡ t.before.cpu.cr3
    → IsSettled m steps t v → (c : ℕ) (old : List Taken) (left : Taken) (since : List Taken) → (c ≡ t.after.cpu.cr3 → ⊥)
    → IsOwed m (steps ++ t ∷ []) t.after c old left since → Split steps t old left since
    → IsThere c left (roots_in (left ∷ since)) v.other_roots × (is_member eqb (roots_in (left ∷ since)) t.after.cpu.cr3 ≡ true)
through m steps t v plain same s c old left since ne o (At_end at is none) =
    clash (leaves c left) o.is_left (subst (λ (u : Taken). leaves c u ≡ false) (sym is) (through_leaves c t plain))
through m steps t v plain same s c old left since ne o (Within before split is) =
    let h =
    s.each c old left before (λ e. ne (e ∙ sym same)) o.unwritten (owed_front m steps t t.after c old left since before o split is) in (
      there_wider c left (roots_in (left ∷ before)) (roots_in (left ∷ since)) v.other_roots (wider left t before since is) h.0,
      subst (λ (x : ℕ). is_member eqb (roots_in (left ∷ since)) x ≡ true) (sym same) (wider left t before since is t.before.cpu.cr3 h.1),
    )

pub steps_remember : StepsRemember
steps_remember m steps t v v' plain same told r =
    let s = settled m steps t v v' told r in
    record {
      other = subst (λ (x : ℕ). IsAbsent x v'.other_roots) (sym same) s.other;
      of_one = s.of_one;
      noted_read = s.noted_read;
      all_read = s.all_read;
      unmarked = s.unmarked;
      each = λ c old left since ne o. through m steps t v' plain same s c old left since ne o (split_of steps t old left since o.split);
    }

-- the same is kept
pub same_remembers : SameRemembers
same_remembers m steps t v plain same r =
    let s : IsSettled m steps t v = record {
      other = r.other;
      of_one = r.of_one;
      noted_read = λ frame e. read_more steps t frame (r.noted_read frame e);
      all_read = more_read steps t v.other_roots r.all_read;
      unmarked = λ u. r.unmarked (unwritten_front steps t u);
      each = λ c old left since ne u o. r.each c old left since ne o;
    } in
    record {
      other = subst (λ (x : ℕ). IsAbsent x v.other_roots) (sym same) s.other;
      of_one = s.of_one;
      noted_read = s.noted_read;
      all_read = s.all_read;
      unmarked = s.unmarked;
      each = λ c old left since ne o. through m steps t v plain same s c old left since ne o (split_of steps t old left since o.split);
    }

-- ---- a load

-- what is put by of the present tables, where they aren't marked
put : (c : ℕ) (v : Sight) → v.stale ≡ false → put_under (Some c) v ≡ under_value c v ∷ v.other_roots
put c v e = by v.stale e
  where
    by : (b : Bool) → b ≡ false → put_by (Some c) b v.read_from v.slots v.other_roots ≡ under_value c v ∷ v.other_roots
    by true e = clash true refl e
    by false e = refl

put_of_one : (c : ℕ) (v : Sight) → IsAbsent c v.other_roots → AreOfOne v.other_roots → AreOfOne (put_under (Some c) v)
put_of_one c v h k = by v.stale
  where
    by : (b : Bool) → AreOfOne (put_by (Some c) b v.read_from v.slots v.other_roots)
    by true = k
    by false = (h, k)

put_read : (steps : List Taken) (c : ℕ) (v : Sight) → ((frame : ℕ) → v.read_from frame ≡ true → was_read steps frame ≡ true)
    → AllRead steps v.other_roots → AllRead steps (put_under (Some c) v)
put_read steps c v h k = by v.stale
  where
    by : (b : Bool) → AllRead steps (put_by (Some c) b v.read_from v.slots v.other_roots)
    by true = k
    by false = (h, k)

-- a step that loads CR3 loads the value that it has after it
loaded_last : (left t : Taken) (before : List Taken) → loads_root t ≡ true → is_member eqb (roots_in (left ∷ before ++ t ∷ []))
    t.after.cpu.cr3 ≡ true
loaded_last left t before loads =
    subst (λ (l : List ℕ). is_member eqb l t.after.cpu.cr3 ≡ true) (sym (roots_more (left ∷ before) t))
    (any_right (eqb t.after.cpu.cr3) (roots_in (left ∷ before)) (root_in t) (own t loads))
  where
    own : (t : Taken) → loads_root t ≡ true → is_member eqb (root_in t) t.after.cpu.cr3 ≡ true
    own t loads = by (loads_root t) loads
      where
        by : (b : Bool) → b ≡ true → is_member eqb (cond b (t.after.cpu.cr3 ∷ []) []) t.after.cpu.cr3 ≡ true
        by true e = member_first t.after.cpu.cr3 []
        by false e = clash true refl (sym e)

loaded_own : (t : Taken) → loads_root t ≡ true → is_member eqb (roots_in (t ∷ [])) t.after.cpu.cr3 ≡ true
loaded_own t loads = by (loads_root t) loads
  where
    by : (b : Bool) → b ≡ true → is_member eqb (cond b (t.after.cpu.cr3 ∷ []) [] ++ []) t.after.cpu.cr3 ≡ true
    by true e = member_first t.after.cpu.cr3 []
    by false e = clash true refl (sym e)

-- a value that a step leaves is the one that CR3 had
left_is : (c : ℕ) (t : Taken) → leaves c t ≡ true → t.before.cpu.cr3 ≡ c
left_is c t e = eqb-true t.before.cpu.cr3 c (and_parts (loads_root t) (t.before.cpu.cr3 == c) e).1

not_left : (c : ℕ) (t : Taken) → loads_root t ≡ true → leaves c t ≡ false → t.before.cpu.cr3 ≡ c → ⊥
not_left c t loads e = eqb-false t.before.cpu.cr3 c (second_false (loads_root t) (t.before.cpu.cr3 == c) loads e)

-- what is kept for all values but the present one, before the loaded one comes
abbrev put_all : Taken → Sight → List OtherRoot
put_all t v = put_under (Some t.before.cpu.cr3) v

-- what was owed for another value before the load is among all
put_there : (m : Setting) (steps : List Taken) (t : Taken) (v : Sight) → loads_root t ≡ true → IsSettled m steps t v
    → (c : ℕ) (old : List Taken) (left : Taken) (since before : List Taken) → IsOwed m (steps ++ t ∷ []) t.after c old left since
    → steps ≡ old ++ left ∷ before → since ≡ before ++ t ∷ []
    → IsThere c left (roots_in (left ∷ since)) (put_all t v)
put_there m steps t v loads s c old left since before o split is =
    let ne : (t.before.cpu.cr3 ≡ c → ⊥) = not_left c t loads (last_leaves m steps t t.after c old left since before o is) in
    let h = s.each c old left before (λ e. ne (sym e)) o.unwritten (owed_front m steps t t.after c old left since before o split is) in
    let there = there_wider c left (roots_in (left ∷ before)) (roots_in (left ∷ since)) v.other_roots (wider left t before since is) h.0 in
    subst (IsThere c left (roots_in (left ∷ since))) (sym (put t.before.cpu.cr3 v (s.unmarked o.unwritten)))
    (inr (ne, wider left t before since is t.before.cpu.cr3 h.1, there))

-- what the load itself leaves
own_there : (m : Setting) (steps : List Taken) (t : Taken) (v : Sight) → IsSettled m steps t v → ComesFrom t (entries_of v.slots)
    → (c : ℕ) (loaded : List ℕ) → leaves c t ≡ true → Unwritten (steps ++ t ∷ []) → IsThere c t loaded (put_all t v)
own_there m steps t v s has c loaded is u =
    subst (IsThere c t loaded) (sym (put t.before.cpu.cr3 v (s.unmarked u))) (inl (left_is c t is, has))

-- either way it is among all, and the loaded value was loaded
all_there : (m : Setting) (steps : List Taken) (t : Taken) (v : Sight) → loads_root t ≡ true → IsSettled m steps t v
    → ComesFrom t (entries_of v.slots)
    → (c : ℕ) (old : List Taken) (left : Taken) (since : List Taken) → IsOwed m (steps ++ t ∷ []) t.after c old left since
    → Split steps t old left since
    → IsThere c left (roots_in (left ∷ since)) (put_all t v) × (is_member eqb (roots_in (left ∷ since)) t.after.cpu.cr3 ≡ true)
all_there m steps t v loads s has c old left since o (At_end at is none) = (
  subst (λ (u : Taken). IsThere c u (roots_in (left ∷ since)) (put_all t v)) (sym is)
      (own_there m steps t v s has c (roots_in (left ∷ since)) (subst (λ (u : Taken). leaves c u ≡ true) is o.is_left) o.unwritten),
  subst (λ (l : List Taken). is_member eqb (roots_in (left ∷ l)) t.after.cpu.cr3 ≡ true) (sym none)
      (subst (λ (u : Taken). is_member eqb (roots_in (u ∷ [])) t.after.cpu.cr3 ≡ true) (sym is) (loaded_own t loads)),
)
all_there m steps t v loads s has c old left since o (Within before split is) = (
  put_there m steps t v loads s c old left since before o split is,
  subst (λ (l : List Taken). is_member eqb (roots_in (left ∷ l)) t.after.cpu.cr3 ≡ true) (sym is) (loaded_last left t before loads),
)

pub loads_remember : LoadsRemember
loads_remember m steps t v between v' loads r told has loaded =
    let s = settled m steps t v between told r in
    let w : ℕ = t.after.cpu.cr3 in
    let all : List OtherRoot = put_all t between in
    let ones = put_of_one t.before.cpu.cr3 between s.other s.of_one in
    let read = put_read (steps ++ t ∷ []) t.before.cpu.cr3 between s.noted_read s.all_read in
    let alike = same_alike (staying w all) v'.other_roots loaded.others in
    let slots : entries_of v'.slots ≡ entries_of (coming w all).slots =
    entries_of-same (coming w all).slots v'.slots loaded.present.slots in (
      record {
        other = alike_absent w (staying w all) v'.other_roots alike (staying_absent w all ones);
        of_one = alike_of_one (staying w all) v'.other_roots alike (staying_of_one w all ones);
        noted_read = λ frame e. coming_read (steps ++ t ∷ []) w all read frame (sym (loaded.present.tables frame) ∙ e);
        all_read = alike_read (steps ++ t ∷ []) (staying w all) v'.other_roots alike (staying_read (steps ++ t ∷ []) w all read);
        unmarked = λ u. loaded.unmarked;
        each = λ c old left since ne o.
            let h = all_there m steps t between loads s has c old left since o (split_of steps t old left since o.split) in (
              alike_there c left (roots_in (left ∷ since)) (staying w all) v'.other_roots alike
                  (staying_there w c left (roots_in (left ∷ since)) all (λ e. ne (sym e)) h.1 o.few ones h.0),
              h.1,
            );
      },
      λ old left since o.
          let h = all_there m steps t between loads s has w old left since o (split_of steps t old left since o.split) in
          subst (ComesFrom left) (sym slots) (coming_there w left (roots_in (left ∷ since)) all h.0),
    )

-- what the rule asks after a load is owed before the next step
pub returned : (m : Setting) (earlier : List Taken) (now : State) (c : ℕ) (old : List Taken) (left : Taken) (since : List Taken)
    → Returns m earlier now c old left since → IsOwed m earlier now c old left since
returned m earlier now c old left since h = record {
  split = h.split;
  is_left = h.is_left;
  is_last = h.is_last;
  few = h.few;
  apart = h.apart;
  same = h.same;
  same_now = h.same_now;
  unwritten = h.unwritten;
}

pub loads_bring_back : LoadsBringBack
loads_bring_back m steps t set slots is owed old left since h apart =
    subst (HasEntriesOf left) (sym is) (owed old left since (returned m (steps ++ t ∷ []) t.after t.after.cpu.cr3 old left since h)).has
