-- What shadows keep for values of CR3 that aren't present, beside the steps of the run so far.
use Rattle.std.specs.Prelude.{◌≡◌, ◌⊎◌, ℕ, ◌≤◌, Bool, true, false, ◌==◌, eqb, not, List, [], ◌∷◌, ◌++◌, Some}
use Rattle.std.specs.List.{filter, All}
use Rattle.std.specs.Set.{is_member, distinct_count}
use Rattle.std.specs.Option.{ForSome}
use Rattle.std.specs.FinMap.{get}
use Rattle.guest_ram.specs.Among.{is_among}
use Rattle.shadow_tables.specs.OtherRoot.{OtherRoot}
use Rattle.shadow_tables.specs.Entries.{entries_of}
use Rattle.shadow_tables.specs.Sight.{Sight}
use Rattle.machine_model.specs.State.{Setting, State}
use Rattle.machine_model.specs.Run.{Set}
use Rattle.machine_model.specs.Taken.{Taken}
use Rattle.machine_model.specs.Keeping.{leaves, roots_in, tables_in, clashes, HasEntriesOf}

-- a walk of these steps read the frame as a directory or table
abbrev pub was_read : List Taken → ℕ → Bool
was_read steps frame = is_among frame (tables_in steps)

-- no step wrote in a frame that a walk had read as a directory or table by its end
abbrev pub Unwritten : List Taken → Type 0
Unwritten steps =
    (front : List Taken) (t : Taken) (back : List Taken) → steps ≡ front ++ t ∷ back
    → All (λ frame. was_read (front ++ t ∷ []) frame ≡ false) t.report.wrote

-- Before a step from this state, after these steps: what was left with the value c of CR3 is owed, should c be loaded.
-- The last step that loaded CR3 while CR3 was c is `left`, after `old` and before `since`, and the conditions hold so
-- far under which its translations come back.
pub record IsOwed (m : Setting) (steps : List Taken) (now : State) (c : ℕ) (old : List Taken) (left : Taken)
    (since : List Taken) : Type 0 where
  pub split : steps ≡ old ++ left ∷ since
  pub is_left : leaves c left ≡ true
  pub is_last : All (λ t. leaves c t ≡ false) since
  pub few : distinct_count eqb (filter (λ value. not (value == c)) (roots_in (left ∷ since))) ≤ 7
  pub apart : (front : List Taken) (t : Taken) (back : List Taken) → since ≡ front ++ t ∷ back
      → clashes m (old ++ left ∷ front) t.before ≡ false
  pub same : All (λ (t : Taken). (t.before.cpu.cr0 ≡ left.before.cpu.cr0) × (t.before.cpu.cr4 ≡ left.before.cpu.cr4)) since
  pub same_now : (now.cpu.cr0 ≡ left.before.cpu.cr0) × (now.cpu.cr4 ≡ left.before.cpu.cr4)
  pub unwritten : Unwritten steps

-- nothing is kept for the value
abbrev pub IsAbsent : ℕ → List OtherRoot → Type 0
IsAbsent value [] = Unit {0}
IsAbsent value (a ∷ other_roots) = (a.cr3 ≡ value → ⊥) × IsAbsent value other_roots

-- no two are of one value
abbrev pub AreOfOne : List OtherRoot → Type 0
AreOfOne [] = Unit {0}
AreOfOne (a ∷ other_roots) = IsAbsent a.cr3 other_roots × AreOfOne other_roots

-- the tables of each were read by walks of these steps
abbrev pub AllRead : List Taken → List OtherRoot → Type 0
AllRead steps [] = Unit {0}
AllRead steps (a ∷ other_roots) = ((frame : ℕ) → a.tables frame ≡ true → was_read steps frame ≡ true) × AllRead steps other_roots

-- this set has every entry of the set before a step, but perhaps those of pages that the step itself used, and no other
pub record ComesFrom (left : Taken) (set : Set) : Type 0 where
  pub has : HasEntriesOf left set
  pub only : (page : ℕ) → ForSome (get set page) (λ e. get left.set page ≡ Some e)

-- What is kept for c comes from the set before `left`. Before it stand only values that were loaded since.
abbrev pub IsThere : ℕ → Taken → List ℕ → List OtherRoot → Type 0
IsThere c left loaded [] = ⊥
IsThere c left loaded (a ∷ other_roots) =
    ((a.cr3 ≡ c) × ComesFrom left (entries_of a.slots))
    ⊎ ((a.cr3 ≡ c → ⊥) × (is_member eqb loaded a.cr3 ≡ true) × IsThere c left loaded other_roots)

-- Between two steps of a run, of which these were done: what is kept for each value of CR3 that isn't present, the last
-- used first. What is owed is there. The frames that are noted as tables, of the present value and of each other, were
-- read as tables by walks of the run, and the present tables are marked only where a step wrote in such a frame.
pub record IsRemembered (m : Setting) (steps : List Taken) (now : State) (v : Sight) : Type 0 where
  pub other : IsAbsent now.cpu.cr3 v.other_roots
  pub of_one : AreOfOne v.other_roots
  pub noted_read : (frame : ℕ) → v.read_from frame ≡ true → was_read steps frame ≡ true
  pub all_read : AllRead steps v.other_roots
  pub unmarked : Unwritten steps → v.stale ≡ false
  pub each : (c : ℕ) (old : List Taken) (left : Taken) (since : List Taken) → (c ≡ now.cpu.cr3 → ⊥) → IsOwed m steps now c old left since
      → IsThere c left (roots_in (left ∷ since)) v.other_roots × (is_member eqb (roots_in (left ∷ since)) now.cpu.cr3 ≡ true)
