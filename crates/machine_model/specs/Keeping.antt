-- Which translations a run keeps from step to step, while its pages lie under few directory indices.
use Rattle.std.specs.Prelude.{◌≡◌, ◌⊎◌, ℕ, ◌/◌, ◌≤◌, Bool, true, false, ◌==◌, eqb, ◌&&◌, not, List, [], ◌∷◌, ◌++◌, map, reverse, Some, nat_le, if◌then◌else◌}
use Rattle.std.specs.List.{flat_map, filter, All}
use Rattle.std.specs.Set.{distinct_count}
use Rattle.std.specs.FinMap.{get, empty}
use Rattle.guest_ram.specs.Among.{is_among}
use Rattle.paging.specs.declared.entry.Entry.{Entry}
use Rattle.machine_model.specs.State.{Setting, State}
use Rattle.machine_model.specs.Step.{Report}
use Rattle.machine_model.specs.Run.{Set, Steps}
use Rattle.machine_model.specs.Taken.{Taken, steps_by, loads_root, changes_protection}
use Rattle.machine_model.specs.Clash.{clashes_from}

-- the pages that steps used lie under at most 24 directory indices
abbrev pub pages_in : List Taken → List ℕ
pages_in steps = flat_map (λ (t : Taken). t.report.pages) steps

abbrev pub is_roomy : List Taken → Bool
is_roomy steps = nat_le (distinct_count eqb (map (λ page. page / 1024) (pages_in steps))) 24

abbrev pub Roomy : List Taken → Type 0
Roomy steps = is_roomy steps ≡ true

-- a step that loaded CR3 while CR3 was c
abbrev pub leaves : ℕ → Taken → Bool
leaves c t = loads_root t && t.before.cpu.cr3 == c

-- the set before the last such step, of steps whose last is first; none of its entries where there is none
abbrev pub set_left : ℕ → List Taken → Set
set_left c [] = empty
set_left c (t ∷ past) = if leaves c t then t.set else set_left c past

abbrev pub held_by : List Taken → Set → Set
held_by [] set = set
held_by (t ∷ past) set = if loads_root t then set_left t.after.cpu.cr3 (t ∷ past) else set

-- the entries by which a step after these is asked whether it clashes: those that the step before it left, or,
-- after a load of CR3, those of the set before the last step that left the loaded value
abbrev pub held : List Taken → State → Set
held earlier b = held_by (reverse earlier) b.set

-- the step from this state clashes, after these steps
abbrev pub clashes : Setting → List Taken → State → Bool
clashes m earlier b = clashes_from m (record b { set = held earlier b })

-- the values that steps loaded into CR3
abbrev pub root_in : Taken → List ℕ
root_in t = if loads_root t then t.after.cpu.cr3 ∷ [] else []

abbrev pub roots_in : List Taken → List ℕ
roots_in steps = flat_map root_in steps

-- the frames that walks of these steps read as a directory or table
abbrev pub tables_in : List Taken → List ℕ
tables_in steps = flat_map (λ (t : Taken). t.report.tables) steps

-- The step before the state now loaded CR3 with c. The last step that loaded CR3 while CR3 was c is `left`, after `old` and
-- before `since`, and these things hold.
pub record Returns (m : Setting) (earlier : List Taken) (now : State) (c : ℕ) (old : List Taken) (left : Taken)
    (since : List Taken) : Type 0 where
  pub split : earlier ≡ old ++ left ∷ since
  pub is_left : leaves c left ≡ true
  pub is_last : All (λ t. leaves c t ≡ false) since
  -- at most seven other values were loaded from that step on
  pub few : distinct_count eqb (filter (λ value. not (value == c)) (roots_in (left ∷ since))) ≤ 7
  -- no step after it clashes
  pub apart : (front : List Taken) (t : Taken) (back : List Taken) → since ≡ front ++ t ∷ back
      → clashes m (old ++ left ∷ front) t.before ≡ false
  -- CR0 and CR4 have not changed since
  pub same : All (λ (t : Taken). (t.before.cpu.cr0 ≡ left.before.cpu.cr0) × (t.before.cpu.cr4 ≡ left.before.cpu.cr4)) since
  pub same_now : (now.cpu.cr0 ≡ left.before.cpu.cr0) × (now.cpu.cr4 ≡ left.before.cpu.cr4)
  -- no step so far wrote in a frame that a walk of the run had read as a directory or table by its end
  pub unwritten : (front : List Taken) (t : Taken) (back : List Taken) → earlier ≡ front ++ t ∷ back
      → All (λ frame. is_among frame (tables_in (front ++ t ∷ [])) ≡ false) t.report.wrote

-- this set has every entry of the set before a step, but perhaps those of pages that the step itself used
abbrev pub HasEntriesOf : Taken → Set → Type 0
HasEntriesOf left set =
    (page : ℕ) (e : Entry) → get left.set page ≡ Some e → is_among page left.report.pages ≡ false → get set page ≡ Some e

-- after a load of CR3: entries that a run may always add, and all of those that were left with the value, where the next
-- step doesn't clash either
abbrev pub Reloads : (clashing : Bool) → Setting → List Taken → Taken → State → Set → Type 0
Reloads clashing m earlier last now set =
    (old : List Taken) (left : Taken) (since : List Taken) → Returns m earlier now last.after.cpu.cr3 old left since → clashing ≡ false
    → HasEntriesOf left set

-- otherwise: what the step before left, or nothing where the next step clashes or the step before changed CR0.WP
abbrev pub Stays : (clashing : Bool) → Taken → State → Set → Type 0
Stays clashing last now set =
    (set ≡ now.set)
    ⊎ ((set ≡ empty) × ((clashing ≡ true) ⊎ (changes_protection last ≡ true)))

-- either, by whether the next step clashes; before the first step nothing
abbrev pub KeptBehind : (clashing : Bool) → Setting → List Taken → List Taken → State → Set → Type 0
KeptBehind clashing m earlier [] now set = set ≡ empty
KeptBehind clashing m earlier (last ∷ past) now set =
    ((loads_root last ≡ true) × Reloads clashing m earlier last now set) ⊎ ((loads_root last ≡ false) × Stays clashing last now set)

-- What is said of the set by which a step from the state now goes or stops, by the steps before it.
abbrev pub IsKept : Setting → List Taken → State → Set → Type 0
IsKept m earlier now set = KeptBehind (clashes m earlier now) m earlier (reverse earlier) now set

-- So of each of these sets, which are those of steps one after the other, up to which the run is roomy. The step of a set
-- is made from the state to which the sets before it lead. The last of them may stop.
pub record Kept (m : Setting) (old : State) (sets : List Set) : Type 0 where
  pub each : (front : List Set) (set : Set) (back : List Set) (reports : List Report) (now : State) → sets ≡ front ++ set ∷ back
      → Steps m old front reports now
      → Roomy (steps_by m old front) → IsKept m (steps_by m old front) now set

-- What a run keeps after these steps, before it is known whether the next one clashes: what is said where that doesn't.
abbrev pub IsLeftBehind : Setting → List Taken → State → Set → Type 0
IsLeftBehind m earlier now set = KeptBehind false m earlier (reverse earlier) now set
