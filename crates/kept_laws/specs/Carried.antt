-- What a run knows between two steps, and that its next step then uses what the rule for kept translations asks for.
use Rattle.std.specs.Prelude.{◌≡◌, ◌⊎◌, ℕ, ◌+◌, ◌*◌, ◌/◌, ◌≤◌, true, false, eqb, List, [], ◌∷◌, ◌++◌, length, map}
use Rattle.std.specs.Set.{is_member, distinct_count}
use Rattle.std.specs.FinMap.{empty}
use Rattle.guest_ram.specs.Bytes.{AreBytes}
use Rattle.machine_model.specs.State.{Setting, State}
use Rattle.machine_model.specs.Run.{Set}
use Rattle.machine_model.specs.Taken.{Taken, loads_root, changes_protection}
use Rattle.machine_model.specs.Clash.{clashes_from}
use Rattle.machine_model.specs.Keeping.{Roomy, pages_in, IsKept}
use Rattle.kept_laws.specs.Remembered.{ComesFrom, IsOwed}
use Rattle.kept_laws.specs.Judged.{IsFoundStill}

-- After a step, what is kept: all that it left, or nothing where it changed CR0.WP; and after a load of CR3 what was left
-- with the loaded value, if it is owed. What is owed is found in memory as it is.
pub record IsReadyFor (m : Setting) (steps : List Taken) (t : Taken) (b : State) (kept : Set) : Type 0 where
  pub stays : loads_root t ≡ false → (kept ≡ b.set) ⊎ ((kept ≡ empty) × (changes_protection t ≡ true))
  pub back : loads_root t ≡ true → (old : List Taken) (left : Taken) (since : List Taken) → IsOwed m (steps ++ t ∷ []) b t.after.cpu.cr3 old
      left since → ComesFrom left kept
  pub found : IsFoundStill m (steps ++ t ∷ []) b
  pub value : b.cpu.cr3 ≡ t.after.cpu.cr3
  pub room : loads_root t ≡ true → 4096 * m.frames ≤ length b.ram
  pub bytes : loads_root t ≡ true → AreBytes b.ram

-- The next step uses what is kept, or nothing where it clashes by that.
abbrev pub NextIsKept : Type 0
NextIsKept =
    (m : Setting) (steps : List Taken) (t : Taken) (now : State) (set kept : Set) → IsReadyFor m steps t now kept
    → (set ≡ kept) ⊎ ((set ≡ empty) × (clashes_from m (record now { set = kept }) ≡ true))
    → IsKept m (steps ++ t ∷ []) now set

-- the directory indices of the pages that steps used
abbrev pub indices_in : List Taken → List ℕ
indices_in steps = map (λ page. page / 1024) (pages_in steps)

-- while a run is roomy, so it was, and eight values of CR3 hold at most 400 frames
abbrev pub RoomyBefore : Type 0
RoomyBefore = (steps : List Taken) (t : Taken) → Roomy (steps ++ t ∷ []) → Roomy steps

abbrev pub RoomyIsFew : Type 0
RoomyIsFew = (steps : List Taken) → Roomy steps → 8 * (2 + 2 * distinct_count eqb (indices_in steps)) ≤ 400

-- an index that was among them is among them with a step more, and so is that of each page which that step used
abbrev pub IndicesGrow : Type 0
IndicesGrow =
    (steps : List Taken) (t : Taken)
    → ((index : ℕ) → is_member eqb (indices_in steps) index ≡ true → is_member eqb (indices_in (steps ++ t ∷ [])) index ≡ true)
    × ((page : ℕ) → is_member eqb t.report.pages page ≡ true → is_member eqb (indices_in (steps ++ t ∷ [])) (page / 1024) ≡ true)
