-- By which translations a run judges that a step clashes, and by which the rule for kept translations does.
use Rattle.std.specs.Prelude.{◌≡◌, ℕ, ◌*◌, ◌^◌, ◌<◌, ◌≤◌, true, false, List, [], ◌∷◌, ◌++◌, length, Some}
use Rattle.std.specs.List.{All}
use Rattle.std.specs.Option.{ForSome}
use Rattle.std.specs.FinMap.{get}
use Rattle.guest_ram.specs.Bytes.{AreBytes}
use Rattle.descriptors.specs.Controls.{pse_of}
use Rattle.machine_model.specs.State.{Setting, State}
use Rattle.machine_model.specs.Step.{Report, Went, step_of}
use Rattle.machine_model.specs.Run.{Set, Steps}
use Rattle.machine_model.specs.Taken.{Taken, steps_by, loads_root}
use Rattle.machine_model.specs.Clash.{clashes_from}
use Rattle.machine_model.specs.Keeping.{leaves, held, clashes}
use Rattle.machine_model.specs.Reloading.{IsFoundBy}
use Rattle.kept_laws.specs.Remembered.{was_read, Unwritten, IsOwed}

-- with one step more, the steps that a run takes have that step after them
abbrev pub TakenOn : Type 0
TakenOn =
    (m : Setting) (old mid new : State) (sets : List Set) (set : Set) (reports : List Report) (report : Report)
    → Steps m old sets reports mid → step_of m mid set ≡ Went report new
    → steps_by m old (sets ++ set ∷ []) ≡ steps_by m old sets ++ record { before = mid; set = set; report = report; after = new } ∷ []

-- After a step that doesn't load CR3 a step is judged by the translations that were left; so is the first.
abbrev pub HeldStays : Type 0
HeldStays = (steps : List Taken) (t : Taken) (b : State) → loads_root t ≡ false → held (steps ++ t ∷ []) b ≡ b.set

-- After a load, by those before the last step that left the loaded value.
abbrev pub HeldBack : Type 0
HeldBack =
    (steps : List Taken) (t : Taken) (b : State) (old : List Taken) (left : Taken) (since : List Taken) → loads_root t ≡ true → steps
    ++ t ∷ [] ≡ old ++ left ∷ since
    → leaves t.after.cpu.cr3 left ≡ true → All (λ u. leaves t.after.cpu.cr3 u ≡ false) since → held (steps ++ t ∷ []) b ≡ left.set

-- Each of these translations is of a page of the address space, and a walk from the directory of this value finds it, by
-- words in frames that walks of these steps read as a directory or table.
abbrev pub AllFound : Setting → State → ℕ → List Taken → Set → Type 0
AllFound m b c steps set =
    (page : ℕ) → ForSome (get set page) (λ e. (page < 2 ^ 20) × IsFoundBy b.ram m.frames c (pse_of b.cpu) (was_read steps) page e)

-- What is owed is found in memory as it is now.
pub record IsFoundStill (m : Setting) (steps : List Taken) (now : State) : Type 0 where
  pub each : (c : ℕ) (old : List Taken) (left : Taken) (since : List Taken) → IsOwed m steps now c old left since
      → AllFound m now c steps left.set

-- At first nothing is owed. With each step it stays so, where a step that loads CR3 used translations that are found.
abbrev pub FoundAtStart : Type 0
FoundAtStart = (m : Setting) (now : State) → IsFoundStill m [] now

abbrev pub FoundGoesOn : Type 0
FoundGoesOn =
    (m : Setting) (steps : List Taken) (t : Taken) → step_of m t.before t.set ≡ Went t.report t.after
    → 4096 * m.frames ≤ length t.before.ram
    → (loads_root t ≡ true → Unwritten (steps ++ t ∷ []) → AllFound m t.before t.before.cpu.cr3 steps t.set)
    → IsFoundStill m steps t.before → IsFoundStill m (steps ++ t ∷ []) t.after

-- Where some translations are among others, and each of the others is found from the directory in use, a step that clashes
-- by the first clashes by the others.
abbrev pub ClashesAgree : Type 0
ClashesAgree =
    (m : Setting) (b : State) (steps : List Taken) (kept others : Set) → 4096 * m.frames ≤ length b.ram → AreBytes b.ram
    → ((page : ℕ) → ForSome (get kept page) (λ e. get others page ≡ Some e)) → AllFound m b b.cpu.cr3 steps others
    → clashes_from m (record b { set = kept }) ≡ true → clashes_from m (record b { set = others }) ≡ true

-- So after a load of CR3 a run that drops all, since the next step clashes by what came back, has a cause by the rule.
abbrev pub ClashesAreJudged : Type 0
ClashesAreJudged =
    (m : Setting) (steps : List Taken) (t : Taken) (b : State) (kept : Set) (old : List Taken) (left : Taken) (since : List Taken)
    → loads_root t ≡ true → 4096 * m.frames ≤ length b.ram → AreBytes b.ram
    → b.cpu.cr3 ≡ t.after.cpu.cr3 → IsFoundStill m (steps ++ t ∷ []) b → IsOwed m (steps ++ t ∷ []) b t.after.cpu.cr3 old left since
    → ((page : ℕ) → ForSome (get kept page) (λ e. get left.set page ≡ Some e))
    → clashes_from m (record b { set = kept }) ≡ true → clashes m (steps ++ t ∷ []) b ≡ true
