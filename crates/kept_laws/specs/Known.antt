-- What a run knows between two of its steps, and how a step that was settled and ended goes on with it.
use Rattle.std.specs.Prelude.{◌≡◌, ◌⊎◌, ◌*◌, ◌≤◌, true, false, List, [], ◌∷◌, ◌++◌, length}
use Rattle.std.specs.FinMap.{empty}
use Rattle.guest_ram.specs.Bytes.{AreBytes}
use Rattle.descriptors.specs.Controls.{pse_of, wp_of}
use Rattle.shadow_tables.specs.Entries.{entries_of}
use Rattle.shadow_tables.specs.Sight.{Sight, StaysBeside, EmptiesBeside}
use Rattle.machine_model.specs.State.{Setting, State}
use Rattle.machine_model.specs.Run.{Set}
use Rattle.machine_model.specs.Step.{Went, step_of}
use Rattle.machine_model.specs.Taken.{Taken, loads_root}
use Rattle.machine_model.specs.Clash.{clashes_from}
use Rattle.machine_model.specs.Keeping.{IsKept, IsLeftBehind}
use Rattle.kept_laws.specs.Remembered.{ComesFrom, IsRemembered, Unwritten}
use Rattle.kept_laws.specs.OverSteps.{IsTold, IsLoaded, IsUnused}
use Rattle.kept_laws.specs.Judged.{AllFound, IsFoundStill}

-- The next step goes as the rule asks, where it uses what is kept, or nothing where it clashes by that.
abbrev pub IsNextKept : Setting → List Taken → State → Set → Type 0
IsNextKept m steps b kept =
    (set : Set) → (set ≡ kept) ⊎ ((set ≡ empty) × (clashes_from m (record b { set = kept }) ≡ true)) → IsKept m steps b set

-- Between two steps of a run, of which these were done, with what is kept: what is owed is remembered, and found in memory
-- as it is. What is kept is what the rule lets be left, and the next step goes as the rule asks.
pub record IsKnown (m : Setting) (steps : List Taken) (b : State) (v : Sight) (kept : Set) : Type 0 where
  pub remembered : IsRemembered m steps b v
  pub found : IsFoundStill m steps b
  pub left : IsLeftBehind m steps b kept
  pub next : IsNextKept m steps b kept

-- the step left CR0.WP and CR4.PSE
pub record RulesStay (t : Taken) : Type 0 where
  pub wp : wp_of t.after.cpu ≡ wp_of t.before.cpu
  pub pse : pse_of t.after.cpu ≡ pse_of t.before.cpu

-- CR3 was loaded: first pages were dropped, so that what was present came from the step's set, and then that was put by
pub record ReloadsRoot (t : Taken) (v v' : Sight) : Type 0 where
  pub between : Sight
  pub stay : StaysBeside v between
  pub comes : ComesFrom t (entries_of between.slots)
  pub loaded : IsLoaded t between v'

-- What a step made of what was kept up to its end: it was given what the step read and wrote. Then a step that doesn't load
-- CR3 left the rest as it was, or dropped all where CR0.WP or CR4.PSE changed, and a load put by and brought back.
pub record IsOver (t : Taken) (v v' : Sight) : Type 0 where
  pub between : Sight
  pub told : IsTold t v between
  pub through : loads_root t ≡ false → RulesStay t → StaysBeside between v' × (entries_of v'.slots ≡ t.after.set)
  pub lost : loads_root t ≡ false → (RulesStay t → ⊥) → EmptiesBeside between v' × (entries_of v'.slots ≡ empty)
  pub loaded : loads_root t ≡ true → ReloadsRoot t between v'

-- what is said of a step that went, for what is kept
pub record IsStep (m : Setting) (t : Taken) : Type 0 where
  pub went : step_of m t.before t.set ≡ Went t.report t.after
  pub room : 4096 * m.frames ≤ length t.before.ram
  pub room_after : 4096 * m.frames ≤ length t.after.ram
  pub bytes : AreBytes t.after.ram
  pub through : loads_root t ≡ false → t.after.cpu.cr3 ≡ t.before.cpu.cr3
  pub emptied : (pse_of t.after.cpu ≡ pse_of t.before.cpu → ⊥) → t.after.set ≡ empty

-- what is said of a step in which the run has no part, and that loads no CR3
pub record IsPast (m : Setting) (t : Taken) : Type 0 where
  pub went : step_of m t.before t.set ≡ Went t.report t.after
  pub room : 4096 * m.frames ≤ length t.before.ram
  pub plain : loads_root t ≡ false
  pub value : t.after.cpu.cr3 ≡ t.before.cpu.cr3

-- At the start nothing is kept, and so is all known.
abbrev pub KnownAtStart : Type 0
KnownAtStart = (m : Setting) (b : State) (v : Sight) → IsUnused v → IsKnown m [] b v empty

-- It stays known while the same is kept.
abbrev pub KnownStill : Type 0
KnownStill =
    (m : Setting) (steps : List Taken) (b : State) (v v' : Sight) (kept : Set) → StaysBeside v v' → IsKnown m steps b v kept
    → IsKnown m steps b v' kept

-- A step in which the run has no part: the same is kept after it, and of translations what it left.
abbrev pub KnownQuiet : Type 0
KnownQuiet =
    (m : Setting) (steps : List Taken) (t : Taken) (v : Sight) (kept : Set) → IsPast m t
    → IsKnown m steps t.before v kept → IsKnown m (steps ++ t ∷ []) t.after v t.after.set

-- A step that the run has settled. What it used was found from the directory in use, if it loads CR3.
abbrev pub KnownOn : Type 0
KnownOn =
    (m : Setting) (steps : List Taken) (t : Taken) (v v' : Sight) (kept : Set) → IsStep m t
    → (loads_root t ≡ true → Unwritten (steps ++ t ∷ []) → AllFound m t.before t.before.cpu.cr3 steps t.set)
    → IsOver t v v' → IsKnown m steps t.before v kept → IsKnown m (steps ++ t ∷ []) t.after v' (entries_of v'.slots)
