-- What the end of a step makes of what the shadows keep, for the present value of CR3 and for others.
use Rattle.std.specs.Prelude.{◌≡◌, ℕ, ◌^◌, ◌<◌, ◌≤◌, Bool, true, false, None, List}
use Rattle.std.specs.FinMap.{empty}
use Rattle.descriptors.specs.Controls.{pse_of, wp_of}
use Rattle.descriptors.specs.declared.cpu.Cpu.{Cpu}
use Rattle.shadow_tables.specs.OtherRoot.{IsSame, AreSame}
use Rattle.shadow_tables.specs.Entries.{entries_of}
use Rattle.shadow_tables.specs.Sight.{EmptiesBeside, Sight, StaysBeside}
use Rattle.shadow_cache.specs.Reloaded.{coming, staying}
use Rattle.kept_laws.specs.OverSteps.{Tells, under_value}
use Rattle.machine_model.specs.Run.{Set}
use Rattle.machine_step.specs.declared.worked.Dropped.{Dropped}
use Rattle.machine_step.specs.declared.worked.Worked.{Worked}
use Rattle.machine_step.specs.Worked.{dropping}
use Rattle.wedge_step.specs.Ready.{is_all}
use Rattle.wedge_step.specs.Sight.{Sheds, with_present}

-- The value of CR3 is the same; and unless all was dropped, what is kept was given these frames.
pub record IsToldOf (tables wrote : List ℕ) (dropped : Bool) (v v' : Sight) : Type 0 where
  pub same_cr3 : v'.cr3 ≡ v.cr3
  pub tells : dropped ≡ false → Tells tables wrote v v'

-- the rules by which rights are given and tables are read are the same
abbrev pub RulesSame : Cpu → Cpu → Type 0
RulesSame before after = (wp_of after ≡ wp_of before) × (pse_of after ≡ pse_of before)

-- the rules changed, and all was dropped
pub record ChangesRules (before after : Cpu) (v v' : Sight) : Type 0 where
  pub rules : RulesSame before after → ⊥
  pub none : (page : ℕ) → page < 2 ^ 20 → v'.slots page ≡ None
  pub beside : EmptiesBeside v v'

-- These pages were dropped, and CR3 was loaded with this value: what was present then was put by, under the value that it
-- had, and what was put by under this one came back.
pub record Loads (cr3 : ℕ) (pages : List ℕ) (v v' : Sight) : Type 0 where
  pub between : Sight
  pub same_cr3 : between.cr3 ≡ v.cr3
  pub sheds : Sheds pages v between
  pub present : IsSame (coming cr3 (with_present between)) (under_value cr3 v')
  pub put : AreSame (staying cr3 (with_present between)) v'.other_roots
  pub unmarked : v'.stale ≡ false

-- What leaves at the end of a step that went, and what comes back. Where the rules and CR3 stay, what the instruction
-- drops leaves. Where the rules change, all does. Where CR3 is loaded, no notes are wanted and frames are free, these pages
-- leave, and what is present is put by.
pub record Leaves (worked : Worked) (before : Cpu) (pages : List ℕ) (notes_wanted : Bool) (free : ℕ) (v v' : Sight) : Type 0 where
  pub stay : RulesSame before worked.cpu → worked.cpu.cr3 ≡ before.cr3 → is_all worked.dropped ≡ false
      → StaysBeside v v' × (entries_of v'.slots ≡ dropping worked.dropped (entries_of v.slots))
  pub lost : (RulesSame before worked.cpu → ⊥) → worked.cpu.cr3 ≡ before.cr3 → EmptiesBeside v v' × (entries_of v'.slots ≡ empty)
  pub loads : RulesSame before worked.cpu → is_all worked.dropped ≡ true → notes_wanted ≡ false → 2 ≤ free → Loads worked.cpu.cr3 pages v v'

-- How a step that went ends: what is kept was given what it read and wrote, and is then this set. Where the rules and CR3
-- stay, what the instruction drops leaves. Where the rules change, all does. Where CR3 is loaded, these pages leave, and
-- what is present is put by.
pub record Ends (dropped : Dropped) (before after : Cpu) (pages tables wrote : List ℕ) (set : Set) (v v' : Sight) : Type 0 where
  pub between : Sight
  pub same_cr3 : between.cr3 ≡ v.cr3
  pub told : Tells tables wrote v between
  pub entries : entries_of between.slots ≡ set
  pub through : RulesSame before after → after.cr3 ≡ before.cr3 → is_all dropped ≡ false
      → StaysBeside between v' × (entries_of v'.slots ≡ dropping dropped set)
  pub lost : (RulesSame before after → ⊥) → after.cr3 ≡ before.cr3 → EmptiesBeside between v' × (entries_of v'.slots ≡ empty)
  pub loaded : RulesSame before after → is_all dropped ≡ true → Loads after.cr3 pages between v'
