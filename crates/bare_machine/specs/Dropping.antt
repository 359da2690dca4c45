-- Which translations leave at the end of a step, and which changes leave another one.
use Rattle.std.specs.Prelude.{ℕ, ◌/◌, ◌==◌, Bool, true, false, Some, is_some}
use Rattle.std.specs.FinMap.{get}
use Rattle.step_mem.specs.declared.changes.Change.{Change}
use Rattle.step_mem.specs.declared.changes.Change.TheVariants.{Gone, Now}
use Rattle.bare_mem.specs.Keeping.{Set, new_entry}
use Rattle.machine_step.specs.declared.worked.Dropped.{Dropped}
use Rattle.machine_step.specs.declared.worked.Dropped.TheVariants as dropped

-- the page's entry leaves
abbrev pub drops : Dropped → ℕ → Bool
drops dropped.Nothing page = false
drops (dropped.Page gone) page = page == gone
drops (dropped.Dir index) page = page / 1024 == index
drops dropped.All page = true

-- the change leaves another entry than the page had, or none
abbrev pub is_change : Set → Change → Bool
is_change set (Gone page) = true
is_change set (Now entry) = is_some (new_entry (get set entry.page) (Some entry))
