-- Which tables the views have. A fill opens one where there is none, and all stay until the views are emptied.
use Rattle.std.specs.Prelude.{◌≡◌, ◌≢◌, ℕ, ◌+◌, ◌<◌, ◌≤◌, Bool, true, List, length}
use Rattle.shadow_views.specs.Tables.{dir}
use Rattle.shadow_tables.specs.Slots.{held, root_of}
use Rattle.shadow_tables.specs.declared.words.Side.{Side}
use Rattle.shadow_tables.specs.declared.shadow.Shadow.{Shadow}

-- the view has a table for the pages of the directory index
abbrev pub HasTable : Shadow → List ℕ → Side → ℕ → Type 0
HasTable s m side index = dir m (root_of s side) index ≢ 0

-- no table went
abbrev pub KeepsTables : Shadow → (m m' : List ℕ) → Type 0
KeepsTables s m m' = (side : Side) (index : ℕ) → index < 1024 → HasTable s m side index → HasTable s m' side index

-- The table for a directory index of a view is there now. A frame was taken for it where it wasn't there before.
pub record HasOpened (s : Shadow) (m m' : List ℕ) (side : Side) (index : ℕ) : Type 0 where
  pub there : HasTable s m' side index
  pub others : KeepsTables s m m'
  pub already : HasTable s m side index → held s m' ≡ held s m
  pub one : length (held s m') ≤ length (held s m) + 1

-- the views have tables only for directory indices of which the test is true
abbrev pub HasOpenedOnly : (ℕ → Bool) → Shadow → List ℕ → Type 0
HasOpenedOnly indices s m = (side : Side) (index : ℕ) → index < 1024 → HasTable s m side index → indices index ≡ true
