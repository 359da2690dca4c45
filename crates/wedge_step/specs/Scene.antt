-- A guest between two of its steps, with what is around it, as one value.
use Rattle.std.specs.Prelude.{ℕ, ◌+◌, ◌≤◌, List, length}
use Rattle.frame_pool.specs.Pool.{free_list}
use Rattle.frame_pool.specs.declared.Pool.{Pool}
use Rattle.shadow_tables.specs.declared.shadows.Shadows as shadows
use Rattle.machine_model.specs.Run.{Set}
use Rattle.machine_model.specs.State.{Setting, State}
use Rattle.wedge_step.specs.Filled.{pages_kept}
use Rattle.wedge_step.specs.Standing.{set_of, state_of}
use Rattle.wedge_step.specs.declared.running.Running.{Running}

-- the guest, the pool's state and the host's memory
pub record Scene (S : Type 0) : Type 0 where
  pub guest : Running S
  pub pool : Pool
  pub memory : List ℕ

abbrev pub scene : {S : Type 0} → Running S → Pool → List ℕ → Scene S
scene guest pool memory = record { guest = guest; pool = pool; memory = memory }

-- how many frames of the pool are free
abbrev pub free : {S : Type 0} → Scene S → ℕ
free c = length (free_list c.pool c.memory)

-- Of a pool's frames so many are free, and so many are a guest's. While the pages of its steps lie under at most 24 directory
-- indices its shadows hold at most 400, and the 64 others are enough for any step of its own.
abbrev pub AreAmple : (free held : ℕ) → Type 0
AreAmple free held = 464 ≤ free + held

module _ {S : Type 0} (g : shadows.Ghosts S) where
  -- the frames of the pool that the guest's shadows hold
  abbrev pub frames_in : Scene S → List ℕ
  frames_in c = g.frames c.guest.shadows c.memory

  -- the translations that they keep
  abbrev pub set_in : Scene S → Set
  set_in c = set_of g c.guest c.memory

  -- how many pages they keep, for all values of CR3
  abbrev pub kept_in : Scene S → ℕ
  kept_in c = pages_kept g c.guest.shadows c.memory

  -- the guest's state
  abbrev pub state_in : Setting → Scene S → State
  state_in m c = state_of g m c.guest c.memory
