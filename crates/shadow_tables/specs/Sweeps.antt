-- What a pass over some pages changes.
use Rattle.std.specs.Prelude.{◌≡◌, ℕ, ◌^◌, ◌≤◌, ◌<◌, List, Option}
use Rattle.frame_pool.specs.Held.{Writes}
use Rattle.shadow_tables.specs.Slots.{Slot, held, slot_at, IsShadow}
use Rattle.shadow_tables.specs.Opened.{KeepsTables}
use Rattle.shadow_tables.specs.declared.shadow.Shadow.{Shadow}

-- of what is kept that of the pages from first on, below last, is as f says, and no other changed
pub record Sweeps (s : Shadow) (m m' : List ℕ) (first last : ℕ) (f : ℕ → Option Slot) : Type 0 where
  pub shadow : IsShadow s m'
  pub frames : held s m' ≡ held s m
  pub memory : Writes (held s m) m m'
  pub tables : KeepsTables s m m'
  pub there : (page : ℕ) → page < 2 ^ 20 → first ≤ page → page < last → slot_at s m' page ≡ f page
  pub others : (page : ℕ) → page < 2 ^ 20 → (first ≤ page → page < last → ⊥) → slot_at s m' page ≡ slot_at s m page
