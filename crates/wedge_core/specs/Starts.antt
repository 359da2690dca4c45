-- How a guest starts.
use Rattle.std.specs.Prelude.{◌≡◌, ℕ, ◌+◌, ◌*◌, ◌<◌, ◌≤◌, Bool, false, List, [], length, replicate, Result, Ok, Err}
use Rattle.frame_pool.specs.Pool.{base_of, count_of}
use Rattle.frame_pool.specs.declared.Pool.{Pool}
use Rattle.board.specs.Scripts.{Events}
use Rattle.image_check.specs.Image.{Image}
use Rattle.image_load.specs.Boot.{need}
use Rattle.image_load.specs.declared.fault.StartFault.{StartFault}
use Rattle.image_load.specs.declared.fault.StartFault.TheVariants as start
use Rattle.shadow_tables.specs.declared.shadows.Shadows as shadows
use Rattle.machine_model.specs.State.{Setting, boot, wedge}
use Rattle.shadow_cache.specs.declared.roots.Roots.{Roots}
use Rattle.wedge_step.specs.Scene.{Scene, free, scene, state_in}
use Rattle.wedge_step.specs.Standing.{IsAble}
use Rattle.wedge_core.specs.declared.guest.Guest.{Guest}
use Rattle.wedge_core.specs.OfRoots.{of_roots}
use Rattle.wedge_core.specs.Scenes.{IsHeldIn}

-- The guest stands where every run begins. The frames that it holds and those that are free are all of the pool's.
pub record Begins (m : Setting) (c : Scene Roots) : Type 0 where
  pub held : IsHeldIn of_roots m c
  pub state : state_in of_roots m c ≡ boot m
  pub able : IsAble c.guest.cpu
  pub fills : c.guest.fills ≡ 0
  pub two : c.guest.held ≡ 2
  pub all : free c + c.guest.held ≡ count_of c.pool

module _ {S : Type 0} (g : shadows.Ghosts S) where
  -- No frame is noted of the present tables, and they aren't marked. Nothing is kept for another value of CR3, and there are
  -- no tables.
  pub record IsAsNew (s : S) (memory : List ℕ) : Type 0 where
    pub unnoted : (frame : ℕ) → g.read_from s frame ≡ false
    pub unmarked : g.stale s ≡ false
    pub alone : g.other_roots s memory ≡ []
    pub unopened : (indices : ℕ → Bool) → g.has_tables_under s memory indices

-- the host's memory has the guest's frames and the pool's
abbrev pub StartedAs : Image → ℕ → ℕ → List ℕ → Result (Guest × Pool) StartFault → Type 0
StartedAs image frames count memory (Ok started) =
    (need image ≤ frames) × (length memory ≡ 4096 * (frames + count)) × (base_of started.1 ≡ frames) × (count_of started.1 ≡ count)
    × ((script : Events) → Begins (wedge image script frames) (scene started.0 started.1 memory))
StartedAs image frames count memory (Err (start.TooSmall small)) =
    (frames < need image) × (small ≡ record { need = need image; have = frames }) × (memory ≡ replicate ((frames + count) * 4096) 0)
StartedAs image frames count memory (Err start.Memory) = Unit {0}
