-- What a stretch of instructions that the host does leaves of a guest, and of the host.
use Rattle.std.specs.Prelude.{◌≡◌, ℕ, ◌+◌, ◌≤◌, ◌<◌, List}
use Rattle.frame_pool.specs.Held.{SameIn}
use Rattle.frame_pool.specs.declared.Pool.{Pool}
use Rattle.shadow_tables.specs.declared.shadows.Shadows as shadows
use Rattle.board.specs.Boards.{given}
use Rattle.board.specs.declared.devices.Board.{Board}
use Rattle.image_check.specs.Image.{Image}
use Rattle.machine_model.specs.State.{Setting}
use Rattle.wedge_step.specs.Filled.{CountsFills, pages_kept}
use Rattle.wedge_step.specs.Pools.{Keeps}
use Rattle.wedge_step.specs.Ready.{IsReady}
use Rattle.wedge_step.specs.Standing.{IsAble, IsHeld, ground, state_of}
use Rattle.wedge_step.specs.declared.running.Running.{Running}
use Rattle.wedge_core.specs.Counts.{Counts}
use Rattle.wedge_core.specs.Stepping.{Passes}

-- So many steps were done, at most up to the bound, and the host counted as many.
pub record StretchCounts (bound old new done : ℕ) (before after : Counts) : Type 0 where
  pub count : new ≡ old + done
  pub most : new ≤ bound
  pub retired : after.retired ≡ before.retired + done
  pub passed : done ≡ 0 → after.passed ≡ before.passed

module _ {S : Type 0} (g : shadows.Ghosts S) where
  -- Steps in which nothing is seen lead there, whatever board became this one when its events were given; or nothing was done.
  pub record StretchGoes (m : Setting) (old new : Running S) (memory then : List ℕ) (done : ℕ) (before after : Counts) : Type 0 where
    pub passes : 0 < done → (board : Board) → given board m.script old.step ≡ old.board
        → Passes m (record (state_of g m old memory) { board = board }) (state_of g m new then) before after
    pub stays : done ≡ 0 → state_of g m new then ≡ state_of g m old memory

  -- In whatever pool its frames are held, they still are; and its shadows stay.
  pub record StretchLeaves (image : Image) (old new : Running S) (memory then : List ℕ) : Type 0 where
    pub held : (pool : Pool) → IsHeld g (ground image old.frames) old pool memory
        → IsHeld g (ground image old.frames) new pool then
    pub pool : (pool : Pool) → IsHeld g (ground image old.frames) old pool memory
        → Keeps pool pool memory then (g.frames old.shadows memory) (g.frames new.shadows then)
    pub filled : CountsFills (pages_kept g old.shadows memory) (pages_kept g new.shadows then) old.fills new.fills
    pub ready : IsReady g (ground image old.frames) old.cpu old.shadows memory
        → IsReady g (ground image old.frames) new.cpu new.shadows then
    pub kept : new.shadows ≡ old.shadows
    pub apart : SameIn (g.frames old.shadows memory) memory then
    pub able : IsAble new.cpu
    pub frames : new.frames ≡ old.frames
