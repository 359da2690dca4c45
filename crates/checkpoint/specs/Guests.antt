-- A guest that goes on from a state, and the state that is made of one.
use Rattle.std.specs.Prelude.{◌≡◌, ℕ, ◌+◌, List}
use Rattle.board.specs.Scripts.{Events}
use Rattle.image_check.specs.Image.{Image}
use Rattle.shadow_cache.specs.declared.roots.Roots.{Roots}
use Rattle.machine_model.specs.State.{State, wedge}
use Rattle.wedge_step.specs.Filled.{WereFilled}
use Rattle.wedge_step.specs.Scene.{Scene, free, kept_in, state_in}
use Rattle.wedge_step.specs.Standing.{IsAble, ground, state_of}
use Rattle.wedge_step.specs.declared.running.Running.{Running}
use Rattle.wedge_core.specs.OfRoots.{of_roots}
use Rattle.wedge_core.specs.Scenes.{IsHeldIn, IsReadyIn}

-- The guest stands in that state, over so many frames, with no translation. It holds two frames of a pool of 512.
pub record GoesOnFrom (image : Image) (count : ℕ) (first : State) (new : Scene Roots) : Type 0 where
  pub held : IsHeldIn of_roots (ground image count) new
  pub ready : IsReadyIn of_roots (ground image count) new
  pub state : (script : Events) → state_in of_roots (wedge image script count) new ≡ first
  pub frames : new.guest.frames ≡ count
  pub able : IsAble new.guest.cpu
  pub two : new.guest.held ≡ 2
  pub free : free new + new.guest.held ≡ 512
  pub fills : new.guest.fills ≡ 0
  pub filled : WereFilled (kept_in of_roots new) new.guest.fills

-- the state of a guest over this memory of its host, under any script
abbrev pub state_at : Image → Events → Running Roots → List ℕ → State
state_at image script r memory = state_of of_roots (wedge image script r.frames) r memory
