-- Where a guest stands, as one fact of its scene.
use Rattle.shadow_tables.specs.declared.shadows.Shadows as shadows
use Rattle.image_check.specs.Image.{Image}
use Rattle.machine_model.specs.State.{Setting}
use Rattle.wedge_step.specs.Ready.{IsReady}
use Rattle.wedge_step.specs.Scene.{Scene}
use Rattle.wedge_step.specs.Standing.{IsHeld, ground}

module _ {S : Type 0} (g : shadows.Ghosts S) where
  -- the guest is held over the pool and the host's memory
  abbrev pub IsHeldIn : Setting → Scene S → Type 0
  IsHeldIn m c = IsHeld g m c.guest c.pool c.memory

  -- what its shadows keep can be found again
  abbrev pub IsReadyIn : Setting → Scene S → Type 0
  IsReadyIn m c = IsReady g m c.guest.cpu c.guest.shadows c.memory

  -- over whatever image it was held, it still is
  abbrev pub StaysHeld : Scene S → Scene S → Type 0
  StaysHeld old new = (image : Image) → IsHeldIn (ground image old.guest.frames) old → IsHeldIn (ground image old.guest.frames) new
