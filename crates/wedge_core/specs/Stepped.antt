-- What a step leaves of a guest's scene, and what is known of a run over it.
use Rattle.std.specs.Prelude.{◌≡◌, ◌+◌, ◌≤◌, Bool, true, false, Result, OnOk, OnErr}
use Rattle.shadow_tables.specs.declared.shadows.Shadows as shadows
use Rattle.ia32_types.specs.declared.stop.Stop.{Stop}
use Rattle.board.specs.Scripts.{Events}
use Rattle.image_check.specs.Image.{Image}
use Rattle.machine_model.specs.State.{wedge}
use Rattle.machine_step.specs.declared.worked.Seen.{Seen}
use Rattle.wedge_step.specs.Alone.{AloneAs}
use Rattle.wedge_step.specs.Leaves.{CarriesOn, Stays}
use Rattle.wedge_step.specs.Parts.{left_of}
use Rattle.wedge_step.specs.Scene.{Scene, set_in, state_in}
use Rattle.wedge_step.specs.Standing.{IsAble, ground}
use Rattle.wedge_core.specs.Losing.{StepLosesByClash}
use Rattle.wedge_core.specs.Scenes.{IsHeldIn, IsReadyIn}
use Rattle.wedge_core.specs.Counts.{Counts}
use Rattle.wedge_core.specs.Stepping.{StepAs}

-- At most one instruction is counted, and none where the step stops.
pub record CountsOne (before after : Counts) (result : Result Seen Stop) : Type 0 where
  pub few : after.retired ≤ before.retired + 1
  pub retired : OnErr result (after.retired ≡ before.retired)
  pub passed : OnErr result (after.passed ≡ before.passed)

-- nothing is counted
pub record CountsNone (before after : Counts) : Type 0 where
  pub retired : after.retired ≡ before.retired
  pub passed : after.passed ≡ before.passed

module _ {S : Type 0} (g : shadows.Ghosts S) where
  -- A step that went is counted, and leaves the guest where it can go on. One that stopped isn't.
  pub record StepLeaves (image : Image) (notes_wanted : Bool) (old new : Scene S) (result : Result Seen Stop) : Type 0 where
    pub held : OnOk result (IsHeldIn g (ground image old.guest.frames) new)
    pub ready : OnOk result (IsReadyIn g (ground image old.guest.frames) new)
    pub reloaded : OnOk result (notes_wanted ≡ true → new.guest.lost.reloaded ≡ false)
    pub count : OnOk result (new.guest.step ≡ old.guest.step + 1)
    pub stays : OnErr result (Stays old new)

  -- a step by the rules alone, by all that is kept
  pub record StepsAlone (image : Image) (notes_wanted : Bool) (old new : Scene S) (result : Result Seen Stop) : Type 0 where
    pub step : (script : Events) → AloneAs (wedge image script old.guest.frames) (state_in g (wedge image script old.guest.frames) old)
        new.guest.lost result (state_in g (wedge image script old.guest.frames) new)
    pub leaves : StepLeaves image notes_wanted old new result
    pub before : new.guest.lost.before ≡ old.guest.lost.before
    pub carried : OnOk result (CarriesOn g image notes_wanted (set_in g old) old new)

  -- A step, by what is kept or by what is left of it, with what the host counts.
  pub record StepsOnce (image : Image) (notes_wanted : Bool) (old new : Scene S) (result : Result Seen Stop)
      (before after : Counts) : Type 0 where
    pub step : (script : Events) → StepAs (wedge image script old.guest.frames) (state_in g (wedge image script old.guest.frames) old)
        new.guest.lost result (state_in g (wedge image script old.guest.frames) new) before after
    pub leaves : StepLeaves image notes_wanted old new result
    pub able : OnOk result (IsAble new.guest.cpu)
    pub carried : OnOk result (CarriesOn g image notes_wanted (left_of new.guest.lost.before (set_in g old)) old new)
    pub clashed : StepLosesByClash g image old new
