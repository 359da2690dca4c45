-- Where a guest stands between two steps, and what a step leaves of it.
use Rattle.std.specs.Prelude.{◌≡◌, ◌+◌, ◌≤◌, List, [], ◌∷◌, ◌++◌, Bool, false, length}
use Rattle.board.specs.Scripts.{Events}
use Rattle.image_check.specs.Image.{Image}
use Rattle.shadow_tables.specs.declared.shadows.Shadows as shadows
use Rattle.machine_model.specs.Keeping.{Roomy}
use Rattle.machine_model.specs.Run.{Set}
use Rattle.machine_model.specs.State.{State, wedge}
use Rattle.machine_model.specs.Taken.{Taken}
use Rattle.wedge_step.specs.Carried.{IsCarried, IsTakenFrom}
use Rattle.wedge_step.specs.Filled.{CountsFills}
use Rattle.wedge_step.specs.Pools.{Keeps}
use Rattle.wedge_step.specs.Ready.{IsReady}
use Rattle.wedge_step.specs.Scene.{AreAmple, Scene, free, frames_in, kept_in, state_in}
use Rattle.wedge_step.specs.Standing.{IsHeld, ground}

-- a step that stopped: neither it nor a page was counted (a frame condition)
pub record Stays {S : Type 0} (old new : Scene S) : Type 0 where
  pub step : new.guest.step ≡ old.guest.step
  pub fills : new.guest.fills ≡ old.guest.fills

module _ {S : Type 0} (g : shadows.Ghosts S) where
  -- It stands over the host's memory and the pool, what it keeps can be found again, and frames suffice for a step (the loop invariant
  -- of the patched run).
  pub record IsBetween (image : Image) (c : Scene S) : Type 0 where
    pub held : IsHeld g (ground image c.guest.frames) c.guest c.pool c.memory
    pub ready : IsReady g (ground image c.guest.frames) c.guest.cpu c.guest.shadows c.memory
    pub enough : 16 ≤ free c + c.guest.held

  -- However a step ended: the shadows stand, the same frames of the pool are held or free, and the counts are right.
  pub record Accounts (old new : Scene S) : Type 0 where
    pub stands : ∥ g.stands new.guest.shadows new.memory ∥₁
    pub counted : new.guest.held ≡ length (frames_in g new)
    pub pool : Keeps old.pool new.pool old.memory new.memory (frames_in g old) (frames_in g new)
    pub filled : CountsFills (kept_in g old) (kept_in g new) old.guest.fills new.guest.fills
    pub frames : new.guest.frames ≡ old.guest.frames

  -- after these steps, all is known with what the shadows keep
  abbrev pub IsCarriedIn : Image → Events → List Taken → State → Scene S → Type 0
  IsCarriedIn image script steps b c =
      IsCarried g (wedge image script c.guest.frames) steps b c.guest.shadows c.memory

  -- With ample frames and no notes wanted, what is known of a run goes on over its next step, which uses this set.
  abbrev pub CarriesOn : Image → Bool → Set → Scene S → Scene S → Type 0
  CarriesOn image notes_wanted set old new =
      (script : Events) (steps : List Taken) (t : Taken) → notes_wanted ≡ false → AreAmple (free old) old.guest.held
      → Roomy (steps ++ t ∷ [])
      → IsTakenFrom (wedge image script old.guest.frames) (state_in g (wedge image script old.guest.frames) old) t → t.set ≡ set
      → IsCarriedIn image script steps t.before old
      → IsCarried g (wedge image script old.guest.frames) (steps ++ t ∷ []) t.after new.guest.shadows new.memory
