-- What the end of a step asks for, and what it makes of the guest and its counts.
use Rattle.std.specs.Prelude.{◌≡◌, ◌==◌, ℕ, ◌+◌, ◌*◌, ◌^◌, ◌<◌, ◌≤◌, Bool, true, false, length}
use Rattle.board.specs.Boards.{board_step}
use Rattle.descriptors.specs.Controls.{wp_of}
use Rattle.descriptors.specs.declared.cpu.Cpu.{Cpu}
use Rattle.shadow_tables.specs.declared.shadows.Shadows as shadows
use Rattle.step_mem.specs.declared.state.StepState.{StepState}
use Rattle.machine_step.specs.Worked.{IsDropped}
use Rattle.machine_step.specs.declared.worked.Worked.{Worked}
use Rattle.wedge_step.specs.Filled.{CountsFills}
use Rattle.wedge_step.specs.Scene.{Scene, free, frames_in, kept_in}
use Rattle.wedge_step.specs.Stand.{FillsIn, IsSoundIn, Stand, stand}
use Rattle.wedge_step.specs.Standing.{side_of}
use Rattle.wedge_step.specs.declared.running.Running.{Running}

-- the guest's shadows, with the pool and the memory
abbrev pub standing : {S : Type 0} → Scene S → Stand S
standing c = stand c.guest.shadows c.pool c.memory

-- a step drops no page beyond the address space, and followed the processor's rules
pub record IsWorked (before : Cpu) (state : StepState) (worked : Worked) : Type 0 where
  pub page : IsDropped worked.dropped
  pub rules : state.control.wp ≡ wp_of before

-- nothing of the guest changed but what is kept, and how much of it
pub record KeepsRest {S : Type 0} (old new : Running S) : Type 0 where
  pub before : new.lost.before ≡ old.lost.before
  pub reloaded : new.lost.reloaded ≡ old.lost.reloaded
  pub same : new ≡ record old { shadows = new.shadows; held = new.held; fills = new.fills; lost = new.lost }

-- the processor is as the step left it, the count rose, and the board advanced
pub record Passes {S : Type 0} (worked : Worked) (old new : Running S) : Type 0 where
  pub cpu : new.cpu ≡ worked.cpu
  pub board : new.board ≡ board_step old.board
  pub step : new.step ≡ old.step + 1
  pub frames : new.frames ≡ old.frames
  pub before : new.lost.before ≡ old.lost.before

module _ {S : Type 0} (g : shadows.Ghosts S) where
  -- what a step did so far is sound, and the frames that the guest holds are counted
  pub record IsUnderWay (c : Scene S) (state : StepState) : Type 0 where
    pub sound : IsSoundIn g (standing c) state
    pub counted : c.guest.held ≡ length (frames_in g c)
    pub few : free c + length (frames_in g c) < 2 ^ 32

  -- it may be counted, and frames suffice for going to another value of CR3
  pub record MayEnd (c : Scene S) : Type 0 where
    pub fills : c.guest.fills ≤ 128 * c.guest.step
    pub bound : c.guest.step < 2 ^ 40
    pub enough : 4 ≤ free c + length (frames_in g c)

  -- So many pages were filled after a step: none where all were dropped.
  abbrev pub HasFilled : Bool → Scene S → StepState → ℕ → Type 0
  HasFilled true c state n = n ≡ 0
  HasFilled false c state n = FillsIn g (side_of (c.guest.cpu.cpl == 3)) (standing c) state n

  -- The frames that are held are counted, and so are the pages that were filled.
  pub record KeepsCount (old new : Scene S) (state : StepState) : Type 0 where
    pub counted : new.guest.held ≡ length (frames_in g new)
    pub fills : new.guest.fills ≤ old.guest.fills + 128
    pub exact : (n : ℕ) × (new.guest.fills ≡ old.guest.fills + n) × HasFilled new.guest.lost.after old state n
    pub filled : CountsFills (kept_in g old) (kept_in g new) old.guest.fills new.guest.fills

  -- So it is at the end of a step, whose count rose with them.
  pub record EndsCount (old new : Scene S) (state : StepState) : Type 0 where
    pub counted : new.guest.held ≡ length (frames_in g new)
    pub fills : new.guest.fills ≤ 128 * new.guest.step
    pub exact : new.guest.lost.after ≡ false → (n : ℕ) × (new.guest.fills ≡ old.guest.fills + n) × HasFilled false old state n
    pub filled : CountsFills (kept_in g old) (kept_in g new) old.guest.fills new.guest.fills
