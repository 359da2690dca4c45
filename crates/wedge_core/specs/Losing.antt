-- What is left where translations are dropped before a step, and where they may be.
use Rattle.std.specs.Prelude.{◌≡◌, ℕ, ◌*◌, ◌≤◌, Bool, true, List, take}
use Rattle.frame_pool.specs.Held.{Moves, Owns}
use Rattle.frame_pool.specs.declared.Pool.{Pool}
use Rattle.shadow_tables.specs.Sight as sights
use Rattle.shadow_tables.specs.declared.shadows.Shadows as shadows
use Rattle.board.specs.Boards.{given}
use Rattle.board.specs.Scripts.{Events}
use Rattle.image_check.specs.Image.{Image}
use Rattle.machine_model.specs.Clash.{clashes_from, instruction_clashes}
use Rattle.machine_model.specs.State.{Setting, State, wedge}
use Rattle.native_steps.specs.Mirrors.{shown}
use Rattle.wedge_step.specs.Clashing.{IsClear}
use Rattle.wedge_step.specs.Scene.{Scene, free, kept_in, set_in, state_in}
use Rattle.wedge_step.specs.Standing.{ground}
use Rattle.wedge_core.specs.Scenes.{IsReadyIn}

module _ {S : Type 0} (g : shadows.Ghosts S) where
  -- in each pool that owns them, the frames of these shadows move alike
  abbrev pub MovesInEach : S → S → List ℕ → List ℕ → Type 0
  MovesInEach old new memory then =
      (pool : Pool) → Owns pool memory (g.frames old memory) → Moves pool pool memory then (g.frames old memory) (g.frames new then)

  -- what is kept for other values of CR3, and what was noted, stays
  abbrev pub KeepsOtherRoots : S → S → List ℕ → List ℕ → Type 0
  KeepsOtherRoots old new memory then = sights.StaysBeside (sights.sight g old memory) (sights.sight g new then)

  -- What stays where translations are dropped: what is left can be found again, nothing is kept or opened that wasn't before,
  -- and the guest's memory is as it was.
  pub record StaysBeside (old new : Scene S) : Type 0 where
    pub ready : (m : Setting) → m.frames ≡ old.guest.frames → IsReadyIn g m old → IsReadyIn g m new
    pub reloaded : new.guest.lost.reloaded ≡ old.guest.lost.reloaded
    pub has_tables_under : (indices : ℕ → Bool) → g.has_tables_under old.guest.shadows old.memory indices
        → g.has_tables_under new.guest.shadows new.memory indices
    pub fewer : kept_in g new ≤ kept_in g old
    pub guest : take (4096 * old.guest.frames) new.memory ≡ take (4096 * old.guest.frames) old.memory

  -- the next instruction doesn't clash with what is kept
  abbrev pub IsClearIn : Image → ℕ → Scene S → Type 0
  IsClearIn image frames c = (script : Events) → IsClear (wedge image script frames) (state_in g (wedge image script frames) c)

  -- Where frames suffice for the pages of an instruction, all is dropped before it only where the instruction clashes.
  abbrev pub LosesByClash : Image → Scene S → Scene S → Type 0
  LosesByClash image old new =
      new.guest.lost.before ≡ true → 8 ≤ free old → (script : Events) (b : State) → b.cpu ≡ old.guest.cpu
      → b.ram ≡ shown (ground image old.guest.frames) old.memory → b.set ≡ set_in g old
      → instruction_clashes (wedge image script old.guest.frames) b ≡ true

  -- and so before a step
  abbrev pub StepLosesByClash : Image → Scene S → Scene S → Type 0
  StepLosesByClash image old new =
      new.guest.lost.before ≡ true → 8 ≤ free old → (script : Events) (b : State) → b.cpu ≡ old.guest.cpu
      → b.ram ≡ shown (ground image old.guest.frames) old.memory → b.set ≡ set_in g old → given b.board script b.step ≡ old.guest.board
      → clashes_from (wedge image script old.guest.frames) b ≡ true
