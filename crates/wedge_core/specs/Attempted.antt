-- What an attempt at a step leaves of a guest's scene, and what is known of a run over it.
use Rattle.std.specs.Prelude.{◌≡◌, ◌+◌, ◌*◌, ◌≤◌, List, [], ◌∷◌, ◌++◌, length, Bool, true, false, Result, OnOk, OnErr}
use Rattle.guest_ram.specs.Bytes.{AreBytes}
use Rattle.shadow_tables.specs.declared.shadows.Shadows as shadows
use Rattle.ia32_types.specs.declared.stop.Stop.{Stop}
use Rattle.board.specs.Scripts.{Events}
use Rattle.image_check.specs.Image.{Image}
use Rattle.machine_model.specs.Keeping.{Roomy}
use Rattle.machine_model.specs.Run.{Set}
use Rattle.machine_model.specs.State.{wedge}
use Rattle.machine_model.specs.Taken.{Taken, is_load}
use Rattle.wedge_step.specs.Carried.{IsCarried, IsCarriedBy, IsTakenFrom}
use Rattle.wedge_step.specs.Leaves.{CarriesOn, IsCarriedIn, Stays}
use Rattle.wedge_step.specs.Parts.{left_of}
use Rattle.wedge_step.specs.Scene.{AreAmple, Scene, free, set_in, state_in}
use Rattle.wedge_step.specs.Standing.{IsHeld, ground}
use Rattle.wedge_core.specs.declared.native.Attempt.{Attempt}
use Rattle.wedge_core.specs.Attempts.{AttemptAs, WhereAsked, WhereStepped}
use Rattle.wedge_core.specs.Losing.{LosesByClash}
use Rattle.wedge_core.specs.Scenes.{IsReadyIn}
use Rattle.wedge_core.specs.Views.{view_by}

module _ {S : Type 0} (g : shadows.Ghosts S) where
  -- in each script; before the step all may have been dropped
  abbrev pub AttemptIn : Image → Bool → Scene S → Scene S → Result Attempt Stop → Type 0
  AttemptIn image before old new result =
      (script : Events)
      → AttemptAs (wedge image script old.guest.frames) (view_by (g.directory new.guest.shadows) old.guest.cpu)
      (state_in g (wedge image script old.guest.frames) old) before new.guest.lost result
      (state_in g (wedge image script old.guest.frames) new) new.memory

  -- Where no step is counted for a host that is asked, the guest is held once it is.
  pub record AttemptLeaves (image : Image) (notes_wanted : Bool) (old new : Scene S) (result : Result Attempt Stop) : Type 0 where
    pub held : OnOk result (IsHeld g (ground image old.guest.frames) (record new.guest { step = old.guest.step + 1 }) new.pool new.memory)
    pub ready : OnOk result (IsReadyIn g (ground image old.guest.frames) new)
    pub reloaded : OnOk result (notes_wanted ≡ true → new.guest.lost.reloaded ≡ false)
    pub count : WhereStepped result (new.guest.step ≡ old.guest.step + 1)
    pub asked : WhereAsked result
        (new.guest ≡ record old.guest {
          shadows = new.guest.shadows;
          held = new.guest.held;
          fills = new.guest.fills;
          lost = new.guest.lost;
        })
    pub stays : OnErr result (Stays old new)

  -- of a step that is taken from here by this set, with ample frames and no notes wanted
  abbrev pub WhereTaken : Image → Bool → Set → Scene S → Events → List Taken → Taken → Type 0 → Type 0
  WhereTaken image notes_wanted set old script steps t fact =
      notes_wanted ≡ false → AreAmple (free old) old.guest.held → Roomy (steps ++ t ∷ [])
      → IsTakenFrom (wedge image script old.guest.frames) (state_in g (wedge image script old.guest.frames) old) t → t.set ≡ set → fact

  -- of a step that the host does: it loads no control register, and leaves what is kept as it finds it
  abbrev pub WhereByHost : Scene S → Scene S → Taken → Type 0 → Type 0
  WhereByHost old new t fact =
      is_load t.report.completed ≡ false
      → (t.after.cpu.cr0 ≡ old.guest.cpu.cr0) × (t.after.cpu.cr3 ≡ old.guest.cpu.cr3) × (t.after.cpu.cr4 ≡ old.guest.cpu.cr4)
      → t.after.set ≡ set_in g new → 4096 * old.guest.frames ≤ length t.after.ram → AreBytes t.after.ram → fact

  -- what is known of a run goes on over a step, whatever set it is known with
  abbrev pub GoesOver : Image → Scene S → Scene S → Events → List Taken → Taken → Type 0
  GoesOver image old new script steps t =
      (set : Set)
      → IsCarriedBy g (wedge image script old.guest.frames) steps t.before set old.guest.shadows old.memory
      → IsCarried g (wedge image script old.guest.frames) (steps ++ t ∷ []) t.after new.guest.shadows new.memory

  -- What is known of a run goes on over a step that the host does, once it has done it.
  abbrev pub CarriesOnAsked : Image → Bool → Set → Scene S → Scene S → Type 0
  CarriesOnAsked image notes_wanted set old new =
      (script : Events) (steps : List Taken) (t : Taken) → WhereTaken image notes_wanted set old script steps t
      (WhereByHost old new t
      (IsCarriedIn g image script steps t.before old
      → IsCarried g (wedge image script old.guest.frames) (steps ++ t ∷ []) t.after new.guest.shadows new.memory))

  -- An attempt where frames suffice and nothing clashes: by what is kept, of which nothing is dropped before.
  pub record TriesOnce (image : Image) (notes_wanted : Bool) (old new : Scene S) (result : Result Attempt Stop) : Type 0 where
    pub step : AttemptIn image false old new result
    pub leaves : AttemptLeaves image notes_wanted old new result
    pub before : new.guest.lost.before ≡ old.guest.lost.before
    pub carried : WhereStepped result
        ((script : Events) (steps : List Taken) (t : Taken) → WhereTaken image notes_wanted (set_in g old) old script steps t
        (GoesOver image old new script steps t))
    pub carried_asked : WhereAsked result
        ((script : Events) (steps : List Taken) (t : Taken) → WhereTaken image notes_wanted (set_in g old) old script steps t
        (WhereByHost old new t (GoesOver image old new script steps t)))

  -- An attempt: by what is kept, or by what is left of it.
  pub record Attempts (image : Image) (notes_wanted : Bool) (old new : Scene S) (result : Result Attempt Stop) : Type 0 where
    pub step : AttemptIn image new.guest.lost.before old new result
    pub leaves : AttemptLeaves image notes_wanted old new result
    pub carried : WhereStepped result (CarriesOn g image notes_wanted (left_of new.guest.lost.before (set_in g old)) old new)
    pub carried_asked : WhereAsked result (CarriesOnAsked image notes_wanted (left_of new.guest.lost.before (set_in g old)) old new)
    pub clashed : LosesByClash g image old new
