-- What a slice leaves of a guest's scene, of the sink and of the notes.
use Rattle.std.specs.Prelude.{◌≡◌, ◌⊎◌, ℕ, ◌*◌, ◌≤◌, List, [], length, Bool, false, Result, OnOk, OnErr}
use Rattle.shadow_tables.specs.declared.shadows.Shadows as shadows
use Rattle.board.specs.Scripts.{Events}
use Rattle.host_cpl3.specs.declared.host.Host as hosts
use Rattle.image_check.specs.Image.{Image}
use Rattle.machine_model.specs.State.{Setting, wedge}
use Rattle.pv_io.specs.Causes.{Rose}
use Rattle.pv_io.specs.declared.answer.Failed.{Failed}
use Rattle.pv_io.specs.declared.sink.Sink as sinks
use Rattle.run_trace.specs.Pauses.{IfReached}
use Rattle.run_trace.specs.declared.notes.Notes as notes
use Rattle.run_trace.specs.declared.pause.Pause.{Pause}
use Rattle.machine_model.specs.Keeping.{Roomy}
use Rattle.machine_model.specs.Taken.{Taken}
use Rattle.wedge_step.specs.Carried.{IsCarried}
use Rattle.wedge_step.specs.Filled.{CountsFills}
use Rattle.wedge_step.specs.Leaves.{IsCarriedIn}
use Rattle.wedge_step.specs.Pools.{Keeps}
use Rattle.wedge_step.specs.Scene.{AreAmple, Scene, frames_in, free, kept_in, set_in, state_in}
use Rattle.wedge_step.specs.Standing.{IsAble, ground}
use Rattle.wedge_core.specs.Noted.{NotesOn}
use Rattle.wedge_core.specs.Scenes.{IsHeldIn, IsReadyIn}
use Rattle.wedge_core.specs.Counts.{counts_of}
use Rattle.wedge_core.specs.Slices.{BeginsEmpty, Knowing, Noting, Outward, SliceAs}

abbrev pub outward : {H O : Type 0} → hosts.Ghosts H → sinks.Ghosts O → H → H → O → O → Outward
outward h o host host2 out out2 = record { before = counts_of h host; after = counts_of h host2; told = o.taken out; tells = o.taken out2 }

abbrev pub noting : {L : Type 0} → notes.Ghosts L → L → L → Noting
noting n old new = record { notes_wanted = n.wants old; on = NotesOn (n.wants old) (n.tells old) (n.tells new) }

-- Notes are wanted as before, and where none are, none is reported.
pub record StaysSilent {L : Type 0} (n : notes.Ghosts L) (old new : L) : Type 0 where
  pub wants : n.wants new ≡ n.wants old
  pub silent : n.wants old ≡ false → new ≡ old

-- where no put failed the sink's count of faults is as it was, and where one failed it rose
pub record FaultsOf (old new : ℕ) (result : Result Pause Failed) : Type 0 where
  pub kept : OnOk result (new ≡ old)
  pub cause : OnErr result (Rose old new)

module _ {S : Type 0} (g : shadows.Ghosts S) where
  -- what is known after some steps, where the slice begins so after them; and all that is carried on after its own
  abbrev pub knowing : Setting → Scene S → (List Taken → Type 0) → Knowing
  knowing m new begins =
      record { before = begins; after = λ steps. IsCarried g m steps (state_in g m new) new.guest.shadows new.memory }

  -- Steps under the monitor's rules lead from the one scene to the other. Where the slice begins so after some steps, its sets
  -- keep the rule for kept translations.
  abbrev pub SliceIn : Setting → ℕ → Scene S → Scene S → Outward → Noting → (List Taken → Type 0) → Result Pause Failed → Type 0
  SliceIn m bound old new out told begins result =
      SliceAs m bound (state_in g m old) (state_in g m new) out
      (record { pages = kept_in g old; fills = old.guest.fills; filled = new.guest.fills }) told (knowing m new begins) result

  -- after these steps, with all known of what is kept while the run is roomy, ample frames, and no notes wanted
  abbrev pub BeginsCarried : Image → Events → Scene S → Bool → List Taken → Type 0
  BeginsCarried image script c notes_wanted past =
      (Roomy past → IsCarriedIn g image script past (state_in g (wedge image script c.guest.frames) c) c)
      × AreAmple (free c) c.guest.held × (notes_wanted ≡ false)

  -- with nothing kept, two frames held and ample ones free, and no notes wanted
  abbrev pub BeginsBare : Scene S → Bool → Type 0
  BeginsBare c notes_wanted = BeginsEmpty (set_in g c) (free c) c.guest.held notes_wanted

  -- so with no steps before, or in the other way after any
  abbrev pub BeginsKnown : Image → Events → Scene S → Bool → List Taken → Type 0
  BeginsKnown image script c notes_wanted past =
      ((past ≡ []) × BeginsBare c notes_wanted) ⊎ BeginsCarried image script c notes_wanted past

  -- Where all steps were done the guest can go on. However the slice ended its shadows stand, over the frames of the pool that
  -- are its own, and each other frame that was out is out and as it was.
  pub record SliceLeaves (image : Image) (bound : ℕ) (old new : Scene S) (result : Result Pause Failed) : Type 0 where
    pub reached : IfReached result (new.guest.step ≡ bound)
    pub held : IfReached result (IsHeldIn g (ground image old.guest.frames) new)
    pub ready : IfReached result (IsReadyIn g (ground image old.guest.frames) new)
    pub able : IfReached result (IsAble new.guest.cpu)
    pub counted : new.guest.held ≡ length (frames_in g new)
    pub stands : ∥ g.stands new.guest.shadows new.memory ∥₁
    pub pool : Keeps old.pool new.pool old.memory new.memory (frames_in g old) (frames_in g new)
    pub few : new.guest.fills ≤ 128 * new.guest.step
    pub filled : CountsFills (kept_in g old) (kept_in g new) old.guest.fills new.guest.fills
    pub frames : new.guest.frames ≡ old.guest.frames
