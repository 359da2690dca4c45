-- What is answered of a run that is to rest as a checkpoint.
use Rattle.std.specs.Prelude.{◌≡◌, ◌⊎◌, ℕ, ◌*◌, ◌≤◌, ◌<◌, List, [], length, Option, Result, Ok, Err}
use Rattle.pv_io.specs.Causes.{Rose}
use Rattle.pv_io.specs.Sink.{Appends, AppendsFront}
use Rattle.ia32_types.specs.declared.stop.Stop as stops
use Rattle.image_load.specs.Boot.{need}
use Rattle.image_load.specs.declared.fault.RunFault.{RunFault}
use Rattle.image_load.specs.declared.fault.RunFault.TheVariants as fault
use Rattle.run_trace.specs.declared.items.End.{End}
use Rattle.run_trace.specs.declared.items.End.TheVariants as ends
use Rattle.machine_model.specs.State as model
use Rattle.machine_model.specs.State.{Setting, boot}
use Rattle.machine_model.specs.Run.{Set}
use Rattle.paging.specs.Space.{Mode, Bare, Wedge}
use Rattle.wedge_core.specs.Counts.{Counts, CountsOn}
use Rattle.wedge_core.specs.Promises.{HasFills}
use Rattle.checkpoint.specs.declared.rested.Rested.{Rested}
use Rattle.checkpoint.specs.declared.rested.Rested.TheVariants.{At, Stopped}
use Rattle.checkpoint.specs.InForm.{IsInForm}
use Rattle.checkpoint.specs.Moved.{kept_of}
use Rattle.checkpoint.specs.Rested.{Counting, RestsTo}

-- the host has done their direct instructions
abbrev pub host_counts : Setting → Counts → Counts → Counting
host_counts m before after = λ reports. CountsOn m reports before after

-- there is no host
abbrev pub no_counts : Counting
no_counts = λ reports. Unit {0}

-- nothing was put, and nothing counted
abbrev pub NothingDone : Counting → Option (List ℕ) → Option (List ℕ) → ℕ → ℕ → Type 0
NothingDone counts old new before now = (new ≡ old) × (now ≡ before) × counts []

-- The lines of a run that has done all its steps were put, the sink's count of faults is as it was, and a checkpoint can be
-- made of the last state.
pub record RestsWith (m : Setting) (n : ℕ) (first : model.State) (counts : Counting) (old new : Option (List ℕ)) (before now : ℕ)
    (last : model.State) : Type 0 where
  pub text : List ℕ
  pub rests : RestsTo m n first counts text last ends.Bound
  pub form : IsInForm (kept_of last)
  pub size : length last.ram ≡ 4096 * m.frames
  pub put : Appends old new text
  pub kept : now ≡ before

-- how many pages were filled in a run by these rules: none on the bare machine, and by a monitor's as many as bound its sets
abbrev pub AreFilled : Mode → Setting → List Set → model.State → ℕ → Type 0
AreFilled Bare m sets last fills = fills ≡ 0
AreFilled (Wedge text count own) m sets last fills = HasFills m sets last fills

abbrev pub RestsAs : Setting → ℕ → model.State → Counting → Option (List ℕ) → Option (List ℕ) → ℕ → ℕ → Result Rested RunFault → Type 0
RestsAs m n first counts old new before now (Ok (At state)) =
    (last : model.State) × RestsWith m n first counts old new before now last × (state ≡ kept_of last)
RestsAs m n first counts old new before now (Ok (Stopped ended)) =
    (last : model.State) × (stop : stops.Stop) × (text : List ℕ) × (rests : RestsTo m n first counts text last (ends.Stopped stop))
    × (ended.steps ≡ last.step) × (ended.end ≡ ends.Stopped stop) × Appends old new text × (now ≡ before)
    × AreFilled m.mode m rests.sets last ended.fills
-- the sink failed, and has taken a front of what some run puts
RestsAs m n first counts old new before now (Err fault.Write) =
    (last : model.State) × (end : End) × (text : List ℕ) × RestsTo m n first no_counts text last end
    × AppendsFront old new text × Rose before now
RestsAs m n first counts old new before now (Err (fault.TooSmall small)) = ⊥
-- no memory was found for the run, or its lines were put and none was found for the state
RestsAs m n first counts old new before now (Err fault.Memory) =
    NothingDone counts old new before now ⊎ ((last : model.State) × RestsWith m n first counts old new before now last)

-- the same of a run from where every run begins, or the image needs more frames than there are
abbrev pub RestsFromStart : Setting → ℕ → Counting → Option (List ℕ) → Option (List ℕ) → ℕ → ℕ → Result Rested RunFault → Type 0
RestsFromStart m n counts old new before now (Ok rested) =
    (need m.image ≤ m.frames) × RestsAs m n (boot m) counts old new before now (Ok rested)
RestsFromStart m n counts old new before now (Err fault.Write) =
    (need m.image ≤ m.frames) × RestsAs m n (boot m) counts old new before now (Err fault.Write)
RestsFromStart m n counts old new before now (Err (fault.TooSmall small)) =
    (m.frames < need m.image) × (small ≡ record { need = need m.image; have = m.frames }) × NothingDone counts old new before now
RestsFromStart m n counts old new before now (Err fault.Memory) =
    NothingDone counts old new before now
    ⊎ ((need m.image ≤ m.frames) × ((last : model.State) × RestsWith m n (boot m) counts old new before now last))
