-- What `save` asks for, and what it prints of a run where no memory is found for its file.
use Rattle.std.specs.Prelude.{◌≡◌, ℕ, true, List, Option, Some, Ok}
use Rattle.pv_io.specs.Files.{FileMap, Stores}
use Rattle.pv_io.specs.Sink.{Appends}
use Rattle.run_trace.specs.declared.items.End.TheVariants as ends
use Rattle.machine_model.specs.State as model
use Rattle.machine_model.specs.State.{Setting}
use Rattle.checkpoint.specs.declared.state.State.{State}
use Rattle.checkpoint.specs.States.{checkpoint_bytes, checkpoint_in}
use Rattle.checkpoint.specs.Rested.{RestsTo}
use Rattle.pv_build.specs.Scripts.{FindsRun}
use Rattle.pv_save.specs.Checkpoints.{FindsState}
use Rattle.pv_tasks.specs.Outside.{Outside}
use Rattle.pv_tasks.specs.Outcome.{HostDid}
use Rattle.pv_tasks.specs.Tasks.{Task, plain}
use Rattle.pv_tasks.specs.Running.{Runs, Reads}
use Rattle.pv_save.specs.Saving.{SavesBoot, SavesOn, RestsText, FromBoot, FromHeld, FromFile, steps_on, is_wedge}
use Rattle.pv_words.specs.declared.mode.RunMode.{RunMode}

-- the lines of a run that has done all its steps were printed, and the host has done its part of them
abbrev pub PrintsLines : RunMode → Setting → ℕ → model.State → Outside → Type 0
PrintsLines on m n old o =
    (last : model.State) × (text : List ℕ)
    × RestsTo m n old (λ reports. HostDid (steps_on on m reports) o.before.completed o.after.completed o.after.memory) text last ends.Bound
    × Appends o.before.taken o.after.taken text

-- a state was stored, and is read back
abbrev pub LeavesState : List ℕ → Option FileMap → Option FileMap → Type 0
LeavesState name old new = (s : State) × (checkpoint_in (checkpoint_bytes s) ≡ Ok s) × Stores old new name (checkpoint_bytes s)

-- `save` prints a run first, from the start or from a checkpoint
abbrev pub save_task : RunMode → List ℕ → List ℕ → ℕ → ℕ → List ℕ → Task
save_task on image script frames n file =
    record (plain (λ files w. Runs (SavesBoot on frames n file) frames files image script w) (λ files. FindsRun files image script)) {
      saved = Some file;
      leaves = λ old new. LeavesState file old new;
      runs_first = true;
      begins = λ files text. FromBoot (λ m old. RestsText m n old text) on frames files image script;
      half_done = λ o. FromBoot (λ m old. PrintsLines on m n old o) on frames o.before.files image script;
      on_host = is_wedge on;
    }

abbrev pub save_from_task : RunMode → List ℕ → List ℕ → List ℕ → ℕ → List ℕ → Task
save_from_task on image script file n new =
    record (plain (λ files w. Reads (FromFile (SavesOn on n new) on n files file) files image script w)
    (λ files. FindsState files image script file)) {
      saved = Some new;
      leaves = λ old later. LeavesState new old later;
      runs_first = true;
      begins = λ files text. FromHeld (λ m old. RestsText m n old text) on n files image script file;
      half_done = λ o. FromHeld (λ m old. PrintsLines on m n old o) on n o.before.files image script file;
      on_host = is_wedge on;
    }
