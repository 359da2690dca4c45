-- The work of `continue`: a run goes on from a checkpoint to its end.
use Rattle.std.specs.Prelude.{◌≡◌, ℕ, List}
use Rattle.board.specs.Scripts.{Events}
use Rattle.image_check.specs.Image.{Image}
use Rattle.run_trace.specs.declared.items.End.{End}
use Rattle.machine_model.specs.State as model
use Rattle.machine_model.specs.Step.{Report}
use Rattle.machine_model.specs.Run.{Set, Run, stopping}
use Rattle.checkpoint.specs.declared.state.State.{State}
use Rattle.checkpoint.specs.Moved.{rested_from}
use Rattle.pv_build.specs.Statuses.{status_of}
use Rattle.pv_tasks.specs.Outcome.{Outcome, HostedRun, HostPart, Nothing, KeptRun, told, run_text}
use Rattle.pv_tasks.specs.Tasks.{Task, plain}
use Rattle.pv_tasks.specs.Running.{Reads}
use Rattle.pv_save.specs.Checkpoints.{FindsState}
use Rattle.pv_save.specs.Saving.{FromFile, setting_on, frames_of, is_wedge}
use Rattle.pv_words.specs.declared.mode.RunMode.{RunMode}
use Rattle.pv_words.specs.declared.mode.RunMode.TheVariants as mode

-- Of a run on the bare machine the host does nothing. One of a patched image keeps the rule for kept translations, as it goes on with
-- none, and with a pool of 512 frames.
abbrev pub run_on : RunMode → model.State → HostedRun → List Set → HostPart
run_on mode.Bare first r stopped = Nothing
run_on mode.Wedge first r stopped = KeptRun first r stopped

-- A run of the machine goes on from the state, with no translations, to n steps in all or to a stop.
pub record ContinuesOn (on : RunMode) (n : ℕ) (image : Image) (events : Events) (s : State) (w : Outcome) : Type 0 where
  pub sets : List Set
  pub reports : List Report
  pub last : model.State
  pub end : End
  pub run : Run (setting_on on image events (frames_of s)) n (rested_from s) sets reports last end
  pub comes : w ≡ (let r : HostedRun = record {
    setting = setting_on on image events (frames_of s);
    sets = sets;
    reports = reports;
    last = last;
    end = end;
  } in
      told (status_of end) (run_text r)
      (run_on on (rested_from s) r (stopping (setting_on on image events (frames_of s)) n last end run.ends)))

-- what `continue` asks for
abbrev pub continue_task : RunMode → List ℕ → List ℕ → List ℕ → ℕ → Task
continue_task on image script file n =
    record (plain (λ files w. Reads (FromFile (ContinuesOn on n) on n files file) files image script w)
    (λ files. FindsState files image script file)) { on_host = is_wedge on }
