-- A run that is to rest as a checkpoint: all its steps were done, and their lines were put, or it stopped, and its text was.
use Rattle.std.specs.Prelude.{◌≡◌, ℕ, List}
use Rattle.run_trace.specs.declared.items.Item.{Item}
use Rattle.run_trace.specs.declared.items.End.{End}
use Rattle.run_trace.specs.declared.items.End.TheVariants as ends
use Rattle.run_trace.specs.Text.{lines_of, text_of}
use Rattle.machine_model.specs.State as model
use Rattle.machine_model.specs.State.{Setting}
use Rattle.machine_model.specs.Step.{Report}
use Rattle.machine_model.specs.Run.{Set, Run, trace_of}

-- what such a run puts: no last line where it rests
abbrev pub rested_text : List Item → ℕ → End → List ℕ
rested_text trace count ends.Bound = lines_of trace
rested_text trace count (ends.Stopped stop) = text_of trace count (ends.Stopped stop)

-- what is said of the reports of a run
abbrev pub Counting : Type 1
Counting = List Report → Type 0

-- One run from a state ends so, and this is what it puts. What is counted is said of its reports.
pub record RestsTo (m : Setting) (n : ℕ) (first : model.State) (counts : Counting) (text : List ℕ) (last : model.State)
    (end : End) : Type 0 where
  pub sets : List Set
  pub reports : List Report
  pub run : Run m n first sets reports last end
  pub text_is : text ≡ rested_text (trace_of reports) last.step end
  pub counted : counts reports
