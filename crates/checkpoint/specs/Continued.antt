-- What a patched run promises that goes on from a state.
use Rattle.std.specs.Prelude.{◌≡◌, ℕ, List, ◌++◌, Result, Ok, Err}
use Rattle.pv_io.specs.Causes.{Rose}
use Rattle.pv_io.specs.Sink.{Appends, AppendsFront}
use Rattle.image_load.specs.declared.fault.RunFault.{RunFault}
use Rattle.image_load.specs.declared.fault.RunFault.TheVariants as fault
use Rattle.run_trace.specs.declared.items.End.{End}
use Rattle.run_trace.specs.declared.items.Ended.{Ended}
use Rattle.run_trace.specs.Text.{text_of}
use Rattle.machine_model.specs.State.{Setting, State}
use Rattle.machine_model.specs.Step.{Report}
use Rattle.machine_model.specs.Run.{Set, Run, stopping, trace_of}
use Rattle.machine_model.specs.Keeping.{Kept}
use Rattle.bare_machine.specs.Answers.{RunsTo}
use Rattle.wedge_core.specs.Surroundings.{Around, IsUntouched}
use Rattle.wedge_core.specs.Counts.{Counts, CountsOn}
use Rattle.wedge_core.specs.Promises.{HasFills, HasMemory}

-- One run from a state has this text, count of steps and end. The host completed exactly its direct instructions, and where
-- it has done all its steps, its memory is the host's first frames with the text patched. Its sets keep the rule for kept
-- translations, that by which it stops among them: a guest that goes on has no translations and a pool of 512 frames.
pub record PromiseFrom (m : Setting) (n : ℕ) (first : State) (text : List ℕ) (count : ℕ) (end : End) (before after : Counts)
    (memory : List ℕ) : Type 0 where
  pub sets : List Set
  pub reports : List Report
  pub last : State
  pub run : Run m n first sets reports last end
  pub count_is : count ≡ last.step
  pub text_is : text ≡ text_of (trace_of reports) count end
  pub counts : CountsOn m reports before after
  pub memory_is : HasMemory m last end memory
  pub kept : Kept m first (sets ++ stopping m n last end run.ends)

-- What stands after it: the sink's bytes, its count of faults, which is as it was where no put failed and rose where one
-- did, and the host's counts and memory. As many pages were filled as bound the run's sets.
abbrev pub WedgeGoesTo : Setting → ℕ → State → Around → List ℕ → Result Ended RunFault → Type 0
WedgeGoesTo m n first a memory (Ok ended) =
    (text : List ℕ) × (run : PromiseFrom m n first text ended.steps ended.end a.counts a.counts_after memory)
    × Appends a.taken a.taken_after text
    × (a.faults_after ≡ a.faults) × HasFills m run.sets run.last ended.fills
-- the sink failed, and has taken a front of the text of some run
WedgeGoesTo m n first a memory (Err fault.Write) =
    (text : List ℕ) × (count : ℕ) × (end : End) × RunsTo m n first text count end × AppendsFront a.taken a.taken_after text
    × Rose a.faults a.faults_after
WedgeGoesTo m n first a memory (Err (fault.TooSmall small)) = ⊥
-- nothing was written, and the host completed nothing
WedgeGoesTo m n first a memory (Err fault.Memory) = IsUntouched a
