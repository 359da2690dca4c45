-- The run of which a cache of translations keeps what each step has left, as a function of the setting and the state.
use Rattle.std.specs.Prelude.{◌≡◌, ℕ, zero, suc, List, [], ◌∷◌, Option, is_none, Result, Ok, Err}
use Rattle.std.specs.FinMap.{get, retain_keys}
use Rattle.ia32_types.specs.declared.stop.Stop.{Stop}
use Rattle.pv_io.specs.declared.answer.Failed.{Failed}
use Rattle.board.specs.Scripts.{Events}
use Rattle.image_check.specs.Image.{Image}
use Rattle.run_trace.specs.declared.items.What.{What}
use Rattle.run_trace.specs.declared.items.End.TheVariants.{Bound}
use Rattle.run_trace.specs.declared.pause.Pause.{Pause}
use Rattle.run_trace.specs.Pauses.{PutsAs}
use Rattle.run_trace.specs.Text.{lines_of}
use Rattle.machine_step.specs.declared.worked.Seen.{Seen}
use Rattle.machine_step.specs.Worked.{whats}
use Rattle.machine_model.specs.State.{Setting, State, boot}
use Rattle.machine_model.specs.Step as steps
use Rattle.machine_model.specs.Step.{Report, Went, Halts, step_of, items_at}
use Rattle.machine_model.specs.Run.{Set, trace_of, with_set}
use Rattle.xlate_buffer.specs.Calls.{made, Keep}
use Rattle.bare_mem.specs.Keeping.{Keeps, new_entry, kept_after}
use Rattle.bare_machine.specs.Settings.{bare}
use Rattle.bare_machine.specs.Slices.{PausesAs}
use Rattle.bare_machine.specs.FreshRuns.{Course, after_step}

-- of these translations those that are in the whole
abbrev pub cut_to : (whole set : Set) → Set
cut_to whole set = retain_keys set (λ page. is_none (new_entry (get whole page) (get set page)))

-- after a step that went, the cache holds what it keeps of the set that the step left, and nothing else
abbrev pub kept_by : Keeps → Set → steps.Result → steps.Result
kept_by keeping old (Went report new) = Went report (with_set new (cut_to new.set (kept_after keeping old report.pages new.set)))
kept_by keeping old (Halts stop) = Halts stop

-- the step by what the cache holds
abbrev pub kept_step : Keeps → Setting → State → steps.Result
kept_step keeping s b = kept_by keeping b.set (step_of s b b.set)

-- at most so many steps, each by what the cache holds
unfoldable pub kept_course : Keeps → Setting → ℕ → State → Course
kept_course keeping s zero b = record { reports = []; count = b.step; end = Bound }
kept_course keeping s (suc k) b = after_step b (kept_step keeping s b) (λ mid. kept_course keeping s k mid)

-- how the TLB keeps an entry: in place of one with the same remainder by 64
abbrev pub in_buffer : Keeps
in_buffer set entry = made (Keep entry) set

-- the image's run of at most n steps from its start, with a TLB that is empty then
abbrev pub buffered_run : Image → Events → ℕ → ℕ → Course
buffered_run image script frames n = kept_course in_buffer (bare image script frames) n (boot (bare image script frames))

-- the step went, let these things be seen, and led to this state
pub record LedTo (result : steps.Result) (step : ℕ) (whats : List What) (new : State) : Type 0 where
  pub report : Report
  pub went : result ≡ Went report new
  pub items : report.items ≡ items_at step whats

-- the outcome of a step
abbrev pub KeptAs : steps.Result → Result Seen Stop → ℕ → State → Type 0
KeptAs result (Ok seen) step new = LedTo result step (whats seen) new
KeptAs result (Err stop) step new = result ≡ Halts stop

-- steps with these reports, each by what the cache holds, lead from one state to another
unfoldable pub KeptSteps : Keeps → Setting → State → List Report → State → Type 0
KeptSteps keeping s old [] new = new ≡ old
KeptSteps keeping s old (now ∷ later) new = (mid : State) × (kept_step keeping s old ≡ Went now mid) × KeptSteps keeping s mid later new

-- such steps in which nothing is seen
pub record KeptRests (keeping : Keeps) (s : Setting) (old new : State) : Type 0 where
  pub reports : List Report
  pub steps : KeptSteps keeping s old reports new
  pub silent : trace_of reports ≡ []

-- Such steps up to the bound or to a stop led from the old state to the last, and the lines of what was seen in them were put.
pub record KeptSlice (keeping : Keeps) (s : Setting) (bound : ℕ) (old new : State) (told tells : Option (List ℕ))
    (result : Result Pause Failed) : Type 0 where
  pub reports : List Report
  pub last : State
  pub steps : KeptSteps keeping s old reports last
  pub ends : PausesAs s bound last new result
  pub text : PutsAs (lines_of (trace_of reports)) told tells result
