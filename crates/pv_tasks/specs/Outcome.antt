-- The outcome of the work of a command over the files that it reads.
use Rattle.std.specs.Prelude.{◌≡◌, ℕ, List, [], ◌++◌, Option, Some, None}
use Rattle.run_trace.specs.declared.items.End.{End}
use Rattle.run_trace.specs.Text.{text_of}
use Rattle.machine_model.specs.State.{Setting, State, boot}
use Rattle.machine_model.specs.Step.{Report}
use Rattle.machine_model.specs.Run.{Set, trace_of}
use Rattle.machine_model.specs.Keeping.{Kept}
use Rattle.wedge_core.specs.Counts.{Counts, CountsOn}
use Rattle.wedge_core.specs.Promises.{HasMemory}
use Rattle.pv_build.specs.Statuses.{status_of}
use Rattle.pv_build.specs.declared.status.Status.{Status}
use Rattle.pv_build.specs.declared.status.Status.TheVariants as status

-- A run whose direct instructions are the host's: what it runs with, the translations that its steps used, what they report,
-- its last state, and its end.
pub record HostedRun : Type 0 where
  pub setting : Setting
  pub sets : List Set
  pub reports : List Report
  pub last : State
  pub end : End

-- what the host has a part in
pub data HostPart : Type 0 where
  Nothing : HostPart
  -- a run from this state that keeps the rule for kept translations, with those by which its last step stops, if it ends so
  KeptRun : (first : State) (run : HostedRun) (stopping : List Set) → HostPart
  -- a run that has ended
  EndedRun : HostedRun → HostPart
  -- steps
  SomeSteps : (setting : Setting) (reports : List Report) → HostPart
  -- the turns of several kernels: what the host's counts are after them, by what they were before
  Turns : (counts_behind : Counts → Counts) → HostPart

-- What the host has done. Of a run it completed the direct instructions, and the run's memory is its own; the sets of one that
-- keeps the rule for kept translations do so, that by which it stops among them. Of turns it completed the direct instructions
-- of each. Else it did nothing.
abbrev pub HostDid : HostPart → Counts → Counts → List ℕ → Type 0
HostDid Nothing completed completed2 memory2 = completed2 ≡ completed
HostDid (KeptRun first r stopped) completed completed2 memory2 =
    CountsOn r.setting r.reports completed completed2 × HasMemory r.setting r.last r.end memory2 × Kept r.setting first (r.sets ++ stopped)
HostDid (EndedRun r) completed completed2 memory2 =
    CountsOn r.setting r.reports completed completed2 × HasMemory r.setting r.last r.end memory2
HostDid (SomeSteps setting reports) completed completed2 memory2 = CountsOn setting reports completed completed2
HostDid (Turns counts_behind) completed completed2 memory2 = completed2 ≡ counts_behind completed

-- how it ends; the text that is printed first; the name and the bytes of a file that is stored after it; the text that is
-- printed then; and the host's part
pub record Outcome : Type 0 where
  pub status : Status
  pub first : List ℕ
  pub stored : Option (List ℕ × List ℕ)
  pub text : List ℕ
  pub hosted : HostPart

-- work that prints a text with this status, and stores nothing
abbrev pub told : Status → List ℕ → HostPart → Outcome
told status text hosted = record { status = status; first = []; stored = None; text = text; hosted = hosted }

abbrev pub refused : List ℕ → Outcome
refused line = told status.Refused line Nothing

abbrev pub printed : List ℕ → Outcome
printed line = told status.Done line Nothing

abbrev pub stored_as : List ℕ → List ℕ → List ℕ → Outcome
stored_as name bytes line = record { status = status.Done; first = []; stored = Some (name, bytes); text = line; hosted = Nothing }

-- a run with this text
abbrev pub ended : End → List ℕ → Outcome
ended end text = told (status_of end) text Nothing

-- a run's text
abbrev pub run_text : HostedRun → List ℕ
run_text r = text_of (trace_of r.reports) r.last.step r.end

-- the same of a run from boot on the host, by the text of its trace
abbrev pub ended_on_host : HostedRun → List Set → Outcome
ended_on_host r stopping = told (status_of r.end) (run_text r) (KeptRun (boot r.setting) r stopping)

-- what is printed of two runs, of which one is on the host; `work` is done however they ended
abbrev pub compared : HostedRun → List Set → List ℕ → Outcome
compared r stopping text = told status.Done text (KeptRun (boot r.setting) r stopping)

-- a run has ended: it was done, or it stopped
abbrev pub HasEnded : Status → Type 0
HasEnded status.Done = Unit {0}
HasEnded status.Stopped = Unit {0}
HasEnded other = ⊥
