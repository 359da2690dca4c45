-- Under a monitor's rules a machine does what the bare machine does, until one of the monitor's own stops.
use Rattle.std.specs.Prelude.{◌≡◌, ◌⊎◌, ℕ, Bool, true, false, List, Ok}
use Rattle.paging.specs.MonitorStops.{is_extra_stop}
use Rattle.paging.specs.Space.{Bare, Space}
use Rattle.descriptors.specs.declared.cpu.Cpu.{Cpu}
use Rattle.run_trace.specs.declared.items.End.{End}
use Rattle.machine_model.specs.State.{Setting, State}
use Rattle.machine_model.specs.Rules.{stands_well, may_leave}
use Rattle.machine_model.specs.Instruction.{owning_front, owning_back}
use Rattle.machine_model.specs.Step.{Report, Result, Went, Halts, step_of}
use Rattle.machine_model.specs.Run.{Set, Run}
use Rattle.machine_model.specs.OnBare.{end_on_bare, bound_on_bare, on_bare}

-- What the rules add to a step is nothing on the bare machine: code begins anywhere, IRET takes any flags, and no byte
-- is owned.
pub record BareIsPlain : Type 0 where
  pub anywhere : (m : Setting) (cpu : Cpu) → stands_well (on_bare m) cpu ≡ true
  pub any_flags : (cpu after : Cpu) → may_leave Bare cpu after ≡ true
  pub no_front : (at len : ℕ) (s : Space) → s.mode ≡ Bare → owning_front at len s ≡ Ok (tt, s)
  pub no_back : (at len : ℕ) (s : Space) → s.mode ≡ Bare → owning_back at len s ≡ Ok (tt, s)

-- the step ends at a stop that the bare machine hasn't
abbrev pub is_extra : Result → Bool
is_extra (Went report b) = false
is_extra (Halts stop) = is_extra_stop stop

-- a step ends at such a stop, or is the bare machine's from the same state with the same set
abbrev pub StepsAgree : Type 0
StepsAgree = (m : Setting) (b : State) (set : Set) → (is_extra (step_of m b set) ≡ true) ⊎ (step_of (on_bare m) b set ≡ step_of m b set)

-- a run is the bare machine's with the same sets and reports, and the same last state
abbrev pub RunsAgree : Type 0
RunsAgree =
    (m : Setting) (n : ℕ) (old : State) (sets : List Set) (reports : List Report) (last : State) (end : End)
    → Run m n old sets reports last end → Run (on_bare m) (bound_on_bare n last end) old sets reports last (end_on_bare end)
