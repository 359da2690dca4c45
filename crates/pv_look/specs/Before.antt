-- What is printed of the machine before steps of a run.
use Rattle.std.specs.Prelude.{◌≡◌, ℕ, ◌<◌, ◌^◌, List, [], ◌++◌, Any}
use Rattle.ia32_types.specs.declared.stop.Stop.{Stop}
use Rattle.run_trace.specs.declared.items.End.{End}
use Rattle.run_trace.specs.declared.items.End.TheVariants.{Bound, Stopped}
use Rattle.run_trace.specs.Text.{end_line}
use Rattle.machine_model.specs.State.{State, boot}
use Rattle.machine_model.specs.Step.{Report}
use Rattle.pv_build.specs.Scripts.{FindsRun}
use Rattle.pv_tasks.specs.Outcome.{Outcome, ended}
use Rattle.pv_tasks.specs.Running.{Runs}
use Rattle.pv_tasks.specs.Tasks.{Task, plain}
use Rattle.look_words.specs.Words.{RunAsked, Aspect}
use Rattle.pv_look.specs.declared.before.Sight.{Sight}
use Rattle.pv_look.specs.declared.before.Sight.TheVariants as sight
use Rattle.pv_look.specs.Onward.{Watch, Shows, StopsAt, up_to, watch_bare}

-- The text of the run's states before each of these steps. Where the run stops before one of them, the text is that of its states
-- before the steps below that of the stop, of its state before that step, and the last line.
pub data ShowsEach (w : Watch) (steps : List ℕ) : List ℕ → End → Type 0 where
  Each : (reports : List Report) (text : List ℕ) (last : State)
      → Shows w (boot w.setting) steps reports text last → ShowsEach w steps text Bound
  ToStop : (count : ℕ) (stop : Stop) (reports : List Report) (text : List ℕ) (last : State)
      → StopsAt w (boot w.setting) count stop → Any (λ n. count < n) steps
      → Shows w (boot w.setting) (up_to count steps) reports text last
      → ShowsEach w steps (text ++ end_line count (Stopped stop)) (Stopped stop)

-- what is known where a run is looked at up to a bound: no run was, or it stops there
abbrev pub IsBound : Watch → List ℕ → ℕ → End → Type 0
IsBound w steps bound Bound = 2 ^ 40 < bound
IsBound w steps bound (Stopped stop) = Any (λ n. bound < n) steps × StopsAt w (boot w.setting) bound stop

-- the last line of a run that stopped after so many steps
abbrev pub end_part : ℕ → End → List ℕ
end_part steps Bound = []
end_part steps (Stopped stop) = end_line steps (Stopped stop)

-- what was seen of a run that is looked at up to a bound
abbrev pub LookAs : Watch → ℕ → List ℕ → Sight → Type 0
LookAs w bound steps (sight.Whole text) =
    (reports : List Report) × (last : State) × Shows w (boot w.setting) (up_to bound steps) reports text.items last
LookAs w bound steps (sight.Stopped count stop) =
    (count < bound) × Any (λ n. count < n) steps × StopsAt w (boot w.setting) count stop

-- what was printed of the run
pub record ShowsRun (w : Watch) (steps : List ℕ) (o : Outcome) : Type 0 where
  pub text : List ℕ
  pub end : End
  pub shows : ShowsEach w steps text end
  pub comes : o ≡ ended end text

-- what `state`, `walk` and `memory` ask for
abbrev pub before_task : RunAsked → List ℕ → Aspect → Task
before_task run steps of =
    plain (λ files w. Runs (λ image events. ShowsRun (watch_bare image events run.frames of) steps) run.frames files run.image run.script
    w)
    (λ files. FindsRun files run.image run.script)
