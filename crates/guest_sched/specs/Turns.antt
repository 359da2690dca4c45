-- What a kernel's turn says.
use Rattle.std.specs.Prelude.{ℕ, ◌+◌, false, List, [], ◌∷◌, ◌++◌, Result}
use Rattle.std.specs.List.{All}
use Rattle.std.specs.FinMap.{len}
use Rattle.pv_io.specs.declared.answer.Failed.{Failed}
use Rattle.run_trace.specs.declared.pause.Pause.{Pause}
use Rattle.run_trace.specs.Text.{lines_of}
use Rattle.run_trace.specs.Pauses.{IfReached, PutsAs}
use Rattle.machine_model.specs.State.{Setting, State, wedge}
use Rattle.machine_model.specs.Step.{Report}
use Rattle.machine_model.specs.Run.{Set, Steps, trace_of}
use Rattle.machine_model.specs.Taken.{Taken, steps_by}
use Rattle.machine_model.specs.Keeping.{Roomy, IsLeftBehind}
use Rattle.wedge_step.specs.Filled.{CountsFills}
use Rattle.shadow_cache.specs.declared.roots.Roots.{Roots}
use Rattle.wedge_step.specs.Scene.{Scene, kept_in, state_in}
use Rattle.wedge_core.specs.Counts.{CountsOn}
use Rattle.wedge_core.specs.OfRoots.{of_roots}
use Rattle.wedge_core.specs.KeptAfter.{KeptAfter}
use Rattle.wedge_core.specs.Sliced.{BeginsKnown, knowing}
use Rattle.wedge_core.specs.Slices.{Filling, Knowing, Outward, PausesAs}
use Rattle.guest_sched.specs.Tags.{tag_of, tagged}
use Rattle.guest_sched.specs.declared.kernel.Kernel.{Kernel}

-- Steps under the monitor's rules, up to the bound or to a stop, led from the old state to the last. Their lines were put with
-- the tag before each, the host completed their direct instructions, and each of their sets, and the one after them, has no
-- more pages than were kept at first and were filled since.
pub record TurnAs (m : Setting) (tag : List ℕ) (bound : ℕ) (old new : State) (out : Outward) (filling : Filling)
    (result : Result Pause Failed) : Type 0 where
  pub sets : List Set
  pub reports : List Report
  pub last : State
  pub end : Set
  pub steps : Steps m old sets reports last
  pub ends : PausesAs m bound last new end result
  pub text : PutsAs (tagged tag (lines_of (trace_of reports))) out.told out.tells result
  pub counts : CountsOn m reports out.before out.after
  pub each_filled : All (λ (set : Set). CountsFills filling.pages (len set) filling.fills filling.filled) (sets ++ end ∷ [])

-- Where this is known after some steps in the past, its sets keep the rule for kept translations after those, and what is known
-- goes on.
pub record TurnKept (m : Setting) (old : State) (sets : List Set) (last : State) (end : Set) (knows : Knowing)
    (result : Result Pause Failed) : Type 0 where
  pub kept : (past : List Taken) → knows.before past → KeptAfter m past old (sets ++ end ∷ [])
  pub left : (past : List Taken) → knows.before past
      → IfReached result (Roomy (past ++ steps_by m old sets) → IsLeftBehind m (past ++ steps_by m old sets) last end)
  pub carried : (past : List Taken) → knows.before past
      → IfReached result (Roomy (past ++ steps_by m old sets) → knows.after (past ++ steps_by m old sets))

-- what is known of a kernel's scene before, and then
abbrev pub knowing_in : Setting → Kernel → Scene Roots → Scene Roots → Knowing
knowing_in m kernel old new = knowing of_roots m new (BeginsKnown of_roots kernel.image kernel.script.list old false)

-- so of a kernel's scene, in so many steps
abbrev pub TurnIn : Kernel → ℕ → ℕ → Scene Roots → Scene Roots → Outward → Result Pause Failed → Type 0
TurnIn kernel number steps old new out result =
    (turn : TurnAs (wedge kernel.image kernel.script.list old.guest.frames) (tag_of number) (old.guest.step + steps)
    (state_in of_roots (wedge kernel.image kernel.script.list old.guest.frames) old)
    (state_in of_roots (wedge kernel.image kernel.script.list old.guest.frames) new) out
    (record { pages = kept_in of_roots old; fills = old.guest.fills; filled = new.guest.fills }) result)
    × TurnKept (wedge kernel.image kernel.script.list old.guest.frames)
    (state_in of_roots (wedge kernel.image kernel.script.list old.guest.frames) old) turn.sets turn.last turn.end
    (knowing_in (wedge kernel.image kernel.script.list old.guest.frames) kernel old new) result
