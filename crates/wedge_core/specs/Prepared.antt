-- An instruction that the host does by itself, up to its effect: its ranges are translated, and its effect is found and
-- left undone.
use Rattle.std.specs.Prelude.{◌≡◌, ℕ, Option, Some, None, Result, Ok, Err}
use Rattle.ia32_types.specs.declared.stop.Stop.{Stop}
use Rattle.ia32_types.specs.declared.insn.Insn.{Insn}
use Rattle.ia32_decode.specs.declared.answer.Decoded.TheVariants as begins
use Rattle.ia32_exec.specs.declared.outcome.Outcome as exec
use Rattle.ia32_exec.specs.declared.outcome.Outcome.TheVariants as outcomes
use Rattle.ia32_exec.specs.Effect.{ranges_of}
use Rattle.ia32_exec.specs.UserEffect.{user_effect}
use Rattle.descriptors.specs.declared.cpu.Cpu.{Cpu}
use Rattle.paging.specs.Space.{Space}
use Rattle.paging.specs.Work.{Work, ◌>>=◌}
use Rattle.sys_exec.specs.declared.effect.Refusal.{Refusal}
use Rattle.sys_exec.specs.declared.effect.Refusal.TheVariants as refusal
use Rattle.step_exec.specs.Divided.{both_reached, byte_of}
use Rattle.step_exec.specs.Users.{selectors_of}
use Rattle.machine_model.specs.State.{Setting, State}
use Rattle.machine_model.specs.Step as steps
use Rattle.machine_step.specs.declared.worked.Worked.{Worked}
use Rattle.machine_step.specs.Worked.{went_as, completed_by}

-- an effect that is done is left undone; another raises or stops
abbrev pub left_undone : exec.Outcome → Work Refusal (Unit {0})
left_undone (outcomes.Done regs stores) s = Ok (tt, s)
left_undone (outcomes.Raise vector code) s = Err (refusal.Raise vector code, s)
left_undone (outcomes.Stop stop) s = Err (refusal.Stop stop, s)

-- the effect over the bytes that both ranges give, once they are translated
abbrev pub effect_in : Insn → ℕ → Cpu → Space → exec.Outcome
effect_in insn len cpu s = user_effect (selectors_of cpu) insn len cpu.regs (byte_of (ranges_of insn cpu.regs) s)

abbrev pub weighed : Insn → ℕ → Cpu → Work Refusal (Unit {0})
weighed insn len cpu s = left_undone (effect_in insn len cpu s) s

-- null segments, the read range, the write range, and then the effect
unfoldable pub prepared : Insn → ℕ → Cpu → Work Refusal (Unit {0})
prepared insn len cpu = do
  _ ← both_reached cpu (ranges_of insn cpu.regs)
  weighed insn len cpu

-- A step of which the host does nothing.
abbrev pub gone : Result Worked Stop → Result (Option Worked) Stop
gone (Ok worked) = Ok (Some worked)
gone (Err stop) = Err stop

-- After the fetch the instruction raised, so that the step went and completed nothing; or it stopped; or it is prepared.
abbrev pub PreparesAs : Setting → State → Insn → ℕ → Space → Result (Option Worked) Stop → Space → Type 0
PreparesAs m b insn len s (Ok (Some worked)) t =
    (steps.by_decoded m b (begins.Insn insn len) s ≡ went_as b worked b.board t) × (completed_by worked.completed ≡ None)
PreparesAs m b insn len s (Ok None) t = prepared insn len b.cpu s ≡ Ok (tt, t)
PreparesAs m b insn len s (Err stop) t = steps.by_decoded m b (begins.Insn insn len) s ≡ steps.Halts stop
