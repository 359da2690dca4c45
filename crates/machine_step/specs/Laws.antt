-- Where an insensitive instruction's step can be divided: its ranges are translated, and then it is done.
use Rattle.std.specs.Prelude.{◌≡◌, ℕ, true}
use Rattle.ia32_types.specs.declared.insn.Insn.{Insn}
use Rattle.ia32_exec.specs.Effect.{ranges_of}
use Rattle.paging.specs.Space.{Space}
use Rattle.step_exec.specs.Divided.{both_reached, completed}
use Rattle.machine_model.specs.State.{Setting, State}
use Rattle.machine_model.specs.Instruction.{is_plain, instructed, done_plainly}
use Rattle.machine_model.specs.Step.{Completed, Result, after_instruction}
use Rattle.machine_step.specs.Begun.{after_reach}

-- what is left of it when both ranges are translated
abbrev pub plainly_on : Setting → State → Completed → Insn → ℕ → Space → Result
plainly_on m b c insn len s = after_instruction m b c (done_plainly (completed insn len b.cpu s))

abbrev pub PlainDivides : Type 0
PlainDivides = (m : Setting) (b : State) (c : Completed) (insn : Insn) (len : ℕ) (s : Space) → is_plain insn.op ≡ true
    → after_instruction m b c (instructed insn len b.cpu s) ≡ after_reach m b c (both_reached b.cpu (ranges_of insn b.cpu.regs) s)
    (plainly_on m b c insn len)
