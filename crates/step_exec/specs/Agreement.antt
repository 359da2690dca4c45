-- A plain instruction under the monitor's rules does what it does on the bare machine, unless one of the monitor's
-- stops ends it.
use Rattle.std.specs.Prelude.{ℕ}
use Rattle.ia32_types.specs.declared.insn.Insn.{Insn}
use Rattle.descriptors.specs.declared.cpu.Cpu.{Cpu}
use Rattle.paging.specs.Agreement.{Agrees}
use Rattle.sys_exec.specs.Agreement.{is_extra}
use Rattle.step_exec.specs.Plain.{executed}

abbrev pub PlainAgree : Type 0
PlainAgree = (insn : Insn) (len : ℕ) (cpu : Cpu) → Agrees is_extra (executed insn len cpu)
