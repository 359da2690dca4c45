-- RET, and jumps and calls through a register or memory: their accesses and the registers after them.
use Rattle.std.specs.Prelude.{ℕ, true, false}
use Rattle.ia32_types.specs.declared.insn.Address.{Address}
use Rattle.ia32_types.specs.declared.insn.Operand.{Operand}
use Rattle.ia32_types.specs.declared.insn.Operand.TheVariants.{Register, Memory}
use Rattle.ia32_types.specs.declared.size.Size.TheVariants.{Long}
use Rattle.ia32_exec.specs.Registers.{address_of}
use Rattle.ia32_exec.specs.Stack.{esp_below}
use Rattle.ia32_exec.specs.Transfers.{ret, call, return_address}
use Rattle.paging.specs.Work.{Work, ◌>>=◌, refuses, gives, reads_earlier, writes}
use Rattle.descriptors.specs.declared.cpu.Cpu.{Cpu}
use Rattle.descriptors.specs.Access.{by_level}
use Rattle.sys_exec.specs.declared.effect.Refusal.{Refusal}
use Rattle.sys_exec.specs.declared.effect.SysOutcome.{SysOutcome}
use Rattle.sys_exec.specs.Access.{reaching}
use Rattle.sys_exec.specs.Operand.{unsupported, reg_at, operand_reached, long_of, pulled, pushed, with_regs, gone_to, next}

-- RET; the number of bytes that it drops besides
unfoldable pub return_to : ℕ → Cpu → Work Refusal SysOutcome
return_to more cpu = do
  target ← pulled cpu
  next (with_regs cpu (ret target more cpu.regs))

-- JMP through an operand
unfoldable pub jump_to : Operand → Cpu → Work Refusal SysOutcome
jump_to a cpu = do
  target ← long_of cpu a
  next (gone_to cpu target)

-- CALL through memory: the target, with the push done. Both ranges are translated before the target is read, and it
-- is read at the places that its range had when it was translated.
unfoldable pub called_through : Address → ℕ → Cpu → Work Refusal ℕ
called_through a len cpu = do
  _ ← operand_reached cpu a 4 false
  _ ← reaching (esp_below 4 cpu.regs) 4 (by_level cpu true)
  target ← reads_earlier (address_of a cpu.regs) Long
  _ ← writes (esp_below 4 cpu.regs) Long (return_address len cpu.regs)
  gives target

-- CALL through an operand
unfoldable pub call_to : Operand → ℕ → Cpu → Work Refusal SysOutcome
call_to (Register k) len cpu = do
  _ ← pushed cpu (return_address len cpu.regs)
  next (with_regs cpu (call (reg_at cpu k) cpu.regs))
call_to (Memory a) len cpu = do
  target ← called_through a len cpu
  next (with_regs cpu (call target cpu.regs))
call_to _ len cpu = refuses unsupported
