-- The interrupt flag, the flags on the stack, and HLT. Intel SDM volume 2, CLI, STI, PUSHF, POPF and HLT.
use Rattle.std.specs.Prelude.{ℕ, true, false, ◌||◌, not}
use Rattle.ia32_types.specs.declared.flags.Flags.{Flags}
use Rattle.ia32_types.specs.declared.stop.Stop.TheVariants as stops
use Rattle.ia32_types.specs.Bits.{bit}
use Rattle.ia32_types.specs.declared.flags.TheConstants.{INTERRUPT_AT}
use Rattle.ia32_types.specs.Flags.{flag_put}
use Rattle.ia32_exec.specs.Stack.{popf}
use Rattle.paging.specs.Work.{Work, ◌>>=◌, gives, unless}
use Rattle.descriptors.specs.declared.cpu.Cpu.{Cpu}
use Rattle.sys_exec.specs.declared.effect.Refusal.{Refusal}
use Rattle.sys_exec.specs.declared.effect.Refusal.TheVariants.{Stop}
use Rattle.sys_exec.specs.declared.effect.SysEffect.TheVariants as effects
use Rattle.sys_exec.specs.declared.effect.SysOutcome.{SysOutcome}
use Rattle.sys_exec.specs.Operand.{protection_0, kernel_alone, pulled, pushed, with_regs, past, past_push, next}
use Rattle.sys_exec.specs.Iret.{keeps_flags, is_within, new_flags}

abbrev pub with_flags : Cpu → Flags → Cpu
with_flags cpu flags = with_regs cpu (record cpu.regs { flags = flags })

-- CLI
unfoldable pub clear_interrupts : ℕ → Cpu → Work Refusal SysOutcome
clear_interrupts len cpu = do
  _ ← unless protection_0 (is_within cpu)
  next (with_flags (past cpu len) (flag_put cpu.regs.flags INTERRUPT_AT false))

-- STI; where it turns IF on, external interrupts are held off in the next step
unfoldable pub set_interrupts : ℕ → Cpu → Work Refusal SysOutcome
set_interrupts len cpu = do
  _ ← unless protection_0 (is_within cpu)
  next (record (with_flags (past cpu len) (flag_put cpu.regs.flags INTERRUPT_AT true))
      { held = cpu.held || not (bit cpu.regs.flags.bits INTERRUPT_AT) })

-- HLT
unfoldable pub halt : ℕ → Cpu → Work Refusal SysOutcome
halt len cpu = do
  _ ← kernel_alone cpu
  gives (record { cpu = record (past cpu len) { halted = true }; effect = effects.Halted })

-- PUSHF
unfoldable pub push_flags : ℕ → Cpu → Work Refusal SysOutcome
push_flags len cpu = do
  _ ← pushed cpu cpu.regs.flags.bits
  next (past_push cpu len)

-- POPF, which takes the flags that IRET takes
unfoldable pub pop_flags : ℕ → Cpu → Work Refusal SysOutcome
pop_flags len cpu = do
  image ← pulled cpu
  _ ← unless (Stop stops.FlagBits) (keeps_flags image)
  next (with_regs cpu (popf (new_flags cpu image) len cpu.regs))
