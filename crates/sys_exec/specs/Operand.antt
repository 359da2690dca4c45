-- Operands of one instruction, the stack, and how an instruction ends.
use Rattle.std.specs.Prelude.{ℕ, ◌%◌, Bool, true, false, ◌==◌, not, slice_index}
use Rattle.ia32_types.specs.declared.flags.Regs.{Regs}
use Rattle.ia32_types.specs.declared.insn.Address.{Address}
use Rattle.ia32_types.specs.declared.insn.Operand.{Operand}
use Rattle.ia32_types.specs.declared.insn.Operand.TheVariants as operands
use Rattle.ia32_types.specs.declared.register.Seg.{Seg}
use Rattle.ia32_types.specs.declared.size.Size.TheVariants as sizes
use Rattle.ia32_types.specs.declared.stop.Stop.TheVariants as stops
use Rattle.ia32_exec.specs.Registers.{address_of, with_whole, eip_past}
use Rattle.ia32_exec.specs.Ranges.{segment_of}
use Rattle.ia32_exec.specs.Stack.{stack_of, esp_below, with_push, with_pop}
use Rattle.ia32_exec.specs.Transfers as transfers
use Rattle.paging.specs.Work.{Work, ◌>>=◌, refuses, gives, unless, reads, writes}
use Rattle.descriptors.specs.Segments.{segment_in}
use Rattle.descriptors.specs.declared.cpu.Cpu.{Cpu}
use Rattle.descriptors.specs.Access.{by_level}
use Rattle.sys_exec.specs.declared.effect.Refusal.{Refusal}
use Rattle.sys_exec.specs.declared.effect.Refusal.TheVariants.{Raise, Stop}
use Rattle.sys_exec.specs.declared.effect.SysEffect.TheVariants as effects
use Rattle.sys_exec.specs.declared.effect.SysOutcome.{SysOutcome}
use Rattle.sys_exec.specs.Access.{reaching}

-- no row has such operands
abbrev pub unsupported : Refusal
unsupported = Stop stops.Unsupported

-- the general protection fault without a selector
abbrev pub protection_0 : Refusal
protection_0 = Raise 13 0

-- only level 0 may do it
abbrev pub kernel_alone : Cpu → Work Refusal (Unit {0})
kernel_alone cpu = unless protection_0 (cpu.cpl == 0)

abbrev pub selector_in : Cpu → Seg → ℕ
selector_in cpu seg = (segment_in cpu seg).sel

abbrev pub reg_at : Cpu → ℕ → ℕ
reg_at cpu k = slice_index cpu.regs.r (k % 8)

-- an operand in memory: its segment isn't null, and its range is translated
unfoldable pub operand_reached : Cpu → Address → ℕ → Bool → Work Refusal (Unit {0})
operand_reached cpu a len write = do
  _ ← unless protection_0 (not (segment_in cpu (segment_of a.base)).null)
  reaching (address_of a cpu.regs) len (by_level cpu write)

-- a selector from a register or from two bytes of memory
unfoldable pub selector : Cpu → Operand → Work Refusal ℕ
selector cpu (operands.Register k) = gives (reg_at cpu k % 0x10000)
selector cpu (operands.Memory a) = do
  _ ← operand_reached cpu a 2 false
  reads (address_of a cpu.regs) sizes.Word
selector cpu _ = refuses unsupported

-- a number of four bytes from a register or from memory
unfoldable pub long_of : Cpu → Operand → Work Refusal ℕ
long_of cpu (operands.Register k) = gives (reg_at cpu k)
long_of cpu (operands.Memory a) = do
  _ ← operand_reached cpu a 4 false
  reads (address_of a cpu.regs) sizes.Long
long_of cpu _ = refuses unsupported

-- the number on top of the stack
unfoldable pub pulled : Cpu → Work Refusal ℕ
pulled cpu = do
  _ ← reaching (stack_of cpu.regs) 4 (by_level cpu false)
  reads (stack_of cpu.regs) sizes.Long

-- a number of four bytes goes below the stack
unfoldable pub pushed : Cpu → ℕ → Work Refusal (Unit {0})
pushed cpu v = do
  _ ← reaching (esp_below 4 cpu.regs) 4 (by_level cpu true)
  writes (esp_below 4 cpu.regs) sizes.Long v

abbrev pub with_regs : Cpu → Regs → Cpu
with_regs cpu regs = record cpu { regs = regs }

-- past the instruction
abbrev pub past : Cpu → ℕ → Cpu
past cpu len = with_regs cpu (eip_past len cpu.regs)

-- past the instruction, with a register made new
abbrev pub past_with : Cpu → ℕ → ℕ → ℕ → Cpu
past_with cpu len k v = with_regs cpu (eip_past len (with_whole k v cpu.regs))

-- past the instruction, with ESP after a push and after a pop of four bytes
abbrev pub past_push : Cpu → ℕ → Cpu
past_push cpu len = with_regs cpu (eip_past len (with_push cpu.regs))

abbrev pub past_pop : Cpu → ℕ → Cpu
past_pop cpu len = with_regs cpu (eip_past len (with_pop 4 cpu.regs))

-- at a target
abbrev pub gone_to : Cpu → ℕ → Cpu
gone_to cpu eip = with_regs cpu (transfers.gone_to eip cpu.regs)

abbrev pub next : Cpu → Work Refusal SysOutcome
next cpu = gives (record { cpu = cpu; effect = effects.Next })
