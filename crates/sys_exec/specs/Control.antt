-- MOV to and from the control registers. Intel SDM volume 3, control registers; which bits are admitted is the profile.
use Rattle.std.specs.Prelude.{ℕ, ◌/◌, ◌%◌, Bool, ◌==◌, ◌&&◌, ◌||◌, not, if◌then◌else◌, bit_and, bit_or}
use Rattle.ia32_types.specs.declared.insn.Operand.{Operand}
use Rattle.ia32_types.specs.declared.insn.Operand.TheVariants.{Register, Control}
use Rattle.ia32_types.specs.declared.stop.Stop.TheVariants as stops
use Rattle.paging.specs.Work.{Work, ◌>>=◌, refuses, gives, unless}
use Rattle.descriptors.specs.Controls.{control_0_needed, control_0_refused, control_3_refused}
use Rattle.descriptors.specs.declared.controls.TheConstants.{CR0_ET, CR4_PSE}
use Rattle.descriptors.specs.declared.cpu.Cpu.{Cpu}
use Rattle.sys_exec.specs.declared.effect.Refusal.{Refusal}
use Rattle.sys_exec.specs.declared.effect.Refusal.TheVariants.{Stop}
use Rattle.sys_exec.specs.declared.effect.SysEffect.TheVariants as effects
use Rattle.sys_exec.specs.declared.effect.SysOutcome.{SysOutcome}
use Rattle.sys_exec.specs.Operand.{unsupported, kernel_alone, reg_at, past, past_with, next}

abbrev pub control_stop : Refusal
control_stop = Stop stops.ControlBits

-- CR0: PE and PG must be given; MP, EM, TS, NE, WP and AM may be; ET is 1 whatever is given. No other bit may be set.
abbrev pub load_control_0 : Cpu → ℕ → Work Refusal SysOutcome
load_control_0 cpu v = do
  _ ← unless control_stop (bit_and v control_0_needed == control_0_needed && bit_and v control_0_refused == 0)
  gives (record { cpu = record cpu { cr0 = bit_or v CR0_ET }; effect = effects.Next })

-- CR3: PWT and PCD and the frame may be given; the set is emptied
abbrev pub load_control_3 : Cpu → ℕ → Work Refusal SysOutcome
load_control_3 cpu v = do
  _ ← unless control_stop (bit_and v control_3_refused == 0)
  gives (record { cpu = record cpu { cr3 = v }; effect = effects.DropAll })

-- a value of CR4 changes PSE
abbrev pub changes_pse : Cpu → ℕ → Bool
changes_pse cpu v = not (v / CR4_PSE % 2 == cpu.cr4 / CR4_PSE % 2)

-- CR4: PSE may be given, and where it changes the set is emptied
abbrev pub load_control_4 : Cpu → ℕ → Work Refusal SysOutcome
load_control_4 cpu v = do
  _ ← unless control_stop (v == 0 || v == CR4_PSE)
  gives (record { cpu = record cpu { cr4 = v }; effect = if changes_pse cpu v then effects.DropAll else effects.Next })

unfoldable pub load_control : Cpu → ℕ → ℕ → Work Refusal SysOutcome
load_control cpu number v =
    if number == 0 then load_control_0 cpu v else
    (if number == 2 then gives (record { cpu = record cpu { cr2 = v }; effect = effects.Next }) else
    (if number == 3 then load_control_3 cpu v else
    (if number == 4 then load_control_4 cpu v else
    refuses unsupported)))

-- MOV to a control register
unfoldable pub write_control : Operand → Operand → ℕ → Cpu → Work Refusal SysOutcome
write_control (Control number) (Register k) len cpu = do
  _ ← kernel_alone cpu
  load_control (past cpu len) number (reg_at cpu k)
write_control a b len cpu = refuses unsupported

unfoldable pub control_of : Cpu → ℕ → Work Refusal ℕ
control_of cpu number =
    if number == 0 then gives cpu.cr0 else
    (if number == 2 then gives cpu.cr2 else
    (if number == 3 then gives cpu.cr3 else
    (if number == 4 then gives cpu.cr4 else
    refuses unsupported)))

-- MOV from a control register
unfoldable pub read_control : Operand → Operand → ℕ → Cpu → Work Refusal SysOutcome
read_control (Register k) (Control number) len cpu = do
  _ ← kernel_alone cpu
  v ← control_of cpu number
  next (past_with cpu len (k % 8) v)
read_control a b len cpu = refuses unsupported
