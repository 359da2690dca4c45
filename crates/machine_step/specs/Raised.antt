-- What a step raises: the vector of an exception, the error code that its handler finds, and of a page fault its linear address.
-- The branches are those of the step; whether the vector is then delivered, or the delivery stops, makes no difference. INT, INT3 and
-- external interrupts raise nothing.
use Rattle.std.specs.Prelude.{ℕ, ◌+◌, ◌*◌, ◌%◌, false, Option, Some, None, Ok, Err, ◌==◌, if◌then◌else◌}
use Rattle.std.specs.FinMap.{FinMap}
use Rattle.std.specs.Ordering.{nat_cmp}
use Rattle.ia32_types.specs.declared.insn.Insn.{Insn}
use Rattle.ia32_types.specs.declared.insn.Op.{Op}
use Rattle.ia32_types.specs.declared.insn.Op.TheVariants as op
use Rattle.ia32_decode.specs.declared.answer.Decoded.{Decoded}
use Rattle.ia32_decode.specs.declared.answer.Decoded.TheVariants as begins
use Rattle.descriptors.specs.declared.cpu.Cpu.{Cpu}
use Rattle.paging.specs.declared.entry.Entry.{Entry}
use Rattle.paging.specs.Space.{Space}
use Rattle.paging.specs.Work.{Outcome}
use Rattle.sys_exec.specs.declared.effect.Refusal.{Refusal}
use Rattle.sys_exec.specs.declared.effect.Refusal.TheVariants as refusal
use Rattle.sys_exec.specs.declared.effect.SysOutcome.{SysOutcome}
use Rattle.sys_exec.specs.declared.effect.SysEffect.{SysEffect}
use Rattle.sys_exec.specs.declared.effect.SysEffect.TheVariants as effects
use Rattle.sys_exec.specs.Operand.{past}
use Rattle.sys_exec.specs.Sys.{told}
use Rattle.event_entry.specs.declared.refusal.Kind.TheVariants.{Soft}
use Rattle.event_entry.specs.declared.refusal.NotDelivered.{NotDelivered}
use Rattle.event_entry.specs.declared.refusal.NotDelivered.TheVariants as not_delivered
use Rattle.event_entry.specs.Deliver.{delivered}
use Rattle.board.specs.declared.devices.Board.{Board}
use Rattle.board.specs.Boards.{given}
use Rattle.machine_model.specs.State.{Setting, State, space_at_start}
use Rattle.machine_model.specs.Rules.{stands_well}
use Rattle.machine_model.specs.Instruction.{fetched, instructed}
use Rattle.machine_model.specs.Step.{code_of, interrupt_of}
use Rattle.machine_step.specs.declared.worked.Raised.{Raised}

-- a page fault's address, which is in CR2 of the processor from which the fault is delivered
abbrev pub fault_address : ℕ → Cpu → Option ℕ
fault_address vector cpu = if vector == 14 then Some cpu.cr2 else None

-- a vector that is raised from this processor, with its error code where it pushes one
abbrev pub raised_as : Cpu → ℕ → ℕ → Option Raised
raised_as cpu vector code = Some (record { vector = vector; code = code_of vector code; at = fault_address vector cpu })

-- an instruction's effect, which left this processor
abbrev pub raised_by_effect : Cpu → SysEffect → Option Raised
raised_by_effect cpu (effects.Raise vector code) = raised_as cpu vector code
raised_by_effect cpu _ = None

abbrev pub raised_by_told : SysEffect × Cpu × Space → Option Raised
raised_by_told told = raised_by_effect told.1 told.0

-- the outcome of an instruction that this processor did
abbrev pub raised_by_outcome : Cpu → Outcome Refusal SysOutcome → Option Raised
raised_by_outcome cpu outcome = raised_by_told (told cpu outcome)

-- INT raises #GP where this level may not use its gate
abbrev pub raised_by_gate : Cpu → ℕ → Outcome NotDelivered Cpu → Option Raised
raised_by_gate cpu vector (Err (not_delivered.Privilege, s)) = raised_as cpu 13 (8 * vector + 2)
raised_by_gate cpu vector (Err (not_delivered.Stop stop, s)) = None
raised_by_gate cpu vector (Ok done) = None

abbrev pub raised_by_int : Cpu → ℕ → ℕ → Space → Option Raised
raised_by_int cpu len vector s = raised_by_gate cpu vector (delivered (past cpu len) vector Soft None s)

abbrev pub raised_by_op : Op → Cpu → Insn → ℕ → Space → Option Raised
raised_by_op op.Int cpu insn len s = raised_by_int cpu len (insn.imm % 256) s
raised_by_op op.Int3 cpu insn len s = raised_by_int cpu len 3 s
raised_by_op o cpu insn len s = raised_by_outcome cpu (instructed insn len cpu s)

abbrev pub raised_by_decoded : Cpu → Decoded → Space → Option Raised
raised_by_decoded cpu (begins.Insn insn len) s = raised_by_op insn.op cpu insn len s
raised_by_decoded cpu _ s = None

-- a fetch that is denied raises a page fault
abbrev pub raised_by_refusal : Cpu → Refusal → Option Raised
raised_by_refusal cpu (refusal.Fault code at) = raised_as (record cpu { cr2 = at }) 14 code
raised_by_refusal cpu (refusal.Raise vector code) = raised_as cpu vector code
raised_by_refusal cpu (refusal.Stop stop) = None

abbrev pub raised_by_fetch : Cpu → Outcome Refusal Decoded → Option Raised
raised_by_fetch cpu (Ok read) = raised_by_decoded cpu read.0 read.1
raised_by_fetch cpu (Err refused) = raised_by_refusal cpu refused.0

abbrev pub raised_by_next : Cpu → Space → Option Raised
raised_by_next cpu s = raised_by_fetch cpu (fetched (cpu.cpl == 3) cpu.regs.eip s)

-- nothing is done where code may not begin
abbrev pub raised_there : Setting → Cpu → Space → Option Raised
raised_there m cpu s = if stands_well m cpu then raised_by_next cpu s else None

-- nor by a halted processor
unfoldable pub raised_at_work : Setting → Cpu → Space → Option Raised
raised_at_work m cpu s = if cpu.halted then None else raised_there m cpu s

abbrev pub raised_unless : Setting → Option ℕ → Cpu → Space → Option Raised
raised_unless m None cpu s = raised_at_work m cpu s
raised_unless m (Some vector) cpu s = None

-- a hold lasts for one step
abbrev pub raised_in : Setting → Cpu → Board → Space → Option Raised
raised_in m cpu board s = raised_unless m (interrupt_of cpu board) (record cpu { held = false }) s

abbrev pub raised_from : Setting → State → Option Raised
raised_from m b = raised_in m b.cpu b.board (space_at_start m.mode m.frames b.cpu b.ram b.set)

-- what the step from this state raises, by these translations
unfoldable pub raised_of : Setting → State → FinMap nat_cmp Entry → Option Raised
raised_of m b set = raised_from m (record b { board = given b.board m.script b.step; set = set })
