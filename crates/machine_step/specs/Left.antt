-- What the accesses of a step leave of memory, whether the step goes on or stops. The branches are those of the step.
use Rattle.std.specs.Prelude.{ℕ, ◌+◌, ◌-◌, ◌*◌, ◌%◌, false, List, length, slice_get, Option, Some, None, Ok, Err, ◌==◌, is_none, if◌then◌else◌}
use Rattle.std.specs.FinMap.{FinMap, get}
use Rattle.std.specs.Ordering.{nat_cmp}
use Rattle.ia32_types.specs.declared.insn.Insn.{Insn}
use Rattle.ia32_types.specs.declared.insn.Op.{Op}
use Rattle.ia32_types.specs.declared.insn.Op.TheVariants as op
use Rattle.ia32_decode.specs.declared.answer.Decoded.{Decoded}
use Rattle.ia32_decode.specs.declared.answer.Decoded.TheVariants as begins
use Rattle.descriptors.specs.declared.cpu.Cpu.{Cpu}
use Rattle.paging.specs.declared.entry.Entry.{Entry}
use Rattle.paging.specs.Space.{Space}
use Rattle.paging.specs.Work.{Outcome}
use Rattle.sys_exec.specs.declared.effect.Refusal.{Refusal}
use Rattle.sys_exec.specs.declared.effect.Refusal.TheVariants as refusal
use Rattle.sys_exec.specs.declared.effect.SysOutcome.{SysOutcome}
use Rattle.sys_exec.specs.declared.effect.SysEffect.{SysEffect}
use Rattle.sys_exec.specs.declared.effect.SysEffect.TheVariants as effects
use Rattle.sys_exec.specs.Operand.{past}
use Rattle.sys_exec.specs.Sys.{told}
use Rattle.event_entry.specs.declared.refusal.Kind.TheVariants.{Raised, Soft, External}
use Rattle.event_entry.specs.declared.refusal.NotDelivered.{NotDelivered}
use Rattle.event_entry.specs.declared.refusal.NotDelivered.TheVariants as not_delivered
use Rattle.event_entry.specs.Deliver.{delivered}
use Rattle.board.specs.declared.devices.Board.{Board}
use Rattle.board.specs.Boards.{given}
use Rattle.machine_model.specs.State.{Setting, State, space_at_start}
use Rattle.machine_model.specs.Rules.{stands_well}
use Rattle.machine_model.specs.Instruction.{fetched, instructed}
use Rattle.machine_model.specs.Step.{code_of, interrupt_of}

-- what work leaves that gives a value, or refuses
abbrev pub left_by : {E A : Type 0} → Outcome E A → Space
left_by (Ok done) = done.1
left_by (Err refused) = refused.1

-- a vector that is raised is delivered from this processor
abbrev pub left_by_raise : Cpu → ℕ → ℕ → Space → Space
left_by_raise cpu vector code s = left_by (delivered cpu vector Raised (code_of vector code) s)

-- an instruction's effect, with the processor and the memory that it left
abbrev pub left_by_effect : SysEffect → Cpu → Space → Space
left_by_effect (effects.Raise vector code) cpu s = left_by_raise cpu vector code s
left_by_effect _ cpu s = s

abbrev pub left_by_told : SysEffect × Cpu × Space → Space
left_by_told told = left_by_effect told.0 told.1 told.2

-- the outcome of an instruction that this processor did
abbrev pub left_by_outcome : Cpu → Outcome Refusal SysOutcome → Space
left_by_outcome cpu outcome = left_by_told (told cpu outcome)

-- INT raises #GP where this level may not use its gate
abbrev pub left_by_gate : Cpu → ℕ → Outcome NotDelivered Cpu → Space
left_by_gate cpu vector (Err (not_delivered.Privilege, s)) = left_by_raise cpu 13 (8 * vector + 2) s
left_by_gate cpu vector (Err (not_delivered.Stop stop, s)) = s
left_by_gate cpu vector (Ok done) = done.1

abbrev pub left_by_int : Cpu → ℕ → ℕ → Space → Space
left_by_int cpu len vector s = left_by_gate cpu vector (delivered (past cpu len) vector Soft None s)

abbrev pub left_by_op : Op → Cpu → Insn → ℕ → Space → Space
left_by_op op.Int cpu insn len s = left_by_int cpu len (insn.imm % 256) s
left_by_op op.Int3 cpu insn len s = left_by_int cpu len 3 s
left_by_op o cpu insn len s = left_by_outcome cpu (instructed insn len cpu s)

abbrev pub left_by_decoded : Cpu → Decoded → Space → Space
left_by_decoded cpu (begins.Insn insn len) s = left_by_op insn.op cpu insn len s
left_by_decoded cpu _ s = s

-- a fetch that is denied raises a page fault
abbrev pub left_by_refusal : Cpu → Refusal → Space → Space
left_by_refusal cpu (refusal.Fault code at) s = left_by_raise (record cpu { cr2 = at }) 14 code s
left_by_refusal cpu (refusal.Raise vector code) s = left_by_raise cpu vector code s
left_by_refusal cpu (refusal.Stop stop) s = s

abbrev pub left_by_fetch : Cpu → Outcome Refusal Decoded → Space
left_by_fetch cpu (Ok read) = left_by_decoded cpu read.0 read.1
left_by_fetch cpu (Err refused) = left_by_refusal cpu refused.0 refused.1

abbrev pub left_by_next : Cpu → Space → Space
left_by_next cpu s = left_by_fetch cpu (fetched (cpu.cpl == 3) cpu.regs.eip s)

-- nothing is done where code may not begin
abbrev pub left_there : Setting → Cpu → Space → Space
left_there m cpu s = if stands_well m cpu then left_by_next cpu s else s

-- nor by a halted processor
unfoldable pub left_at_work : Setting → Cpu → Space → Space
left_at_work m cpu s = if cpu.halted then s else left_there m cpu s

abbrev pub left_by_interrupt : Cpu → ℕ → Space → Space
left_by_interrupt cpu vector s = left_by (delivered cpu vector External None s)

-- an interrupt that is taken is delivered
abbrev pub left_unless : Setting → Option ℕ → Cpu → Space → Space
left_unless m None cpu s = left_at_work m cpu s
left_unless m (Some vector) cpu s = left_by_interrupt cpu vector s

-- a hold lasts for one step
abbrev pub left_in : Setting → Cpu → Board → Space → Space
left_in m cpu board s = left_unless m (interrupt_of cpu board) (record cpu { held = false }) s

abbrev pub left_from : Setting → State → Space
left_from m b = left_in m b.cpu b.board (space_at_start m.mode m.frames b.cpu b.ram b.set)

-- what the step from this state leaves of memory, by these translations
unfoldable pub left_of : Setting → State → FinMap nat_cmp Entry → Space
left_of m b set = left_from m (record b { board = given b.board m.script b.step; set = set })

-- The page to which the last access went, where it has no translation after it: the access found none by which it may go.
abbrev pub if_unmapped : FinMap nat_cmp Entry → Option ℕ → Option ℕ
if_unmapped set None = None
if_unmapped set (Some page) = if is_none (get set page) then Some page else None

abbrev pub denied_page : Space → Option ℕ
denied_page s = if_unmapped s.set (slice_get s.visited (length s.visited - 1))
