-- One step of a machine, as a function of its state and of the translations that it may use.
use Rattle.std.specs.Prelude.{ℕ, ◌+◌, ◌*◌, ◌%◌, Bool, true, false, nat_le, ◌&&◌, not, ◌==◌, List, [], ◌∷◌, Option, Some, None, Ok, Err, if◌then◌else◌}
use Rattle.std.specs.FinMap.{FinMap, empty, remove}
use Rattle.std.specs.Ordering.{nat_cmp}
use Rattle.ia32_types.specs.declared.stop.Stop.{Stop}
use Rattle.ia32_types.specs.declared.stop.Stop.TheVariants as stops
use Rattle.ia32_types.specs.declared.stop.Did.{Did}
use Rattle.ia32_types.specs.declared.stop.Did.TheVariants as did
use Rattle.ia32_types.specs.declared.insn.Insn.{Insn}
use Rattle.ia32_types.specs.declared.insn.Op.{Op}
use Rattle.ia32_types.specs.declared.insn.Op.TheVariants as op
use Rattle.ia32_decode.specs.declared.answer.Decoded.{Decoded}
use Rattle.ia32_decode.specs.declared.answer.Decoded.TheVariants as begins
use Rattle.descriptors.specs.declared.controls.TheConstants.{EFLAGS_IF}
use Rattle.descriptors.specs.declared.cpu.Cpu.{Cpu}
use Rattle.paging.specs.declared.entry.Entry.{Entry}
use Rattle.paging.specs.Space.{Space}
use Rattle.paging.specs.Fresh.{has}
use Rattle.paging.specs.Uses.{without_dir}
use Rattle.paging.specs.Work.{Outcome}
use Rattle.sys_exec.specs.declared.effect.Refusal.{Refusal}
use Rattle.sys_exec.specs.declared.effect.Refusal.TheVariants as refusal
use Rattle.sys_exec.specs.declared.effect.SysOutcome.{SysOutcome}
use Rattle.sys_exec.specs.declared.effect.SysEffect.{SysEffect}
use Rattle.sys_exec.specs.declared.effect.SysEffect.TheVariants as effects
use Rattle.sys_exec.specs.Sys.{told}
use Rattle.event_entry.specs.declared.refusal.Kind.TheVariants.{Raised, Soft, External}
use Rattle.event_entry.specs.declared.refusal.NotDelivered.{NotDelivered}
use Rattle.event_entry.specs.declared.refusal.NotDelivered.TheVariants as not_delivered
use Rattle.event_entry.specs.Deliver.{delivered}
use Rattle.board.specs.declared.devices.Board.{Board}
use Rattle.board.specs.declared.devices.PortRead.{PortRead}
use Rattle.board.specs.declared.devices.PortRead.TheVariants as read
use Rattle.board.specs.Ports.{port_read, port_written}
use Rattle.board.specs.Boards.{given, board_step, vector, acknowledged}
use Rattle.run_trace.specs.declared.items.What.{What}
use Rattle.run_trace.specs.declared.items.What.TheVariants.{In8, In32, Out8, Out32, Sent, Irq}
use Rattle.run_trace.specs.declared.items.Item.{Item}
use Rattle.machine_model.specs.State.{Setting, State, space_at_start}
use Rattle.machine_model.specs.Rules.{stands_well, may_leave}
use Rattle.sys_exec.specs.Operand.{past}
use Rattle.machine_model.specs.Instruction.{fetched, instructed, with_accumulator}

-- an instruction that completed, with the EIP at which it began, and whether it began at level 3
pub record Completed : Type 0 where
  pub insn : Insn
  pub eip : ℕ
  pub user : Bool

-- What a step reports: what was seen; the instruction that completed, which is none where an event was delivered, the
-- processor was halted or the instruction raised; the pages that its accesses went through; the frames that its walks
-- read as a directory or table; and the frames of what it wrote, the flags of walks apart. All in their order.
pub record Report : Type 0 where
  pub items : List Item
  pub completed : Option Completed
  pub pages : List ℕ
  pub tables : List ℕ
  pub wrote : List ℕ

-- the outcome of a step: a report and the state after it, or a stop
pub data Result : Type 0 where
  Went : Report → State → Result
  Halts : Stop → Result

-- what was seen in one step
abbrev pub items_at : ℕ → List What → List Item
items_at step [] = []
items_at step (what ∷ whats) = record { step = step; what = what } ∷ items_at step whats

-- the count rises, and the board advances
abbrev pub concluded : List What → Option Completed → State → Cpu → Board → Space → Result
concluded whats completed b cpu board s =
    Went (record { items = items_at b.step whats; completed = completed; pages = s.visited; tables = s.tables; wrote = s.wrote })
    (record { cpu = cpu; ram = s.ram; set = s.set; board = board_step board; step = b.step + 1 })

-- the item of a read of a port
abbrev pub in_item : ℕ → Bool → ℕ → What
in_item port true value = In32 port value
in_item port false value = In8 port value

-- the item of a write to a port
abbrev pub out_item : ℕ → Bool → ℕ → What
out_item port true value = Out32 port value
out_item port false value = Out8 port value

-- IN puts what the board gave into AL or EAX
abbrev pub after_read : State → Completed → Cpu → ℕ → Bool → Space → PortRead × Board → Result
after_read b completed cpu port wide s (read.Stop, board) = Halts stops.DeviceUse
after_read b completed cpu port wide s (read.Value value, board) =
    concluded (in_item port wide value ∷ []) (Some completed) b (with_accumulator wide value cpu) board s

-- what the board did at a write to a port
abbrev pub after_write : State → Completed → Cpu → What → Space → Did × Board → Result
after_write b completed cpu item s (did.Stop, board) = Halts stops.DeviceUse
after_write b completed cpu item s (did.Done, board) = concluded (item ∷ []) (Some completed) b cpu board s
after_write b completed cpu item s (did.Sent value, board) = concluded (item ∷ Sent value ∷ []) (Some completed) b cpu board s

-- vectors 11 to 14 push an error code
abbrev pub code_of : ℕ → ℕ → Option ℕ
code_of vector code = if nat_le 11 vector && nat_le vector 14 then Some code else None

abbrev pub stop_of : NotDelivered → Stop
stop_of not_delivered.Privilege = stops.DeliveryFailed
stop_of (not_delivered.Stop stop) = stop

-- a handler is entered, which must be where code may begin
abbrev pub entered : Setting → List What → Option Completed → State → Cpu → Board → Space → Result
entered m whats completed b cpu board s = if stands_well m cpu then concluded whats completed b cpu board s else Halts stops.NotAStart

-- The processor enters a handler, or the delivery stops. The board is the one that the delivery leaves.
abbrev pub after_delivery : Setting → List What → State → Board → Outcome NotDelivered Cpu → Result
after_delivery m whats b board (Ok done) = entered m whats None b done.0 board done.1
after_delivery m whats b board (Err refused) = Halts (stop_of refused.0)

-- a raised vector is delivered from this processor, whose EIP is that of the instruction
abbrev pub raised : Setting → State → Cpu → ℕ → ℕ → Space → Result
raised m b cpu vector code s = after_delivery m [] b b.board (delivered cpu vector Raised (code_of vector code) s)

-- an instruction ends, and may lead to level 3 with a user's flags alone
abbrev pub ended : Setting → Completed → State → Cpu → Space → Result
ended m completed b cpu s = if may_leave m.mode b.cpu cpu then concluded [] (Some completed) b cpu b.board s else Halts stops.UserFlags

-- the outcome of an instruction: its effect, the processor and memory
abbrev pub after_effect : Setting → State → Completed → SysEffect → Cpu → Space → Result
after_effect m b completed effects.Next cpu s = ended m completed b cpu s
after_effect m b completed effects.Halted cpu s = concluded [] (Some completed) b cpu b.board s
after_effect m b completed (effects.DropPage page) cpu s =
    concluded [] (Some completed) b cpu b.board (record s { set = remove s.set page })
after_effect m b completed (effects.DropDir index) cpu s =
    concluded [] (Some completed) b cpu b.board (record s { set = without_dir s.set index })
after_effect m b completed effects.DropAll cpu s = concluded [] (Some completed) b cpu b.board (record s { set = empty })
after_effect m b completed (effects.PortIn port wide) cpu s = after_read b completed cpu port wide s (port_read b.board port wide)
after_effect m b completed (effects.PortOut port wide value) cpu s =
    after_write b completed cpu (out_item port wide value) s (port_written b.board port wide value)
after_effect m b completed (effects.Raise vector code) cpu s = raised m b cpu vector code s
after_effect m b completed (effects.Stop stop) cpu s = Halts stop

abbrev pub effect_on : Setting → State → Completed → SysEffect × Cpu × Space → Result
effect_on m b completed told = after_effect m b completed told.0 told.1 told.2

-- an instruction that is not done raises a vector or stops; at a page fault CR2 is its address
abbrev pub after_instruction : Setting → State → Completed → Outcome Refusal SysOutcome → Result
after_instruction m b completed outcome = effect_on m b completed (told b.cpu outcome)

-- INT enters the handler with the EIP after it. A gate that this level may not use raises #GP at the instruction.
abbrev pub after_software : Setting → State → Completed → ℕ → Outcome NotDelivered Cpu → Result
after_software m b completed vector (Ok done) = entered m [] (Some completed) b done.0 b.board done.1
after_software m b completed vector (Err (not_delivered.Privilege, s)) = raised m b b.cpu 13 (8 * vector + 2) s
after_software m b completed vector (Err (not_delivered.Stop stop, s)) = Halts stop

abbrev pub interrupts_by : Setting → State → Completed → ℕ → ℕ → Space → Result
interrupts_by m b completed len vector s = after_software m b completed vector (delivered (past b.cpu len) vector Soft None s)

-- the instruction that this processor begins
abbrev pub begun : State → Insn → Completed
begun b insn = record { insn = insn; eip = b.cpu.regs.eip; user = b.cpu.cpl == 3 }

-- INT and INT3 are deliveries, by the vector in INT's byte and by 3; every other instruction has its row
abbrev pub by_op : Setting → Op → State → Insn → ℕ → Space → Result
by_op m op.Int b insn len s = interrupts_by m b (begun b insn) len (insn.imm % 256) s
by_op m op.Int3 b insn len s = interrupts_by m b (begun b insn) len 3 s
by_op m o b insn len s = after_instruction m b (begun b insn) (instructed insn len b.cpu s)

abbrev pub by_decoded : Setting → State → Decoded → Space → Result
by_decoded m b (begins.Insn insn len) s = by_op m insn.op b insn len s
by_decoded m b _ s = Halts stops.Unsupported

-- a fetch that is denied raises a page fault
abbrev pub after_refusal : Setting → State → Refusal → Space → Result
after_refusal m b (refusal.Fault code at) s = raised m b (record b.cpu { cr2 = at }) 14 code s
after_refusal m b (refusal.Raise vector code) s = raised m b b.cpu vector code s
after_refusal m b (refusal.Stop stop) s = Halts stop

abbrev pub after_fetch : Setting → State → Outcome Refusal Decoded → Result
after_fetch m b (Ok read) = by_decoded m b read.0 read.1
after_fetch m b (Err refused) = after_refusal m b refused.0 refused.1

-- a processor that is not halted does one instruction
abbrev pub fetches_next : Setting → State → Space → Result
fetches_next m b s = after_fetch m b (fetched (b.cpu.cpl == 3) b.cpu.regs.eip s)

-- code must stand where it may begin
abbrev pub begins_next : Setting → State → Space → Result
begins_next m b s = if stands_well m b.cpu then fetches_next m b s else Halts stops.NotAStart

-- a halted processor does nothing, and another does one instruction
unfoldable pub worked : Setting → State → Space → Result
worked m b s = if b.cpu.halted then concluded [] None b b.cpu b.board s else begins_next m b s

-- the interrupt that the processor takes: one is pending, IF is 1 and deliveries are not held off
abbrev pub interrupt_of : Cpu → Board → Option ℕ
interrupt_of cpu board = if has cpu.regs.flags.bits EFLAGS_IF && not cpu.held then vector board else None

-- an external interrupt is acknowledged and delivered, which is the processor's whole work
unfoldable pub interrupted : Setting → State → ℕ → Space → Result
interrupted m b v s = after_delivery m (Irq v ∷ []) b (acknowledged b.board) (delivered b.cpu v External None s)

abbrev pub by_interrupt : Setting → Option ℕ → State → Space → Result
by_interrupt m None b s = worked m b s
by_interrupt m (Some v) b s = interrupted m b v s

-- a hold lasts for one step
abbrev pub unheld : State → State
unheld b = record b { cpu = record b.cpu { held = false } }

abbrev pub stepped : Setting → State → Result
stepped m b = by_interrupt m (interrupt_of b.cpu b.board) (unheld b) (space_at_start m.mode m.frames b.cpu b.ram b.set)

-- one step: the set is chosen, the script's events reach the board, and the processor works
unfoldable pub step_of : Setting → State → FinMap nat_cmp Entry → Result
step_of m b set = stepped m (record b { board = given b.board m.script b.step; set = set })
