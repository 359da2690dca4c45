-- What each row is made of.
use Rattle.std.proofs.Common.{ℕ, ◌==◌, Bool}
use Rattle.ia32_types.specs.declared.insn.Insn.{Insn}
use Rattle.ia32_types.specs.declared.insn.Op.{Op}
use Rattle.ia32_types.specs.declared.insn.Op.TheVariants as ops
use Rattle.ia32_types.specs.declared.insn.Address.{Address}
use Rattle.ia32_types.specs.declared.insn.Operand.{Operand}
use Rattle.ia32_types.specs.declared.insn.Operand.TheVariants.{Register, Memory, Segment, Control}
use Rattle.ia32_types.specs.declared.register.Seg.{Seg}
use Rattle.ia32_types.specs.declared.register.Seg.TheVariants.{Es, Cs, Ss, Ds}
use Rattle.descriptors.specs.declared.cpu.Cpu.{Cpu}
use Rattle.sys_exec.specs.Operand.{unsupported}
use Rattle.sys_exec.specs.Flags.{clear_interrupts, set_interrupts, halt, push_flags, pop_flags}
use Rattle.sys_exec.specs.Control.{load_control, write_control, control_of, read_control}
use Rattle.sys_exec.specs.Table.{table_at, load_gdt, load_idt, load_tr, dropped, drop_page}
use Rattle.sys_exec.specs.Move.{selector_kept, read_seg, load_by, load_seg, push_seg, pop_seg, far_jump}
use Rattle.sys_exec.specs.Port.{port_in, port_out}
use Rattle.sys_exec.specs.Branch.{return_to, jump_to, called_through, call_to}
use Rattle.sys_exec.specs.Sys.{returned_by, row, sys_work}
use Rattle.std.proofs.Common.{true, false, refl, arith}
use Rattle.ia32_types.specs.declared.size.Size.TheVariants.{Word, Long}
use Rattle.ia32_exec.specs.Registers.{address_of}
use Rattle.ia32_exec.specs.Stack.{esp_below}
use Rattle.descriptors.specs.Access.{by_level}
use Rattle.sys_exec.specs.declared.effect.SysEffect.TheVariants as effects
use Rattle.sys_exec.specs.Access.{denials}
use Rattle.sys_exec.specs.Operand.{past}
use Rattle.descriptors.proofs.Made.{Made, Steps, then_steps, refuses_steps, opened_then}
use Rattle.sys_exec.proofs.MadeParts.{parts, operand_4, operand_opens}

cli : (len : ℕ) (cpu : Cpu) → Steps denials (cpu.cpl == 3) (clear_interrupts len cpu)
unfolding clear_interrupts
cli len cpu = search parts depth 8

sti : (len : ℕ) (cpu : Cpu) → Steps denials (cpu.cpl == 3) (set_interrupts len cpu)
unfolding set_interrupts
sti len cpu = search parts depth 8

hlt : (len : ℕ) (cpu : Cpu) → Steps denials (cpu.cpl == 3) (halt len cpu)
unfolding halt
hlt len cpu = search parts depth 8

pushf : (len : ℕ) (cpu : Cpu) → Steps denials (cpu.cpl == 3) (push_flags len cpu)
unfolding push_flags
pushf len cpu = search parts depth 8

popf : (len : ℕ) (cpu : Cpu) → Steps denials (cpu.cpl == 3) (pop_flags len cpu)
unfolding pop_flags
popf len cpu = search parts depth 10

iret : (cpu : Cpu) → Steps denials (cpu.cpl == 3) (returned_by cpu)
iret cpu = search parts depth 8

-- ---- control registers and tables

control_loaded : (user : Bool) (cpu : Cpu) (number v : ℕ) → Steps denials user (load_control cpu number v)
unfolding load_control
control_loaded user cpu number v = search parts depth 16

control_written : (a b : Operand) (len : ℕ) (cpu : Cpu) → Steps denials (cpu.cpl == 3) (write_control a b len cpu)
unfolding write_control
control_written (Control number) (Register k) len cpu = search (parts, control_loaded) depth 8
control_written a b len cpu = refuses_steps unsupported

control_found : (cpu : Cpu) (number : ℕ) → Steps denials (cpu.cpl == 3) (control_of cpu number)
unfolding control_of
control_found cpu number = search parts depth 12

control_read : (a b : Operand) (len : ℕ) (cpu : Cpu) → Steps denials (cpu.cpl == 3) (read_control a b len cpu)
unfolding read_control
control_read (Register k) (Control number) len cpu = search (parts, control_found) depth 10
control_read a b len cpu = refuses_steps unsupported

table : (cpu : Cpu) (a : Operand) → Steps denials (cpu.cpl == 3) (table_at cpu a)
unfolding table_at
table cpu (Memory a) = search parts depth 10
table cpu a = refuses_steps unsupported

lgdt : (a : Operand) (len : ℕ) (cpu : Cpu) → Steps denials (cpu.cpl == 3) (load_gdt a len cpu)
unfolding load_gdt
lgdt a len cpu = search (parts, table) depth 10

lidt : (a : Operand) (len : ℕ) (cpu : Cpu) → Steps denials (cpu.cpl == 3) (load_idt a len cpu)
unfolding load_idt
lidt a len cpu = search (parts, table) depth 10

ltr : (a : Operand) (len : ℕ) (cpu : Cpu) → Steps denials (cpu.cpl == 3) (load_tr a len cpu)
unfolding load_tr
ltr a len cpu = search parts depth 12

page : (len : ℕ) (cpu : Cpu) (a : Operand) → Steps denials (cpu.cpl == 3) (dropped len cpu a)
page len cpu (Memory a) = search parts
page len cpu a = refuses_steps unsupported

invlpg : (a : Operand) (len : ℕ) (cpu : Cpu) → Steps denials (cpu.cpl == 3) (drop_page a len cpu)
unfolding drop_page
invlpg a len cpu = search (parts, page) depth 8

-- ---- segment registers

kept : (len : ℕ) (cpu : Cpu) (sel : ℕ) (into : Operand) → Steps denials (cpu.cpl == 3) (selector_kept len cpu sel into)
unfolding selector_kept
kept len cpu sel (Register k) = search parts
kept len cpu sel (Memory a) =
    opened_then (address_of a cpu.regs, 2) (operand_opens cpu a 2 (omega arith) (omega arith))
    (λ done. Made.follows (Made.writing (address_of a cpu.regs) Word sel (omega arith) (omega arith))
    (λ done. Made.given (record { cpu = past cpu len; effect = effects.Next })))
kept len cpu sel into = refuses_steps unsupported

seg_read : (insn : Insn) (b : Operand) (len : ℕ) (cpu : Cpu) → Steps denials (cpu.cpl == 3) (read_seg insn b len cpu)
unfolding read_seg
seg_read insn (Segment seg) len cpu = search kept
seg_read insn b len cpu = refuses_steps unsupported

loaded_by : (after cpu : Cpu) (sel : ℕ) (seg : Seg) → Steps denials (cpu.cpl == 3) (load_by after cpu sel seg)
unfolding load_by
loaded_by after cpu sel Cs = search parts
loaded_by after cpu sel Ss = search parts depth 10
loaded_by after cpu sel Ds = search parts depth 8
loaded_by after cpu sel Es = search parts depth 8

seg_loaded : (insn : Insn) (a : Operand) (len : ℕ) (cpu : Cpu) → Steps denials (cpu.cpl == 3) (load_seg insn a len cpu)
unfolding load_seg
seg_loaded insn (Segment seg) len cpu = search (parts, loaded_by) depth 8
seg_loaded insn a len cpu = refuses_steps unsupported

seg_pushed : (a : Operand) (len : ℕ) (cpu : Cpu) → Steps denials (cpu.cpl == 3) (push_seg a len cpu)
unfolding push_seg
seg_pushed (Segment seg) len cpu = search parts depth 8
seg_pushed a len cpu = refuses_steps unsupported

seg_popped : (a : Operand) (len : ℕ) (cpu : Cpu) → Steps denials (cpu.cpl == 3) (pop_seg a len cpu)
unfolding pop_seg
seg_popped (Segment seg) len cpu = search (parts, loaded_by) depth 8
seg_popped a len cpu = refuses_steps unsupported

far : (insn : Insn) (cpu : Cpu) → Steps denials (cpu.cpl == 3) (far_jump insn cpu)
unfolding far_jump
far insn cpu = search parts depth 10

-- ---- ports and branches

input : (insn : Insn) (len : ℕ) (cpu : Cpu) → Steps denials (cpu.cpl == 3) (port_in insn len cpu)
unfolding port_in
input insn len cpu = search parts depth 8

output : (insn : Insn) (len : ℕ) (cpu : Cpu) → Steps denials (cpu.cpl == 3) (port_out insn len cpu)
unfolding port_out
output insn len cpu = search parts depth 8

ret : (more : ℕ) (cpu : Cpu) → Steps denials (cpu.cpl == 3) (return_to more cpu)
unfolding return_to
ret more cpu = search parts depth 8

jump : (a : Operand) (cpu : Cpu) → Steps denials (cpu.cpl == 3) (jump_to a cpu)
unfolding jump_to
jump a cpu = search parts depth 8

through : (a : Address) (len : ℕ) (cpu : Cpu) → Steps denials (cpu.cpl == 3) (called_through a len cpu)
unfolding called_through
through a len cpu =
    then_steps (operand_4 cpu a false)
    (λ done. opened_then (esp_below 4 cpu.regs, 4)
    (Made.opened (esp_below 4 cpu.regs) 4 (by_level cpu true) (λ low. low) refl (omega arith) (omega arith))
    (λ done. Made.follows (Made.reading_earlier (address_of a cpu.regs) Long)
    (λ target. Made.follows (Made.writing (esp_below 4 cpu.regs) Long (past cpu len).regs.eip (omega arith) (omega arith))
    (λ done. Made.given target))))

call : (a : Operand) (len : ℕ) (cpu : Cpu) → Steps denials (cpu.cpl == 3) (call_to a len cpu)
unfolding call_to
call (Register k) len cpu = search parts depth 10
call (Memory a) len cpu = search (parts, through) depth 10
call a len cpu = refuses_steps unsupported

row_steps : (op : Op) (insn : Insn) (len : ℕ) (cpu : Cpu) → Steps denials (cpu.cpl == 3) (row op insn len cpu)
row_steps ops.Cli insn len cpu = cli len cpu
row_steps ops.Sti insn len cpu = sti len cpu
row_steps ops.Hlt insn len cpu = hlt len cpu
row_steps ops.PushFlags insn len cpu = pushf len cpu
row_steps ops.PopFlags insn len cpu = popf len cpu
row_steps ops.Iret insn len cpu = iret cpu
row_steps ops.ReadControl insn len cpu = control_read insn.a insn.b len cpu
row_steps ops.WriteControl insn len cpu = control_written insn.a insn.b len cpu
row_steps ops.LoadGdt insn len cpu = lgdt insn.a len cpu
row_steps ops.LoadIdt insn len cpu = lidt insn.a len cpu
row_steps ops.LoadTask insn len cpu = ltr insn.a len cpu
row_steps ops.DropPage insn len cpu = invlpg insn.a len cpu
row_steps ops.ReadSeg insn len cpu = seg_read insn insn.b len cpu
row_steps ops.LoadSeg insn len cpu = seg_loaded insn insn.a len cpu
row_steps ops.PushSeg insn len cpu = seg_pushed insn.a len cpu
row_steps ops.PopSeg insn len cpu = seg_popped insn.a len cpu
row_steps ops.FarJump insn len cpu = far insn cpu
row_steps ops.PortIn insn len cpu = input insn len cpu
row_steps ops.PortOut insn len cpu = output insn len cpu
row_steps ops.Return insn len cpu = ret insn.imm cpu
row_steps ops.JumpTo insn len cpu = jump insn.a cpu
row_steps ops.CallTo insn len cpu = call insn.a len cpu
row_steps _ insn len cpu = refuses_steps unsupported

pub sys_steps : (insn : Insn) (len : ℕ) (cpu : Cpu) → Steps denials (cpu.cpl == 3) (sys_work insn len cpu)
unfolding sys_work
sys_steps insn len cpu = row_steps insn.op insn len cpu
