-- What the parts of rows are made of.
use Rattle.std.proofs.Common.{ℕ, ◌≤◌, ◌==◌, Bool, true, refl, arith}
use Rattle.ia32_types.specs.declared.insn.Address.{Address}
use Rattle.ia32_types.specs.declared.insn.Operand.{Operand}
use Rattle.ia32_types.specs.declared.insn.Operand.TheVariants as operands
use Rattle.ia32_exec.specs.Registers.{address_of}
use Rattle.descriptors.specs.Access.{pair_at, byte_set, by_level}
use Rattle.descriptors.specs.declared.cpu.Cpu.{Cpu}
use Rattle.descriptors.specs.declared.form.Descriptor.{Descriptor}
use Rattle.descriptors.specs.declared.form.Descriptor.TheVariants as forms
use Rattle.sys_exec.specs.declared.effect.Refusal.{Refusal}
use Rattle.sys_exec.specs.declared.effect.Loading.{Loading}
use Rattle.sys_exec.specs.declared.iret.Popped.{Popped}
use Rattle.sys_exec.specs.Access.{denials, reaching}
use Rattle.sys_exec.specs.Operand.{operand_reached, selector, long_of, pulled, pushed}
use Rattle.sys_exec.specs.Segment.{protection, selected, data_tests, find_data, marked, load_data, stack_tests, find_stack, return_tests, find_return, jump_tests, find_jump, as_task, load_task}
use Rattle.sys_exec.specs.Iret.{popped, popped_outer, return_same, return_outer, interrupt_return}
use Rattle.ia32_types.specs.declared.size.Size.TheVariants.{Long}
use Rattle.ia32_exec.specs.Stack.{esp_below}
use Rattle.descriptors.proofs.Made.{Made, Steps, steps, then_steps, unless_steps, refuses_steps, opened_then, pair_steps, byte_steps, mark_steps}

reach : (cpu : Cpu) (at len : ℕ) (write : Bool) → 1 ≤ len → Steps denials (cpu.cpl == 3) (reaching at len (by_level cpu write))
reach cpu at len write some = Made.reached at len (by_level cpu write) (λ low. low) some

pub reach_4 : (cpu : Cpu) (at : ℕ) (write : Bool) → Steps denials (cpu.cpl == 3) (reaching at 4 (by_level cpu write))
reach_4 cpu at write = reach cpu at 4 write (omega arith)

pub reach_8 : (cpu : Cpu) (at : ℕ) (write : Bool) → Steps denials (cpu.cpl == 3) (reaching at 8 (by_level cpu write))
reach_8 cpu at write = reach cpu at 8 write (omega arith)

pub reach_12 : (cpu : Cpu) (at : ℕ) (write : Bool) → Steps denials (cpu.cpl == 3) (reaching at 12 (by_level cpu write))
reach_12 cpu at write = reach cpu at 12 write (omega arith)

pair : (user : Bool) (at : ℕ) → Steps denials user (pair_at denials at)
pair user at = pair_steps denials user at

byte : (user : Bool) (at v : ℕ) → Steps denials user (byte_set denials at v)
byte user at v = byte_steps denials user at v

operand : (cpu : Cpu) (a : Address) (len : ℕ) (write : Bool) → 1 ≤ len → Steps denials (cpu.cpl == 3) (operand_reached cpu a len write)
unfolding operand_reached
operand cpu a len write some = then_steps (unless_steps _ _) (λ done. reach cpu (address_of a cpu.regs) len write some)

pub operand_2 : (cpu : Cpu) (a : Address) (write : Bool) → Steps denials (cpu.cpl == 3) (operand_reached cpu a 2 write)
operand_2 cpu a write = operand cpu a 2 write (omega arith)

pub operand_4 : (cpu : Cpu) (a : Address) (write : Bool) → Steps denials (cpu.cpl == 3) (operand_reached cpu a 4 write)
operand_4 cpu a write = operand cpu a 4 write (omega arith)

pub operand_6 : (cpu : Cpu) (a : Address) (write : Bool) → Steps denials (cpu.cpl == 3) (operand_reached cpu a 6 write)
operand_6 cpu a write = operand cpu a 6 write (omega arith)

pub ruleset reaches = (steps, reach_4, reach_8, reach_12, operand_2, operand_4, operand_6)

pub selector_found : (cpu : Cpu) (o : Operand) → Steps denials (cpu.cpl == 3) (selector cpu o)
unfolding selector
selector_found cpu (operands.Register k) = search steps
selector_found cpu (operands.Memory a) = search reaches depth 8
selector_found cpu operands.Absent = search steps
selector_found cpu (operands.Segment seg) = search steps
selector_found cpu (operands.Control k) = search steps

pub long : (cpu : Cpu) (o : Operand) → Steps denials (cpu.cpl == 3) (long_of cpu o)
unfolding long_of
long cpu (operands.Register k) = search steps
long cpu (operands.Memory a) = search reaches depth 8
long cpu operands.Absent = search steps
long cpu (operands.Segment seg) = search steps
long cpu (operands.Control k) = search steps

pub pull : (cpu : Cpu) → Steps denials (cpu.cpl == 3) (pulled cpu)
unfolding pulled
pull cpu = search reaches depth 8

pub push : (cpu : Cpu) (v : ℕ) → Steps denials (cpu.cpl == 3) (pushed cpu v)
unfolding pushed
push cpu v =
    opened_then (esp_below 4 cpu.regs, 4)
    (Made.opened (esp_below 4 cpu.regs) 4 (by_level cpu true) (λ low. low) refl (omega arith) (omega arith))
    (λ done. Made.writing (esp_below 4 cpu.regs) Long v (omega arith) (omega arith))

pub operand_opens : (cpu : Cpu) (a : Address) (len : ℕ) → 1 ≤ len → len ≤ 4096
    → Made denials (cpu.cpl == 3) (Unit {0}) (0, 0) (address_of a cpu.regs, len) (operand_reached cpu a len true)
unfolding operand_reached
operand_opens cpu a len some short =
    Made.follows (unless_steps _ _) (λ done. Made.opened (address_of a cpu.regs) len (by_level cpu true) (λ low. low) refl some short)

select : (cpu : Cpu) (local : Refusal) (sel : ℕ) → Steps denials (cpu.cpl == 3) (selected cpu local sel)
unfolding selected
select cpu local sel = search (steps, pair) depth 10

data_tested : (user : Bool) (cpl sel : ℕ) (d : Descriptor) → Steps denials user (data_tests cpl sel d)
data_tested user cpl sel d = search steps depth 12

found_data : (cpu : Cpu) (sel : ℕ) → Steps denials (cpu.cpl == 3) (find_data cpu sel)
unfolding find_data
found_data cpu sel = search (steps, select, data_tested) depth 12

pub marks : (cpu : Cpu) (l : Loading) → Steps denials (cpu.cpl == 3) (marked cpu l)
marks cpu l = mark_steps denials (cpu.cpl == 3) cpu l.hidden.sel l.marking

pub data_loaded : (cpu : Cpu) (sel : ℕ) → Steps denials (cpu.cpl == 3) (load_data cpu sel)
unfolding load_data
data_loaded cpu sel = search (steps, found_data, marks) depth 12

stack_tested : (user : Bool) (cpl sel : ℕ) (d : Descriptor) → Steps denials user (stack_tests cpl sel d)
stack_tested user cpl sel d = search steps depth 12

pub stack_found : (cpu : Cpu) (cpl sel : ℕ) → Steps denials (cpu.cpl == 3) (find_stack cpu cpl sel)
unfolding find_stack
stack_found cpu cpl sel = search (steps, select, stack_tested) depth 14

return_tested : (user : Bool) (cpl sel : ℕ) (d : Descriptor) → Steps denials user (return_tests cpl sel d)
return_tested user cpl sel d = search steps depth 12

return_found : (cpu : Cpu) (sel : ℕ) → Steps denials (cpu.cpl == 3) (find_return cpu sel)
unfolding find_return
return_found cpu sel = search (steps, select, return_tested) depth 14

jump_tested : (user : Bool) (cpl sel : ℕ) (d : Descriptor) → Steps denials user (jump_tests cpl sel d)
jump_tested user cpl sel d = search steps depth 12

pub jump_found : (cpu : Cpu) (sel : ℕ) → Steps denials (cpu.cpl == 3) (find_jump cpu sel)
unfolding find_jump
jump_found cpu sel = search (steps, select, jump_tested) depth 14

task_form : (user : Bool) (sel : ℕ) (d : Descriptor) → Steps denials user (as_task sel d)
task_form user sel (forms.Task base limit present busy) = search steps depth 10
task_form user sel d = refuses_steps (protection sel)

pub task_loaded : (cpu : Cpu) (sel : ℕ) → Steps denials (cpu.cpl == 3) (load_task cpu sel)
unfolding load_task
task_loaded cpu sel = search (steps, select, task_form, byte) depth 18

popped_made : (cpu : Cpu) → Steps denials (cpu.cpl == 3) (popped cpu)
unfolding popped
popped_made cpu = search reaches depth 12

outer_made : (cpu : Cpu) → Steps denials (cpu.cpl == 3) (popped_outer cpu)
unfolding popped_outer
outer_made cpu = search reaches depth 12

same_level : (cpu : Cpu) (p : Popped) (l : Loading) → Steps denials (cpu.cpl == 3) (return_same cpu p l)
unfolding return_same
same_level cpu p l = search (steps, marks) depth 12

outer_level : (cpu : Cpu) (p : Popped) (l : Loading) → Steps denials (cpu.cpl == 3) (return_outer cpu p l)
unfolding return_outer
outer_level cpu p l = search (steps, outer_made, stack_found, marks) depth 16

pub interrupt_returned : (cpu : Cpu) → Steps denials (cpu.cpl == 3) (interrupt_return cpu)
unfolding interrupt_return
interrupt_returned cpu = search (steps, popped_made, return_found, same_level, outer_level) depth 12

pub ruleset parts =
    (reaches, selector_found, long, pull, push, data_loaded, stack_found, jump_found, task_loaded, marks, interrupt_returned)
