-- Loads of segment registers, by what they are for.
use Rattle.std.specs.Prelude.{ℕ, ◌+◌, ◌*◌, ◌/◌, ◌%◌}
use Rattle.paging.specs.Work.{Work, ◌>>=◌, gives}
use Rattle.descriptors.specs.declared.cpu.Cpu.{Cpu}
use Rattle.descriptors.specs.declared.form.Descriptor.{Descriptor}
use Rattle.sys_exec.specs.declared.effect.Refusal.{Refusal}
use Rattle.sys_exec.specs.declared.effect.Loading.{Loading}
use Rattle.sys_exec.specs.declared.segment.Purpose.{Purpose}
use Rattle.sys_exec.specs.declared.segment.Purpose.TheVariants as purposes
use Rattle.sys_exec.specs.Segment.{loading, data_tests, find_data, stack_tests, find_stack, return_tests, find_return, jump_tests, find_jump}

-- the result of a load, by the descriptor that was read, for each
abbrev pub data_loading : ℕ → ℕ → ℕ → Descriptor → Work Refusal Loading
data_loading cpl sel high d = do
  _ ← data_tests cpl sel d
  gives (loading sel high d)

abbrev pub stack_loading : ℕ → ℕ → ℕ → Descriptor → Work Refusal Loading
stack_loading cpl sel high d = do
  _ ← stack_tests cpl sel d
  gives (loading sel high d)

abbrev pub return_loading : ℕ → ℕ → ℕ → Descriptor → Work Refusal Loading
return_loading cpl sel high d = do
  _ ← return_tests cpl sel d
  gives (loading sel high d)

abbrev pub jump_loading : ℕ → ℕ → ℕ → Descriptor → Work Refusal Loading
jump_loading cpl sel high d = do
  _ ← jump_tests cpl sel d
  gives (loading (sel / 4 * 4 + cpl % 4) high d)

-- and by what it is for
abbrev pub judged : Purpose → ℕ → ℕ → ℕ → Descriptor → Work Refusal Loading
judged purposes.Data cpl sel high d = data_loading cpl sel high d
judged (purposes.Stack level) cpl sel high d = stack_loading level sel high d
judged purposes.Return cpl sel high d = return_loading cpl sel high d
judged purposes.Jump cpl sel high d = jump_loading cpl sel high d

abbrev pub found : Purpose → Cpu → ℕ → Work Refusal Loading
found purposes.Data cpu sel = find_data cpu sel
found (purposes.Stack level) cpu sel = find_stack cpu level sel
found purposes.Return cpu sel = find_return cpu sel
found purposes.Jump cpu sel = find_jump cpu sel
